-- The symbols of an object read back, and their names.
use Rattle.std.proofs.Common.{◌≡◌, ℕ, ◌+◌, ◌*◌, ◌/◌, ◌%◌, ◌^◌, ◌<◌, ◌≤◌, List, [], ◌∷◌, ◌++◌, length, map, true, false, not, ◌||◌, codes, refl, sym, ap, ◌∙◌, arith, append_assoc, append-nil, length-append, if◌then◌else◌}
use Rattle.std.specs.Prelude.{All, filter, nat_eq, nat_le, slice_get, slice_index}
use Rattle.std.specs.List.{AllZip, flat_map, list_any, range_with_len}
use Rattle.std.specs.Option.{option_map_or}
use Rattle.std.proofs.lemmas.Bool.{lt-leb, or_from}
use Rattle.std.proofs.lemmas.List.{get_or-append-add, map-append}
use Rattle.std.proofs.lemmas.List.Elements.{All-append, All-cons, All-head, All-map, All-nil, All-tail, filter-append}
use Rattle.std.proofs.lemmas.List.Folds.{list_any_none}
use Rattle.zc_base.specs.Fields.{half_in, word_in}
use Rattle.elf32_read.specs.Header.{content_of, header_of, headers_of, section_count}
use Rattle.elf32_read.specs.Names.{lacks_strings, strings_of}
use Rattle.elf32_read.specs.Parts.{ObjectParts, SectionParts, SymbolParts, symbol_parts}
use Rattle.elf32_read.specs.Symbols.{entries_in, symbol_content, symbol_entry_at, symbol_names as names_in, symbol_tables}
use Rattle.elf32_read.specs.declared.symbol_entry.SymbolEntry.{SymbolEntry}
use Rattle.elf32_read.proofs.Tests.{has_symbols}
use Rattle.elf32_write.specs.Image.{null_section}
use Rattle.elf32_write.specs.NameTable.{name_table}
use Rattle.elf32_write.specs.EachAfter.{each_after}
use Rattle.elf32_write.specs.Entries.{HasInfo, null_symbol, strtab_names, symbol_bytes, written_entries, written_entry}
use Rattle.elf32_write.specs.FileSections.{FileSection, added_sections, file_sections, given_section, given_sections, rela_section, rela_sections, relocated, shstrtab_names, strtab_section, symtab_index, symtab_section}
use Rattle.elf32_write.specs.ObjectFile.{headers_for, object_bytes, written_header}
use Rattle.elf32_write.specs.Ranges.{IsSymbolSized}
use Rattle.elf32_write.specs.Writable.{is_name}
use Rattle.elf32_write.specs.SectionTable.{with_relas, with_symbols}
use Rattle.elf32_write.proofs.After.{half_of_bytes, half_in-append, rows_back}
use Rattle.elf32_write.proofs.EachAfter.{each_after-append}
use Rattle.elf32_write.proofs.FileHeaderBack.{IsSmall, all_of, count_back, header_back, start_within}
use Rattle.elf32_write.proofs.HeadersBack.{first_word_back, word_back}
use Rattle.elf32_write.proofs.NamesBack.{Stands, name_back}
use Rattle.elf32_write.proofs.SectionsBack.{IsSized, content_back}
use Rattle.elf32_write.proofs.Stages.{length-each_after, length-file_sections, length-symbols}
use Rattle.elf32_write.proofs.SymbolsMore.{name_table_within}
use Rattle.elf32_write.proofs.Zipped.{none_filtered, none_kept}

-- ---- where the sections of symbols stand

unfoldable pub strtab : List SymbolParts → FileSection
strtab ys = strtab_section (codes ".strtab") (strtab_names ys)

unfoldable pub shstrtab : List SectionParts → FileSection
shstrtab xs = strtab_section (codes ".shstrtab") (shstrtab_names xs)

pub split_symtab : (xs : List SectionParts) (ys : List SymbolParts) → file_sections xs ys ≡ with_relas xs ++ symtab_section (symtab_index xs) ys ∷ strtab ys ∷ shstrtab xs ∷ []
unfolding file_sections added_sections with_relas strtab shstrtab
split_symtab xs ys = sym (append_assoc (given_sections xs) (rela_sections xs) (symtab_section (symtab_index xs) ys ∷ strtab ys ∷ shstrtab xs ∷ []))

split_strtab : (xs : List SectionParts) (ys : List SymbolParts) → file_sections xs ys ≡ with_symbols xs ys ++ strtab ys ∷ shstrtab xs ∷ []
unfolding with_symbols
split_strtab xs ys = split_symtab xs ys ∙ sym (append_assoc (with_relas xs) (symtab_section (symtab_index xs) ys ∷ []) (strtab ys ∷ shstrtab xs ∷ []))

pub length-with_relas : (xs : List SectionParts) (ys : List SymbolParts) → 1 + length (with_relas xs) ≡ symtab_index xs
length-with_relas xs ys =
    let many = ap length (split_symtab xs ys) ∙ length-append (with_relas xs) (symtab_section (symtab_index xs) ys ∷ strtab ys ∷ shstrtab xs ∷ []) in
    omega (arith, many, length-file_sections xs ys)

length-with_symbols : (xs : List SectionParts) (ys : List SymbolParts) → 1 + length (with_symbols xs ys) ≡ symtab_index xs + 1
unfolding with_symbols
length-with_symbols xs ys = omega (arith, length-with_relas xs ys, length-append (with_relas xs) (symtab_section (symtab_index xs) ys ∷ []))

-- ---- the table of symbols

kinds_after : (before xs : List FileSection) → list_any has_symbols (each_after written_header before xs) ≡ list_any (λ s. nat_eq s.kind 2) xs
kinds_after before [] = refl
kinds_after before (x ∷ xs) = ap (λ b. nat_eq x.kind 2 || b) (kinds_after (before ++ x ∷ []) xs)

-- no section before .symtab has symbols
pub no_symbols_before : (xs : List SectionParts) → All (λ s. nat_eq s.kind 2 ≡ false) xs → list_any (λ s. nat_eq s.kind 2) (with_relas xs) ≡ false
unfolding with_relas
no_symbols_before xs kinds =
    let P : FileSection → Type 0 = λ s. nat_eq s.kind 2 ≡ false in
    list_any_none (λ (s : FileSection). nat_eq s.kind 2) (with_relas xs)
    (All-append P (given_sections xs) (rela_sections xs) (All-map P given_section xs kinds)
    (All-map P (rela_section (symtab_index xs)) (relocated xs) (λ k d lt. refl)))

-- the sections of type SYMTAB are those before .symtab, and .symtab
symbol_tables_cut : (parts : ObjectParts) → headers_of (object_bytes parts) ≡ headers_for (all_of parts) → symbol_tables (object_bytes parts) ≡ filter has_symbols (headers_for (with_relas parts.sections)) ++ written_header (with_relas parts.sections) (symtab_section (symtab_index parts.sections) parts.symbols) ∷ []
unfolding strtab shstrtab
symbol_tables_cut parts listed =
    let xs = parts.sections in
    let ys = parts.symbols in
    let s : FileSection = symtab_section (symtab_index xs) ys in
    let before = headers_for (with_relas xs) in
    let rest = each_after written_header (with_relas xs) (s ∷ strtab ys ∷ shstrtab xs ∷ []) in
    let cut : headers_for (all_of parts) ≡ before ++ rest =
    ap headers_for (split_symtab xs ys) ∙ ap (λ l. null_section ∷ l) (each_after-append written_header [] (with_relas xs) (s ∷ strtab ys ∷ shstrtab xs ∷ [])) in
    ap (filter has_symbols) (listed ∙ cut) ∙ filter-append has_symbols before rest

-- if there is one SYMTAB at most, none comes before .symtab
pub single_table : (parts : ObjectParts) → headers_of (object_bytes parts) ≡ headers_for (all_of parts) → length (symbol_tables (object_bytes parts)) ≤ 1 → list_any (λ s. nat_eq s.kind 2) (with_relas parts.sections) ≡ false
single_table parts listed few =
    let xs = parts.sections in
    let before = headers_for (with_relas xs) in
    let symtab = written_header (with_relas xs) (symtab_section (symtab_index xs) parts.symbols) in
    let many = ap length (symbol_tables_cut parts listed) ∙ length-append (filter has_symbols before) (symtab ∷ []) in
    let none : length (filter has_symbols before) ≡ 0 = omega (arith, many, few) in
    sym (kinds_after [] (with_relas xs)) ∙ none_filtered has_symbols before none

pub symbol_tables_back : (parts : ObjectParts) → headers_of (object_bytes parts) ≡ headers_for (all_of parts) → list_any (λ s. nat_eq s.kind 2) (with_relas parts.sections) ≡ false → symbol_tables (object_bytes parts) ≡ written_header (with_relas parts.sections) (symtab_section (symtab_index parts.sections) parts.symbols) ∷ []
symbol_tables_back parts listed single =
    let before = headers_for (with_relas parts.sections) in
    let symtab = written_header (with_relas parts.sections) (symtab_section (symtab_index parts.sections) parts.symbols) in
    let none : list_any has_symbols before ≡ false = kinds_after [] (with_relas parts.sections) ∙ single in
    symbol_tables_cut parts listed ∙ ap (λ l. l ++ symtab ∷ []) (none_kept has_symbols before none)

-- ---- names

strtab_header : (parts : ObjectParts) → IsSmall parts → headers_of (object_bytes parts) ≡ headers_for (all_of parts) → header_of (object_bytes parts) (symtab_index parts.sections + 1) ≡ written_header (with_symbols parts.sections parts.symbols) (strtab parts.symbols)
strtab_header parts small listed =
    let xs = parts.sections in
    let ys = parts.symbols in
    ap (header_of (object_bytes parts)) (sym (length-with_symbols xs ys))
    ∙ header_back parts small listed (with_symbols xs ys) (strtab ys) (shstrtab xs ∷ []) (split_strtab xs ys)

-- the table that .symtab links to has strings
pub links_back : (parts : ObjectParts) → IsSmall parts → headers_of (object_bytes parts) ≡ headers_for (all_of parts) → lacks_strings (object_bytes parts) (symtab_index parts.sections + 1) ≡ false
unfolding strtab
links_back parts small listed =
    let bytes = object_bytes parts in
    let index = symtab_index parts.sections + 1 in
    let there : nat_le (section_count bytes) index ≡ false = lt-leb (section_count bytes) index (omega (arith, count_back parts small.count, length-file_sections parts.sections parts.symbols)) in
    or_from _ _ there (ap (λ h. not (nat_eq h.kind 3)) (strtab_header parts small listed))

strings_back : (parts : ObjectParts) → IsSmall parts → headers_of (object_bytes parts) ≡ headers_for (all_of parts) → strings_of (object_bytes parts) (symtab_index parts.sections + 1) ≡ name_table (strtab_names parts.symbols)
unfolding strtab
strings_back parts small listed =
    let xs = parts.sections in
    let ys = parts.symbols in
    let bytes = object_bytes parts in
    let sized : IsSized (strtab ys) = record { full = λ _. refl; empty = λ h. absurd cc } in
    ap (λ b. if b then [] else content_of bytes (header_of bytes (symtab_index xs + 1))) (links_back parts small listed)
    ∙ ap (content_of bytes) (strtab_header parts small listed)
    ∙ content_back parts (with_symbols xs ys) (strtab ys) (shstrtab xs ∷ []) (split_strtab xs ys) sized

pub symbol_names_back : (parts : ObjectParts) → IsSmall parts → headers_of (object_bytes parts) ≡ headers_for (all_of parts) → list_any (λ s. nat_eq s.kind 2) (with_relas parts.sections) ≡ false → names_in (object_bytes parts) ≡ name_table (strtab_names parts.symbols)
symbol_names_back parts small listed single =
    ap (λ l. option_map_or (λ h. strings_of (object_bytes parts) h.link) (slice_get l 0) []) (symbol_tables_back parts listed single)
    ∙ strings_back parts small listed

-- ---- entries

pub symbol_content_back : (parts : ObjectParts) → headers_of (object_bytes parts) ≡ headers_for (all_of parts) → list_any (λ s. nat_eq s.kind 2) (with_relas parts.sections) ≡ false → symbol_content (object_bytes parts) ≡ flat_map symbol_bytes (written_entries parts.symbols)
symbol_content_back parts listed single =
    let xs = parts.sections in
    let ys = parts.symbols in
    let s : FileSection = symtab_section (symtab_index xs) ys in
    let sized : IsSized s = record { full = λ _. refl; empty = λ h. absurd cc } in
    ap (λ l. option_map_or (content_of (object_bytes parts)) (slice_get l 0) []) (symbol_tables_back parts listed single)
    ∙ content_back parts (with_relas xs) s (strtab ys ∷ shstrtab xs ∷ []) (split_symtab xs ys) sized

-- the numbers of an entry have room in their fields
record IsEntry (e : SymbolEntry) : Type 0 where
  pub name : e.name < 2 ^ 32
  pub value : e.value < 2 ^ 32
  pub size : e.size < 2 ^ 32
  pub bind : e.bind < 16
  pub kind : e.kind < 16
  pub home : e.home < 2 ^ 16

-- the entry that sixteen bytes give
entry_in : List ℕ → ℕ → SymbolEntry
entry_in content at = record {
  name = word_in content at;
  value = word_in content (at + 4);
  size = word_in content (at + 8);
  bind = slice_index content (at + 12) / 16;
  kind = slice_index content (at + 12) % 16;
  home = half_in content (at + 14);
}

entry_back : (front rest : List ℕ) (e : SymbolEntry) → IsEntry e → entry_in (front ++ (symbol_bytes e ++ rest)) (length front) ≡ e
unfolding entry_in half_in word_in
entry_back front rest e h =
    let row = symbol_bytes e ++ rest in
    let name = first_word_back front row e.name h.name refl in
    let value = word_back front row 4 e.value h.value refl in
    let size = word_back front row 8 e.size h.size refl in
    let info : slice_index (front ++ row) (length front + 12) ≡ 16 * e.bind + e.kind = get_or-append-add front row 12 0 in
    let bind : slice_index (front ++ row) (length front + 12) / 16 ≡ e.bind = omega (arith, info, h.kind) in
    let kind : slice_index (front ++ row) (length front + 12) % 16 ≡ e.kind = omega (arith, info, h.kind) in
    let home = half_in-append front row (length front + 14) 14 refl ∙ half_of_bytes e.home h.home in
    λ i. record { name = name i; value = value i; size = size i; bind = bind i; kind = kind i; home = home i }

entries_after : (before ys : List SymbolParts) → length (name_table (strtab_names (before ++ ys))) < 2 ^ 32 → All IsSymbolSized ys → All HasInfo ys → All IsEntry (each_after written_entry before ys)
entries_after before [] room sized info = All-nil IsEntry
entries_after before (s ∷ ys) room sized info =
    let w = All-head IsSymbolSized s ys sized in
    let i = All-head HasInfo s ys info in
    let joined = append_assoc before (s ∷ []) ys in
    let cut : strtab_names (before ++ s ∷ ys) ≡ strtab_names before ++ strtab_names (s ∷ ys) = map-append (λ (b : SymbolParts). b.name) before (s ∷ ys) in
    let start = start_within (length (name_table (strtab_names before))) s.name in
    let within = name_table_within (strtab_names before) (strtab_names (s ∷ ys)) in
    let more = entries_after (before ++ s ∷ []) ys (omega (arith, room, ap (λ l. length (name_table (strtab_names l))) joined)) (All-tail IsSymbolSized s ys sized) (All-tail HasInfo s ys info) in
    All-cons IsEntry (written_entry before s) (each_after written_entry (before ++ s ∷ []) ys)
    (record {
      name = omega (arith, room, start, within, ap (λ l. length (name_table l)) cut);
      value = w.value;
      size = w.size;
      bind = i.bind;
      kind = i.kind;
      home = w.home;
    })
    more

pub entries_back : (ys : List SymbolParts) → length (name_table (strtab_names ys)) < 2 ^ 32 → All IsSymbolSized ys → All HasInfo ys → entries_in (flat_map symbol_bytes (written_entries ys)) ≡ written_entries ys
unfolding symbol_entry_at entry_in
entries_back ys room sized info =
    let entries = written_entries ys in
    let content = flat_map symbol_bytes entries in
    let at : ℕ → ℕ = λ i. 16 * i in
    let null : IsEntry null_symbol = record { name = omega arith; value = omega arith; size = omega arith; bind = omega arith; kind = omega arith; home = omega arith } in
    let rows = All-cons IsEntry null_symbol (each_after written_entry [] ys) null (entries_after [] ys room sized info) in
    let count : length content / 16 ≡ length entries = omega (arith, length-symbols ys, length-each_after written_entry [] ys) in
    ap (λ n. map (symbol_entry_at content) (range_with_len 0 n)) count
    ∙ rows_back entry_in symbol_bytes 16 IsEntry at entry_back (λ _. refl) (λ k. omega arith) content [] entries [] 0 (sym (append-nil content)) refl rows

-- ---- what entries show

-- the symbol that an entry reads as, by the table of names
pub record ShowsSymbol (names : List ℕ) (e : SymbolEntry) (s : SymbolParts) : Type 0 where
  pub value : e.value ≡ s.value
  pub size : e.size ≡ s.size
  pub bind : e.bind ≡ s.bind
  pub kind : e.kind ≡ s.kind
  pub home : e.home ≡ s.home
  pub named : Stands s.name names e.name

pub symbols_shown : (names : List ℕ) (before ys : List SymbolParts) → names ≡ name_table (strtab_names (before ++ ys)) → All (λ s. is_name s.name ≡ true) ys → AllZip (ShowsSymbol names) (each_after written_entry before ys) ys
symbols_shown names before [] e named = tt
symbols_shown names before (s ∷ ys) e named =
    let cut = e ∙ ap name_table (map-append (λ (b : SymbolParts). b.name) before (s ∷ ys)) in
    let next = e ∙ ap (λ l. name_table (strtab_names l)) (sym (append_assoc before (s ∷ []) ys)) in (
      record {
        value = refl;
        size = refl;
        bind = refl;
        kind = refl;
        home = refl;
        named = name_back (strtab_names before) s.name (strtab_names ys) names cut (All-head (λ s. is_name s.name ≡ true) s ys named);
      },
      symbols_shown names (before ++ s ∷ []) ys next (All-tail (λ s. is_name s.name ≡ true) s ys named),
    )

pub symbol_read : (file : List ℕ) (e : SymbolEntry) (s : SymbolParts) → ShowsSymbol (names_in file) e s → symbol_parts file e ≡ s
symbol_read file e s shown =
    λ i. record { name = shown.named.read i; value = shown.value i; size = shown.size i; bind = shown.bind i; kind = shown.kind i; home = shown.home i }
