-- Sound parts have a file without a fault: each test of the reader computes from what the headers and the symbols show.
use Rattle.std.proofs.Common.{◌≡◌, ℕ, zero, suc, ◌+◌, ◌*◌, ◌^◌, ◌<◌, ◌≤◌, List, [], ◌∷◌, length, get_or, drop, Bool, true, false, not, ◌&&◌, ◌||◌, ◌==◌, None, refl, sym, ap, ◌∙◌, arith, inl, inr, subst}
use Rattle.std.specs.Prelude.{All, nat_eq, nat_lt, nat_le, slice_get, IfSome}
use Rattle.std.specs.List.{list_any, range_with_len}
use Rattle.std.proofs.lemmas.Bool.{and_left, and_right, cases_lt, eqb-true, le-ltb, lt-leb, ltb-true, ne_eqb, not-true, or_cases, or_from, or_parts}
use Rattle.std.proofs.lemmas.List.{map-id}
use Rattle.std.proofs.lemmas.List.Elements.{All-cons, All-weaker}
use Rattle.std.proofs.lemmas.Option.{slice_get-get_or}
use Rattle.elf32_read.specs.Header.{are_known_flags, has_other_section_headers, header_of, headers_of, section_count, section_table}
use Rattle.elf32_read.specs.Kept.{is_kept}
use Rattle.elf32_read.specs.Names.{has_end, is_unnamed_section}
use Rattle.elf32_read.specs.Object.{counts_elsewhere, has_bad_alignment, has_bad_name, has_bad_symbol, has_cut_code, has_other_flags, has_second_symbol_table, has_too_many_sections, has_two_relas, has_unlinked_sections, is_bad_alignment, is_bad_common, is_bad_symbol, is_badly_aligned, is_changed_twice, is_cut_code, is_of_no_symbol, is_too_long, is_unlinked, is_unnamed_symbol, lacks_section_names, lacks_symbols, not_elf, object_fault, passes_end, passes_section, truncated}
use Rattle.elf32_read.specs.Parts.{ObjectParts, SectionParts, SymbolParts, is_kept_section}
use Rattle.elf32_read.specs.Relocs.{relas_for}
use Rattle.elf32_read.specs.Rows.{first_of}
use Rattle.elf32_read.specs.Symbols.{symbol_entries as entries_of, symbol_names as symbol_names_in}
use Rattle.elf32_read.specs.declared.fault.Fault.TheVariants.{NotElf, Truncated, Flags, SectionKind, Alignment, CodeSize, BadName, BadSymbol, TooLarge}
use Rattle.elf32_read.specs.declared.symbol_entry.SymbolEntry.{SymbolEntry}
use Rattle.elf32_write.specs.EachAfter.{each_after}
use Rattle.elf32_write.specs.Entries.{null_symbol, written_entry}
use Rattle.elf32_write.specs.FileSections.{FileSection, given_section, rela_section, relocated, symtab_index, symtab_section}
use Rattle.elf32_write.specs.ObjectFile.{object_bytes}
use Rattle.elf32_write.specs.Ranges.{IsPartsSized}
use Rattle.elf32_write.specs.Writable.{IsWritable, IsWritableSection, IsWritableSymbol, null_part}
use Rattle.elf32_write.proofs.SoundParts.{AreSoundParts, IsSoundSection, IsSoundSymbol, LiesInSection, can_be_given}
use Rattle.elf32_write.specs.SectionTable.{with_relas}
use Rattle.elf32_write.proofs.AllSections.{IsNumbered, all_added, all_relocated, all_sections}
use Rattle.elf32_write.proofs.FileHeaderBack.{all_of, flags_back, header_back, header_size_back, length-object_bytes, magic_back, table_back}
use Rattle.elf32_write.proofs.ObjectBack.{IsBack, IsReadable, back, dropped_at, given_shown, null_dropped}
use Rattle.elf32_write.proofs.Linkable.{IsLinkable, given_linkable, implied, names_linkable, not_badly_aligned, not_cut, not_of_no_symbol, not_unlinked, rela_linkable, symtab_linkable}
use Rattle.elf32_write.proofs.RelocsBack.{IsReloc, one_table}
use Rattle.elf32_write.proofs.SectionsBack.{Shows, kept_back, names_found, null_shown}
use Rattle.elf32_write.proofs.Stages.{length-file_sections}
use Rattle.elf32_write.proofs.SymbolsBack.{ShowsSymbol, no_symbols_before, length-with_relas, split_symtab}
use Rattle.elf32_write.proofs.WritableRoom.{symbols_within}
use Rattle.elf32_write.proofs.Zipped.{none_counted, zip_none}

-- what the rules say of a section and of a symbol, as it is written
sound_section : (flags count : ℕ) → count < 2 ^ 24 → (s : SectionParts) → IsSoundSection flags count s → IsWritableSection s
sound_section flags count few s w =
    record { name = w.name; bytes = w.bytes; dropped = w.dropped; relocs = All-weaker (λ r. r.symbol < count) (λ r. r.symbol < 2 ^ 24) (λ r lt. omega (arith, lt, few)) s.relocs w.relocs }

sound_symbol : (parts : ObjectParts) (s : SymbolParts) → IsSoundSymbol parts s → IsWritableSymbol s
sound_symbol parts s w = record { name = w.name; info = record { bind = omega (arith, w.bind); kind = w.kind } }

pub known_flags : (flags : ℕ) → are_known_flags flags ≡ true → flags < 2 ^ 32
known_flags flags known =
    let small : (n : ℕ) → (flags == n) ≡ true → n < 2 ^ 32 → flags < 2 ^ 32 = λ n is lt. omega (arith, eqb-true flags n is, lt) in
    elim (or_cases (flags == 0 || flags == 0x1 || flags == 0x10) (flags == 0x11) known) [
      | inl three ↦ elim (or_cases (flags == 0 || flags == 0x1) (flags == 0x10) three) [
        | inl two ↦ elim (or_cases (flags == 0) (flags == 0x1) two) [
          | inl is ↦ small 0 is (omega arith)
          | inr is ↦ small 0x1 is (omega arith)
        ]
        | inr is ↦ small 0x10 is (omega arith)
      ]
      | inr is ↦ small 0x11 is (omega arith)
    ]

pub sound_sections : (parts : ObjectParts) → AreSoundParts parts → All IsWritableSection parts.sections
sound_sections parts w =
    let few : 1 + length parts.symbols < 2 ^ 24 = omega (arith, symbols_within parts.sections parts.symbols, w.size) in
    All-weaker (IsSoundSection parts.flags (1 + length parts.symbols)) IsWritableSection (sound_section parts.flags (1 + length parts.symbols) few) parts.sections w.sections

pub sound_symbols : (parts : ObjectParts) → AreSoundParts parts → All IsWritableSymbol parts.symbols
sound_symbols parts w = All-weaker (IsSoundSymbol parts) IsWritableSymbol (sound_symbol parts) parts.symbols w.symbols

pub sound_readable : (parts : ObjectParts) → AreSoundParts parts → IsPartsSized parts.sections parts.symbols → IsReadable parts
sound_readable parts w sized = record {
  flags = known_flags parts.flags w.flags;
  count = omega (arith, w.count);
  size = w.size;
  sized = sized;
  sections = sound_sections parts w;
  symbols = sound_symbols parts w;
}

not_symbols : (kind : ℕ) → can_be_given kind ≡ true → nat_eq kind 2 ≡ false
not_symbols kind given =
    let all = not-true (kind == 2 || kind == 9 || kind == 17 || kind == 18) given in
    (or_parts (kind == 2) (kind == 9) (or_parts (kind == 2 || kind == 9) (kind == 17) (or_parts (kind == 2 || kind == 9 || kind == 17) (kind == 18) all).0).0).0

sound_back : (parts : ObjectParts) → AreSoundParts parts → IsPartsSized parts.sections parts.symbols → IsBack parts
sound_back parts w sized =
    let kinds = All-weaker (IsSoundSection parts.flags (1 + length parts.symbols)) (λ s. nat_eq s.kind 2 ≡ false) (λ s h. not_symbols s.kind h.kind) parts.sections w.sections in
    back parts (sound_readable parts w sized) (no_symbols_before parts.sections kinds)

-- ---- no fault: the file as a whole

not_too_long : (parts : ObjectParts) → IsBack parts → AreSoundParts parts → is_too_long (object_bytes parts) ≡ false
not_too_long parts b w = le-ltb 0x40_0000 (length (object_bytes parts)) (omega (arith, length-object_bytes parts, w.size))

is_elf : (parts : ObjectParts) → IsBack parts → not_elf (object_bytes parts) ≡ false
is_elf parts b =
    let bytes = object_bytes parts in
    let long = le-ltb (length bytes) 52 (omega (arith, length-object_bytes parts)) in
    let sized : has_other_section_headers bytes ≡ false = and_right (not (section_count bytes == 0)) _ (ap (λ n. not (n == 40)) (header_size_back parts)) in
    or_from _ _ (or_from _ _ long (ap not (magic_back parts))) sized

not_too_many : (parts : ObjectParts) → IsBack parts → AreSoundParts parts → has_too_many_sections (object_bytes parts) ≡ false
not_too_many parts b w = le-ltb 4096 (section_count (object_bytes parts)) (omega (arith, b.count, w.count))

-- what each section passes
always : FileSection → Type 0
always s = s ≡ s

all_always : (sections : List FileSection) → All always sections
unfolding always
all_always sections = λ k d lt. refl

is_whole : (parts : ObjectParts) → IsBack parts → truncated (object_bytes parts) ≡ false
is_whole parts b =
    let bytes = object_bytes parts in
    let headers = le-ltb (length bytes) (section_table bytes + 40 * section_count bytes) (omega (arith, length-object_bytes parts, table_back parts b.small, b.count)) in
    or_from _ _ headers (zip_none (Shows bytes) always (passes_end bytes) (λ h s r a. r.within) (headers_of bytes) (null_shown ∷ all_of parts) b.shown (all_always (null_shown ∷ all_of parts)))

has_known_flags : (parts : ObjectParts) → IsBack parts → AreSoundParts parts → has_other_flags (object_bytes parts) ≡ false
has_known_flags parts b w =
    ap (λ flags. not (are_known_flags flags)) (flags_back parts b.small) ∙ ap not w.flags

-- ---- no fault: the sections

symtab_found : (parts : ObjectParts) → IsBack parts → lacks_symbols (object_bytes parts) (symtab_index parts.sections) ≡ false
symtab_found parts b =
    let bytes = object_bytes parts in
    let xs = parts.sections in
    let ys = parts.symbols in
    let index = symtab_index xs in
    let there = lt-leb (section_count bytes) index (omega (arith, b.count, length-file_sections xs ys)) in
    let header = ap (header_of bytes) (sym (length-with_relas xs ys)) ∙ header_back parts b.small b.listed (with_relas xs) (symtab_section index ys) _ (split_symtab xs ys) in
    or_from _ _ there (ap (λ h. not (h.kind == 2)) header)

linkable : (parts : ObjectParts) → IsBack parts → AreSoundParts parts → All (IsLinkable (object_bytes parts) parts.flags) (null_shown ∷ all_of parts)
linkable parts b w =
    let bytes = object_bytes parts in
    let xs = parts.sections in
    let ys = parts.symbols in
    let L = IsLinkable bytes parts.flags in
    let some : 0 < section_count bytes = omega (arith, b.count) in
    let many = length-file_sections xs ys in
    let dropped = null_dropped parts b in
    let null : L null_shown = record { foreign = refl; plain = refl; table = refl; shared = refl; known = refl; code = refl; aligned = refl; cut = refl; odd = refl; linked = refl; listed = refl; symbols = refl } in
    let given = All-weaker (IsSoundSection parts.flags (1 + length ys)) (λ s. L (given_section s)) (λ s w. given_linkable bytes parts.flags (1 + length ys) s some dropped w) xs w.sections in
    let Q : SectionParts → Type 0 = λ s. IsSoundSection parts.flags (1 + length ys) s × All IsReloc s.relocs in
    let both : All Q xs = λ k d lt. (w.sections k d lt, b.relocs k d lt) in
    let relas = All-weaker (IsNumbered Q (1 + length xs)) (λ e. L (rela_section (symtab_index xs) e))
    (λ e n. rela_linkable bytes parts.flags (1 + length ys) (symtab_index xs) e b.symbols (symtab_found parts b) (let lt = n.index in omega (arith, lt, b.count, many)) n.held.0 n.held.1)
    (relocated xs) (all_relocated Q xs both) in
    let added = all_added L xs ys relas (symtab_linkable bytes parts.flags (symtab_index xs) ys) (λ name names which. names_linkable bytes parts.flags name names) in
    All-cons L null_shown (all_of parts) null (all_sections L xs ys given added)

-- no section is changed by two
changed_once : (parts : ObjectParts) → IsBack parts → (k : ℕ) → k < section_count (object_bytes parts) → is_changed_twice (object_bytes parts) k ≡ false
changed_once parts b zero lt = and_left (is_kept (object_bytes parts) (header_of (object_bytes parts) 0)) _ (null_dropped parts b)
changed_once parts b (suc j) lt =
    let bytes = object_bytes parts in
    let xs = parts.sections in
    let ys = parts.symbols in
    let kept = is_kept bytes (header_of bytes (suc j)) in
    elim (cases_lt j (length xs)) [
      | inl given ↦
          let index : 1 + j ≡ suc j = omega arith in
          let one = one_table bytes xs ys j null_part given b.shown in
          let few : length (relas_for bytes (suc j)) ≤ 1 = omega (arith, one, ap (λ i. length (relas_for bytes i)) index) in
          and_right kept (nat_lt 1 (length (relas_for bytes (suc j)))) (le-ltb 1 (length (relas_for bytes (suc j))) few)
      | inr added ↦ and_left kept _ (dropped_at parts b j added lt)
    ]

none_changed_twice : (parts : ObjectParts) → IsBack parts → has_two_relas (object_bytes parts) ≡ false
none_changed_twice parts b =
    let bytes = object_bytes parts in
    let p = is_changed_twice bytes in
    let each : (k : ℕ) → k < section_count bytes → p (0 + k) ≡ false = λ k lt. let same : 0 + k ≡ k = omega arith in ap p same ∙ changed_once parts b k lt in
    ap (list_any p) (sym (map-id (range_with_len 0 (section_count bytes)))) ∙ none_counted p (λ k. k) 0 (section_count bytes) each

is_linked : (parts : ObjectParts) → IsBack parts → AreSoundParts parts → has_unlinked_sections (object_bytes parts) ≡ false
is_linked parts b w =
    let bytes = object_bytes parts in
    let some : (section_count bytes == 0) ≡ false = ne_eqb (section_count bytes) 0 (λ e. omega (arith, e, b.count)) in
    let elsewhere : counts_elsewhere bytes ≡ false = and_left (section_count bytes == 0) _ some in
    let second : has_second_symbol_table bytes ≡ false = ap (nat_lt 1) b.tables in
    let sections = zip_none (Shows bytes) (IsLinkable bytes parts.flags) (is_unlinked bytes) (not_unlinked bytes parts.flags) (headers_of bytes) (null_shown ∷ all_of parts) b.shown (linkable parts b w) in
    or_from _ _ (or_from _ _ (or_from _ _ elsewhere second) sections) (none_changed_twice parts b)

has_whole_code : (parts : ObjectParts) → IsBack parts → AreSoundParts parts → has_cut_code (object_bytes parts) ≡ false
has_whole_code parts b w =
    let bytes = object_bytes parts in
    zip_none (Shows bytes) (IsLinkable bytes parts.flags) (is_cut_code bytes) (not_cut bytes parts.flags (flags_back parts b.small)) (headers_of bytes) (null_shown ∷ all_of parts) b.shown (linkable parts b w)

-- ---- no fault: the symbols

-- a test of all symbols but symbol 0
none_of_symbols : (parts : ObjectParts) → IsBack parts → AreSoundParts parts → (p : SymbolEntry → Bool) → ((e : SymbolEntry) (s : SymbolParts) → ShowsSymbol (symbol_names_in (object_bytes parts)) e s → IsSoundSymbol parts s → p e ≡ false) → list_any p (drop 1 (entries_of (object_bytes parts))) ≡ false
none_of_symbols parts b w p fails =
    let bytes = object_bytes parts in
    ap (λ l. list_any p (drop 1 l)) b.entries
    ∙ zip_none (ShowsSymbol (symbol_names_in bytes)) (IsSoundSymbol parts) p fails (each_after written_entry [] parts.symbols) parts.symbols b.shown_symbols w.symbols

is_aligned : (parts : ObjectParts) → IsBack parts → AreSoundParts parts → has_bad_alignment (object_bytes parts) ≡ false
is_aligned parts b w =
    let bytes = object_bytes parts in
    let sections = zip_none (Shows bytes) (IsLinkable bytes parts.flags) (is_badly_aligned bytes) (not_badly_aligned bytes parts.flags) (headers_of bytes) (null_shown ∷ all_of parts) b.shown (linkable parts b w) in
    or_from _ _ sections (none_of_symbols parts b w is_bad_common (λ e s r w.
    (λ i. r.home i == 0xFFF2 && is_bad_alignment 4096 (r.value i))
    ∙ implied (s.home == 0xFFF2) (is_bad_alignment 4096 s.value) (λ h. w.common (eqb-true s.home 0xFFF2 h))))

is_named : (parts : ObjectParts) → IsBack parts → AreSoundParts parts → has_bad_name (object_bytes parts) ≡ false
is_named parts b w =
    let bytes = object_bytes parts in
    let names = symbol_names_in bytes in
    let table : lacks_section_names bytes ≡ false = and_right (not (section_count bytes == 0)) _ (names_found parts b.small b.listed) in
    let sections = zip_none (Shows bytes) always (is_unnamed_section bytes) (λ h s r a. ap not r.named.ended) (headers_of bytes) (null_shown ∷ all_of parts) b.shown (all_always (null_shown ∷ all_of parts)) in
    let null : is_unnamed_symbol bytes null_symbol ≡ false = ap (λ l. not (has_end l 0)) b.names in
    let rest = zip_none (ShowsSymbol names) (IsSoundSymbol parts) (is_unnamed_symbol bytes) (λ e s r w. ap not r.named.ended) (each_after written_entry [] parts.symbols) parts.symbols b.shown_symbols w.symbols in
    let symbols = ap (list_any (is_unnamed_symbol bytes)) b.entries ∙ or_from _ _ null rest in
    or_from _ _ (or_from _ _ (or_from _ _ table b.linked) sections) symbols

-- a value lies in the section that its symbol is in
value_within : (parts : ObjectParts) → IsBack parts → (s : SymbolParts) (home : ℕ) → home < section_count (object_bytes parts) → IfSome (slice_get (null_part ∷ parts.sections) home) (LiesInSection s) → (is_kept (object_bytes parts) (header_of (object_bytes parts) home) && nat_lt (header_of (object_bytes parts) home).size s.value) ≡ false
value_within parts b s zero lt within = and_left (is_kept (object_bytes parts) (header_of (object_bytes parts) 0)) _ (null_dropped parts b)
value_within parts b s (suc j) lt within =
    let bytes = object_bytes parts in
    let xs = parts.sections in
    let h = header_of bytes (suc j) in
    elim (cases_lt j (length xs)) [
      | inl given ↦
          let home = get_or xs j null_part in
          let shown = given_shown parts b j null_part given in
          let found = slice_get-get_or xs j null_part given in
          let held : LiesInSection s home = subst (λ o. IfSome o (LiesInSection s)) found within in
          (λ i. kept_back bytes h (given_section home) shown i && nat_lt (shown.size i) s.value)
          ∙ implied (is_kept_section home) (nat_lt home.size s.value) (λ kept. le-ltb home.size s.value (held kept))
      | inr added ↦ and_left (is_kept bytes h) _ (dropped_at parts b j added lt)
    ]

-- a home that counts is none of the reader's three faults
at_home : (count home : ℕ) → (nat_lt home count || home == 0xFFF1 || home == 0xFFF2) ≡ true → (nat_le count home && not (home == 0xFFF1) && not (home == 0xFFF2)) ≡ false
at_home count home known =
    elim (or_cases (nat_lt home count || home == 0xFFF1) (home == 0xFFF2) known) [
      | inl first ↦ elim (or_cases (nat_lt home count) (home == 0xFFF1) first) [
        | inl inside ↦ and_left (nat_le count home && not (home == 0xFFF1)) _ (and_left (nat_le count home) _ (lt-leb count home (ltb-true home count inside)))
        | inr absolute ↦ and_left (nat_le count home && not (home == 0xFFF1)) _ (and_right (nat_le count home) _ (ap not absolute))
      ]
      | inr common ↦ and_right (nat_le count home && not (home == 0xFFF1)) _ (ap not common)
    ]

only_if : (a b c d : Bool) → (b ≡ true → (c && d) ≡ false) → (a && b && c && d) ≡ false
only_if false b c d fails = refl
only_if true false c d fails = refl
only_if true true c d fails = fails refl

is_good_symbol : (parts : ObjectParts) → IsBack parts → (e : SymbolEntry) (s : SymbolParts) → ShowsSymbol (symbol_names_in (object_bytes parts)) e s → IsSoundSymbol parts s → is_bad_symbol (object_bytes parts) e ≡ false
is_good_symbol parts b e s r w =
    let bytes = object_bytes parts in
    let count = section_count bytes in
    let binding = le-ltb 2 e.bind (omega (arith, r.bind, w.bind)) in
    let kind = ap (λ k. k == 6 || k == 10) r.kind ∙ w.other_kind in
    let defined = (λ i. r.bind i == 0 && r.home i == 0) ∙ w.local in
    let home_known = ap (λ n. nat_lt s.home n || s.home == 0xFFF1 || s.home == 0xFFF2) b.count ∙ w.home in
    let home = ap (λ n. nat_le count n && not (n == 0xFFF1) && not (n == 0xFFF2)) r.home ∙ at_home count s.home home_known in
    let test : ℕ → ℕ → Bool = λ n v. not (n == 0) && nat_lt n count && is_kept bytes (header_of bytes n) && nat_lt (header_of bytes n).size v in
    let within : passes_section bytes e ≡ false = (λ i. test (r.home i) (r.value i))
    ∙ only_if (not (s.home == 0)) (nat_lt s.home count) (is_kept bytes (header_of bytes s.home)) (nat_lt (header_of bytes s.home).size s.value)
    (λ lt. value_within parts b s s.home (ltb-true s.home count lt) w.within) in
    or_from _ _ (or_from _ _ (or_from _ _ (or_from _ _ binding kind) defined) home) within

has_good_symbols : (parts : ObjectParts) → IsBack parts → AreSoundParts parts → has_bad_symbol (object_bytes parts) ≡ false
has_good_symbols parts b w =
    let bytes = object_bytes parts in
    let symbols = none_of_symbols parts b w (is_bad_symbol bytes) (is_good_symbol parts b) in
    let relocs = zip_none (Shows bytes) (IsLinkable bytes parts.flags) (is_of_no_symbol bytes) (not_of_no_symbol bytes parts.flags) (headers_of bytes) (null_shown ∷ all_of parts) b.shown (linkable parts b w) in
    or_from _ _ symbols relocs

faultless : (parts : ObjectParts) → IsBack parts → AreSoundParts parts → object_fault (object_bytes parts) ≡ None
unfolding object_fault
faultless parts b w =
    let long = not_too_long parts b w in
    let elf = is_elf parts b in
    let many = not_too_many parts b w in
    let whole = is_whole parts b in
    let flags = has_known_flags parts b w in
    let linked = is_linked parts b w in
    let aligned = is_aligned parts b w in
    let code = has_whole_code parts b w in
    let named = is_named parts b w in
    let symbols = has_good_symbols parts b w in
    λ i. first_of (
    (long i, TooLarge) ∷ (elf i, NotElf) ∷ (many i, TooLarge) ∷ (whole i, Truncated) ∷ (flags i, Flags) ∷ (linked i, SectionKind)
    ∷ (aligned i, Alignment) ∷ (code i, CodeSize) ∷ (named i, BadName) ∷ (symbols i, BadSymbol) ∷ [])

-- Sound parts can be written.
pub sound_writable : (parts : ObjectParts) → AreSoundParts parts → IsPartsSized parts.sections parts.symbols → IsWritable parts
sound_writable parts w sized =
    let readable = sound_readable parts w sized in
    record { faultless = faultless parts (sound_back parts w sized) w; count = readable.count; sections = readable.sections; symbols = readable.symbols }
