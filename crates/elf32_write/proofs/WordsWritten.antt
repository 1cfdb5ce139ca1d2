-- A number is written as what is left of it in its field. So parts that differ in nothing else have the same file.
use Rattle.std.proofs.Common.{◌≡◌, ℕ, ◌+◌, ◌-◌, ◌*◌, ◌/◌, ◌%◌, ◌^◌, List, [], ◌∷◌, ◌++◌, length, map, filter, reverse, Bool, true, false, not, cond, codes, refl, sym, ap, ap₂, ◌∙◌, arith, eqb}
use Rattle.std.specs.Prelude.{nat_lt}
use Rattle.std.specs.Int.{w32, cast_signed, cast_unsigned}
use Rattle.std.specs.List.{enumerate_from, flat_map, prefix_len}
use Rattle.std.proofs.lemmas.Int.{of_z-to_z}
use Rattle.std.proofs.lemmas.List.{length-map, map-append, reverse-append}
use Rattle.zc_base.specs.Fields.{half_bytes, word_bytes}
use Rattle.elf32_read.specs.Parts.{ObjectParts, SectionParts, SymbolParts}
use Rattle.elf32_read.specs.declared.reloc.Reloc.{Reloc}
use Rattle.elf32_write.specs.EachAfter.{each_after}
use Rattle.elf32_write.specs.Entries.{after_locals, null_symbol, reloc_bytes, strtab_names, symbol_bytes, written_entry}
use Rattle.elf32_write.specs.FileSections.{FileSection, added_sections, file_sections, given_section, given_sections, names_of_sections, rela_section, rela_sections, relocated, shstrtab_names, strtab_section, symtab_index, symtab_section}
use Rattle.elf32_write.specs.Image.{null_section, padded, section_bytes}
use Rattle.elf32_write.specs.NameTable.{name_start, name_table}
use Rattle.elf32_write.specs.ObjectFile.{contents, headers_for, object_bytes, object_header, section_total, written_header}
use Rattle.elf32_write.proofs.Stages.{length-file_sections}

pub word_left : (n : ℕ) → word_bytes (n % 2 ^ 32) ≡ word_bytes n
word_left n =
    let first : n % 2 ^ 32 % 256 ≡ n % 256 = omega arith in
    let second : n % 2 ^ 32 / 256 % 256 ≡ n / 256 % 256 = omega arith in
    let third : n % 2 ^ 32 / 65536 % 256 ≡ n / 65536 % 256 = omega arith in
    let fourth : n % 2 ^ 32 / 16777216 % 256 ≡ n / 16777216 % 256 = omega arith in
    λ i. first i ∷ second i ∷ third i ∷ fourth i ∷ []

-- ---- the sections of a file

-- a section with what is left of its flags
abbrev pub with_word_flags : FileSection → FileSection
with_word_flags s = record s { flags = s.flags % 2 ^ 32 }

contents_same : (xs : List FileSection) → contents (map with_word_flags xs) ≡ contents xs
contents_same [] = refl
contents_same (x ∷ xs) = ap (λ l. padded x.content ++ l) (contents_same xs)

names_same : (xs : List FileSection) → names_of_sections (map with_word_flags xs) ≡ names_of_sections xs
names_same [] = refl
names_same (x ∷ xs) = ap (λ l. x.name ∷ l) (names_same xs)

header_same : (before : List FileSection) (x : FileSection) → section_bytes (written_header (map with_word_flags before) (with_word_flags x)) ≡ section_bytes (written_header before x)
header_same before x =
    let name = ap (λ l. word_bytes (name_start (length (name_table l)) x.name)) (names_same before) in
    let flags = word_left x.flags in
    let offset = ap (λ l. word_bytes (52 + length l)) (contents_same before) in
    λ i. name i ++ (word_bytes x.kind ++ (flags i ++ (word_bytes 0 ++ (offset i ++ (word_bytes x.size ++ (word_bytes x.link ++ (word_bytes x.info ++ (word_bytes x.align ++ (word_bytes x.entry_size ++ [])))))))))

headers_same : (before xs : List FileSection)
    → flat_map section_bytes (each_after written_header (map with_word_flags before) (map with_word_flags xs)) ≡ flat_map section_bytes (each_after written_header before xs)
headers_same before [] = refl
headers_same before (x ∷ xs) =
    let rest = ap (λ b. flat_map section_bytes (each_after written_header b (map with_word_flags xs))) (sym (map-append with_word_flags before (x ∷ [])))
    ∙ headers_same (before ++ x ∷ []) xs in
    ap₂ (λ a b. a ++ b) (header_same before x) rest

-- a file by its sections
pub bytes_same : (flags : ℕ) (xs us : List SectionParts) (ys vs : List SymbolParts) → map with_word_flags (file_sections xs ys) ≡ map with_word_flags (file_sections us vs)
    → object_bytes (record { flags = flags; sections = xs; symbols = ys }) ≡ object_bytes (record { flags = flags; sections = us; symbols = vs })
unfolding object_bytes
bytes_same flags xs us ys vs is =
    let first = file_sections xs ys in
    let second = file_sections us vs in
    let content : contents first ≡ contents second = sym (contents_same first) ∙ ap contents is ∙ contents_same second in
    let headers : flat_map section_bytes (headers_for first) ≡ flat_map section_bytes (headers_for second)
    = ap (λ l. section_bytes null_section ++ l) (sym (headers_same [] first) ∙ ap (λ l. flat_map section_bytes (each_after written_header [] l)) is ∙ headers_same [] second) in
    let many : length first ≡ length second = sym (length-map first with_word_flags) ∙ ap length is ∙ length-map second with_word_flags in
    λ i. object_header (52 + length (content i)) flags (1 + many i) ++ (content i ++ headers i)

-- ---- sections

-- a section that is written as another one
pub record IsWrittenAs (s t : SectionParts) : Type 0 where
  pub given : with_word_flags (given_section t) ≡ with_word_flags (given_section s)
  pub some : nat_lt 0 (length t.relocs) ≡ nat_lt 0 (length s.relocs)
  pub relocs : flat_map reloc_bytes t.relocs ≡ flat_map reloc_bytes s.relocs

module _ (f : SectionParts → SectionParts) (same : (s : SectionParts) → IsWrittenAs s (f s)) where
  given_same : (xs : List SectionParts) → map with_word_flags (given_sections (map f xs)) ≡ map with_word_flags (given_sections xs)
  given_same [] = refl
  given_same (x ∷ xs) = ap₂ (λ a b. a ∷ b) (same x).given (given_same xs)

  abbrev with_f : ℕ × SectionParts → ℕ × SectionParts
  with_f e = (e.0, f e.1)

  abbrev has_some : ℕ × SectionParts → Bool
  has_some e = nat_lt 0 (length e.1.relocs)

  relocated_from : (n : ℕ) (xs : List SectionParts) → filter has_some (enumerate_from n (map f xs)) ≡ map with_f (filter has_some (enumerate_from n xs))
  relocated_from n [] = refl
  relocated_from n (x ∷ xs) =
      ap₂ (λ b l. cond b ((n, f x) ∷ l) l) (same x).some (relocated_from (n + 1) xs) ∙ by (nat_lt 0 (length x.relocs))
    where
      by : (b : Bool) → cond b ((n, f x) ∷ map with_f (filter has_some (enumerate_from (n + 1) xs))) (map with_f (filter has_some (enumerate_from (n + 1) xs)))
          ≡ map with_f (cond b ((n, x) ∷ filter has_some (enumerate_from (n + 1) xs)) (filter has_some (enumerate_from (n + 1) xs)))
      by true = refl
      by false = refl

  index_same : (xs : List SectionParts) → symtab_index (map f xs) ≡ symtab_index xs
  index_same xs =
      ap₂ (λ a b. 1 + a + b) (length-map xs f) (ap length (relocated_from 1 xs) ∙ length-map (relocated xs) with_f)

  rela_same : (symtab : ℕ) (e : ℕ × SectionParts) → rela_section symtab (with_f e) ≡ rela_section symtab e
  rela_same symtab e =
      let name = ap (λ (s : FileSection). codes ".rela" ++ s.name) (same e.1).given in
      let content = (same e.1).relocs in
      λ i. record { name = name i; kind = 4; flags = 0x40; size = length (content i); link = symtab; info = e.0; align = 4; entry_size = 12; content = content i }

  relas_same : (xs : List SectionParts) → rela_sections (map f xs) ≡ rela_sections xs
  relas_same xs = ap₂ (λ n l. map (rela_section n) l) (index_same xs) (relocated_from 1 xs) ∙ each (relocated xs)
    where
      each : (es : List (ℕ × SectionParts)) → map (rela_section (symtab_index xs)) (map with_f es) ≡ map (rela_section (symtab_index xs)) es
      each [] = refl
      each (e ∷ es) = ap₂ (λ a b. a ∷ b) (rela_same (symtab_index xs) e) (each es)

  shstrtab_same : (xs : List SectionParts) → shstrtab_names (map f xs) ≡ shstrtab_names xs
  shstrtab_same xs =
      let name : FileSection → List ℕ = λ s. s.name in
      let given : names_of_sections (given_sections (map f xs)) ≡ names_of_sections (given_sections xs)
      = sym (names_same (given_sections (map f xs))) ∙ ap names_of_sections (given_same xs) ∙ names_same (given_sections xs) in
      ap (λ l. l ++ codes ".symtab" ∷ codes ".strtab" ∷ codes ".shstrtab" ∷ [])
      (map-append name (given_sections (map f xs)) (rela_sections (map f xs))
      ∙ ap₂ (λ a b. a ++ names_of_sections b) given (relas_same xs) ∙ sym (map-append name (given_sections xs) (rela_sections xs)))

  added_same : (xs : List SectionParts) (ys : List SymbolParts) → added_sections (map f xs) ys ≡ added_sections xs ys
  unfolding added_sections
  added_same xs ys =
      let relas = relas_same xs in
      let index = index_same xs in
      let names = shstrtab_same xs in
      λ i. relas i ++ symtab_section (index i) ys ∷ strtab_section (codes ".strtab") (strtab_names ys) ∷ strtab_section (codes ".shstrtab") (names i) ∷ []

  pub sections_same : (flags : ℕ) (xs : List SectionParts) (ys : List SymbolParts)
      → object_bytes (record { flags = flags; sections = map f xs; symbols = ys }) ≡ object_bytes (record { flags = flags; sections = xs; symbols = ys })
  unfolding file_sections
  sections_same flags xs ys =
      bytes_same flags (map f xs) xs ys ys
      (map-append with_word_flags (given_sections (map f xs)) (added_sections (map f xs) ys)
      ∙ ap₂ (λ a b. a ++ map with_word_flags b) (given_same xs) (added_same xs ys)
      ∙ sym (map-append with_word_flags (given_sections xs) (added_sections xs ys)))

  -- there are as many, whatever the symbols are
  pub count_same : (xs : List SectionParts) (ys vs : List SymbolParts) → length (file_sections (map f xs) ys) ≡ length (file_sections xs vs)
  count_same xs ys vs =
      let many = length-map xs f in
      let relas = ap length (relocated_from 1 xs) ∙ length-map (relocated xs) with_f in
      omega (arith, many, relas, length-file_sections (map f xs) ys, length-file_sections xs vs)

-- ---- symbols

-- a symbol with what is left of its value and its size
abbrev pub word_symbol : SymbolParts → SymbolParts
word_symbol s = record s { value = s.value % 2 ^ 32; size = s.size % 2 ^ 32 }

strtab_same : (ys : List SymbolParts) → strtab_names (map word_symbol ys) ≡ strtab_names ys
strtab_same [] = refl
strtab_same (y ∷ ys) = ap (λ l. y.name ∷ l) (strtab_same ys)

entry_same : (before : List SymbolParts) (y : SymbolParts) → symbol_bytes (written_entry (map word_symbol before) (word_symbol y)) ≡ symbol_bytes (written_entry before y)
entry_same before y =
    let name = ap (λ l. word_bytes (name_start (length (name_table l)) y.name)) (strtab_same before) in
    let value = word_left y.value in
    let size = word_left y.size in
    λ i. (name i ++ (value i ++ (size i ++ []))) ++ (16 * y.bind + y.kind) ∷ 0 ∷ half_bytes y.home

entries_same : (before ys : List SymbolParts)
    → flat_map symbol_bytes (each_after written_entry (map word_symbol before) (map word_symbol ys)) ≡ flat_map symbol_bytes (each_after written_entry before ys)
entries_same before [] = refl
entries_same before (y ∷ ys) =
    let rest = ap (λ b. flat_map symbol_bytes (each_after written_entry b (map word_symbol ys))) (sym (map-append word_symbol before (y ∷ [])))
    ∙ entries_same (before ++ y ∷ []) ys in
    ap₂ (λ a b. a ++ b) (entry_same before y) rest

-- the locals of a table end where they did
abbrev is_shared : SymbolParts → Bool
is_shared s = not (eqb s.bind 0)

prefix_same : (ys : List SymbolParts) → prefix_len is_shared (map word_symbol ys) ≡ prefix_len is_shared ys
prefix_same [] = refl
prefix_same (y ∷ ys) = ap (λ n. cond (is_shared y) (1 + n) 0) (prefix_same ys)

reverse_same : (ys : List SymbolParts) → reverse (map word_symbol ys) ≡ map word_symbol (reverse ys)
reverse_same [] = refl
reverse_same (y ∷ ys) =
    reverse-append (word_symbol y ∷ []) (map word_symbol ys) ∙ ap (λ l. l ++ word_symbol y ∷ []) (reverse_same ys)
    ∙ sym (map-append word_symbol (reverse ys) (y ∷ [])) ∙ ap (map word_symbol) (sym (reverse-append (y ∷ []) ys))

locals_same : (ys : List SymbolParts) → after_locals (map word_symbol ys) ≡ after_locals ys
locals_same ys =
    let many = length-map ys word_symbol in
    let last = ap (prefix_len is_shared) (reverse_same ys) ∙ prefix_same (reverse ys) in
    λ i. 1 + many i - last i

symtab_same : (symtab : ℕ) (ys : List SymbolParts) → symtab_section symtab (map word_symbol ys) ≡ symtab_section symtab ys
symtab_same symtab ys =
    let content = ap (λ l. symbol_bytes null_symbol ++ l) (entries_same [] ys) in
    let info = locals_same ys in
    λ i. record { name = codes ".symtab"; kind = 2; flags = 0; size = length (content i); link = symtab + 1; info = info i; align = 4; entry_size = 16; content = content i }

pub symbols_same : (flags : ℕ) (xs : List SectionParts) (ys : List SymbolParts)
    → object_bytes (record { flags = flags; sections = xs; symbols = map word_symbol ys }) ≡ object_bytes (record { flags = flags; sections = xs; symbols = ys })
unfolding file_sections added_sections
symbols_same flags xs ys =
    let table = symtab_same (symtab_index xs) ys in
    let names = strtab_same ys in
    bytes_same flags xs xs (map word_symbol ys) ys
    (λ i. map with_word_flags (given_sections xs ++ (rela_sections xs ++ table i ∷ strtab_section (codes ".strtab") (names i) ∷ strtab_section (codes ".shstrtab") (shstrtab_names xs) ∷ [])))

-- ---- relocations

-- a relocation with what is left of its offset and its addend
abbrev pub word_reloc : Reloc → Reloc
word_reloc r = record r { offset = r.offset % 2 ^ 32; addend = cast_signed w32 (cast_unsigned w32 r.addend % 2 ^ 32) }

reloc_same : (r : Reloc) → reloc_bytes (word_reloc r) ≡ reloc_bytes r
reloc_same r =
    let n : ℕ = cast_unsigned w32 r.addend in
    let offset = word_left r.offset in
    let addend = ap word_bytes (of_z-to_z w32 (n % 2 ^ 32) (omega arith)) ∙ word_left n in
    λ i. offset i ++ (word_bytes (256 * r.symbol + r.kind) ++ (addend i ++ []))

relocs_same : (rs : List Reloc) → flat_map reloc_bytes (map word_reloc rs) ≡ flat_map reloc_bytes rs
relocs_same [] = refl
relocs_same (r ∷ rs) = ap₂ (λ a b. a ++ b) (reloc_same r) (relocs_same rs)

-- a section with what is left of its flags, and of what its relocations say
abbrev pub word_section : SectionParts → SectionParts
word_section s = record s { flags = s.flags % 2 ^ 32; relocs = map word_reloc s.relocs }

section_same : (s : SectionParts) → IsWrittenAs s (word_section s)
section_same s =
    let twice : s.flags % 2 ^ 32 % 2 ^ 32 ≡ s.flags % 2 ^ 32 = omega arith in
    record {
      given = λ i. record { name = s.name; kind = s.kind; flags = twice i; size = s.size; link = 0; info = 0; align = s.align; entry_size = 0; content = s.bytes };
      some = ap (nat_lt 0) (length-map s.relocs word_reloc);
      relocs = relocs_same s.relocs;
    }

-- ---- parts

-- parts with what is left of their numbers
abbrev pub word_parts : ObjectParts → ObjectParts
word_parts parts = record { flags = parts.flags; sections = map word_section parts.sections; symbols = map word_symbol parts.symbols }

pub parts_same : (parts : ObjectParts) → object_bytes (word_parts parts) ≡ object_bytes parts
parts_same parts =
    sections_same word_section section_same parts.flags parts.sections (map word_symbol parts.symbols) ∙ symbols_same parts.flags parts.sections parts.symbols

pub total_same : (parts : ObjectParts) → section_total (word_parts parts) ≡ section_total parts
total_same parts = ap (λ n. 1 + n) (count_same word_section section_same parts.sections (map word_symbol parts.symbols) parts.symbols)
