-- How long the file of parts is at most, by the lengths of what is given.
use Rattle.std.proofs.Common.{◌≡◌, ℕ, suc, ◌+◌, ◌*◌, ◌≤◌, List, [], ◌∷◌, ◌++◌, length, map, filter, replicate, Bool, true, false, cond, codes, refl, ap, arith, length-append}
use Rattle.std.specs.Prelude.{nat_lt}
use Rattle.std.specs.List.{enumerate_from, flat_map, sum_by}
use Rattle.std.proofs.lemmas.List.{length-replicate, map-append}
use Rattle.std.proofs.lemmas.List.Sums.{sum_by-append, sum_by-cons}
use Rattle.elf32_read.specs.Parts.{ObjectParts, SectionParts, SymbolParts}
use Rattle.elf32_write.specs.Entries.{strtab_names}
use Rattle.elf32_write.specs.FileSections.{FileSection, added_sections, file_sections, given_section, given_sections, names_of_sections, rela_section, rela_sections, shstrtab_names, strtab_section, symtab_index, symtab_section}
use Rattle.elf32_write.specs.Image.{pad, padded}
use Rattle.elf32_write.specs.NameTable.{name_bytes, name_table}
use Rattle.elf32_write.specs.ObjectFile.{contents, object_size}
use Rattle.elf32_write.proofs.RelocsBack.{length-reloc_bytes}
use Rattle.elf32_write.proofs.Stages.{length-file_sections, length-symbols}

-- a content, with its padding
abbrev content_room : FileSection → ℕ
content_room s = length s.content + 3

padded_most : (xs : List ℕ) → length (padded xs) ≤ length xs + 3
padded_most xs =
    let few : pad (length xs) ≤ 3 = omega arith in
    omega (arith, length-append xs (replicate (pad (length xs)) 0), length-replicate {A = ℕ} (pad (length xs)) 0, few)

contents_most : (fs : List FileSection) → length (contents fs) ≤ sum_by content_room fs
contents_most [] = omega arith
contents_most (f ∷ fs) = omega (arith, length-append (padded f.content) (contents fs), padded_most f.content, contents_most fs, sum_by-cons content_room f fs)

-- a table of names
abbrev name_room : List ℕ → ℕ
name_room name = length name + 1

own_most : (name : List ℕ) → length (name_bytes name) ≤ name_room name
own_most [] = omega arith
own_most (b ∷ bs) = omega (arith, length-append (b ∷ bs) (0 ∷ []))

names_most : (names : List (List ℕ)) → length (flat_map name_bytes names) ≤ sum_by name_room names
names_most [] = omega arith
names_most (n ∷ ns) = omega (arith, length-append (name_bytes n) (flat_map name_bytes ns), own_most n, names_most ns, sum_by-cons name_room n ns)

table_most : (names : List (List ℕ)) → length (name_table names) ≤ 1 + sum_by name_room names
table_most names = omega (arith, names_most names)

sum_map : {X Y : Type 0} (f : Y → ℕ) (g : X → Y) (h : X → ℕ) → ((x : X) → f (g x) ≤ h x) → (xs : List X) → sum_by f (map g xs) ≤ sum_by h xs
sum_map f g h le [] = omega arith
sum_map f g h le (x ∷ xs) = omega (arith, sum_by-cons f (g x) (map g xs), sum_by-cons h x xs, le x, sum_map f g h le xs)

-- the sum over the elements of a list that pass, with their indices
sum_passed : {Y : Type 0} (f : Y → ℕ) (g : ℕ × SectionParts → Y) (h : SectionParts → ℕ) (p : ℕ × SectionParts → Bool) → ((e : ℕ × SectionParts) → f (g e) ≤ h e.1) → (n : ℕ) (xs : List SectionParts)
    → sum_by f (map g (filter p (enumerate_from n xs))) ≤ sum_by h xs
sum_passed f g h p le n [] = omega arith
sum_passed f g h p le n (x ∷ xs) = by (p (n, x)) (sum_passed f g h p le (n + 1) xs)
  where
    rest : List (ℕ × SectionParts)
    rest = filter p (enumerate_from (n + 1) xs)

    by : (b : Bool) → sum_by f (map g rest) ≤ sum_by h xs → sum_by f (map g (cond b ((n, x) ∷ rest) rest)) ≤ sum_by h (x ∷ xs)
    by true more = omega (arith, sum_by-cons f (g (n, x)) (map g rest), sum_by-cons h x xs, le (n, x), more)
    by false more = omega (arith, sum_by-cons h x xs, more)

passed_most : {X : Type 0} (p : X → Bool) (xs : List X) → length (filter p xs) ≤ length xs
passed_most p [] = omega arith
passed_most p (x ∷ xs) = by (p x) (passed_most p xs)
  where
    by : (b : Bool) → length (filter p xs) ≤ length xs → length (cond b (x ∷ filter p xs) (filter p xs)) ≤ suc (length xs)
    by true more = omega (arith, more)
    by false more = omega (arith, more)

length-enumerated : (n : ℕ) (xs : List SectionParts) → length (enumerate_from n xs) ≡ length xs
length-enumerated n [] = refl
length-enumerated n (x ∷ xs) = ap (λ k. suc k) (length-enumerated (n + 1) xs)

-- ---- the file

-- the sections of the file: a section with relocations counts twice, and three are added
pub count_most : (xs : List SectionParts) (ys : List SymbolParts) → length (file_sections xs ys) ≤ 2 * length xs + 3
count_most xs ys =
    omega (arith, length-file_sections xs ys, passed_most (λ (e : ℕ × SectionParts). nat_lt 0 (length e.1.relocs)) (enumerate_from 1 xs), length-enumerated 1 xs)

-- the room of given sections' contents, relocations and names, and of symbols' names
abbrev pub bytes_room : SectionParts → ℕ
bytes_room s = length s.bytes + 3

abbrev pub relocs_room : SectionParts → ℕ
relocs_room s = 12 * length s.relocs + 3

abbrev pub section_name_room : SectionParts → ℕ
section_name_room s = length s.name + 1

abbrev pub rela_name_room : SectionParts → ℕ
rela_name_room s = length s.name + 6

abbrev pub symbol_name_room : SymbolParts → ℕ
symbol_name_room s = length s.name + 1

section_names_most : (xs : List SectionParts) → length (name_table (shstrtab_names xs)) ≤ 27 + sum_by section_name_room xs + sum_by rela_name_room xs
section_names_most xs =
    let last : List (List ℕ) = codes ".symtab" ∷ codes ".strtab" ∷ codes ".shstrtab" ∷ [] in
    let given = given_sections xs in
    let relas = rela_sections xs in
    omega (
      arith,
      table_most (shstrtab_names xs),
      sum_by-append name_room (names_of_sections (given ++ relas)) last,
      ap (sum_by name_room) (map-append (λ (s : FileSection). s.name) given relas),
      sum_by-append name_room (names_of_sections given) (names_of_sections relas),
      sum_map name_room (λ (s : FileSection). s.name) (λ s. name_room s.name) (λ s. omega arith) given,
      sum_map (λ (s : FileSection). name_room s.name) given_section section_name_room (λ s. omega arith) xs,
      sum_map name_room (λ (s : FileSection). s.name) (λ s. name_room s.name) (λ s. omega arith) relas,
      sum_passed (λ (s : FileSection). name_room s.name) (rela_section (symtab_index xs)) rela_name_room (λ e. nat_lt 0 (length e.1.relocs)) (λ e. omega (arith, length-append (codes ".rela") e.1.name)) 1 xs,
    )

all_most : (xs : List SectionParts) (ys : List SymbolParts) → length (contents (file_sections xs ys)) ≤ 56 + sum_by bytes_room xs + sum_by relocs_room xs + 16 * length ys + sum_by symbol_name_room ys + sum_by section_name_room xs + sum_by rela_name_room xs
unfolding file_sections added_sections
all_most xs ys =
    let s : FileSection = symtab_section (symtab_index xs) ys in
    let t : FileSection = strtab_section (codes ".strtab") (strtab_names ys) in
    let u : FileSection = strtab_section (codes ".shstrtab") (shstrtab_names xs) in
    let given = given_sections xs in
    let relas = rela_sections xs in
    omega (
      arith,
      contents_most (given ++ (relas ++ s ∷ t ∷ u ∷ [])),
      sum_by-append content_room given (relas ++ s ∷ t ∷ u ∷ []),
      sum_by-append content_room relas (s ∷ t ∷ u ∷ []),
      sum_by-cons content_room s (t ∷ u ∷ []),
      sum_by-cons content_room t (u ∷ []),
      sum_by-cons content_room u [],
      sum_map content_room given_section bytes_room (λ x. omega arith) xs,
      sum_passed content_room (rela_section (symtab_index xs)) relocs_room (λ e. nat_lt 0 (length e.1.relocs)) (λ e. omega (arith, length-reloc_bytes e.1.relocs)) 1 xs,
      length-symbols ys,
      table_most (strtab_names ys),
      sum_map name_room (λ (y : SymbolParts). y.name) symbol_name_room (λ y. omega arith) ys,
      section_names_most xs,
    )

-- a bound for the size of the file
pub size_most : (p : ObjectParts)
    → object_size p ≤ 268 + 80 * length p.sections + sum_by bytes_room p.sections + sum_by relocs_room p.sections + 16 * length p.symbols + sum_by symbol_name_room p.symbols + sum_by section_name_room p.sections + sum_by rela_name_room p.sections
size_most p = omega (arith, all_most p.sections p.symbols, count_most p.sections p.symbols)
