-- The relocations of an object read back, a table for each section that has some.
use Rattle.std.proofs.Common.{◌≡◌, ℕ, zero, suc, ◌+◌, ◌*◌, ◌/◌, ◌%◌, ◌^◌, ◌<◌, ◌≤◌, List, [], ◌∷◌, ◌++◌, length, get_or, map, Bool, true, false, ◌&&◌, cond, refl, sym, ap, ◌∙◌, arith, append-nil, subst}
use Rattle.std.specs.Prelude.{All, filter, nat_eq, nat_lt}
use Rattle.std.specs.Int.{w32, cast_signed, cast_unsigned}
use Rattle.std.specs.List.{AllZip, enumerate_from, flat_map, range_with_len}
use Rattle.std.proofs.Math.Facts.{Fits-of_z}
use Rattle.std.proofs.lemmas.Bool.{and_right, eq-eqb, ltb-false, ne_eqb}
use Rattle.std.proofs.lemmas.Int.{to_z-of_z}
use Rattle.std.proofs.lemmas.List.{nil_from_length}
use Rattle.std.proofs.lemmas.List.Elements.{All-head, All-map, All-tail, filter-append}
use Rattle.std.proofs.lemmas.List.Folds.{list_any_none}
use Rattle.zc_base.specs.Fields.{word_in}
use Rattle.elf32_read.specs.Header.{headers_of}
use Rattle.elf32_read.specs.Parts.{SectionParts, SymbolParts, relocs_held}
use Rattle.elf32_read.specs.Relocs.{reloc_at, relas_for, relocs_in}
use Rattle.elf32_read.specs.declared.reloc.Reloc.{Reloc}
use Rattle.elf32_read.proofs.Tests.{changes}
use Rattle.elf32_write.specs.Entries.{reloc_bytes}
use Rattle.elf32_write.specs.FileSections.{FileSection, file_sections, given_section, given_sections, rela_section, rela_sections, relocated, symtab_index, symtab_section}
use Rattle.elf32_write.specs.Ranges.{IsRelocSized}
use Rattle.elf32_write.specs.SectionTable.{with_relas}
use Rattle.elf32_write.proofs.After.{rows_back}
use Rattle.elf32_write.proofs.HeadersBack.{first_word_back, word_back}
use Rattle.elf32_write.proofs.SectionsBack.{Shows, null_shown}
use Rattle.elf32_write.proofs.SymbolsBack.{shstrtab, split_symtab, strtab}
use Rattle.elf32_write.proofs.Zipped.{none_kept, zip_kept}

-- ---- a table of relocations

-- the numbers of a relocation have room in their fields
pub record IsReloc (r : Reloc) : Type 0 where
  pub sized : IsRelocSized r
  pub symbol : r.symbol < 2 ^ 24

-- the relocation that twelve bytes give
reloc_in : List ℕ → ℕ → Reloc
reloc_in content at = record {
  offset = word_in content at;
  symbol = word_in content (at + 4) / 256;
  kind = word_in content (at + 4) % 256;
  addend = cast_signed w32 (word_in content (at + 8));
}

reloc_back : (front rest : List ℕ) (r : Reloc) → IsReloc r → reloc_in (front ++ (reloc_bytes r ++ rest)) (length front) ≡ r
unfolding reloc_in word_in
reloc_back front rest r h =
    let row = reloc_bytes r ++ rest in
    let info_small : 256 * r.symbol + r.kind < 2 ^ 32 = omega (arith, h.symbol, h.sized.kind) in
    let addend_fits = Fits-of_z {w = w32} {z = r.addend} h.sized.addend in
    let addend_small : cast_unsigned w32 r.addend < 2 ^ 32 = omega (arith, addend_fits) in
    let offset = first_word_back front row r.offset h.sized.offset refl in
    let info = word_back front row 4 (256 * r.symbol + r.kind) info_small refl in
    let addend = word_back front row 8 (cast_unsigned w32 r.addend) addend_small refl in
    let symbol : (256 * r.symbol + r.kind) / 256 ≡ r.symbol = omega (arith, h.sized.kind) in
    let kind : (256 * r.symbol + r.kind) % 256 ≡ r.kind = omega (arith, h.sized.kind) in
    let symbols = ap (λ n. n / 256) info ∙ symbol in
    let kinds = ap (λ n. n % 256) info ∙ kind in
    let addends = ap (cast_signed w32) addend ∙ to_z-of_z w32 r.addend h.sized.addend in
    λ i. record { offset = offset i; symbol = symbols i; kind = kinds i; addend = addends i }

pub length-reloc_bytes : (relocs : List Reloc) → length (flat_map reloc_bytes relocs) ≡ 12 * length relocs
length-reloc_bytes [] = refl
length-reloc_bytes (r ∷ relocs) = let rest = length-reloc_bytes relocs in omega (arith, rest)

pub relocs_back : (relocs : List Reloc) → All IsReloc relocs → relocs_in (flat_map reloc_bytes relocs) ≡ relocs
unfolding reloc_at reloc_in
relocs_back relocs rows =
    let content = flat_map reloc_bytes relocs in
    let at : ℕ → ℕ = λ i. 12 * i in
    let count : length content / 12 ≡ length relocs = omega (arith, length-reloc_bytes relocs) in
    ap (λ n. map (reloc_at content) (range_with_len 0 n)) count
    ∙ rows_back reloc_in reloc_bytes 12 IsReloc at reloc_back (λ _. refl) (λ k. omega arith) content [] relocs [] 0 (sym (append-nil content)) refl rows

-- ---- sections by their index

has_relocs : ℕ × SectionParts → Bool
has_relocs e = nat_lt 0 (length e.1.relocs)

is_at : ℕ → ℕ × SectionParts → Bool
is_at i e = nat_eq e.0 i

-- no section has an index before the first
none_before : (i n : ℕ) (xs : List SectionParts) → i < n → filter (is_at i) (filter has_relocs (enumerate_from n xs)) ≡ []
unfolding has_relocs is_at
none_before i n [] lt = refl
none_before i n (x ∷ xs) lt =
    let more = none_before i (n + 1) xs (omega arith) in
    let other : nat_eq n i ≡ false = ne_eqb n i (λ e. omega arith) in
    let rest = filter has_relocs (enumerate_from (n + 1) xs) in
    elim (has_relocs (n, x)) as (λ b. filter (is_at i) (cond b ((n, x) ∷ rest) rest) ≡ []) [
      | true ↦ ap (λ b. cond b ((n, x) ∷ filter (is_at i) rest) (filter (is_at i) rest)) other ∙ more
      | false ↦ more
    ]

-- a section has a RELA, if it has relocations
one_at : (n : ℕ) (xs : List SectionParts) (k : ℕ) (d : SectionParts) → k < length xs → filter (is_at (n + k)) (filter has_relocs (enumerate_from n xs)) ≡ cond (has_relocs (n + k, get_or xs k d)) ((n + k, get_or xs k d) ∷ []) []
unfolding has_relocs is_at
one_at n [] k d lt = absurd (omega arith)
one_at n (x ∷ xs) zero d lt =
    let here : n + 0 ≡ n = omega arith in
    let own : nat_eq n (n + 0) ≡ true = eq-eqb n (n + 0) (sym here) in
    let rest = filter has_relocs (enumerate_from (n + 1) xs) in
    let none = none_before (n + 0) (n + 1) xs (omega arith) in
    let pair : ℕ → ℕ × SectionParts = λ m. (m, x) in
    let item : pair n ≡ pair (n + 0) = ap pair (sym here) in
    let alone : pair n ∷ filter (is_at (n + 0)) rest ≡ pair (n + 0) ∷ [] = λ i. item i ∷ none i in
    elim (has_relocs (n, x)) as (λ b. filter (is_at (n + 0)) (cond b ((n, x) ∷ rest) rest) ≡ cond b ((n + 0, x) ∷ []) []) [
      | true ↦ ap (λ b. cond b ((n, x) ∷ filter (is_at (n + 0)) rest) (filter (is_at (n + 0)) rest)) own ∙ alone
      | false ↦ none
    ]
one_at n (x ∷ xs) (suc k) d lt =
    let next : n + 1 + k ≡ n + suc k = omega arith in
    let other : nat_eq n (n + suc k) ≡ false = ne_eqb n (n + suc k) (λ e. omega arith) in
    let rest = filter has_relocs (enumerate_from (n + 1) xs) in
    let there = one_at (n + 1) xs k d (omega arith) in
    let more : filter (is_at (n + suc k)) rest ≡ cond (has_relocs (n + suc k, get_or xs k d)) ((n + suc k, get_or xs k d) ∷ []) [] =
    subst (λ m. filter (is_at m) rest ≡ cond (has_relocs (m, get_or xs k d)) ((m, get_or xs k d) ∷ []) []) next there in
    elim (has_relocs (n, x)) as (λ b. filter (is_at (n + suc k)) (cond b ((n, x) ∷ rest) rest) ≡ cond (has_relocs (n + suc k, get_or xs k d)) ((n + suc k, get_or xs k d) ∷ []) []) [
      | true ↦ ap (λ b. cond b ((n, x) ∷ filter (is_at (n + suc k)) rest) (filter (is_at (n + suc k)) rest)) other ∙ more
      | false ↦ more
    ]

-- ---- the tables in the file

-- a section of relocations for the section with this index
abbrev pub changes_file : ℕ → FileSection → Bool
changes_file i s = nat_eq s.kind 4 && nat_eq s.info i

filter-map : {X Y : Type 0} (p : Y → Bool) (f : X → Y) (xs : List X) → filter p (map f xs) ≡ map f (filter (λ x. p (f x)) xs)
filter-map p f [] = refl
filter-map p f (x ∷ xs) =
    let rest = filter-map p f xs in
    elim (p (f x)) as (λ b. cond b (f x ∷ filter p (map f xs)) (filter p (map f xs)) ≡ map f (cond b (x ∷ filter (λ x. p (f x)) xs) (filter (λ x. p (f x)) xs))) [
      | true ↦ ap (λ l. f x ∷ l) rest
      | false ↦ rest
    ]

-- among all sections it is the one that was added for the section, if it has relocations
pub tables_for : (xs : List SectionParts) (ys : List SymbolParts) (k : ℕ) (d : SectionParts) → k < length xs → filter (changes_file (1 + k)) (null_shown ∷ file_sections xs ys) ≡ map (rela_section (symtab_index xs)) (cond (nat_lt 0 (length (get_or xs k d).relocs)) ((1 + k, get_or xs k d) ∷ []) [])
unfolding with_relas strtab shstrtab has_relocs is_at
tables_for xs ys k d lt =
    let q = changes_file (1 + k) in
    let f = rela_section (symtab_index xs) in
    let last = symtab_section (symtab_index xs) ys ∷ strtab ys ∷ shstrtab xs ∷ [] in
    let other : nat_eq 0 (1 + k) ≡ false = ne_eqb 0 (1 + k) (λ e. omega arith) in
    let given : filter q (given_sections xs) ≡ [] =
    none_kept q (given_sections xs) (list_any_none q (given_sections xs) (All-map (λ s. q s ≡ false) given_section xs (λ j d lt. and_right (nat_eq (get_or xs j d).kind 4) (nat_eq 0 (1 + k)) other))) in
    ap (filter q) (split_symtab xs ys)
    ∙ filter-append q (with_relas xs) last
    ∙ append-nil (filter q (with_relas xs))
    ∙ filter-append q (given_sections xs) (rela_sections xs)
    ∙ ap (λ l. l ++ filter q (rela_sections xs)) given
    ∙ filter-map q f (relocated xs)
    ∙ ap (map f) (one_at 1 xs k d lt)

flat_map_same : {X A : Type 0} (f g : X → List A) (xs : List X) → All (λ x. f x ≡ g x) xs → flat_map f xs ≡ flat_map g xs
flat_map_same f g [] same = refl
flat_map_same f g (x ∷ xs) same =
    let here = All-head (λ x. f x ≡ g x) x xs same in
    let rest = flat_map_same f g xs (All-tail (λ x. f x ≡ g x) x xs same) in
    λ i. here i ++ rest i

-- the relocations of a given section
pub relocs_of_given : (file : List ℕ) (xs : List SectionParts) (ys : List SymbolParts) (k : ℕ) (d : SectionParts) → k < length xs → All IsReloc (get_or xs k d).relocs → AllZip (Shows file) (headers_of file) (null_shown ∷ file_sections xs ys) → flat_map (relocs_held file) (relas_for file (1 + k)) ≡ (get_or xs k d).relocs
relocs_of_given file xs ys k d lt rows shown =
    let s = get_or xs k d in
    let g : FileSection → List Reloc = λ t. relocs_in t.content in
    let f = rela_section (symtab_index xs) in
    let item : ℕ × SectionParts = (1 + k, s) in
    let none : List (ℕ × SectionParts) = [] in
    let shown_kept = zip_kept (Shows file) (changes (1 + k)) (changes_file (1 + k)) (relocs_held file) g
    (λ h t r. λ i. nat_eq (r.kind i) 4 && nat_eq (r.info i) (1 + k))
    (λ h t r q. ap relocs_in r.content)
    (headers_of file) (null_shown ∷ file_sections xs ys) shown in
    let both : (b : Bool) → nat_lt 0 (length s.relocs) ≡ b → flat_map g (map f (cond b (item ∷ none) none)) ≡ s.relocs =
    λ b. elim b as (λ b. nat_lt 0 (length s.relocs) ≡ b → flat_map g (map f (cond b (item ∷ none) none)) ≡ s.relocs) [
      | true ↦ λ h. append-nil (relocs_in (flat_map reloc_bytes s.relocs)) ∙ relocs_back s.relocs rows
      | false ↦ λ h. let few = ltb-false 0 (length s.relocs) h in sym (nil_from_length s.relocs (omega (arith, few)))
    ] in
    shown_kept ∙ ap (flat_map g) (tables_for xs ys k d lt) ∙ both (nat_lt 0 (length s.relocs)) refl

-- which stand in one table at most
units : {X : Type 0} → List X → List ℕ
units xs = flat_map (λ _. 0 ∷ []) xs

count_units : {X : Type 0} (xs : List X) → length (units xs) ≡ length xs
unfolding units
count_units [] = refl
count_units (x ∷ xs) = ap suc (count_units xs)

pub one_table : (file : List ℕ) (xs : List SectionParts) (ys : List SymbolParts) (k : ℕ) (d : SectionParts) → k < length xs → AllZip (Shows file) (headers_of file) (null_shown ∷ file_sections xs ys) → length (relas_for file (1 + k)) ≤ 1
unfolding units
one_table file xs ys k d lt shown =
    let s = get_or xs k d in
    let f = rela_section (symtab_index xs) in
    let item : ℕ × SectionParts = (1 + k, s) in
    let none : List (ℕ × SectionParts) = [] in
    let shown_kept = zip_kept {A = ℕ} (Shows file) (changes (1 + k)) (changes_file (1 + k)) (λ _. 0 ∷ []) (λ _. 0 ∷ [])
    (λ h t r. λ i. nat_eq (r.kind i) 4 && nat_eq (r.info i) (1 + k))
    (λ h t r q. refl)
    (headers_of file) (null_shown ∷ file_sections xs ys) shown in
    let few : (b : Bool) → length (map f (cond b (item ∷ none) none)) ≤ 1 = λ b. elim b as (λ b. length (map f (cond b (item ∷ none) none)) ≤ 1) [
      | true ↦ omega arith
      | false ↦ omega arith
    ] in
    let many = sym (count_units (relas_for file (1 + k))) ∙ ap length shown_kept ∙ count_units (filter (changes_file (1 + k)) (null_shown ∷ file_sections xs ys)) ∙ ap length (tables_for xs ys k d lt) in
    omega (arith, many, few (nat_lt 0 (length s.relocs)))
