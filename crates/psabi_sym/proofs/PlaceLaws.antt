-- What stands at the place of a section or a symbol, and before it.
use Rattle.std.proofs.Common.{◌≡◌, ℕ, ◌+◌, ◌<◌, ◌≤◌, Bool, true, false, cond, not, ◌&&◌, List, [], ◌∷◌, ◌++◌, length, get_or, take, map, refl, sym, ap, ◌∙◌, arith, Option, Some, None, slice_get, ◌⊎◌, inl, inr, nat_lt, length-append, eqb, codes}
use Rattle.std.specs.List.{enumerate_from, flat_map, range_with_len}
use Rattle.std.specs.Option.{option_map_or}
use Rattle.std.proofs.lemmas.Bool.{cases_lt, le-ltb, lt-ltb}
use Rattle.std.proofs.lemmas.List.{get_or-map, length-map, length-take, length-take-le, take-map, take_more}
use Rattle.std.proofs.lemmas.List.FromFn.{get_or-map-range_with_len, length-map-range_with_len}
use Rattle.std.proofs.lemmas.Option.{get_or_from_slice_get, slice_get-get_or, slice_get_within}
use Rattle.elf32_read.specs.Kept.{has_flags}
use Rattle.elf32_read.specs.Parts.{ObjectParts, SectionParts, SymbolParts, is_code_section, is_kept_section}
use Rattle.psabi_sym.specs.declared.data_class.DataClass.{DataClass}
use Rattle.psabi_sym.specs.declared.data_class.DataClass.TheVariants.{ReadOnly, Data, SmallData, SmallZero, Zero, Common}
use Rattle.psabi_sym.specs.declared.section_row.SectionRole.TheVariants.{Code, InClass, Dropped}
use Rattle.psabi_sym.specs.declared.section_row.SectionRow.{SectionRow}
use Rattle.psabi_sym.specs.Blocks.{aligned_up, end_from}
use Rattle.psabi_sym.specs.Classes.{same_class}
use Rattle.psabi_sym.specs.Data.{address_in, blocks_in, class_of, class_start, is_code_role, is_of_kin, role_of}
use Rattle.psabi_sym.specs.Inputs.{ParsedInputs}
use Rattle.psabi_sym.specs.Indexed.{IndexedSection, IndexedSymbol, all_sections, all_symbols, sections_before, sections_in, symbols_in}
use Rattle.psabi_sym.specs.Places.{place_in}
use Rattle.psabi_sym.specs.Invariants.Rows.{AreAddressed, row_blocks, row_start, section_row, section_starts, symbol_starts}
use Rattle.psabi_sym.proofs.BridgeLaws.{row_blocks_are}
use Rattle.psabi_sym.proofs.FlatLaws.{flat_at, flat_before, flat_push}
use Rattle.psabi_sym.proofs.PartLaws.{length-sections_in, length-symbols_in, section_listed, symbol_listed}

-- ---- places

module _ {X : Type 0} (f : ℕ × ObjectParts → List X) (objects : List ObjectParts) where
  -- where an object's begin
  abbrev pub begins : ℕ → ℕ
  begins o = length (flat_map f (enumerate_from 0 (take o objects)))

  -- where the next object's do
  begins_next : (o : ℕ) (object : ObjectParts) → slice_get objects o ≡ Some object → begins (o + 1) ≡ begins o + length (f (o, object))
  begins_next o object at =
      let within = slice_get_within objects o object at in
      let index : length (take o objects) ≡ o = length-take-le o objects (omega arith) in
      ap (λ l. length (flat_map f (enumerate_from 0 l))) (take_more objects o object within ∙ ap (λ x. take o objects ++ x ∷ []) (get_or_from_slice_get objects o object object at))
      ∙ ap length (flat_push f (take o objects) object ∙ ap (λ n. flat_map f (enumerate_from 0 (take o objects)) ++ f (n, object)) index)
      ∙ length-append (flat_map f (enumerate_from 0 (take o objects))) (f (o, object))

  -- what an object has stands among all
  pub begins_within : (o j : ℕ) (object : ObjectParts) → slice_get objects o ≡ Some object → j < length (f (o, object)) → begins o + j < length (flat_map f (enumerate_from 0 objects))
  begins_within o j object at within =
      let before = flat_map f (enumerate_from 0 (take o objects)) in
      let all = flat_map f (enumerate_from 0 objects) in
      let cut = ap length (flat_before f objects o (j + 1) object at (omega arith)) ∙ length-append before (take (j + 1) (f (o, object))) in
      omega (arith, cut, length-take (length before + (j + 1)) all, length-take-le (j + 1) (f (o, object)) (omega arith))

  -- a place is one of an object's, or there is none
  pub place_cases : (starts : List ℕ) (o i : ℕ) → starts ≡ map begins (range_with_len 0 (length objects + 1))
      → ((object : ObjectParts) × (slice_get objects o ≡ Some object) × (i < length (f (o, object))) × (place_in starts o i ≡ Some (begins o + i)))
      ⊎ (((object : ObjectParts) → slice_get objects o ≡ Some object → length (f (o, object)) ≤ i) × (place_in starts o i ≡ None))
  place_cases starts o i is = by (slice_get objects o) refl
    where
      count : length starts ≡ length objects + 1
      count = ap length is ∙ length-map-range_with_len begins 0 (length objects + 1)

      start : (k : ℕ) → k < length objects + 1 → get_or starts k 0 ≡ begins k
      start k within = ap (λ l. get_or l k 0) is ∙ get_or-map-range_with_len begins 0 (length objects + 1) k k 0 within (omega arith)

      by : (found : Option ObjectParts) → slice_get objects o ≡ found
          → ((object : ObjectParts) × (slice_get objects o ≡ Some object) × (i < length (f (o, object))) × (place_in starts o i ≡ Some (begins o + i)))
          ⊎ (((object : ObjectParts) → slice_get objects o ≡ Some object → length (f (o, object)) ≤ i) × (place_in starts o i ≡ None))
      by None none =
          let past : length objects ≤ o = elim (cases_lt o (length objects)) [ inl lt ↦ absurd (cc (none, slice_get-get_or objects o (record { flags = 0; sections = []; symbols = [] }) lt)) | inr le ↦ le ] in
          inr (
            (λ object at. absurd (cc (none, at))),
            ap (λ b. cond (b && nat_lt (get_or starts o 0 + i) (get_or starts (o + 1) 0)) (Some (get_or starts o 0 + i)) None) (le-ltb (o + 1) (length starts) (omega (arith, count, past))),
          )
      by (Some object) at =
          let within = slice_get_within objects o object at in
          let here = start o (omega arith) in
          let next = start (o + 1) (omega arith) ∙ begins_next o object at in
          let known : nat_lt (o + 1) (length starts) ≡ true = lt-ltb (o + 1) (length starts) (omega (arith, count, within)) in
          elim (cases_lt i (length (f (o, object)))) [
            | inl inside ↦
                let below : nat_lt (get_or starts o 0 + i) (get_or starts (o + 1) 0) ≡ true = lt-ltb (get_or starts o 0 + i) (get_or starts (o + 1) 0) (omega (arith, here, next, inside)) in
                inl (
                  object,
                  at,
                  inside,
                  (λ j. cond (known j && below j) (Some (get_or starts o 0 + i)) None) ∙ ap (λ n. Some (n + i)) here,
                )
            | inr past ↦
                let above : nat_lt (get_or starts o 0 + i) (get_or starts (o + 1) 0) ≡ false = le-ltb (get_or starts o 0 + i) (get_or starts (o + 1) 0) (omega (arith, here, next, past)) in
                inr (
                  (λ other also. let same : object ≡ other = cc in omega (arith, past, ap (λ x. length (f (o, x))) same)),
                  (λ j. cond (known j && above j) (Some (get_or starts o 0 + i)) None),
                )
          ]

-- ---- what a section is

-- no section is common
class_not_common : (s : SectionParts) → same_class (class_of s) Common ≡ false
class_not_common s = by (eqb s.kind 8) (is_of_kin (codes ".sbss") s.name) (not (has_flags 1 s.flags)) (is_of_kin (codes ".sdata") s.name)
  where
    by : (a b c d : Bool) → same_class (cond a (cond b SmallZero Zero) (cond c ReadOnly (cond d SmallData Data))) Common ≡ false
    by true true c d = refl
    by true false c d = refl
    by false b true d = refl
    by false b false true = refl
    by false b false false = refl

pub not_common : (s : SectionParts) (class : DataClass) → role_of s ≡ InClass class → same_class class Common ≡ false
unfolding role_of
not_common s class = by (is_code_section s) (is_kept_section s)
  where
    by : (code kept : Bool) → cond code Code (cond kept (InClass (class_of s)) Dropped) ≡ InClass class → same_class class Common ≡ false
    by true kept is = absurd cc
    by false true is = let same : class_of s ≡ class = cc in ap (λ c. same_class c Common) (sym same) ∙ class_not_common s
    by false false is = absurd cc

-- a section is code
pub code_is : (s : SectionParts) → is_code_role (role_of s) ≡ is_code_section s
unfolding role_of
code_is s = by (is_code_section s) (is_kept_section s)
  where
    by : (code kept : Bool) → is_code_role (cond code Code (cond kept (InClass (class_of s)) Dropped)) ≡ code
    by true kept = refl
    by false true = refl
    by false false = refl

-- ---- sections

module _ (objects : List ObjectParts) (o i : ℕ) (object : ObjectParts) (s : SectionParts) (at : slice_get objects o ≡ Some object) (is : slice_get object.sections i ≡ Some s) where
  inside : i < length object.sections
  inside = slice_get_within object.sections i s is

  listed : i < length (sections_in (o, object))
  listed = omega (arith, inside, length-sections_in o object)

  -- the section's place is among all sections
  pub place_listed : section_starts objects o + i < length (all_sections objects)
  unfolding all_sections
  place_listed = begins_within sections_in objects o i object at listed

  -- the section at its place
  pub listed_there : slice_get (all_sections objects) (section_starts objects o + i) ≡ Some (record { object = o; index = i; section = s })
  unfolding all_sections
  listed_there =
      let e : IndexedSection = record { object = o; index = i; section = s } in
      slice_get-get_or (all_sections objects) (section_starts objects o + i) e place_listed
      ∙ ap Some (flat_at sections_in objects o i object e at listed ∙ section_listed o object i s e inside
      ∙ ap (λ x. record { object = o; index = i; section = x }) (get_or_from_slice_get object.sections i s s is))

  -- what stands before it
  pub before_there : take (section_starts objects o + i) (all_sections objects) ≡ sections_before objects o i
  unfolding all_sections sections_before
  before_there =
      flat_before sections_in objects o i object at (omega (arith, listed))
      ∙ ap (λ found. flat_map sections_in (enumerate_from 0 (take o objects)) ++ option_map_or (λ x. take i (sections_in (o, x))) found []) (sym at)

-- ---- rows

module _ (inputs : ParsedInputs) where
  -- where a class begins, by rows
  pub row_start_is : (class : DataClass) → same_class class Common ≡ false
      → row_start (map (section_row inputs.fixed) (all_sections inputs.objects)) inputs.map.data_low class ≡ class_start inputs class
  unfolding class_start
  row_start_is ReadOnly other = refl
  row_start_is Data other = λ j. aligned_up 16 (end_from (aligned_up 16 inputs.map.data_low) (row_blocks_are inputs.fixed ReadOnly (all_sections inputs.objects) j))
  row_start_is SmallData other =
      λ j. aligned_up 16 (end_from (aligned_up 16 (end_from (aligned_up 16 inputs.map.data_low) (row_blocks_are inputs.fixed ReadOnly (all_sections inputs.objects) j))) (row_blocks_are inputs.fixed Data (all_sections inputs.objects) j))
  row_start_is SmallZero other =
      λ j. aligned_up 16 (end_from (aligned_up 16 (end_from (aligned_up 16 (end_from (aligned_up 16 inputs.map.data_low) (row_blocks_are inputs.fixed ReadOnly (all_sections inputs.objects) j))) (row_blocks_are inputs.fixed Data (all_sections inputs.objects) j))) (row_blocks_are inputs.fixed SmallData (all_sections inputs.objects) j))
  row_start_is Zero other =
      λ j. aligned_up 16 (end_from (aligned_up 16 (end_from (aligned_up 16 (end_from (aligned_up 16 (end_from (aligned_up 16 inputs.map.data_low) (row_blocks_are inputs.fixed ReadOnly (all_sections inputs.objects) j))) (row_blocks_are inputs.fixed Data (all_sections inputs.objects) j))) (row_blocks_are inputs.fixed SmallData (all_sections inputs.objects) j))) (row_blocks_are inputs.fixed SmallZero (all_sections inputs.objects) j))
  row_start_is Common other = absurd cc

  module _ (o i : ℕ) (object : ObjectParts) (s : SectionParts) (at : slice_get inputs.objects o ≡ Some object) (is : slice_get object.sections i ≡ Some s) where
    -- the section's place is among the rows
    pub place_within : section_starts inputs.objects o + i < length (map (section_row inputs.fixed) (all_sections inputs.objects))
    place_within = omega (arith, length-map (all_sections inputs.objects) (section_row inputs.fixed), place_listed inputs.objects o i object s at is)

    -- the row at its place
    pub row_there : (d : SectionRow) → get_or (map (section_row inputs.fixed) (all_sections inputs.objects)) (section_starts inputs.objects o + i) d ≡ section_row inputs.fixed (record { object = o; index = i; section = s })
    row_there d =
        let e : IndexedSection = record { object = o; index = i; section = s } in
        let k = section_starts inputs.objects o + i in
        get_or-map (section_row inputs.fixed) (all_sections inputs.objects) k e d (place_listed inputs.objects o i object s at is)
        ∙ ap (section_row inputs.fixed) (get_or_from_slice_get (all_sections inputs.objects) k e e (listed_there inputs.objects o i object s at is))

    -- the address at its place, if it is data
    pub address_there : (addresses : List ℕ) (class : DataClass) → AreAddressed (map (section_row inputs.fixed) (all_sections inputs.objects)) inputs.map.data_low addresses → role_of s ≡ InClass class
        → get_or addresses (section_starts inputs.objects o + i) 0 ≡ address_in inputs o i s class
    address_there addresses class placed role =
        let rows = map (section_row inputs.fixed) (all_sections inputs.objects) in
        let k = section_starts inputs.objects o + i in
        let row = section_row inputs.fixed (record { object = o; index = i; section = s }) in
        let other = not_common s class role in
        let before : row_blocks class (take k rows) ≡ blocks_in class (sections_before inputs.objects o i) =
        ap (row_blocks class) (take-map (section_row inputs.fixed) k (all_sections inputs.objects)) ∙ row_blocks_are inputs.fixed class (take k (all_sections inputs.objects)) ∙ ap (blocks_in class) (before_there inputs.objects o i object s at is) in
        placed k row class (slice_get-get_or rows k row place_within ∙ ap Some (row_there row)) role other
        ∙ (λ j. aligned_up s.align (end_from (row_start_is class other j) (before j)))

-- ---- symbols

-- the symbol at a place
pub symbol_there : (objects : List ObjectParts) (o s : ℕ) (object : ObjectParts) (symbol : SymbolParts) (d : IndexedSymbol)
    → slice_get objects o ≡ Some object → slice_get object.symbols (s + 1) ≡ Some symbol
    → (symbol_starts objects o + s < length (all_symbols objects)) × (get_or (all_symbols objects) (symbol_starts objects o + s) d ≡ record { object = o; index = s + 1; symbol = symbol })
unfolding all_symbols
symbol_there objects o s object symbol d at is =
    let inside : s + 1 < length object.symbols = slice_get_within object.symbols (s + 1) symbol is in
    let listed : s < length (symbols_in (o, object)) = omega (arith, inside, length-symbols_in o object) in (
      begins_within symbols_in objects o s object at listed,
      flat_at symbols_in objects o s object d at listed ∙ symbol_listed o object s symbol d inside
          ∙ ap (λ x. record { object = o; index = s + 1; symbol = x }) (get_or_from_slice_get object.symbols (s + 1) symbol symbol is),
    )

-- where symbols and sections begin, by the general word
pub section_starts_are : (objects : List ObjectParts) → section_starts objects ≡ begins sections_in objects
unfolding all_sections
section_starts_are objects = refl

pub symbol_starts_are : (objects : List ObjectParts) → symbol_starts objects ≡ begins symbols_in objects
unfolding all_symbols
symbol_starts_are objects = refl
