-- Data of a pass's result lie where those of the given objects do.
use Rattle.std.proofs.Common.{◌≡◌, ℕ, List, [], ◌∷◌, refl, sym, ap, ap₂, ◌∙◌, map, filter, Bool, true, false, cond, eqb, Option, Some, None, slice_get, max}
use Rattle.std.specs.Prelude.{◌&&◌, codes, not, is_none}
use Rattle.std.specs.List.{AllZip, find, fold}
use Rattle.std.specs.Option.{option_and_then, option_map}
use Rattle.elf32_read.specs.Kept.{has_flags}
use Rattle.elf32_read.specs.Parts.{ObjectParts, SectionParts, is_code_section, is_kept_section}
use Rattle.psabi_sym.specs.Blocks.{aligned_up, end_from, placed_from}
use Rattle.psabi_sym.specs.declared.block.Block.{Block}
use Rattle.psabi_sym.specs.Classes.{classes_before}
use Rattle.psabi_sym.specs.Data.{address_in, blocks_in, blocks_of, class_end, class_of, class_start, common_address, commons_placed, data_address, has_class, is_of_kin, common_block, role_address, role_of}
use Rattle.psabi_sym.specs.Inputs.{ParsedInputs}
use Rattle.psabi_sym.specs.Indexed.{IndexedSection, IndexedSymbol, all_sections, all_symbols, section_at, sections_before}
use Rattle.psabi_sym.specs.Names.{first_definition, firsts, is_common, is_definition, same_name, strong_definition}
use Rattle.psabi_sym.specs.declared.data_class.DataClass.{DataClass}
use Rattle.psabi_sym.specs.declared.data_class.DataClass.TheVariants.{ReadOnly, Data, SmallData, SmallZero, Zero, Common}
use Rattle.psabi_sym.specs.declared.section_row.SectionRole.{SectionRole}
use Rattle.psabi_sym.specs.declared.section_row.SectionRole.TheVariants.{Code, InClass, Dropped}
use Rattle.moved_runs.specs.Passes.{ArePassed, ArePassesFrom, KeepsSection, Pass}
use Rattle.moved_runs.proofs.PassZips.{ZipOption, BothNone, BothSome, zip-find, zip-same}
use Rattle.moved_runs.proofs.PassSections.{before-moved, is_kept_listed, kept-all, kept-same, passed, section-moved}
use Rattle.moved_runs.proofs.PassSymbols.{IsPassedSymbol, common-same, symbol-kept, symbols-all}

-- ---- sections

-- whether a section has a class
abbrev is_of_class : DataClass → IndexedSection → Bool
is_of_class class l = has_class class (role_of l.section)

-- the block of data that a section is
abbrev section_block : IndexedSection → Block
section_block l = record { align = l.section.align; size = l.section.size }

-- the common symbols of a name
abbrev commons_of : List ObjectParts → List ℕ → List IndexedSymbol
commons_of objects name = filter (λ l. is_common l.symbol && same_name l.symbol.name name) (all_symbols objects)

-- what is dropped has no class
pub dropped-role : (s : SectionParts) → is_kept_section s ≡ false → role_of s ≡ Dropped
unfolding role_of
dropped-role s dropped = ap (λ b. cond (b && has_flags 4 s.flags) Code (cond b (InClass (class_of s)) Dropped)) dropped

-- a section has the role that it had
pub role-same : (s t : SectionParts) → KeepsSection s t → role_of t ≡ role_of s
unfolding role_of
role-same s t k =
    let kept = kept-same s t k in
    let flags = k.flags in
    let kind = k.kind in
    let name = k.name in
    λ i. cond (kept i && has_flags 4 (flags i)) Code
    (cond (kept i) (InClass (cond (eqb (kind i) 8) (cond (is_of_kin (codes ".sbss") (name i)) SmallZero Zero) (cond (not (has_flags 1 (flags i))) ReadOnly (cond (is_of_kin (codes ".sdata") (name i)) SmallData Data)))) Dropped)

-- what has a class isn't code, and what is code is one of the roles
class-plain : (class : DataClass) (s : SectionParts) → has_class class (role_of s) ≡ true → is_code_section s ≡ false
unfolding role_of
class-plain class s has = by (is_code_section s) (cond (is_kept_section s) (InClass (class_of s)) Dropped) has
  where
    by : (c : Bool) (other : SectionRole) → has_class class (cond c Code other) ≡ true → c ≡ false
    by false other h = refl
    by true other h = absurd cc

module _ (pass : Pass) where
  -- a class has kept sections alone
  class-kept : (class : DataClass) (ls : List IndexedSection) → filter (is_of_class class) (filter is_kept_listed ls) ≡ filter (is_of_class class) ls
  class-kept class [] = refl
  class-kept class (l ∷ ls) = by (class-kept class ls) (is_kept_section l.section) refl
    where
      by : filter (is_of_class class) (filter is_kept_listed ls) ≡ filter (is_of_class class) ls → (b : Bool) → is_kept_section l.section ≡ b
          → filter (is_of_class class) (cond b (l ∷ filter is_kept_listed ls) (filter is_kept_listed ls)) ≡ cond (has_class class (role_of l.section)) (l ∷ filter (is_of_class class) ls) (filter (is_of_class class) ls)
      by rest true is = ap (λ xs. cond (has_class class (role_of l.section)) (l ∷ xs) xs) rest
      by rest false is = rest ∙ sym (ap (λ r. cond (has_class class r) (l ∷ filter (is_of_class class) ls) (filter (is_of_class class) ls)) (dropped-role l.section is))

  -- their room stays
  class-blocks : (class : DataClass) (ls : List IndexedSection) → blocks_in class (map (passed pass) ls) ≡ blocks_in class ls
  class-blocks class [] = refl
  class-blocks class (l ∷ ls) =
      ap (λ r. map section_block (cond (has_class class r) (passed pass l ∷ filter (is_of_class class) (map (passed pass) ls)) (filter (is_of_class class) (map (passed pass) ls)))) (role-same l.section (pass.section l.object l.index l.section) (pass.keeps_sections l.object l.index l.section))
      ∙ by (class-blocks class ls) (has_class class (role_of l.section)) refl
    where
      by : blocks_in class (map (passed pass) ls) ≡ blocks_in class ls → (b : Bool) → has_class class (role_of l.section) ≡ b
          → map section_block (cond b (passed pass l ∷ filter (is_of_class class) (map (passed pass) ls)) (filter (is_of_class class) (map (passed pass) ls))) ≡ map section_block (cond b (l ∷ filter (is_of_class class) ls) (filter (is_of_class class) ls))
      by rest true has =
          let k = pass.keeps_sections l.object l.index l.section in
          let plain = class-plain class l.section has in
          let align = k.align plain in
          let size = k.size plain in
          λ i. record { align = align i; size = size i } ∷ rest i
      by rest false has = rest

  pub blocks-same : (class : DataClass) (ls ms : List IndexedSection) → filter is_kept_listed ms ≡ map (passed pass) (filter is_kept_listed ls) → blocks_in class ms ≡ blocks_in class ls
  blocks-same class ls ms same =
      ap (map section_block) (sym (class-kept class ms))
      ∙ ap (blocks_in class) same
      ∙ class-blocks class (filter is_kept_listed ls)
      ∙ ap (map section_block) (class-kept class ls)

-- ---- symbols

module _ (pass : Pass) (gs rs : List ObjectParts) (clean : ArePassesFrom pass 0 gs rs) where
  pub symbols : AllZip (IsPassedSymbol pass gs) (all_symbols gs) (all_symbols rs)
  symbols = symbols-all pass gs rs clean

  pub name-kept : (l m : IndexedSymbol) → IsPassedSymbol pass gs l m → m.symbol.name ≡ l.symbol.name
  name-kept l m c = (symbol-kept pass gs l m c).name

  pub definition-kept : (bind : ℕ) (l m : IndexedSymbol) → IsPassedSymbol pass gs l m → is_definition bind m.symbol ≡ is_definition bind l.symbol
  definition-kept bind l m c =
      let a = symbol-kept pass gs l m c in
      λ i. (eqb (a.bind i) bind && not (a.undefined i)) && not (a.common i)

  -- the first definition
  pub first-definition-same : (bind : ℕ) (name : List ℕ) → ZipOption (λ l m. IsPassedSymbol pass gs l m × ((is_definition bind l.symbol && same_name l.symbol.name name) ≡ true)) (first_definition bind gs name) (first_definition bind rs name)
  first-definition-same bind name =
      zip-find (IsPassedSymbol pass gs) (λ l. is_definition bind l.symbol && same_name l.symbol.name name) (λ l. is_definition bind l.symbol && same_name l.symbol.name name)
      (λ l m c. ap₂ (λ b n. b && same_name n name) (definition-kept bind l m c) (name-kept l m c))
      (all_symbols gs) (all_symbols rs) symbols

  none-same : {X : Type 0} (R : X → X → Type 0) (a b : Option X) → ZipOption R a b → is_none b ≡ is_none a
  none-same R a b BothNone = refl
  none-same R a b (BothSome x y r) = refl

  pub commons-of-same : (name : List ℕ) → commons_of rs name ≡ commons_of gs name
  commons-of-same name =
      zip-same (IsPassedSymbol pass gs) (λ l. is_common l.symbol && same_name l.symbol.name name) (λ l. is_common l.symbol && same_name l.symbol.name name)
      (λ l m c. ap₂ (λ b n. b && same_name n name) (symbol-kept pass gs l m c).common (name-kept l m c))
      (λ l m c h. common-same pass gs l m c (first (is_common l.symbol) (same_name l.symbol.name name) h))
      (all_symbols gs) (all_symbols rs) symbols
    where
      first : (a b : Bool) → (a && b) ≡ true → a ≡ true
      first true b h = refl
      first false b h = absurd cc

  commons-placed-same : commons_placed rs ≡ commons_placed gs
  unfolding commons_placed
  commons-placed-same =
      ap firsts (zip-same (IsPassedSymbol pass gs) (λ l. is_common l.symbol && is_none (strong_definition gs l.symbol.name)) (λ l. is_common l.symbol && is_none (strong_definition rs l.symbol.name))
      (λ l m c. ap₂ (λ b n. b && n) (symbol-kept pass gs l m c).common
      (ap (λ n. is_none (strong_definition rs n)) (name-kept l m c) ∙ none-same (λ l0 m0. IsPassedSymbol pass gs l0 m0 × ((is_definition 1 l0.symbol && same_name l0.symbol.name l.symbol.name) ≡ true)) (strong_definition gs l.symbol.name) (strong_definition rs l.symbol.name) (first-definition-same 1 l.symbol.name)))
      (λ l m c h. common-same pass gs l m c (first (is_common l.symbol) (is_none (strong_definition gs l.symbol.name)) h))
      (all_symbols gs) (all_symbols rs) symbols)
    where
      first : (a b : Bool) → (a && b) ≡ true → a ≡ true
      first true b h = refl
      first false b h = absurd cc

  common-block-same : common_block rs ≡ common_block gs
  common-block-same = λ i. λ l. let same = commons-of-same l.symbol.name i in record {
    align = fold max 0 (map (λ (l : IndexedSymbol). max 1 l.symbol.value) same);
    size = fold max 0 (map (λ (l : IndexedSymbol). l.symbol.size) same);
  }

  common-blocks-same : map (common_block rs) (commons_placed rs) ≡ map (common_block gs) (commons_placed gs)
  common-blocks-same = ap₂ (λ f ls. map f ls) common-block-same commons-placed-same

  -- what a class has
  blocks-of-same : (class : DataClass) → blocks_of rs class ≡ blocks_of gs class
  blocks-of-same ReadOnly = blocks-same pass ReadOnly (all_sections gs) (all_sections rs) (kept-all pass gs rs clean)
  blocks-of-same Data = blocks-same pass Data (all_sections gs) (all_sections rs) (kept-all pass gs rs clean)
  blocks-of-same SmallData = blocks-same pass SmallData (all_sections gs) (all_sections rs) (kept-all pass gs rs clean)
  blocks-of-same SmallZero = blocks-same pass SmallZero (all_sections gs) (all_sections rs) (kept-all pass gs rs clean)
  blocks-of-same Zero = blocks-same pass Zero (all_sections gs) (all_sections rs) (kept-all pass gs rs clean)
  blocks-of-same Common = common-blocks-same

  pub blocks-all-same : blocks_of rs ≡ blocks_of gs
  blocks-all-same = λ i. λ class. blocks-of-same class i

-- ---- addresses

module _ (pass : Pass) (inputs result : ParsedInputs) (clean : ArePassed pass inputs result) where
  blocks : blocks_of result.objects ≡ blocks_of inputs.objects
  blocks = blocks-all-same pass inputs.objects result.objects clean.objects

  pub class_start-same : (class : DataClass) → class_start result class ≡ class_start inputs class
  unfolding class_start
  class_start-same class = λ i. aligned_up 16 (fold (λ at c. end_from (aligned_up 16 at) (blocks i c)) (clean.map i).data_low (classes_before class))

  pub class_end-same : (class : DataClass) → class_end result class ≡ class_end inputs class
  unfolding class_end
  class_end-same class = λ i. end_from (class_start-same class i) (blocks i class)

  pub common_address-same : (name : List ℕ) → common_address result name ≡ common_address inputs name
  unfolding common_address
  common_address-same name =
      let block = common-block-same pass inputs.objects result.objects clean.objects in
      let placed = commons-placed-same pass inputs.objects result.objects clean.objects in
      λ i. option_map (λ (e : IndexedSymbol × ℕ). e.1) (find (λ (e : IndexedSymbol × ℕ). same_name e.0.symbol.name name) (placed_from (block i) (class_start-same Common i) (placed i)))

  -- a section of data in its new number
  pub address_in-moved : (o i : ℕ) (s : SectionParts) (class : DataClass) → section_at inputs.objects o i ≡ Some s → is_code_section s ≡ false
      → address_in result o (pass.number o i) (pass.section o i s) class ≡ address_in inputs o i s class
  address_in-moved o i s class at plain = by (slice_get inputs.objects o) refl at
    where
      by : (found : Option ObjectParts) → slice_get inputs.objects o ≡ found → option_and_then (λ (object : ObjectParts). slice_get object.sections i) found ≡ Some s
          → address_in result o (pass.number o i) (pass.section o i s) class ≡ address_in inputs o i s class
      by None is h = absurd cc
      by (Some g) is h =
          let align = (pass.keeps_sections o i s).align plain in
          let before = blocks-same pass class (sections_before inputs.objects o i) (sections_before result.objects o (pass.number o i)) (before-moved pass inputs.objects result.objects clean.objects o i g is) in
          λ k. aligned_up (align k) (end_from (class_start-same class k) (before k))

  -- the address of a kept section, code or data, in its new number
  pub data_address-moved : (o i : ℕ) (s : SectionParts) → section_at inputs.objects o i ≡ Some s → is_kept_section s ≡ true → data_address result o (pass.number o i) ≡ data_address inputs o i
  unfolding data_address
  data_address-moved o i s at kept =
      ap (option_and_then (λ (t : SectionParts). role_address result o (pass.number o i) t (role_of t))) (section-moved pass inputs.objects result.objects clean.objects o i s at kept)
      ∙ ap (role_address result o (pass.number o i) (pass.section o i s)) (role-same s (pass.section o i s) (pass.keeps_sections o i s))
      ∙ by (role_of s) refl
      ∙ sym (ap (option_and_then (λ (t : SectionParts). role_address inputs o i t (role_of t))) at)
    where
      by : (role : SectionRole) → role_of s ≡ role → role_address result o (pass.number o i) (pass.section o i s) role ≡ role_address inputs o i s role
      by Code is = refl
      by Dropped is = refl
      by (InClass class) is = ap Some (address_in-moved o i s class at (class-is class is))
        where
          reflexive : (class : DataClass) → has_class class (InClass class) ≡ true
          reflexive ReadOnly = refl
          reflexive Data = refl
          reflexive SmallData = refl
          reflexive SmallZero = refl
          reflexive Zero = refl
          reflexive Common = refl

          class-is : (class : DataClass) → role_of s ≡ InClass class → is_code_section s ≡ false
          class-is class is = class-plain class s (ap (has_class class) is ∙ reflexive class)
