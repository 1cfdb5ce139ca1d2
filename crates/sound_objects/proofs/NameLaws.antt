-- Names: the strong definition that is found is one of those in the objects; names that are defined once and names that are
-- needed have no fault, and the other way round.
use Rattle.std.proofs.Common.{◌≡◌, ℕ, List, Bool, true, false, Option, Some, None, is_none, refl, sym, ap, ◌∙◌, eqb, eq-eqb}
use Rattle.std.specs.Prelude.{◌&&◌, not}
use Rattle.std.specs.List.{find}
use Rattle.std.specs.Option.{option_map, option_map_or, option_or}
use Rattle.std.proofs.lemmas.Bool.{and_from, and_left, and_parts, and_right, eqb-true}
use Rattle.elf32_read.specs.Parts.{ObjectParts}
use Rattle.elf32_read.specs.declared.fault.Fault.{Fault}
use Rattle.elf32_read.specs.declared.fault.Fault.TheVariants.{Duplicate, Undefined}
use Rattle.psabi_sym.specs.Data.{common_address}
use Rattle.psabi_sym.specs.Faults.{duplicate_fault, is_missing, is_second, is_used, same_symbol, undefined_fault}
use Rattle.psabi_sym.specs.Indexed.{IndexedSymbol, all_symbols}
use Rattle.psabi_sym.specs.Inputs.{ParsedInputs}
use Rattle.psabi_sym.specs.Names.{is_strong, same_name, strong_definition, weak_definition}
use Rattle.psabi_sym.specs.Resolve.{Definition, linker_number, linker_numbers, name_definition}
use Rattle.psabi_sym.specs.Resolve.Definition.{AtNumber, InObject}
use Rattle.psabi_sym.proofs.NumberLaws.{same_is, same_self}
use Rattle.block_cut.proofs.SoundLaws.{found_passes}
use Rattle.sound_objects.specs.WellFormed.{HaveDefinitions, AreSingle, HasStrong, HasSymbol}
use Rattle.sound_objects.proofs.ListLaws.{all_found, find_none, none_found, unmapped}
use Rattle.sound_objects.proofs.ListedLaws.{all_by_symbol, symbol_by_all}

-- ---- strong definitions

-- a strong definition that is found
pub strong_found : (objects : List ObjectParts) (name : List ℕ) (l : IndexedSymbol) → strong_definition objects name ≡ Some l → HasStrong objects l × (l.symbol.name ≡ name)
strong_found objects name l found =
    let test = λ (m : IndexedSymbol). is_strong m.symbol && same_name m.symbol.name name in
    let has : HasSymbol objects l = all_found (HasSymbol objects) test (all_symbols objects) l (all_by_symbol objects (HasSymbol objects) (λ m is. is)) found in
    let two = and_parts (is_strong l.symbol) (same_name l.symbol.name name) (found_passes test (all_symbols objects) l found) in
    (record { has = has; strong = two.0 }, same_is l.symbol.name name two.1)

-- the name of one has one that is found
pub strong_there : (objects : List ObjectParts) (l : IndexedSymbol) → HasStrong objects l → (first : IndexedSymbol) × (strong_definition objects l.symbol.name ≡ Some first)
strong_there objects l is = by (strong_definition objects l.symbol.name) refl
  where
    test : IndexedSymbol → Bool
    test m = is_strong m.symbol && same_name m.symbol.name l.symbol.name

    by : (o : Option IndexedSymbol) → strong_definition objects l.symbol.name ≡ o → (first : IndexedSymbol) × (o ≡ Some first)
    by (Some first) found = (first, refl)
    by None none =
        let fails = symbol_by_all objects (λ m. (is_strong m.symbol && same_name m.symbol.name l.symbol.name) ≡ false)
        (none_found (λ (m : IndexedSymbol). is_strong m.symbol && same_name m.symbol.name l.symbol.name) (all_symbols objects) none) l is.has in
        absurd (cc (fails, and_from (is_strong l.symbol) (same_name l.symbol.name l.symbol.name) is.strong (same_self l.symbol.name)))

-- if there is but one, it is found
pub strong_only : (objects : List ObjectParts) → AreSingle objects → (l first : IndexedSymbol) → HasStrong objects l → strong_definition objects l.symbol.name ≡ Some first
    → (first.object ≡ l.object) × (first.index ≡ l.index)
strong_only objects single l first is found = let own = strong_found objects l.symbol.name first found in single first l own.0 is own.1

-- what a name stands for that is defined strongly
pub defined_strong : (inputs : ParsedInputs) (name : List ℕ) (l : IndexedSymbol) → strong_definition inputs.objects name ≡ Some l → name_definition inputs name ≡ Some (InObject l)
unfolding name_definition
defined_strong inputs name l found =
    ap (λ o. option_or (option_map InObject o) (option_or (option_map AtNumber (common_address inputs name)) (option_or (option_map InObject (weak_definition inputs.objects name)) (option_map AtNumber (linker_number (linker_numbers inputs) name))))) found

-- ---- no name is defined twice

not_second : (objects : List ObjectParts) → AreSingle objects → (l : IndexedSymbol) → HasSymbol objects l → is_second objects l ≡ false
not_second objects single l has = by (is_strong l.symbol) refl
  where
    other : HasStrong objects l → (o : Option IndexedSymbol) → strong_definition objects l.symbol.name ≡ o → option_map_or (λ first. not (same_symbol first l)) o false ≡ false
    other is None found = refl
    other is (Some first) found =
        let same = strong_only objects single l first is found in
        ap not (and_from (eqb first.object l.object) (eqb first.index l.index) (eq-eqb first.object l.object same.0) (eq-eqb first.index l.index same.1))

    by : (b : Bool) → is_strong l.symbol ≡ b → is_second objects l ≡ false
    by true strong =
        and_right (is_strong l.symbol) (option_map_or (λ first. not (same_symbol first l)) (strong_definition objects l.symbol.name) false)
        (other (record { has = has; strong = strong }) (strong_definition objects l.symbol.name) refl)
    by false weak = and_left (is_strong l.symbol) (option_map_or (λ first. not (same_symbol first l)) (strong_definition objects l.symbol.name) false) weak

pub no_duplicate : (objects : List ObjectParts) → AreSingle objects → duplicate_fault objects ≡ None
unfolding duplicate_fault
no_duplicate objects single =
    ap (option_map {U = ℕ × Fault} (λ (l : IndexedSymbol). (l.object, Duplicate l.index)))
    (find_none (is_second objects) (all_symbols objects) (all_by_symbol objects (λ l. is_second objects l ≡ false) (not_second objects single)))

pub no_duplicate_single : (objects : List ObjectParts) → duplicate_fault objects ≡ None → AreSingle objects
unfolding duplicate_fault
no_duplicate_single objects none l m one two same = both (strong_there objects l one)
  where
    fails : (k : IndexedSymbol) → HasSymbol objects k → is_second objects k ≡ false
    fails = symbol_by_all objects (λ k. is_second objects k ≡ false)
        (none_found (is_second objects) (all_symbols objects) (unmapped {Y = ℕ × Fault} (λ (k : IndexedSymbol). (k.object, Duplicate k.index)) (find (is_second objects) (all_symbols objects)) none))

    -- the first of a name is the symbol itself
    own : (k first : IndexedSymbol) → HasStrong objects k → strong_definition objects k.symbol.name ≡ Some first → (first.object ≡ k.object) × (first.index ≡ k.index)
    own k first is found =
        let tested : (true && not (same_symbol first k)) ≡ false =
        (λ j. sym is.strong j && option_map_or (λ f. not (same_symbol f k)) (sym found j) false) ∙ fails k is.has in
        let two = and_parts (eqb first.object k.object) (eqb first.index k.index) (not_false (same_symbol first k) tested) in
        (eqb-true first.object k.object two.0, eqb-true first.index k.index two.1)
      where
        not_false : (b : Bool) → not b ≡ false → b ≡ true
        not_false true h = refl
        not_false false h = absurd cc

    both : (first : IndexedSymbol) × (strong_definition objects l.symbol.name ≡ Some first) → (l.object ≡ m.object) × (l.index ≡ m.index)
    both found =
        let a = own l found.0 one found.1 in
        let b = own m found.0 two (ap (strong_definition objects) (sym same) ∙ found.1) in
        (sym a.0 ∙ b.0, sym a.1 ∙ b.1)

-- ---- each name that is needed is defined

module _ (inputs : ParsedInputs) where
  -- whether a symbol needs a definition, and whether there is none
  abbrev needed_by : IndexedSymbol → Bool
  needed_by l = (eqb l.symbol.bind 1 && eqb l.symbol.home 0) && is_used inputs.objects l

  not_missing : HaveDefinitions inputs → (l : IndexedSymbol) → HasSymbol inputs.objects l → is_missing inputs l ≡ false
  not_missing defined l has = by (needed_by l) refl
    where
      by : (b : Bool) → needed_by l ≡ b → (needed_by l && is_none (name_definition inputs l.symbol.name)) ≡ false
      by true needed =
          let two = and_parts (eqb l.symbol.bind 1 && eqb l.symbol.home 0) (is_used inputs.objects l) needed in
          let kind = and_parts (eqb l.symbol.bind 1) (eqb l.symbol.home 0) two.0 in
          let found = defined l (record { has = has; global = eqb-true l.symbol.bind 1 kind.0; undefined = eqb-true l.symbol.home 0 kind.1; used = two.1 }) in
          and_right (needed_by l) (is_none (name_definition inputs l.symbol.name)) (ap is_none found.1)
      by false other = and_left (needed_by l) (is_none (name_definition inputs l.symbol.name)) other

  pub no_undefined : HaveDefinitions inputs → undefined_fault inputs ≡ None
  unfolding undefined_fault
  no_undefined defined =
      ap (option_map {U = ℕ × Fault} (λ (l : IndexedSymbol). (l.object, Undefined l.index)))
      (find_none (is_missing inputs) (all_symbols inputs.objects) (all_by_symbol inputs.objects (λ l. is_missing inputs l ≡ false) (not_missing defined)))

  pub no_undefined_defined : undefined_fault inputs ≡ None → HaveDefinitions inputs
  unfolding undefined_fault
  no_undefined_defined none l is = by (name_definition inputs l.symbol.name) refl
    where
      fails : is_missing inputs l ≡ false
      fails =
          symbol_by_all inputs.objects (λ k. is_missing inputs k ≡ false)
          (none_found (is_missing inputs) (all_symbols inputs.objects) (unmapped {Y = ℕ × Fault} (λ (k : IndexedSymbol). (k.object, Undefined k.index)) (find (is_missing inputs) (all_symbols inputs.objects)) none))
          l is.has

      by : (o : Option Definition) → name_definition inputs l.symbol.name ≡ o → (d : Definition) × (o ≡ Some d)
      by (Some d) found = (d, refl)
      by None found =
          let missing : is_missing inputs l ≡ true =
          and_from ((eqb l.symbol.bind 1 && eqb l.symbol.home 0) && is_used inputs.objects l) (is_none (name_definition inputs l.symbol.name))
          (and_from (eqb l.symbol.bind 1 && eqb l.symbol.home 0) (is_used inputs.objects l)
          (and_from (eqb l.symbol.bind 1) (eqb l.symbol.home 0) (eq-eqb l.symbol.bind 1 is.global) (eq-eqb l.symbol.home 0 is.undefined)) is.used)
          (ap is_none found) in
          absurd (cc (missing, fails))
