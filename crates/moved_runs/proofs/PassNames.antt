-- A name is defined in a pass's result as in the given objects: by the same symbol, or by the same number.
use Rattle.std.proofs.Common.{◌≡◌, ℕ, ◌+◌, List, refl, sym, Bool, true, false, eqb, Option, Some, None, subst}
use Rattle.std.specs.Prelude.{◌&&◌, not}
use Rattle.std.specs.Option.{option_map, option_or}
use Rattle.elf32_read.specs.Parts.{SymbolParts}
use Rattle.psabi_sym.specs.Data.{common_address}
use Rattle.psabi_sym.specs.Indexed.{IndexedSymbol}
use Rattle.psabi_sym.specs.Inputs.{ParsedInputs}
use Rattle.psabi_sym.specs.Names.{is_common, is_definition, same_name, strong_definition, weak_definition}
use Rattle.psabi_sym.specs.Resolve.{Definition, linker_number, linker_numbers, name_definition}
use Rattle.psabi_sym.specs.Resolve.Definition.{InObject, AtNumber}
use Rattle.psabi_sym.specs.declared.data_class.DataClass.TheVariants.{SmallData, SmallZero, Common}
use Rattle.moved_runs.specs.Passes.{ArePassed, Pass}
use Rattle.moved_runs.proofs.PassZips.{ZipOption, BothNone, BothSome}
use Rattle.moved_runs.proofs.PassSymbols.{IsPassedSymbol}
use Rattle.moved_runs.proofs.PassData.{class_end-same, class_start-same, common_address-same, first-definition-same}

module _ (pass : Pass) (inputs result : ParsedInputs) (passes : ArePassed pass inputs result) where
  linker-same : linker_numbers result ≡ linker_numbers inputs
  linker-same =
      let a = class_start-same pass inputs result passes SmallData in
      let b = class_start-same pass inputs result passes SmallZero in
      let c = class_end-same pass inputs result passes Common in
      λ i. record { global_pointer = a i + 0x800; bss_start = b i; end = c i; stack_top = (passes.map i).stack_high }

  -- what defines a name in the result
  pub data SameDefinition : Option Definition → Option Definition → Type 0 where
    Undefined : SameDefinition None None
    Numbered : (n : ℕ) → SameDefinition (Some (AtNumber n)) (Some (AtNumber n))
    Defined : (l m : IndexedSymbol) → IsPassedSymbol pass inputs.objects l m → eqb l.symbol.home 0 ≡ false → SameDefinition (Some (InObject l)) (Some (InObject m))

  definition-homed : (bind : ℕ) (s : SymbolParts) (name : List ℕ) → (is_definition bind s && same_name s.name name) ≡ true → eqb s.home 0 ≡ false
  definition-homed bind s name h = by (eqb s.bind bind) (eqb s.home 0) (is_common s) (same_name s.name name) h
    where
      by : (a b c d : Bool) → (a && not b && not c && d) ≡ true → b ≡ false
      by true false c d h = refl
      by true true c d h = absurd cc
      by false b c d h = absurd cc

  pub definition-same : (name : List ℕ) → SameDefinition (name_definition inputs name) (name_definition result name)
  unfolding name_definition
  definition-same name =
      subst (λ c. SameDefinition (name_definition inputs name) (option_or (option_map InObject (strong_definition result.objects name)) (option_or (option_map AtNumber c) (option_or (option_map InObject (weak_definition result.objects name)) (option_map AtNumber (linker_number (linker_numbers result) name))))))
      (sym (common_address-same pass inputs result passes name))
      (subst (λ n. SameDefinition (name_definition inputs name) (option_or (option_map InObject (strong_definition result.objects name)) (option_or (option_map AtNumber (common_address inputs name)) (option_or (option_map InObject (weak_definition result.objects name)) (option_map AtNumber (linker_number n name))))))
      (sym linker-same)
      (strong (strong_definition inputs.objects name) (strong_definition result.objects name) (common_address inputs name) (first-definition-same pass inputs.objects result.objects passes.objects 1 name)))
    where
      linked : (n : Option ℕ) → SameDefinition (option_map AtNumber n) (option_map AtNumber n)
      linked None = Undefined
      linked (Some n) = Numbered n

      weak : (a b : Option IndexedSymbol) (n : Option ℕ) → ZipOption (λ l m. IsPassedSymbol pass inputs.objects l m × ((is_definition 2 l.symbol && same_name l.symbol.name name) ≡ true)) a b
          → SameDefinition (option_or (option_map InObject a) (option_map AtNumber n)) (option_or (option_map InObject b) (option_map AtNumber n))
      weak a b n BothNone = linked n
      weak a b n (BothSome l m c) = Defined l m c.0 (definition-homed 2 l.symbol name c.1)

      common : (n : Option ℕ) → SameDefinition (option_or (option_map AtNumber n) (option_or (option_map InObject (weak_definition inputs.objects name)) (option_map AtNumber (linker_number (linker_numbers inputs) name))))
          (option_or (option_map AtNumber n) (option_or (option_map InObject (weak_definition result.objects name)) (option_map AtNumber (linker_number (linker_numbers inputs) name))))
      common None = weak (weak_definition inputs.objects name) (weak_definition result.objects name) (linker_number (linker_numbers inputs) name) (first-definition-same pass inputs.objects result.objects passes.objects 2 name)
      common (Some n) = Numbered n

      strong : (a b : Option IndexedSymbol) (n : Option ℕ) → ZipOption (λ l m. IsPassedSymbol pass inputs.objects l m × ((is_definition 1 l.symbol && same_name l.symbol.name name) ≡ true)) a b
          → SameDefinition (option_or (option_map InObject a) (option_or (option_map AtNumber n) (option_or (option_map InObject (weak_definition inputs.objects name)) (option_map AtNumber (linker_number (linker_numbers inputs) name)))))
          (option_or (option_map InObject b) (option_or (option_map AtNumber n) (option_or (option_map InObject (weak_definition result.objects name)) (option_map AtNumber (linker_number (linker_numbers inputs) name)))))
      strong a b n BothNone = common n
      strong a b n (BothSome l m c) = Defined l m c.0 (definition-homed 1 l.symbol name c.1)
