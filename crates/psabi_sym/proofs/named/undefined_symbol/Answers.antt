use Rattle.std.proofs.Common.{◌≡◌, ℕ, List, Bool, Option, eqb, length, map, refl, ap, sym, ◌∙◌}
use Rattle.std.specs.List.{find, zip}
use Rattle.std.specs.Option.{option_map}
use Rattle.std.proofs.lemmas.List.{length-map}
use Rattle.elf32_read.specs.declared.fault.Fault.{Fault}
use Rattle.elf32_read.specs.declared.fault.Fault.TheVariants.{Undefined}
use Rattle.elf32_read.specs.Parts.{object_parts}
use Rattle.psabi_sym.specs.Faults.{is_missing, is_used, undefined_fault}
use Rattle.psabi_sym.specs.Inputs.{ParsedInputs}
use Rattle.psabi_sym.specs.Indexed.{all_symbols}
use Rattle.psabi_sym.specs.Invariants.Meanings.{row_is_missing}
use Rattle.psabi_sym.specs.Invariants.Rows.{symbol_row}
use Rattle.psabi_sym.specs.Invariants.Tables.{AreNamed}
use Rattle.psabi_sym.specs.declared.meaning.Meaning.{Meaning}
use Rattle.psabi_sym.specs.declared.symbol_row.SymbolRow.{SymbolRow}
use Rattle.psabi_sym.proofs.DefinedLaws.{undefined_is}
use Rattle.psabi_sym.proofs.FaultLaws.{fault_of}
use Rattle.psabi_sym.proofs.NumberLaws.{global_row_goes}
use Rattle.psabi_sym.proofs.NumberedLaws.{named_rows}
use Rattle.psabi_sym.proofs.named.undefined_symbol.Goals as goal

-- what was found to be missing is the fault
undefined : {inputs : ParsedInputs} {rows : List SymbolRow} {meanings : List Meaning} {used : List Bool} {found : Option (ℕ × ℕ)} → AreNamed inputs rows meanings
    → used ≡ map (is_used inputs.objects) (all_symbols inputs.objects) → found ≡ option_map (λ e. (e.0.object, e.0.index)) (find (row_is_missing meanings) (zip rows used))
    → undefined_fault inputs ≡ option_map {T = ℕ × ℕ} {U = ℕ × Fault} (λ p. (p.0, Undefined p.1)) found
unfolding undefined_fault
undefined {inputs} {meanings = meanings} named used searched =
    fault_of (λ s. Undefined s) (find (is_missing inputs) (all_symbols inputs.objects))
    ∙ ap (option_map {T = ℕ × ℕ} {U = ℕ × Fault} (λ p. (p.0, Undefined p.1)))
    (sym (searched
    ∙ (λ j. option_map {T = SymbolRow × Bool} {U = ℕ × ℕ} (λ e. (e.0.object, e.0.index)) (find (row_is_missing meanings) (zip (named.numbered.rows_are j) (used j))))
    ∙ undefined_is named.names inputs named.numbered.numbered meanings named.meant))

pub first_undefined-requires-clause-same_length : goal.first_undefined-requires-clause-same_length
first_undefined-requires-clause-same_length c =
    let own = c.requires.1 in
    let objects = map object_parts c.args.objects.now in
    ap length (c.deref.ensures.value ∙ c.in_ok-used.ensures) ∙ length-map (all_symbols objects) (is_used objects)
    ∙ sym (ap length own.numbered.rows_are ∙ length-map (all_symbols objects) (symbol_row own.names))

pub first_undefined-requires-clause-named : goal.first_undefined-requires-clause-named
first_undefined-requires-clause-named c =
    let own = c.requires.1 in
    named_rows (λ r. eqb r.bind 1) global_row_goes own.numbered refl (sym own.count)

pub returns : goal.returns
returns c = λ options named. undefined named (c.deref.ensures.value ∙ c.in_ok-used.ensures) c.first_undefined.ensures
