use Rattle.std.proofs.Common.{◌<◌, ◌≡◌, ℕ, List, All, Option, true, map, sym, subst, ap, ◌∙◌}
use Rattle.std.specs.List.{find, range_with_len}
use Rattle.std.specs.Option.{option_map}
use Rattle.elf32_read.specs.declared.fault.Fault.{Fault}
use Rattle.elf32_read.specs.declared.fault.Fault.TheVariants.{Duplicate}
use Rattle.elf32_read.specs.Parts.{ObjectParts}
use Rattle.psabi_sym.specs.Faults.{duplicate_fault, is_second}
use Rattle.psabi_sym.specs.Indexed.{all_symbols}
use Rattle.psabi_sym.specs.Invariants.Numbered.{IsNumbered}
use Rattle.psabi_sym.specs.Invariants.Rows.{first_row, row_defines, row_is_second}
use Rattle.psabi_sym.specs.declared.symbol_row.SymbolRow.{SymbolRow}
use Rattle.psabi_sym.proofs.BridgeLaws.{duplicate_is}
use Rattle.psabi_sym.proofs.FaultLaws.{fault_of}
use Rattle.psabi_sym.proofs.Tables.{table_count}
use Rattle.psabi_sym.proofs.named.strong_definitions.Goals as goal

-- what was found to be defined twice is the fault
duplicate : {names : List (List ℕ)} (objects : List ObjectParts) {rows : List SymbolRow} {result found : Option (ℕ × ℕ)} → IsNumbered names (all_symbols objects) rows
    → result ≡ option_map (λ r. (r.object, r.index)) (find (row_is_second rows) rows) → result ≡ found → duplicate_fault objects ≡ option_map {T = ℕ × ℕ} {U = ℕ × Fault} (λ p. (p.0, Duplicate p.1)) found
unfolding duplicate_fault
duplicate {names} objects numbered searched is =
    fault_of (λ s. Duplicate s) (find (is_second objects) (all_symbols objects))
    ∙ ap (option_map {T = ℕ × ℕ} {U = ℕ × Fault} (λ p. (p.0, Duplicate p.1)))
    (sym (searched ∙ ap (λ (r : List SymbolRow). option_map {U = ℕ × ℕ} (λ s. (s.object, s.index)) (find (row_is_second r) r)) numbered.rows_are ∙ duplicate_is names objects numbered.numbered)
    ∙ is)

pub first_duplicate-requires-clause-named : goal.first_duplicate-requires-clause-named
first_duplicate-requires-clause-named c =
    subst (λ n. All (λ (r : SymbolRow). row_defines 1 r ≡ true → r.name < n) c.args.rows.now) (sym (table_count _ (c.deref.ensures.value ∙ c.in_ok-strong.ensures))) c.requires

pub first_duplicate-requires-clause-strong : goal.first_duplicate-requires-clause-strong
first_duplicate-requires-clause-strong c =
    let strong = c.deref.ensures.value ∙ c.in_ok-strong.ensures in
    strong ∙ (λ j. map (first_row 1 c.args.rows.now) (range_with_len 0 (sym (table_count _ strong) j)))

pub returns-in-Some-clause-err : goal.returns-in-Some-clause-err
returns-in-Some-clause-err c = λ names objects numbered. duplicate objects numbered c.first_duplicate.ensures c.in-Some.is

pub returns-clause-once : goal.returns-clause-once
returns-clause-once c = λ names objects numbered. duplicate objects numbered c.first_duplicate.ensures c.in_default.is
