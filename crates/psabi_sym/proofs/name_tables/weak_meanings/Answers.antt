use Rattle.std.proofs.Common.{rules, [], refl, sym, ◌∙◌}
use Rattle.std.specs.List.{range_with_len}
use Rattle.psabi_sym.specs.Invariants.Meanings.{row_meaning}
use Rattle.psabi_sym.specs.Invariants.Rows.{first_row}
use Rattle.psabi_sym.specs.declared.meaning.Meaning.TheVariants.{Nothing}
use Rattle.psabi_sym.proofs.BridgeLaws.{map-map}
use Rattle.psabi_sym.proofs.Tables.{table_start}
use Rattle.psabi_sym.proofs.name_tables.weak_meanings.Goals as goal

pub loop-row-init : goal.loop-row-init
loop-row-init c =
    c.in_ok-table.ensures.items_if_clones_equal (λ y h. search rules) ∙ table_start (λ k. row_meaning (first_row 2 [] k)) c.args.count Nothing (λ k. refl)
    ∙ sym (map-map row_meaning (first_row 2 []) (range_with_len 0 c.args.count))
