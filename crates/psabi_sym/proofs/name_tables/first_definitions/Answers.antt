use Rattle.std.proofs.Common.{rules, [], None, refl, ◌∙◌}
use Rattle.psabi_sym.specs.Invariants.Rows.{first_row}
use Rattle.psabi_sym.proofs.Tables.{table_start}
use Rattle.psabi_sym.proofs.name_tables.first_definitions.Goals as goal

pub loop-row-init : goal.loop-row-init
loop-row-init c = c.in_ok-table.ensures.items_if_clones_equal (λ y h. search rules) ∙ table_start (first_row c.args.bind []) c.args.count None (λ k. refl)
