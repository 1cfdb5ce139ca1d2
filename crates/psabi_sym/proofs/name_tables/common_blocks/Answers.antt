use Rattle.std.proofs.Common.{rules, refl, ◌∙◌, []}
use Rattle.psabi_sym.specs.Invariants.Rows.{no_block, row_common_block}
use Rattle.psabi_sym.proofs.Tables.{table_start}
use Rattle.psabi_sym.proofs.name_tables.common_blocks.Goals as goal

pub loop-row-init : goal.loop-row-init
loop-row-init c = c.in_ok-table.ensures.items_if_clones_equal (λ y h. search rules) ∙ table_start (row_common_block []) c.args.count no_block (λ k. refl)
