use Rattle.std.proofs.Common.{◌≡◌, take, map}
use Rattle.std.specs.List.{range_with_len}
use Rattle.psabi_sym.specs.Invariants.Rows.{row_common_block}
use Rattle.psabi_sym.proofs.name_tables.common_blocks.Given as goal

abbrev pub invariant-loop-row : goal.invariant-loop-row
invariant-loop-row l = l.table.items ≡ map (row_common_block (take l.row-index l.rows)) (range_with_len 0 l.count)
