use Rattle.std.proofs.Common.{◌≡◌, take, map}
use Rattle.std.specs.List.{range_with_len}
use Rattle.psabi_sym.specs.Invariants.Meanings.{row_meaning}
use Rattle.psabi_sym.specs.Invariants.Rows.{first_row}
use Rattle.psabi_sym.proofs.name_tables.weak_meanings.Given as goal

abbrev pub invariant-loop-row : goal.invariant-loop-row
invariant-loop-row l = l.table.items ≡ map row_meaning (map (first_row 2 (take l.row-index l.rows)) (range_with_len 0 l.count))
