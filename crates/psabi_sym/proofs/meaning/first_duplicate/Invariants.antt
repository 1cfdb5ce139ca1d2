use Rattle.std.proofs.Common.{◌≡◌, drop}
use Rattle.std.specs.List.{find}
use Rattle.psabi_sym.specs.Invariants.Rows.{row_is_second}
use Rattle.psabi_sym.proofs.meaning.first_duplicate.Given as goal

abbrev pub invariant-loop-row : goal.invariant-loop-row
invariant-loop-row l = find (row_is_second l.rows) l.rows ≡ find (row_is_second l.rows) (drop l.row-index l.rows)
