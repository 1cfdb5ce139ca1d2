use Rattle.std.proofs.Common.{◌≡◌, drop}
use Rattle.std.specs.List.{find, zip}
use Rattle.psabi_sym.specs.Invariants.Meanings.{row_is_missing}
use Rattle.psabi_sym.proofs.meaning.first_undefined.Given as goal

abbrev pub invariant-loop-i : goal.invariant-loop-i
invariant-loop-i l = find (row_is_missing l.meanings) (zip l.rows l.used) ≡ find (row_is_missing l.meanings) (zip (drop l.i l.rows) (drop l.i l.used))
