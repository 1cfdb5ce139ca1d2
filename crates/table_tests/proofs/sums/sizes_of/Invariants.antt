use Rattle.std.proofs.Common.{◌≡◌, take}
use Rattle.table_tests.proofs.sums.sizes_of.Given as goal

abbrev pub invariant-loop-i : goal.invariant-loop-i
invariant-loop-i l = l.sizes.items ≡ take l.i l.sums
