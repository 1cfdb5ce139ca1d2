use Rattle.std.proofs.Common.{◌≡◌, ◌<◌, ◌^◌, take}
use Rattle.std.specs.List.{sum}
use Rattle.table_tests.proofs.sums.are_small.Given as goal

abbrev pub invariant-loop-size : goal.invariant-loop-size
invariant-loop-size l = record { value : l.total ≡ sum (take l.size-index l.sizes); fits : l.total < 2 ^ 32 }
