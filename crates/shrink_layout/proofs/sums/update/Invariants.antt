use Rattle.std.proofs.Common.{◌+◌, ◌-◌, length}
use Rattle.shrink_layout.proofs.SumChanges.{IsHalfway}
use Rattle.shrink_layout.proofs.sums.update.Given as goal

abbrev pub invariant-loop-k : goal.invariant-loop-k
invariant-loop-k l = IsHalfway l.sizes l.nodes l.i l.size l.k

abbrev pub decreases-loop-k : goal.decreases-loop-k
decreases-loop-k l = length l.nodes + 1 - l.k
