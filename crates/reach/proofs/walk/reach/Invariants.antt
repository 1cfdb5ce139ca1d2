use Rattle.reach.specs.Invariants.{IsUnderWay, walk_left}
use Rattle.reach.proofs.walk.reach.Given as goal

abbrev pub invariant-loop-node : goal.invariant-loop-node
invariant-loop-node l = IsUnderWay l.graph l.roots l.walk

abbrev pub decreases-loop-node : goal.decreases-loop-node
decreases-loop-node l = walk_left l.walk
