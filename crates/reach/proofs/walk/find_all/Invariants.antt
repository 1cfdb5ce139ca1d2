use Rattle.std.proofs.Common.{take}
use Rattle.reach.specs.Invariants.{Found, is_among}
use Rattle.reach.proofs.walk.find_all.Given as goal

abbrev pub invariant-loop-node : goal.invariant-loop-node
invariant-loop-node l = Found (is_among (take l.node-index l.nodes)) l.initial.walk l.walk
