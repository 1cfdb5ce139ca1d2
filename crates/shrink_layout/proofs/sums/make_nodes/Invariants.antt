use Rattle.shrink_layout.proofs.SumNodes.{AreBegun}
use Rattle.shrink_layout.proofs.sums.make_nodes.Given as goal

abbrev pub invariant-loop-i : goal.invariant-loop-i
invariant-loop-i l = AreBegun l.fn.nodes l.nodes l.i
