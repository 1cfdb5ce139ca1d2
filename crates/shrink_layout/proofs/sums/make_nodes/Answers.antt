use Rattle.std.proofs.Common.{arith}
use Rattle.shrink_layout.proofs.SumNodes.{both_most, none_added, one_added}
use Rattle.shrink_layout.proofs.sums.make_nodes.Goals as goal
use Rattle.shrink_layout.proofs.sums.make_nodes.Goals.{then-above-nodes, else-above-nodes}

pub overflow_add-nodes : goal.overflow_add-nodes
overflow_add-nodes c =
    let most = both_most _ _ c.loop-i.i c.low_power.result c.loop-i.invariant c.low_power.ensures.power (omega (arith, c.if-above-nodes.true, c.loop-i.invariant.same)) (omega arith) in
    omega (arith, most, c.requires)

pub loop-i-preserved : goal.loop-i-preserved
loop-i-preserved c = elim c.if-above-nodes.branch [
  | then-above-nodes w ↦ one_added _ _ _ c.loop-i.i c.low_power.result c.loop-i.invariant c.low_power.ensures.power (omega (arith, w.if-above-nodes.true, c.loop-i.invariant.same)) w.nodes-is
  | else-above-nodes w ↦ none_added _ _ _ c.loop-i.i c.low_power.result c.loop-i.invariant c.low_power.ensures.power (omega (arith, w.if-above-nodes.false, c.loop-i.invariant.same)) w.nodes-is
]
