use Rattle.std.proofs.Common.{arith, refl}
use Rattle.shrink_layout.proofs.SumChanges.{holds_size, new_node-le, change_goes_on}
use Rattle.shrink_layout.proofs.sums.update.Goals as goal

pub overflow_sub-nodes : goal.overflow_sub-nodes
overflow_sub-nodes c =
    (holds_size _ _ _ _ _ _ c.loop-k.invariant c.low_power-step.ensures.power (omega (arith, c.loop-k-test.true, c.loop-k.invariant.same))).1

pub overflow_add-nodes : goal.overflow_add-nodes
overflow_add-nodes c =
    let le = new_node-le c.args.sizes.now c.loop-k.nodes c.args.i c.args.size c.loop-k.k _ c.loop-k.invariant c.low_power-step.ensures.power (omega (arith, c.loop-k-test.true, c.loop-k.invariant.same)) in
    omega (arith, le, c.requires.room)

pub loop-k-preserved : goal.loop-k-preserved
loop-k-preserved c =
    change_goes_on _ _ _ _ _ _ _ c.loop-k.invariant c.low_power-step.ensures.power (omega (arith, c.loop-k-test.true, c.loop-k.invariant.same)) refl
