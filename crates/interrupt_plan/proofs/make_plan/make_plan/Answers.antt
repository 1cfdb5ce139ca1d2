use Rattle.std.proofs.Common.{arith}
use Rattle.interrupt_plan.proofs.MadeLaws.{drawn_few, drawn_order}
use Rattle.interrupt_plan.proofs.make_plan.make_plan.Goals as goal

pub new-requires-clause-few : goal.new-requires-clause-few
new-requires-clause-few c =
    let count = drawn_few c.loop-i.cuts.items c.args.number c.args.count c.loop-i._i c.loop-i.at c.loop-i.draws c.loop-i-test.false c.loop-i.invariant.cuts in
    omega (arith, count)

pub new-requires-clause-in_order : goal.new-requires-clause-in_order
new-requires-clause-in_order c =
    drawn_order c.loop-i.cuts.items c.args.number c.args.count c.loop-i._i c.loop-i.at c.loop-i.draws c.loop-i-test.false c.loop-i.invariant.cuts
