use Rattle.std.proofs.Common.{◌∙◌}
use Rattle.load_maker.specs.declared.statement.Statement.TheVariants.{Plain}
use Rattle.load_maker.proofs.TurnLaws.{mapped}
use Rattle.load_maker.proofs.functions.push_all.Goals as goal

pub loop-i-preserved : goal.loop-i-preserved
loop-i-preserved c =
    c.in_ok-push.ensures.items
    ∙ mapped c.args.instrs.now c.loop-i.i-index c.i-item.result c.loop-i-test.true c.i-item.is Plain c.args.out.now.items c.loop-i.out.items c.loop-i.invariant
