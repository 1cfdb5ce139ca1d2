use Rattle.std.proofs.Common.{◌++◌, ap, ◌∙◌}
use Rattle.load_maker.proofs.TurnLaws.{joined}
use Rattle.load_maker.proofs.objects.all_statements.Goals as goal

pub loop-body-preserved : goal.loop-body-preserved
loop-body-preserved c =
    c.in_ok-extend_from_slice.ensures.items ∙ ap (λ l. c.loop-body.statements.items ++ l) (c.deref.ensures.value ∙ c.body.view_is)
    ∙ joined c.args.bodies.now c.loop-body.body-index c.body-item.result c.loop-body.statements.items c.loop-body-test.true c.body-item.is c.loop-body.invariant
