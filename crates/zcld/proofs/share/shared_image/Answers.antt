-- Objects that aren't linked, and a plan that isn't had.
use Rattle.std.proofs.Common.{ap}
use Rattle.std.proofs.lemmas.Result.{err_from_is_err_and}
use Rattle.block_cut.specs.Faults.{first_fault}
use Rattle.interrupt_plan.specs.Text.{shared_in}
use Rattle.zcld.specs.Objects.{refused_for}
use Rattle.zcld.proofs.Refusals.{names_nothing}
use Rattle.zcld.proofs.RunFacts.{unplanned}
use Rattle.zcld.proofs.share.shared_image.Goals as goal

pub returns-in_err-linked-clause-line : goal.returns-in_err-linked-clause-line
returns-in_err-linked-clause-line c =
    let p = err_from_is_err_and c.from_residual-in_err-linked.result c.from_residual-in_err-linked.ensures.1 in
    rw (p.1, p.2) (names_nothing c.args.objects c.in_err-linked.field-0.0 c.requires c.in_err-linked.ensures.err)

pub returns-in_err-plan-clause-err : goal.returns-in_err-plan-clause-err
returns-in_err-plan-clause-err c =
    let p = err_from_is_err_and c.from_residual-in_err-plan.result c.from_residual-in_err-plan.ensures.1 in
    rw (p.1, p.2)
    (unplanned (refused_for (first_fault c.args.objects)) (shared_in c.args.text.now) c.in_err-plan.field-0.0 (ap refused_for c.in_ok-linked.ensures.faultless) c.in_err-plan.ensures.err)
