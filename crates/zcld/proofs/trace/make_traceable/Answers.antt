-- Objects that aren't cut, and devices that aren't had.
use Rattle.std.proofs.lemmas.Result.{err_from_is_err_and}
use Rattle.zcld.proofs.Refusals.{names_nothing}
use Rattle.zcld.proofs.trace.make_traceable.Goals as goal

pub returns-in_err-cut-clause-line : goal.returns-in_err-cut-clause-line
returns-in_err-cut-clause-line c =
    let p = err_from_is_err_and c.from_residual.result c.from_residual.ensures.1 in
    rw (p.1, p.2) (names_nothing c.args.objects c.in_err-cut.field-0.0 c.requires c.in_err-cut.ensures.err)
