-- A cut's objects have no fault, and their map is one that a link may be made for: so the plain layout is one that a link may have.
use Rattle.zc_link.proofs.PlainLaws.{plain_is_laid_out}
use Rattle.zc_link.proofs.layout.CutLayout.cut.Goals as goal

pub returns-clause-laid : goal.returns-clause-laid
returns-clause-laid c = plain_is_laid_out c.args.self.now (record { faultless = c.recall_invariant.ensures.faultless; is_map = c.recall_invariant.ensures.is_map })
