-- The objects of a settled layout are a cut, which is ready for a link: so the layout is one that a link may have.
use Rattle.std.proofs.Common.{◌∙◌, subst}
use Rattle.zc_link.specs.Standing.{IsReady}
use Rattle.zc_link.proofs.SettledLaws.{settled_is_laid_out}
use Rattle.zc_link.proofs.layout.SettledLayout.cut.Goals as goal

pub returns-clause-laid : goal.returns-clause-laid
returns-clause-laid c =
    let ready = subst IsReady (c.cut.ensures.same ∙ c.planned.ensures.same) c.cut-2.ensures.ready in
    settled_is_laid_out c.args.self.now.inputs ready.faultless ready.is_map c.args.self.now.slots c.recall_invariant.ensures.targets.few
