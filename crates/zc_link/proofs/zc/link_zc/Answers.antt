-- The inputs of the layout without a table are the objects.
use Rattle.std.proofs.Common.{subst}
use Rattle.psabi_sym.specs.Inputs.{Inputs}
use Rattle.zc_link.specs.Links.{IsZcLink}
use Rattle.zc_link.proofs.zc.link_zc.Goals as goal

pub returns-clause-link : goal.returns-clause-link
returns-clause-link c = subst (λ (x : Inputs). IsZcLink x c.in_ok-linked.linked) c.in_ok-first.ensures.same c.in_ok-linked.ensures.link
