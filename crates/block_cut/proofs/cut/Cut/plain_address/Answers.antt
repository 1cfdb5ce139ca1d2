use Rattle.std.proofs.Common.{ap, ◌∙◌}
use Rattle.psabi_sym.specs.Inputs.{parsed}
use Rattle.block_cut.specs.PlainLayout.{plain_address}
use Rattle.block_cut.proofs.cut.Cut.plain_address.Goals as goal

pub returns : goal.returns
returns c =
    c.address.ensures
    ∙ ap (λ v. plain_address (parsed v) c.args.p) c.self.view_is
