-- The text ends where the last piece does.
use Rattle.std.proofs.Common.{◌≡◌, ◌∙◌, length, ap, arith}
use Rattle.psabi_sym.specs.Inputs.{parsed}
use Rattle.shrink_layout.specs.Pieces.{pieces_of}
use Rattle.shrink_layout.specs.Settled.{SettledLayout}
use Rattle.shrink_layout.proofs.KeptLaws.{end_is, widths_long}
use Rattle.shrink_layout.proofs.settled.Settled.text_end.Goals as goal
use Rattle.shrink_layout.proofs.settled.Settled.text_end.Goals.{After-count}

all : (c : After-count) → c.count.result ≡ length (pieces_of (parsed c.args.self.now.inputs) c.args.self.now.slots)
all c =
    let own = c.self.inside in
    c.count.ensures ∙ ap length c.self.invariant.sums_are ∙ widths_long (parsed own.planned) own.slots.items
    ∙ ap (λ (x : SettledLayout). length (pieces_of (parsed x.inputs) x.slots)) c.self.view_is

pub piece_address-requires : goal.piece_address-requires
piece_address-requires c = omega (arith, all c)

pub returns : goal.returns
returns c =
    let a = (goal.at.returns c).After-count in
    let inputs = parsed c.args.self.now.inputs in
    let slots = c.args.self.now.slots in
    c.piece_address.ensures ∙ end_is inputs slots c.count.result (all a)
