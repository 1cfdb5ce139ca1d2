-- The bytes of what is written at a place are those of its piece.
use Rattle.std.proofs.Common.{◌≡◌, ◌∙◌, ◌+◌, ◌-◌, length, slice_index, ap, arith}
use Rattle.std.proofs.lemmas.Bool.{or_left}
use Rattle.psabi_sym.specs.Inputs.{parsed}
use Rattle.block_cut.specs.Items.{is_end_at, is_start_at}
use Rattle.shrink_layout.specs.Settled.{SettledLayout, settled_addresses, settled_widths}
use Rattle.shrink_layout.proofs.KeptLaws.{width_is, widths_long}
use Rattle.shrink_layout.proofs.PlaceAddressLaws.{size_found}
use Rattle.shrink_layout.proofs.settled.Settled.size_at.Goals as goal
use Rattle.shrink_layout.proofs.settled.Settled.size_at.Goals.{After-piece_at}

sums : (c : After-piece_at) → c.self.inside.sums ≡ settled_widths (parsed c.args.self.now.inputs) c.args.self.now.slots
sums c = c.self.invariant.sums_are ∙ ap (λ (x : SettledLayout). settled_widths (parsed x.inputs) x.slots) c.self.view_is

pub size-requires : goal.size-requires
size-requires c = omega (arith, c.piece_at.ensures.item c.requires, ap length (sums c), widths_long (parsed c.args.self.now.inputs) c.args.self.now.slots)

pub returns : goal.returns
returns c = λ q size is has.
    let a = (goal.at.returns c).After-piece_at in
    let inputs = parsed c.args.self.now.inputs in
    let slots = c.args.self.now.slots in
    let k = c.piece_at.result in
    let found = size_found inputs slots q size is in
    let number = c.piece_at.ensures.known q (or_left (is_start_at inputs.objects q) (is_end_at inputs.objects q) found.0) has in
    c.size.ensures ∙ ap (λ l. slice_index l k) (sums a) ∙ width_is inputs slots k (c.piece_at.ensures.item (q, found.0, has))
    ∙ ap (λ n. slice_index (settled_addresses inputs slots) (n + 1) - slice_index (settled_addresses inputs slots) n) number
    ∙ found.1
