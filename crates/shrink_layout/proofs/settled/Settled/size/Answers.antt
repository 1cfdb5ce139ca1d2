use Rattle.std.proofs.Common.{◌≡◌, ◌+◌, ◌-◌, Some, None, is_some, not, length, slice_index, sym, ap, ◌∙◌, arith}
use Rattle.psabi_sym.specs.Inputs.{parsed}
use Rattle.block_cut.specs.Items.{item_at}
use Rattle.shrink_layout.specs.Pieces.{piece_number_at}
use Rattle.shrink_layout.specs.Settled.{SettledLayout, settled_addresses, settled_size}
use Rattle.shrink_layout.specs.Units.{is_inside}
use Rattle.shrink_layout.proofs.KeptLaws.{below_by, size_by, width_is, widths_long}
use Rattle.shrink_layout.proofs.PlaceAddressLaws.{size_inside, size_without}
use Rattle.shrink_layout.proofs.settled.Settled.size.Goals.{then-is_none-via-then-is_none, then-is_none-via-else-is_none+then-is_inside}
use Rattle.shrink_layout.proofs.settled.Settled.size.Goals as goal

pub size-requires : goal.size-requires
size-requires c =
    let own = c.self.inside in
    let is = c.self.invariant in
    let q = c.args.p in
    let found = c.item.ensures.item ∙ ap (λ x. item_at (parsed x) q) c.cut.ensures.same in
    let below = below_by own.planned is.faultless own.slots.items q (ap is_some (sym found) ∙ c.if-is_none.ensures) in
    let number = c.piece_number_at-k.ensures ∙ ap (λ (x : SettledLayout). piece_number_at (parsed x.inputs).objects q) (sym c.self.view_is) in
    omega (arith, number, below, ap length is.sums_are, widths_long (parsed own.planned) own.slots.items)

pub returns-then-is_none : goal.returns-then-is_none
returns-then-is_none c =
    let own = c.self.inside in
    let q = c.args.p in
    let given = parsed own.planned in
    let found = c.item.ensures.item ∙ ap (λ x. item_at (parsed x) q) c.cut.ensures.same in
    let none : settled_size given own.slots.items q ≡ None = elim c.then-is_none.branch [
      | then-is_none-via-then-is_none w ↦ size_without given own.slots.items q (ap is_some (sym found) ∙ c.is_none.ensures ∙ ap not w.if-is_none.true)
      | then-is_none-via-else-is_none+then-is_inside w ↦ size_inside given own.slots.items q (ap (λ (x : SettledLayout). is_inside (parsed x.inputs) q) c.self.view_is ∙ sym w.is_inside.ensures ∙ w.if-is_inside.true)
    ] in
    sym none ∙ ap (λ (x : SettledLayout). settled_size (parsed x.inputs) x.slots q) c.self.view_is

pub returns : goal.returns
returns c =
    let own = c.self.inside in
    let is = c.self.invariant in
    let q = c.args.p in
    let k = c.piece_number_at-k.result in
    let inputs = parsed own.planned in
    let found = c.item.ensures.item ∙ ap (λ x. item_at (parsed x) q) c.cut.ensures.same in
    let some = ap is_some (sym found) ∙ c.if-is_none.ensures in
    let below = below_by own.planned is.faultless own.slots.items q some in
    let number = c.piece_number_at-k.ensures ∙ ap (λ (x : SettledLayout). piece_number_at (parsed x.inputs).objects q) (sym c.self.view_is) in
    let size : c.size.result ≡ slice_index (settled_addresses inputs own.slots.items) (k + 1) - slice_index (settled_addresses inputs own.slots.items) k =
    c.size.ensures ∙ ap (λ l. slice_index l k) is.sums_are ∙ width_is inputs own.slots.items k (omega (arith, number, below)) in
    ap Some (size ∙ ap (λ n. slice_index (settled_addresses inputs own.slots.items) (n + 1) - slice_index (settled_addresses inputs own.slots.items) n) number)
    ∙ sym (size_by inputs own.slots.items q some (ap (λ (x : SettledLayout). is_inside (parsed x.inputs) q) c.self.view_is ∙ sym c.is_inside.ensures ∙ c.if-is_inside.false))
    ∙ ap (λ (x : SettledLayout). settled_size (parsed x.inputs) x.slots q) c.self.view_is
