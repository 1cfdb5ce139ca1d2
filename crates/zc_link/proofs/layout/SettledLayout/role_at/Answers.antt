-- What is written for an item follows from its slot and from what it is to groups.
use Rattle.std.proofs.Common.{◌≡◌, Some, true, ap, subst}
use Rattle.std.specs.Option.{option_and_then}
use Rattle.psabi_sym.specs.Inputs.{Inputs, parsed}
use Rattle.block_cut.specs.Items.{is_start_at, item_at}
use Rattle.block_cut.specs.Places.{IsPlaceNumber}
use Rattle.frame_match.specs.Groups.{role_at}
use Rattle.shrink_layout.specs.Pieces.{slot_at}
use Rattle.shrink_layout.specs.Units.{role_unit}
use Rattle.zc_link.proofs.layout.SettledLayout.role_at.Goals as goal

pub returns : goal.returns
returns c = λ q start number.
    let p = parsed c.args.self.now.inputs in
    let slot = slot_at p c.args.self.now.slots q in
    let role = subst (λ (x : Inputs). is_start_at (parsed x).objects q ≡ true → IsPlaceNumber (parsed x).objects q c.args.number → role_at (parsed x) q ≡ Some c.role_at.result)
    c.planned.ensures.same (c.role_at.ensures q) in
    (slot, ap (option_and_then (role_unit slot (item_at p q))) (role start number))
