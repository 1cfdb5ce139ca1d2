-- A slot that is no hole leads to a place that images list, and so to one that has an address.
use Rattle.std.proofs.Common.{refl, sym, ◌∙◌, subst}
use Rattle.std.specs.Option.{IsSome}
use Rattle.psabi_sym.specs.Inputs.{parsed}
use Rattle.shrink_layout.specs.Units.{IsTargetSlot}
use Rattle.shrink_layout.proofs.PlaceAddressLaws.{address_there}
use Rattle.zc_link.proofs.front.slot_value.Goals as goal

pub unwrap-requires : goal.unwrap-requires
unwrap-requires c =
    let settled = c.args.settled.now in
    let listed = subst (IsTargetSlot (parsed settled.inputs)) c.in-Some.is c.requires in
    subst IsSome (sym (c.address.ensures ∙ address_there (parsed settled.inputs) settled.slots c.in-Some.p listed)) refl
