-- The slots of an accepted certificate lead to places of code.
use Rattle.std.proofs.Common.{◌∙◌, List, ap, sym, subst}
use Rattle.jumptable_pick.specs.Slots.{slot_places}
use Rattle.pick_check.specs.Certified.{IsAccepted}
use Rattle.pick_check.specs.declared.saving.Saving.{Saving}
use Rattle.psabi_sym.specs.Inputs.{parsed}
use Rattle.shrink_layout.specs.Units.{AreTargetSlots}
use Rattle.zc_link.proofs.BestTable.{slots_led}
use Rattle.zc_link.proofs.zc.with_table.Goals as goal

pub settle_with-requires-clause-targets : goal.settle_with-requires-clause-targets
settle_with-requires-clause-targets c =
    let inputs = c.args.first.inputs in
    let certificate = c.args.certificate.now in
    let accepted = subst (λ (s : List Saving). IsAccepted s certificate) c.requires.savings c.requires.accepted in
    let are = c.deref.ensures.value ∙ c.in_ok-slots.ensures.value ∙ ap (λ (s : List Saving). slot_places s certificate.slots) c.requires.savings in
    subst (AreTargetSlots (parsed inputs)) (sym are) (slots_led inputs c.requires.faultless certificate accepted)
