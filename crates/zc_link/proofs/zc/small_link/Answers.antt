-- The table is the one that is picked for the savings, and the image is that of the layout behind it.
use Rattle.std.proofs.Common.{◌≡◌, ◌∙◌, ◌≤◌, ◌⊎◌, List, [], length, true, ap, sym, subst, arith}
use Rattle.std.proofs.lemmas.List.{length-map}
use Rattle.jumptable_pick.specs.Slots.{slot_place, slot_places}
use Rattle.pick_check.specs.Certified.{Certified, IsAccepted}
use Rattle.pick_check.specs.declared.saving.Saving.{Saving}
use Rattle.psabi_sym.specs.Inputs.{parsed}
use Rattle.shrink_layout.specs.Savings.{table_savings}
use Rattle.shrink_layout.specs.Settled.{settled_counts, settled_end}
use Rattle.zc_link.specs.Links.{IsImageOf, IsShortest, IsZcLink, Link}
use Rattle.zc_link.specs.TextLayout.{zc_layout}
use Rattle.zc_link.proofs.BestTable.{shortest, table_needs}
use Rattle.zc_link.proofs.FitsChip.{fits_chip}
use Rattle.zc_link.proofs.zc.small_link.Goals as goal

pub returns-clause-link : goal.returns-clause-link
returns-clause-link c =
    let inputs = c.args.first.inputs in
    let elf = c.in_ok-image.image.elf.items in
    let own : List Saving = c.in_ok-table.table.savings.items in
    let certificate : Certified = c.in_ok-table.table.certificate in
    let savings : own ≡ table_savings (parsed inputs) = c.in_ok-table.ensures.savings in
    let accepted : IsAccepted own certificate = c.in_ok-table.ensures.accepted in
    let known : IsAccepted (table_savings (parsed inputs)) certificate = subst (λ (s : List Saving). IsAccepted s certificate) savings accepted in
    let ready = c.in_ok-image.ensures.ready in
    let same = c.deref.ensures.value in
    let few : length (slot_places own certificate.slots) ≤ 256 = omega (arith, length-map certificate.slots (slot_place own), accepted.assignment.few) in
    let needs : (slot_places own certificate.slots ≡ []) ⊎ (inputs.map.extensions.zcmt ≡ true) =
    subst (λ (s : List Saving). (slot_places s certificate.slots ≡ []) ⊎ (inputs.map.extensions.zcmt ≡ true)) (sym savings)
    (table_needs inputs ready.faultless certificate known) in
    let image : IsImageOf (zc_layout inputs (slot_places own certificate.slots)) 1 (settled_end (parsed inputs) (slot_places own certificate.slots)) elf =
    subst (λ (s : List Saving). IsImageOf (zc_layout inputs (slot_places s certificate.slots)) 1 (settled_end (parsed inputs) (slot_places s certificate.slots)) elf)
    same c.in_ok-image.ensures.image in
    let layout : IsShortest inputs (slot_places own certificate.slots) certificate.net =
    subst (λ (s : List Saving). IsShortest inputs (slot_places s certificate.slots) certificate.net) (sym savings)
    (shortest inputs ready.faultless certificate known ready.is_map) in
    let parts : IsZcLink inputs (record { elf = elf; savings = own; certificate = certificate; plain = c.in_ok-image.image.plain_counts; zc = c.in_ok-image.image.image_counts }) =
    record {
      table = record { savings = savings; is_picked = c.in_ok-table.ensures.is_picked; accepted = accepted; best = c.in_ok-table.ensures.best };
      layout = layout;
      fixed = layout.laid.kept;
      image = image;
      supported = fits_chip inputs ready.faultless ready.is_map (slot_places own certificate.slots) few needs image.parts.text image.parts.holds;
      plain = c.in_ok-image.ensures.plain;
      zc = c.in_ok-image.ensures.counts ∙ ap (λ (s : List Saving). settled_counts (parsed inputs) (slot_places s certificate.slots)) same;
    } in
    let all = c.joined.ensures in
    subst (λ (l : Link). IsZcLink inputs l)
    (λ i. record { elf = sym all.elf i; savings = sym all.savings i; certificate = sym all.certificate i; plain = sym all.plain i; zc = sym all.zc i }) parts
