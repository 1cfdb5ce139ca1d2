-- The image of the layout behind the table ends where that does, and both count what they count.
use Rattle.std.proofs.Common.{◌∙◌, ◌≤◌, List, Option, length, ap, subst, subst₂, arith}
use Rattle.std.proofs.lemmas.List.{length-map}
use Rattle.zc_base.specs.declared.place.Place.{Place}
use Rattle.block_cut.specs.PlainLayout.{plain_counts}
use Rattle.jumptable_pick.specs.Slots.{slot_place, slot_places}
use Rattle.psabi_sym.specs.Inputs.{Inputs, parsed}
use Rattle.shrink_layout.specs.Settled.{settled_counts}
use Rattle.zc_link.specs.LaidOut.{text_end}
use Rattle.zc_link.specs.Links.{IsImageOf}
use Rattle.zc_link.specs.Standing.{IsReady}
use Rattle.zc_link.specs.TextLayout.{zc_layout}
use Rattle.zc_link.proofs.SettledLaws.{settled_end_is}
use Rattle.zc_link.proofs.zc.counted_image.Goals as goal

pub returns : goal.returns
returns c =
    let inputs = c.args.first.inputs in
    let certificate = c.args.certificate.now in
    let elf = c.in_ok-elf.elf.items in
    let table : List (Option Place) = slot_places c.args.savings.now certificate.slots in
    let few : length table ≤ 256 = omega (arith, length-map certificate.slots (slot_place c.args.savings.now), c.requires.accepted.assignment.few) in
    let same = c.in_ok-settled.ensures.same in
    let slots = c.in_ok-settled.ensures.slots in
    let ready = subst IsReady same c.in_ok-elf.ensures.ready in
    let image : IsImageOf (zc_layout inputs table) 1 (text_end (zc_layout inputs table)) elf =
    subst₂ (λ (x : Inputs) (slots : List (Option Place)). IsImageOf (zc_layout x slots) 1 (text_end (zc_layout x slots)) elf) same slots c.in_ok-elf.ensures.image in
    record {
      ready = ready;
      image = subst (λ n. IsImageOf (zc_layout inputs table) 1 n elf) (settled_end_is inputs ready.faultless ready.is_map table few) image;
      plain = c.counts-plain_counts.ensures ∙ ap (λ (x : Inputs). plain_counts (parsed x)) (c.cut.ensures.same ∙ c.planned.ensures.same ∙ same);
      counts = c.counts-image_counts.ensures ∙ (λ i. settled_counts (parsed (same i)) (slots i));
    }
