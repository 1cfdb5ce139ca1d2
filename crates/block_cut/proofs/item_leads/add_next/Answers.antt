use Rattle.std.proofs.Common.{◌≡◌, ◌&&◌, Some, true, ap, sym, ◌∙◌}
use Rattle.zc_base.specs.Places.{same_place}
use Rattle.zc_base.specs.declared.place.Place.{Place}
use Rattle.psabi_sym.specs.Inputs.{parsed}
use Rattle.block_cut.specs.Items.{place_of}
use Rattle.block_cut.specs.Leaders.{ends_block}
use Rattle.block_cut.specs.Invariants.Led.{section_number}
use Rattle.block_cut.proofs.LedLaws.{adds_same}
use Rattle.block_cut.proofs.item_leads.add_next.Goals as goal

pub returns : goal.returns
returns c =
    let objects = (parsed c.args.home.now.objects.now).objects in
    let l = c.args.home.now.section.now in
    let n = c.args.offset in
    let next : Place = record { object = c.object.result; section = c.index.result; offset = n } in
    let same : next ≡ place_of l n = λ j. record { object = c.object.ensures j; section = c.index.ensures j; offset = n } in
    let number : section_number objects next ≡ Some c.args.home.now.number = ap (section_number objects) same ∙ c.requires.number_is in
    let ends : ends_block c.args.item.now ≡ true = sym c.ends_block.ensures ∙ c.if-not-ends_block.false in
    adds_same objects (same_place next) (λ q. ends_block c.args.item.now && same_place (place_of l n) q) c.args.leaders.now c.add_in.new.self
    (λ q. ap (λ p. same_place p q) same ∙ ap (λ b. b && same_place (place_of l n) q) (sym ends)) (c.in_ok-add_in.ensures objects number)
