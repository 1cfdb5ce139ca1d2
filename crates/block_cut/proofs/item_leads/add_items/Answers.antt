use Rattle.std.proofs.Common.{◌≡◌, ◌∙◌, length, ap, arith}
use Rattle.std.proofs.lemmas.List.{length-map}
use Rattle.psabi_sym.specs.Inputs.{parsed}
use Rattle.block_cut.specs.Items.{place_of}
use Rattle.block_cut.specs.Leaders.{item_leads}
use Rattle.block_cut.specs.Places.{code_place}
use Rattle.block_cut.proofs.LedLaws.{adds_all, adds_next, adds_none, adds_same, items_lead, offset_few, offsets_of, place_got, places_are}
use Rattle.block_cut.proofs.item_leads.add_items.Goals as goal

pub loop-place-init : goal.loop-place-init
loop-place-init c = adds_none (parsed c.args.home.now.objects.now).objects c.args.leaders.now

pub add_place-requires-clause-room : goal.add_place-requires-clause-room
add_place-requires-clause-room c =
    let inputs = c.args.home.now.objects.now in
    let l = c.args.home.now.section.now in
    let k = c.loop-place.place-index in
    let here = place_got (parsed inputs) l c.args.places.now c.requires.places k c.place-item.result (omega arith) c.place-item.is in
    omega (arith, offset_few inputs l c.requires.home.gathered c.requires.home.found here.n (here.held), here.offset)

pub loop-place-preserved : goal.loop-place-preserved
loop-place-preserved c =
    let inputs = parsed c.args.home.now.objects.now in
    let l = c.args.home.now.section.now in
    let k = c.loop-place.place-index in
    let here = place_got inputs l c.args.places.now c.requires.places k c.place-item.result (omega arith) c.place-item.is in
    adds_next inputs.objects (λ q n. item_leads inputs q (place_of l n)) (offsets_of l) k here.n c.args.leaders.now c.loop-place.leaders c.add_place.new.leaders here.at c.loop-place.invariant
    (c.in_ok-add_place.ensures here.n here.is)

pub returns : goal.returns
returns c =
    let inputs = parsed c.args.home.now.objects.now in
    let l = c.args.home.now.section.now in
    let count : length c.args.places.now ≡ length (offsets_of l) = ap length (c.requires.places ∙ places_are inputs l) ∙ length-map (offsets_of l) (code_place inputs l) in
    adds_same inputs.objects _ _ c.args.leaders.now c.loop-place.leaders (items_lead c.args.home.now.objects.now l c.requires.home.gathered c.requires.home.found)
    (adds_all inputs.objects (λ q n. item_leads inputs q (place_of l n)) (offsets_of l) c.loop-place.place-index c.args.leaders.now c.loop-place.leaders (omega (arith, count)) c.loop-place.invariant)
