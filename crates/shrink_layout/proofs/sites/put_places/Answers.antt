-- Each place gets what is written with the table (`put_one`).
use Rattle.std.proofs.Common.{◌∙◌, ap, drop, take}
use Rattle.zc_base.specs.declared.place.Place.{Place}
use Rattle.psabi_sym.specs.Fixed.{is_fixed_at}
use Rattle.psabi_sym.specs.Inputs.{parsed}
use Rattle.shrink_layout.specs.Invariants.Made.{places_held}
use Rattle.shrink_layout.specs.Invariants.Slots.{source_slots}
use Rattle.shrink_layout.proofs.PutLaws.{first_there, halves_long, put_one}
use Rattle.shrink_layout.proofs.SectionLaws.{some_at}
use Rattle.shrink_layout.proofs.sites.put_places.Goals as goal

pub put_place-requires-clause-place : goal.put_place-requires-clause-place
put_place-requires-clause-place c = c.item_place.ensures.held (parsed c.args.of.now.planned.now) c.requires.held

pub put_place-requires-clause-free : goal.put_place-requires-clause-free
put_place-requires-clause-free c =
    let got = some_at c.args.section.now.places.now c.loop-i.i c.loop-i-test.true in
    ap (λ (q : Place). is_fixed_at (parsed c.args.of.now.planned.now) q.object q.section) (c.item_place.ensures.at got.0 got.1) ∙ c.requires.free

pub put_place-requires-clause-piece : goal.put_place-requires-clause-piece
put_place-requires-clause-piece c =
    let section = c.args.section.now in
    let got = some_at section.places.now c.loop-i.i c.loop-i-test.true in
    let item = c.item_place.ensures.held (parsed c.args.of.now.planned.now) c.requires.held in
    first_there c.args.of.now.planned.now c.args.of.now.starts.now c.requires.source.starts (source_slots c.args.of.now) section.number section.section section.places.now c.loop-i.made
    c.loop-i.i got.0 got.1 c.item_place.result.at (c.item_place.ensures.at got.0 got.1) c.item_place.result.number c.item_place.ensures.number item.start item.stands c.loop-i.invariant

pub put_place-requires-clause-long : goal.put_place-requires-clause-long
put_place-requires-clause-long c =
    let section = c.args.section.now in
    halves_long c.args.of.now.planned.now c.args.of.now.starts.now c.requires.source.starts (source_slots c.args.of.now) section.number section.section section.places.now c.loop-i.made
    (places_held section.section (take c.loop-i.i section.places.now)) (places_held section.section (drop c.loop-i.i section.places.now)) c.loop-i.invariant

pub loop-i-preserved : goal.loop-i-preserved
loop-i-preserved c =
    let section = c.args.section.now in
    let got = some_at section.places.now c.loop-i.i c.loop-i-test.true in
    let item = c.item_place.ensures.held (parsed c.args.of.now.planned.now) c.requires.held in
    put_one c.args.of.now.planned.now c.args.of.now.starts.now c.requires.source.starts (source_slots c.args.of.now) section.number section.section section.places.now c.loop-i.made
    c.loop-i.i got.0 got.1 c.item_place.result.at (c.item_place.ensures.at got.0 got.1) c.item_place.result.number c.item_place.ensures.number item.start item.stands c.loop-i.invariant
    c.put_place.new.made c.put_place.ensures.pieces c.put_place.ensures.halves
