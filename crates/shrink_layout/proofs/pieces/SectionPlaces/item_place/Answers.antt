-- What is read at an index is the place there.
use Rattle.std.proofs.Common.{◌≡◌, ◌∙◌, Some, ap, subst, sym}
use Rattle.std.proofs.lemmas.Option.{get_or_from_slice_get, slice_get-get_or}
use Rattle.block_cut.specs.Items.{place_of}
use Rattle.block_cut.specs.declared.code_place.CodePlace.{CodePlace}
use Rattle.block_cut.specs.declared.place_number.PlaceNumber.{PlaceNumber}
use Rattle.shrink_layout.specs.Invariants.Made.{IsItemPlace}
use Rattle.shrink_layout.proofs.pieces.SectionPlaces.item_place.Goals as goal

pub returns-clause-at : goal.returns-clause-at
returns-clause-at c = λ p got.
    let same = get_or_from_slice_get c.args.self.now.places.now c.args.i p c.index-self-i.result got in
    λ j. record { object = c.object.ensures j; section = c.index.ensures j; offset = (same j).offset }

pub returns-clause-held : goal.returns-clause-held
returns-clause-held c = λ inputs held.
    let l = c.args.self.now.section in
    let places = c.args.self.now.places.now in
    let p = c.index-self-i.result in
    let number : PlaceNumber = record { section = c.args.self.now.number; index = c.args.i } in
    let at = held c.args.i p (slice_get-get_or places c.args.i p c.requires.within ∙ ap Some (sym c.index-self-i.is)) in
    let here : record { object = c.object.result; section = c.index.result; offset = p.offset } ≡ place_of l p.offset =
    λ j. record { object = c.object.ensures j; section = c.index.ensures j; offset = p.offset } in
    subst (λ (x : CodePlace). IsItemPlace inputs (record { object = c.object.result; section = c.index.result; offset = x.offset }) number x.item) c.index-self-i.is
    (subst (λ q. IsItemPlace inputs q number p.item) (sym here) at)
