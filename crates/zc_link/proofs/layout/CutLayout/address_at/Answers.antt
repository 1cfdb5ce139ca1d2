-- The section with the number is code, which has a place with the index: so that place's address is kept there.
use Rattle.std.proofs.Common.{◌≡◌, ℕ, ◌<◌, List, Some, true, length, get_or, slice_get, refl, sym, ap, ◌∙◌}
use Rattle.std.specs.Option.{is_some, unwrap_or}
use Rattle.std.proofs.lemmas.Option.{get_or_from_slice_get, slice_get_within}
use Rattle.zc_base.specs.declared.place.Place.{Place}
use Rattle.psabi_sym.specs.Inputs.{Inputs, parsed}
use Rattle.psabi_sym.specs.Indexed.{IndexedSection, all_sections}
use Rattle.block_cut.specs.Items.{is_target_at}
use Rattle.block_cut.specs.Places.{IsPlaceNumber, code_places, place_there}
use Rattle.block_cut.specs.PlainLayout.{plain_address}
use Rattle.block_cut.specs.declared.code_place.CodePlace.{CodePlace}
use Rattle.block_cut.specs.declared.place_number.PlaceNumber.{PlaceNumber}
use Rattle.zc_link.specs.Standing.{IsReady}
use Rattle.moved_runs.proofs.Faultless.{all_none}
use Rattle.zc_link.proofs.PlaceNumbers.{IsFoundBy, found_by}
use Rattle.zc_link.proofs.PlainLaws.{plain_listed}
use Rattle.zc_link.proofs.layout.CutLayout.address_at.Goals as goal

module _ (inputs cut : Inputs) (same : cut ≡ inputs) (ready : IsReady inputs) (q : Place) (number : PlaceNumber)
    (target : is_target_at (parsed inputs).objects q ≡ true) (is : IsPlaceNumber (parsed inputs).objects q number) where
  found : IsFoundBy (parsed inputs) q number
  found = found_by inputs q number (all_none inputs ready.faultless).gathered target is

  at : slice_get (all_sections (parsed cut).objects) number.section ≡ Some found.section
  at = ap (λ (x : Inputs). slice_get (all_sections (parsed x).objects) number.section) same ∙ found.at

  section_below : number.section < length (all_sections (parsed cut).objects)
  section_below = slice_get_within (all_sections (parsed cut).objects) number.section found.section at

  module _ (places : List CodePlace)
      (are : (l : IndexedSection) → slice_get (all_sections (parsed cut).objects) number.section ≡ Some l → places ≡ code_places (parsed cut) l) where
    there : slice_get places number.index ≡ Some (place_there (parsed inputs) q)
    there = ap (λ l. slice_get l number.index) (are found.section at ∙ ap (λ (x : Inputs). code_places (parsed x) found.section) same) ∙ found.there

    index_below : number.index < length places
    index_below = slice_get_within places number.index (place_there (parsed inputs) q) there

    address_is : (d : CodePlace) (a : ℕ) → plain_address (parsed inputs) q ≡ Some a → (get_or places number.index d).address ≡ a
    address_is d a known =
        ap (λ (x : CodePlace). x.address) (get_or_from_slice_get places number.index (place_there (parsed inputs) q) d there)
        ∙ ap (λ o. unwrap_or o 0) known

pub places-requires : goal.places-requires
places-requires c =
    section_below c.args.self.now c.args.self.now refl c.recall_laid_out.ensures.ready c.requires.0 c.args.number c.requires.1 c.requires.2

pub bounds-places-number : goal.bounds-places-number
bounds-places-number c =
    index_below c.args.self.now c.args.self.now refl c.recall_laid_out.ensures.ready c.requires.0 c.args.number c.requires.1 c.requires.2
    c.places.result.now c.places.ensures

pub bounds-places-number-2 : goal.bounds-places-number-2
bounds-places-number-2 c =
    index_below c.args.self.now c.args.self.now refl c.recall_laid_out.ensures.ready c.requires.0 c.args.number c.requires.1 c.requires.2
    c.places.result.now c.places.ensures

pub returns : goal.returns
returns c = λ q a known is.
    let target = sym (plain_listed (parsed c.args.self.now) q) ∙ ap is_some known in
    address_is c.args.self.now c.args.self.now refl c.recall_laid_out.ensures.ready q c.args.number target is
    c.places.result.now c.places.ensures c.index-places-number.result a known
