-- Where a place of code is found by where it stands among all: its section by its number, and the place among those of the section.
use Rattle.std.proofs.Common.{◌≡◌, [], map, Some, None, true, cond, refl, sym, ap, ◌∙◌, slice_get}
use Rattle.std.specs.Option.{option_map}
use Rattle.std.proofs.lemmas.Option.{slice_get-map}
use Rattle.zc_base.specs.declared.place.Place.{Place}
use Rattle.psabi_sym.specs.Faults.{gather_fault}
use Rattle.psabi_sym.specs.Inputs.{Inputs, ParsedInputs, parsed}
use Rattle.psabi_sym.specs.Indexed.{IndexedSection, all_sections}
use Rattle.psabi_sym.proofs.SectionNumbers.{has_number, number_of_section}
use Rattle.block_cut.specs.Items.{index_on, is_target_at, item_at, targets_in}
use Rattle.block_cut.specs.Places.{IsPlaceNumber, code_place, code_places, place_there}
use Rattle.block_cut.specs.declared.item.Item.{Item}
use Rattle.block_cut.specs.declared.place_number.PlaceNumber.{PlaceNumber}
use Rattle.block_cut.proofs.ListedLaws.{listed}
use Rattle.block_cut.proofs.PlainLaws.{target_on}
use Rattle.block_cut.proofs.WholeLaws.{code_is_section, code_whole}
use Rattle.block_cut.proofs.WordLaws.{target_got}
use Rattle.zc_link.specs.Standing.{StartsHere}
use Rattle.zc_link.specs.TextLayout.{TextLayout}

-- a place, found by a number
pub record IsFoundBy (p : ParsedInputs) (q : Place) (number : PlaceNumber) : Type 0 where
  pub section : IndexedSection
  pub at : slice_get (all_sections p.objects) number.section ≡ Some section
  pub there : slice_get (code_places p section) number.index ≡ Some (place_there p q)

pub found_by :
    (inputs : Inputs) (q : Place) (number : PlaceNumber) → gather_fault inputs ≡ None → is_target_at (parsed inputs).objects q ≡ true
    → IsPlaceNumber (parsed inputs).objects q number → IsFoundBy (parsed inputs) q number
found_by inputs q number none target is =
    let p = parsed inputs in
    let s = is.section in
    let two = code_is_section p.objects q s is.here in
    let l = listed q.object q.section s in
    let found = number_of_section p.objects q.object q.section s two.0 in
    let got = target_got s two.1 (code_whole inputs q s none is.here) q.offset (sym (target_on p.objects q s is.here) ∙ target) in
    record {
      section = l;
      at = ap (slice_get (all_sections p.objects)) (is.section_is ∙ sym (has_number p.objects found.0 l found.1).place) ∙ found.1;
      there =
          (λ j. slice_get (cond (two.1 j) (map (code_place p l) (targets_in s)) []) (is.index_is j))
          ∙ slice_get-map (code_place p l) (targets_in s) (index_on s q.offset)
          ∙ ap (option_map (code_place p l)) got;
    }

-- an item that starts at a place which has this number
pub starts_by :
    (L : TextLayout) → gather_fault L.inputs ≡ None → (q : Place) (number : PlaceNumber) (item : Item) → item_at (parsed L.inputs) q ≡ Some item
    → (is : IsPlaceNumber (parsed L.inputs).objects q number) → StartsHere L number is.section.bytes q item
starts_by L none q number item there is =
    let objects = (parsed L.inputs).objects in
    let s = is.section in
    let two = code_is_section objects q s is.here in
    let found = number_of_section objects q.object q.section s two.0 in
    record {
      section = listed q.object q.section s;
      listed = ap (slice_get (all_sections objects)) (is.section_is ∙ sym (has_number objects found.0 (listed q.object q.section s) found.1).place) ∙ found.1;
      code = two.1;
      own = refl;
      offset = q.offset;
      place = refl;
      index = is.index_is;
      is = there;
    }
