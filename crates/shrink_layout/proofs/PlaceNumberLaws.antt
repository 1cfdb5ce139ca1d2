-- The number of a place by where it stands among all: that of its section's first place, and its index (`piece_number_is`).
use Rattle.std.proofs.Common.{◌≡◌, ℕ, ◌+◌, ◌<◌, ◌≤◌, List, Option, length, true, slice_index, sym, ap, ◌∙◌, arith}
use Rattle.std.specs.List.{sum_by}
use Rattle.std.proofs.lemmas.Bool.{or_left}
use Rattle.std.proofs.lemmas.List.FromFn.{get_or-map-range_with_len, length-map-range_with_len}
use Rattle.std.proofs.lemmas.Option.{slice_get_within}
use Rattle.zc_base.specs.declared.place.Place.{Place}
use Rattle.elf32_read.specs.Parts.{ObjectParts}
use Rattle.psabi_sym.specs.Inputs.{Inputs, parsed}
use Rattle.psabi_sym.specs.Indexed.{all_sections}
use Rattle.psabi_sym.proofs.SectionNumbers.{before_number, has_number, number_of_section}
use Rattle.block_cut.specs.Items.{is_end_at, is_start_at, is_target_at}
use Rattle.block_cut.specs.Places.{IsPlaceNumber}
use Rattle.block_cut.specs.declared.place_number.PlaceNumber.{PlaceNumber}
use Rattle.block_cut.proofs.ListedLaws.{listed}
use Rattle.block_cut.proofs.WholeLaws.{code_is_section}
use Rattle.shrink_layout.specs.Invariants.Numbers.{AreFirstNumbers, HasPlace, first_number}
use Rattle.shrink_layout.specs.Pieces.{piece_count, piece_number_at, pieces_of}
use Rattle.shrink_layout.proofs.NumberLaws.{number-code, number_most}

-- a place's number is told by where it stands
pub record IsToldBy (objects : List ObjectParts) (starts : List ℕ) (q : Place) (number : PlaceNumber) : Type 0 where
  pub within : number.section < length starts
  pub is : slice_index starts number.section + number.index ≡ piece_number_at objects q

module _ (objects : List ObjectParts) (starts : List ℕ) (are : AreFirstNumbers objects starts) where
  -- there is one number for each section
  pub starts_count : length starts ≡ length (all_sections objects)
  starts_count = ap length are ∙ length-map-range_with_len (first_number objects) 0 (length (all_sections objects))

  pub start_at : (k : ℕ) → k < length (all_sections objects) → slice_index starts k ≡ first_number objects k
  start_at k lt =
      ap (λ l. slice_index l k) are
      ∙ get_or-map-range_with_len (first_number objects) 0 (length (all_sections objects)) k k 0 lt (omega arith)

  pub piece_number_is : (q : Place) (number : PlaceNumber) → is_target_at objects q ≡ true → IsPlaceNumber objects q number → IsToldBy objects starts q number
  piece_number_is q number target has =
      let s = has.section in
      let two = code_is_section objects q s has.here in
      let l = listed q.object q.section s in
      let numbered = number_of_section objects q.object q.section s two.0 in
      let k = numbered.0 in
      let same : number.section ≡ k = has.section_is ∙ sym (has_number objects k l numbered.1).place in
      let inside = slice_get_within (all_sections objects) k l numbered.1 in
      record {
        within = omega (arith, same, inside, starts_count);
        is = omega (
          arith,
          ap (slice_index starts) same,
          start_at k inside,
          ap (sum_by piece_count) (before_number objects k l numbered.1),
          number-code objects q s target has.here,
          has.index_is,
        );
      }

  -- the number of a place where an item starts
  pub start_told : (q : Place) (number : PlaceNumber) → is_start_at objects q ≡ true → IsPlaceNumber objects q number → IsToldBy objects starts q number
  start_told q number start has = piece_number_is q number (or_left (is_start_at objects q) (is_end_at objects q) start) has

-- the number that is read for a place is the place's
pub number_read : (objects : List ObjectParts) (starts read : List ℕ) (q : Place) (number : PlaceNumber) (k : ℕ) → AreFirstNumbers objects starts → read ≡ starts
    → k ≡ slice_index read number.section + number.index → is_target_at objects q ≡ true → IsPlaceNumber objects q number → k ≡ piece_number_at objects q
number_read objects starts read q number k are same is target has =
    is ∙ ap (λ l. slice_index l number.section + number.index) same ∙ (piece_number_is objects starts are q number target has).is

-- a place that there is has a section, and a number that isn't beyond the list
module _ (inputs : Inputs) (starts : List ℕ) (are : AreFirstNumbers (parsed inputs).objects starts) (number : PlaceNumber) (has : HasPlace (parsed inputs).objects number) where
  told : IsToldBy (parsed inputs).objects starts has.0 number
  told = piece_number_is (parsed inputs).objects starts are has.0 number has.1 has.2

  pub place_within : number.section < length starts
  place_within = told.within

  pub place_most : (slots : List (Option Place)) → slice_index starts number.section + number.index ≤ length (pieces_of (parsed inputs) slots)
  place_most slots = omega (arith, told.is, number_most (parsed inputs) slots has.0)
