-- The place has a number where it may be led to, which tells its piece's (`piece_number_is`).
use Rattle.std.proofs.Common.{◌≡◌, List, [], Option, Some, MatchOption, true, false, subst, ◌∙◌, arith}
use Rattle.zc_base.specs.declared.place.Place.{Place}
use Rattle.elf32_read.specs.Parts.{ObjectParts}
use Rattle.psabi_sym.specs.Inputs.{parsed}
use Rattle.block_cut.specs.Items.{is_target_at}
use Rattle.block_cut.specs.Places.{IsPlaceNumber}
use Rattle.block_cut.specs.declared.place_number.PlaceNumber.{PlaceNumber}
use Rattle.shrink_layout.proofs.NumberLaws.{number_most}
use Rattle.shrink_layout.proofs.PlaceNumberLaws.{piece_number_is}
use Rattle.shrink_layout.proofs.PremiseLaws.{pieces_few}
use Rattle.shrink_layout.proofs.numbers.piece_number_at.Goals as goal

-- what is known of the number that was found
known : (objects : List ObjectParts) (q : Place) (found : Option PlaceNumber) (number : PlaceNumber) → found ≡ Some number
    → MatchOption found (is_target_at objects q ≡ false) (λ n. (is_target_at objects q ≡ true) × IsPlaceNumber objects q n)
    → (is_target_at objects q ≡ true) × IsPlaceNumber objects q number
known objects q found number is has = subst (λ o. MatchOption o (is_target_at objects q ≡ false) (λ n. (is_target_at objects q ≡ true) × IsPlaceNumber objects q n)) is has

pub piece_number-requires-clause-section : goal.piece_number-requires-clause-section
piece_number-requires-clause-section c =
    let objects = (parsed c.args.cut.now).objects in
    let has = known objects c.args.p c.number.result c.in-Some.number c.in-Some.is c.number.ensures in
    (piece_number_is objects c.args.starts.now c.requires.starts c.args.p c.in-Some.number has.0 has.1).within

pub piece_number-requires-clause-room : goal.piece_number-requires-clause-room
piece_number-requires-clause-room c =
    let inputs = c.args.cut.now in
    let objects = (parsed inputs).objects in
    let has = known objects c.args.p c.number.result c.in-Some.number c.in-Some.is c.number.ensures in
    omega (
      arith,
      (piece_number_is objects c.args.starts.now c.requires.starts c.args.p c.in-Some.number has.0 has.1).is,
      number_most (parsed inputs) [] c.args.p,
      pieces_few inputs c.requires.faultless [],
    )

pub returns-in-Some : goal.returns-in-Some
returns-in-Some c =
    let objects = (parsed c.args.cut.now).objects in
    let has = known objects c.args.p c.number.result c.in-Some.number c.in-Some.is c.number.ensures in
    c.piece_number.ensures ∙ (piece_number_is objects c.args.starts.now c.requires.starts c.args.p c.in-Some.number has.0 has.1).is
