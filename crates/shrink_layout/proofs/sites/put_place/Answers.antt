-- What is written with the table differs only where there is a slot (`unit_put`).
use Rattle.std.proofs.Common.{◌≡◌, ◌∙◌, ℕ, Option, None, [], Some, set, slice_get, ap, sym, subst, subst₂, arith}
use Rattle.std.proofs.lemmas.Option.{get_or_from_slice_get, slice_get_within}
use Rattle.zc_base.specs.declared.place.Place.{Place}
use Rattle.psabi_sym.specs.Inputs.{ParsedInputs, parsed}
use Rattle.shrink_layout.specs.Invariants.Made.{AreHalvesOf}
use Rattle.shrink_layout.specs.Invariants.Slots.{first_piece, first_unit, put_unit, source_slots, source_unit}
use Rattle.shrink_layout.specs.Pieces.{piece_number_at, unit_piece}
use Rattle.shrink_layout.specs.Units.{OneSite}
use Rattle.shrink_layout.proofs.NumberLaws.{number_most}
use Rattle.shrink_layout.proofs.PlaceNumberLaws.{start_told}
use Rattle.shrink_layout.proofs.PremiseLaws.{pieces_few}
use Rattle.shrink_layout.proofs.PutLaws.{halves_set, set_same}
use Rattle.shrink_layout.proofs.SlotLaws.{unit_put}
use Rattle.shrink_layout.proofs.sites.put_place.Goals as goal
use Rattle.shrink_layout.proofs.sites.put_place.Goals.{After-slot_of}

pub piece_number-k-requires-clause-section : goal.piece_number-k-requires-clause-section
piece_number-k-requires-clause-section c =
    (start_told (parsed c.args.of.now.planned.now).objects c.args.of.now.starts.now c.requires.source.starts c.args.place.now.at c.args.place.now.number c.requires.place.start c.requires.place.stands).within

pub piece_number-k-requires-clause-room : goal.piece_number-k-requires-clause-room
piece_number-k-requires-clause-room c =
    let inputs = c.args.of.now.planned.now in
    let told = start_told (parsed inputs).objects c.args.of.now.starts.now c.requires.source.starts c.args.place.now.at c.args.place.now.number c.requires.place.start c.requires.place.stands in
    omega (arith, told.is, number_most (parsed inputs) [] c.args.place.now.at, pieces_few inputs c.requires.source.faultless [])

pub slot_of-requires-clause-number : goal.slot_of-requires-clause-number
slot_of-requires-clause-number c =
    c.piece_number-k.ensures
    ∙ (start_told (parsed c.args.of.now.planned.now).objects c.args.of.now.starts.now c.requires.source.starts c.args.place.now.at c.args.place.now.number c.requires.place.start c.requires.place.stands).is

-- the piece is read by the place's number
pub index-requires : goal.index-requires
index-requires c =
    let told = start_told (parsed c.args.of.now.planned.now).objects c.args.of.now.starts.now c.requires.source.starts c.args.place.now.at c.args.place.now.number c.requires.place.start c.requires.place.stands in
    omega (arith, c.piece_number-k.ensures, told.is, slice_get_within c.args.made.now.pieces.items (piece_number_at (parsed c.args.of.now.planned.now).objects c.args.place.now.at) (first_piece (parsed c.args.of.now.planned.now) c.args.place.now.at) c.requires.piece, c.args.made.now.pieces.ok)

pub slot_of-requires-clause-piece : goal.slot_of-requires-clause-piece
slot_of-requires-clause-piece c =
    let given = parsed c.args.of.now.planned.now in
    let q = c.args.place.now.at in
    let told = start_told given.objects c.args.of.now.starts.now c.requires.source.starts q c.args.place.now.number c.requires.place.start c.requires.place.stands in
    let number = c.piece_number-k.ensures ∙ told.is in
    c.index.ensures
    ∙ get_or_from_slice_get c.args.made.now.pieces.items c.piece_number-k.result (first_piece given q) c.index.result.now
    (ap (slice_get c.args.made.now.pieces.items) number ∙ c.requires.piece)

pub put_site-requires-clause-pieces : goal.put_site-requires-clause-pieces
put_site-requires-clause-pieces c =
    let told = start_told (parsed c.args.of.now.planned.now).objects c.args.of.now.starts.now c.requires.source.starts c.args.place.now.at c.args.place.now.number c.requires.place.start c.requires.place.stands in
    omega (arith, c.piece_number-k.ensures, told.is, slice_get_within c.args.made.now.pieces.items (piece_number_at (parsed c.args.of.now.planned.now).objects c.args.place.now.at) (first_piece (parsed c.args.of.now.planned.now) c.args.place.now.at) c.requires.piece)

pub put_site-requires-clause-halves : goal.put_site-requires-clause-halves
put_site-requires-clause-halves c =
    let told = start_told (parsed c.args.of.now.planned.now).objects c.args.of.now.starts.now c.requires.source.starts c.args.place.now.at c.args.place.now.number c.requires.place.start c.requires.place.stands in
    omega (arith, c.piece_number-k.ensures, told.is, slice_get_within c.args.made.now.pieces.items (piece_number_at (parsed c.args.of.now.planned.now).objects c.args.place.now.at) (first_piece (parsed c.args.of.now.planned.now) c.args.place.now.at) c.requires.piece, c.requires.long)

module _ (c : After-slot_of) where
  abbrev given : ParsedInputs
  given = parsed c.args.of.now.planned.now

  abbrev q : Place
  q = c.args.place.now.at

  number : c.piece_number-k.result ≡ piece_number_at given.objects q
  number = c.piece_number-k.ensures ∙ (start_told given.objects c.args.of.now.starts.now c.requires.source.starts q c.args.place.now.number c.requires.place.start c.requires.place.stands).is

  -- what is written by the slot that was found
  put : (n : Option ℕ) → c.slot_of.result ≡ n → source_unit c.args.of.now q ≡ put_unit n (first_unit given q)
  put n is = unit_put c.args.of.now.planned.now c.requires.source.faultless q (source_slots c.args.of.now) ∙ ap (λ m. put_unit m (first_unit given q)) (sym c.slot_of.ensures ∙ is)

pub returns-in-Some-clause-pieces : goal.returns-in-Some-clause-pieces
returns-in-Some-clause-pieces c =
    let a = (goal.at.returns-in-Some-clause-pieces c).After-slot_of in
    c.put_site.ensures.pieces ∙ (λ j. set c.args.made.now.pieces.items (number a j) (unit_piece (given a) (q a) (sym (put a (Some c.in-Some.slot) c.in-Some.is) j)))

pub returns-in-Some-clause-halves : goal.returns-in-Some-clause-halves
returns-in-Some-clause-halves c = λ owners are got.
    let a = (goal.at.returns-in-Some-clause-halves c).After-slot_of in
    let half = c.put_site.ensures.halves in
    subst₂ AreHalvesOf (λ j. set owners (number a j) (sym (put a (Some c.in-Some.slot) c.in-Some.is) j)) (sym half.2)
    (halves_set owners c.args.made.now.halves.items c.piece_number-k.result (Some (OneSite c.in-Some.slot)) half.0 are half.1)

pub returns-in_default-clause-pieces : goal.returns-in_default-clause-pieces
returns-in_default-clause-pieces c =
    let a = (goal.at.returns-in_default-clause-pieces c).After-slot_of in
    sym (set_same c.args.made.now.pieces.items (piece_number_at (given a).objects (q a)) (unit_piece (given a) (q a) (source_unit c.args.of.now (q a)))
    (c.requires.piece ∙ ap (λ o. Some (unit_piece (given a) (q a) o)) (sym (put a None c.in_default.is))))

pub returns-in_default-clause-halves : goal.returns-in_default-clause-halves
returns-in_default-clause-halves c = λ owners are got.
    let a = (goal.at.returns-in_default-clause-halves c).After-slot_of in
    subst (λ os. AreHalvesOf os c.args.made.now.halves.items)
    (sym (set_same owners (piece_number_at (given a).objects (q a)) (source_unit c.args.of.now (q a)) (got ∙ ap Some (sym (put a None c.in_default.is))))) are
