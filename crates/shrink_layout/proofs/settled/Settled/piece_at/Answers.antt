-- The number of a place's piece is told by where the place stands among all (`number_read`).
use Rattle.std.proofs.lemmas.Bool.{or_left}
use Rattle.std.proofs.Common.{length, slice_index, sym, ap, subst, ◌∙◌, arith}
use Rattle.psabi_sym.specs.Inputs.{parsed}
use Rattle.block_cut.specs.Items.{is_end_at, is_start_at, is_target_at}
use Rattle.block_cut.specs.Places.{IsPlaceNumber}
use Rattle.shrink_layout.specs.Invariants.Numbers.{HasPlace}
use Rattle.shrink_layout.specs.Pieces.{piece_number_at, pieces_of}
use Rattle.shrink_layout.specs.Settled.{SettledLayout}
use Rattle.shrink_layout.proofs.NumberLaws.{number_below}
use Rattle.shrink_layout.proofs.PlaceNumberLaws.{number_read, place_most, place_within}
use Rattle.shrink_layout.proofs.PremiseLaws.{pieces_few}
use Rattle.shrink_layout.proofs.UnitLaws.{start_item}
use Rattle.shrink_layout.proofs.settled.Settled.piece_at.Goals as goal

pub piece_number-requires-clause-section : goal.piece_number-requires-clause-section
piece_number-requires-clause-section c =
    let own = c.self.inside in
    let number = c.args.number in
    let has = subst (λ (x : SettledLayout). HasPlace (parsed x.inputs).objects number) (sym c.self.view_is) c.requires in
    omega (arith, ap length c.deref.ensures.value, place_within own.planned own.starts.items c.self.invariant.starts_are number has)

pub piece_number-requires-clause-room : goal.piece_number-requires-clause-room
piece_number-requires-clause-room c =
    let own = c.self.inside in
    let number = c.args.number in
    let has = subst (λ (x : SettledLayout). HasPlace (parsed x.inputs).objects number) (sym c.self.view_is) c.requires in
    omega (
      arith,
      ap (λ l. slice_index l number.section) c.deref.ensures.value,
      place_most own.planned own.starts.items c.self.invariant.starts_are number has own.slots.items,
      pieces_few own.planned c.self.invariant.faultless own.slots.items,
    )

pub returns-clause-most : goal.returns-clause-most
returns-clause-most c =
    let own = c.self.inside in
    let number = c.args.number in
    let has = subst (λ (x : SettledLayout). HasPlace (parsed x.inputs).objects number) (sym c.self.view_is) c.requires in
    omega (
      arith,
      c.piece_number.ensures,
      ap (λ l. slice_index l number.section) c.deref.ensures.value,
      place_most own.planned own.starts.items c.self.invariant.starts_are number has own.slots.items,
      ap (λ (x : SettledLayout). length (pieces_of (parsed x.inputs) x.slots)) c.self.view_is,
    )

pub returns-clause-known : goal.returns-clause-known
returns-clause-known c = λ q target has.
    let own = c.self.inside in
    let target_here = ap (λ (x : SettledLayout). is_target_at (parsed x.inputs).objects q) c.self.view_is ∙ target in
    let has_here = subst (λ (x : SettledLayout). IsPlaceNumber (parsed x.inputs).objects q c.args.number) (sym c.self.view_is) has in
    number_read (parsed own.planned).objects own.starts.items c.deref.result.now q c.args.number c.piece_number.result c.self.invariant.starts_are c.deref.ensures.value
    c.piece_number.ensures target_here has_here
    ∙ ap (λ (x : SettledLayout). piece_number_at (parsed x.inputs).objects q) c.self.view_is

pub returns-clause-item : goal.returns-clause-item
returns-clause-item c = λ item.
    let own = c.self.inside in
    let q = item.0 in
    let start = ap (λ (x : SettledLayout). is_start_at (parsed x.inputs).objects q) c.self.view_is ∙ item.1 in
    let i = start_item (parsed own.planned) q start in
    let target = or_left (is_start_at (parsed c.args.self.now.inputs).objects q) (is_end_at (parsed c.args.self.now.inputs).objects q) item.1 in
    omega (
      arith,
      returns-clause-known c q target item.2,
      ap (λ (x : SettledLayout). piece_number_at (parsed x.inputs).objects q) c.self.view_is,
      number_below own.planned c.self.invariant.faultless own.slots.items q i.0 i.1,
      ap (λ (x : SettledLayout). length (pieces_of (parsed x.inputs) x.slots)) c.self.view_is,
    )
