-- The halfword of a jump or call through the table is that of its piece.
use Rattle.std.proofs.Common.{◌≡◌, ◌∙◌, ◌<◌, ℕ, true, length, slice_index, sym, ap, subst, arith}
use Rattle.std.proofs.lemmas.Bool.{or_left}
use Rattle.std.proofs.lemmas.List.{get_or_default}
use Rattle.zc_base.specs.declared.place.Place.{Place}
use Rattle.psabi_sym.specs.Inputs.{Inputs, parsed}
use Rattle.block_cut.specs.Items.{is_end_at, is_start_at}
use Rattle.block_cut.specs.Places.{IsPlaceNumber}
use Rattle.shrink_layout.specs.Invariants.Numbers.{AreHalves, IsHalfAt}
use Rattle.shrink_layout.specs.Pieces.{piece_number_at, unit_at}
use Rattle.shrink_layout.specs.Settled.{SettledLayout}
use Rattle.shrink_layout.proofs.HalfLaws.{all_halves, no_site_half_by, site_half_by}
use Rattle.shrink_layout.proofs.NumberLaws.{number_below}
use Rattle.shrink_layout.proofs.UnitLaws.{start_item}
use Rattle.shrink_layout.proofs.settled.Settled.site_half.Goals as goal
use Rattle.shrink_layout.proofs.settled.Settled.site_half.Goals.{After-piece_at}

module _ (c : After-piece_at) (q : Place) (start : is_start_at (parsed c.args.self.now.inputs).objects q ≡ true) (has : IsPlaceNumber (parsed c.args.self.now.inputs).objects q c.args.number) where
  abbrev own : Inputs
  own = c.self.inside.planned

  same : own ≡ c.args.self.now.inputs
  same = ap (λ (x : SettledLayout). x.inputs) c.self.view_is

  here : is_start_at (parsed own).objects q ≡ true
  here = ap (λ x. is_start_at (parsed x).objects q) same ∙ start

  are : AreHalves (parsed own) c.self.inside.slots.items c.self.inside.made.halves.items
  are = all_halves own c.self.invariant.faultless c.self.inside.slots.items c.self.inside.made.halves.items c.self.invariant.made_are.halves_are

  number : c.piece_at.result ≡ piece_number_at (parsed own).objects q
  number =
      c.piece_at.ensures.known q (or_left (is_start_at (parsed c.args.self.now.inputs).objects q) (is_end_at (parsed c.args.self.now.inputs).objects q) start) has
      ∙ ap (λ x. piece_number_at (parsed x).objects q) (sym same)

  within : c.piece_at.result < length c.self.inside.made.halves.items
  within =
      let i = start_item (parsed own) q here in
      omega (arith, number, number_below own c.self.invariant.faultless c.self.inside.slots.items q i.0 i.1, are.0)

  half : (read : ℕ) → read ≡ slice_index c.self.inside.made.halves.items c.piece_at.result → IsHalfAt (unit_at (parsed c.args.self.now.inputs) c.args.self.now.slots q) read
  half read is =
      let i = start_item (parsed own) q here in
      subst (λ (x : SettledLayout). IsHalfAt (unit_at (parsed x.inputs) x.slots q) read) c.self.view_is
      (subst (IsHalfAt (unit_at (parsed own) c.self.inside.slots.items q)) (sym (is ∙ ap (slice_index c.self.inside.made.halves.items) number)) (are.1 q i.0 i.1))

pub index-half-requires : goal.index-half-requires
index-half-requires c = omega (arith, within c c.requires.0 c.requires.1 c.requires.2, c.self.inside.made.halves.ok)

pub returns-then-is_table_jump : goal.returns-then-is_table_jump
returns-then-is_table_jump c = λ q start has.
    let a = (goal.at.returns-then-is_table_jump c).After-piece_at in
    let read = c.index-half.ensures ∙ get_or_default c.self.inside.made.halves.items c.piece_at.result c.index-half.result.now 0 (within a q start has) in
    site_half_by (unit_at (parsed c.args.self.now.inputs) c.args.self.now.slots q) c.index-half.result.now (half a q start has c.index-half.result.now read)
    (sym c.is_table_jump.ensures ∙ c.if-is_table_jump.true)

pub returns-else-is_table_jump : goal.returns-else-is_table_jump
returns-else-is_table_jump c = λ q start has.
    let a = (goal.at.returns-else-is_table_jump c).After-piece_at in
    let read = c.index-half.ensures ∙ get_or_default c.self.inside.made.halves.items c.piece_at.result c.index-half.result.now 0 (within a q start has) in
    no_site_half_by (unit_at (parsed c.args.self.now.inputs) c.args.self.now.slots q) c.index-half.result.now (half a q start has c.index-half.result.now read)
    (sym c.is_table_jump.ensures ∙ c.if-is_table_jump.false)
