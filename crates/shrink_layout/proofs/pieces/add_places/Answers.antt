-- Each place where an item starts adds its piece and its halfword (`held_next`).
use Rattle.std.proofs.Common.{◌≡◌, ◌+◌, ◌∷◌, ◌++◌, ◌∙◌, List, [], append_assoc, map, take, ap, subst, subst₂, sym}
use Rattle.std.proofs.lemmas.List.{map-append}
use Rattle.psabi_sym.specs.Fixed.{is_fixed_at}
use Rattle.psabi_sym.specs.Inputs.{parsed}
use Rattle.zc_base.specs.declared.place.Place.{Place}
use Rattle.block_cut.specs.Items.{place_of}
use Rattle.shrink_layout.specs.Invariants.Made.{AreHalvesOf, places_held}
use Rattle.shrink_layout.specs.Invariants.Numbers.{IsHalfAt}
use Rattle.shrink_layout.specs.Invariants.Slots.{first_piece, first_unit}
use Rattle.shrink_layout.proofs.HalfLaws.{halves-append}
use Rattle.shrink_layout.proofs.SectionLaws.{held_next, some_at}
use Rattle.shrink_layout.proofs.pieces.add_places.Goals as goal

-- what a function gives for one place more
one_more : {Y : Type 0} (f : Place → Y) (first : List Y) (places more : List Place) (q : Place) → more ≡ places ++ q ∷ [] → (first ++ map f places) ++ f q ∷ [] ≡ first ++ map f more
one_more f first places more q is =
    append_assoc first (map f places) (f q ∷ []) ∙ ap (λ l. first ++ l) (sym (map-append f places (q ∷ [])) ∙ ap (map f) (sym is))

pub place_piece-requires-clause-place : goal.place_piece-requires-clause-place
place_piece-requires-clause-place c = c.item_place.ensures.held (parsed c.args.of.now.planned.now) c.requires.held

pub place_piece-requires-clause-fixed : goal.place_piece-requires-clause-fixed
place_piece-requires-clause-fixed c =
    let given = parsed c.args.of.now.planned.now in
    let got = some_at c.args.section.now.places.now c.loop-i.i c.loop-i-test.true in
    c.requires.fixed ∙ ap (λ (q : Place). is_fixed_at given q.object q.section) (sym (c.item_place.ensures.at got.0 got.1))

pub loop-i-preserved : goal.loop-i-preserved
loop-i-preserved c =
    let given = parsed c.args.of.now.planned.now in
    let l = c.args.section.now.section in
    let places = c.args.section.now.places.now in
    let k = c.loop-i.i in
    let got = some_at places k c.loop-i-test.true in
    let q = place_of l (got.0).offset in
    let here = c.item_place.ensures.at got.0 got.1 in
    let held = places_held l (take k places) in
    let more = held_next l places k got.0 got.1 in
    let piece = c.place_piece.ensures.piece ∙ ap (first_piece given) here in
    let half = subst (λ x. IsHalfAt (first_unit given x) c.place_piece.result.half) here c.place_piece.ensures.half in
    record {
      pieces = c.in_ok-push.ensures.pieces
          ∙ (λ j. c.loop-i.invariant.pieces j ++ piece j ∷ [])
          ∙ one_more (first_piece given) c.args.made.now.pieces.items held (places_held l (take (k + 1) places)) q more;
      halves = λ owners are.
          subst₂ AreHalvesOf
          (one_more (first_unit given) owners held (places_held l (take (k + 1) places)) q more)
          (sym c.in_ok-push.ensures.halves)
          (halves-append (owners ++ map (first_unit given) held) (first_unit given q ∷ []) c.loop-i.made.halves.items (c.place_piece.result.half ∷ [])
          (c.loop-i.invariant.halves owners are) (half, tt));
    }
