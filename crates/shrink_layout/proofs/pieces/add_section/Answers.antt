-- What isn't code has no pieces (`none_next`, `no_owners_next`); what is has its padding, and the pieces of the places where its items start (`some_next`,
-- `owners_next`).
use Rattle.std.proofs.Common.{◌∙◌, ◌∷◌, ◌++◌, ◌+◌, [], None, IfOk, Result, Ok, Err, map, take, ap, slice_get, sym, subst}
use Rattle.psabi_sym.specs.Inputs.{parsed}
use Rattle.psabi_sym.specs.Indexed.{all_sections}
use Rattle.shrink_layout.specs.Invariants.Made.{AreHalvesOf, AreMade, AreStartsOf, owners_in}
use Rattle.shrink_layout.specs.Pieces.{alignment_of, piece_at, slot_at, unit_at}
use Rattle.shrink_layout.specs.declared.piece.Piece.TheVariants.{Fixed, Align}
use Rattle.shrink_layout.proofs.HalfLaws.{halves-append}
use Rattle.shrink_layout.proofs.SectionLaws.{no_owners_next, none_next, owners_next, some_at, some_next}
use Rattle.shrink_layout.proofs.pieces.add_section.Goals as goal

-- if one fact follows from two, it holds of a result of which both hold
if_ok : {X E : Type 0} (result : Result X E) (P Q R : Type 0) → (P → Q → R) → IfOk result (λ x. P) → IfOk result (λ x. Q) → IfOk result (λ x. R)
if_ok (Ok x) P Q R f p q = f p q
if_ok (Err e) P Q R f p q = tt

pub returns-in_default : goal.returns-in_default
returns-in_default c =
    let inputs = c.args.of.now.planned.now in
    let k = c.args.section in
    let there = some_at (all_sections (parsed inputs).objects) k c.requires.section in
    let l = there.0 in
    let other = c.of.ensures.none c.in_default.is l (ap (λ x. slice_get (all_sections (parsed x).objects) k) c.cut.ensures.same ∙ there.1) in
    record {
      pieces_are = c.requires.so_far.pieces_are ∙ ap (λ ps. Fixed 0 ∷ ps) (none_next inputs c.requires.numbered.faultless k l there.1 (slot_at (parsed inputs) []) other);
      halves_are = subst (λ owners. AreHalvesOf (None ∷ owners) c.args.made.now.halves.items) (no_owners_next inputs c.requires.numbered.faultless k l there.1 (slot_at (parsed inputs) []) other) c.requires.so_far.halves_are;
    }

pub add_places-requires-clause-held : goal.add_places-requires-clause-held
add_places-requires-clause-held c = (subst (λ x. AreStartsOf (parsed x) c.in-Some.starts) c.cut.ensures.same c.in-Some.ensures.some).held

pub add_places-requires-clause-few : goal.add_places-requires-clause-few
add_places-requires-clause-few c = c.in-Some.ensures.some.few

pub add_places-requires-clause-fixed : goal.add_places-requires-clause-fixed
add_places-requires-clause-fixed c = (subst (λ x. AreStartsOf (parsed x) c.in-Some.starts) c.cut.ensures.same c.in-Some.ensures.some).fixed

pub returns : goal.returns
returns c =
    let inputs = c.args.of.now.planned.now in
    let given = parsed inputs in
    let starts = c.in-Some.starts in
    let k = starts.number in
    let l = starts.section in
    let are = subst (λ x. AreStartsOf (parsed x) starts) c.cut.ensures.same c.in-Some.ensures.some in
    let slot = slot_at given [] in
    let so_far = subst (λ n. AreMade given n c.args.made.now) (sym c.in-Some.ensures.number) c.requires.so_far in
    let owners = None ∷ owners_in given slot (take k (all_sections given.objects)) in
    let pad = c.padding.ensures ∙ (λ j. alignment_of (are.fixed j) (c.align.ensures j)) in
    let pushed = c.in_ok-push.ensures.pieces ∙ (λ i. so_far.pieces_are i ++ (ap (λ m. m.piece) c.without_half.ensures.piece ∙ ap Align pad) i ∷ []) in
    let old : AreHalvesOf (owners ++ None ∷ []) c.push.new.self.halves.items =
    subst (AreHalvesOf (owners ++ None ∷ [])) (sym c.in_ok-push.ensures.halves)
    (halves-append owners (None ∷ []) c.args.made.now.halves.items (c.without_half.result.half ∷ []) so_far.halves_are (c.without_half.ensures.half, tt)) in
    if_ok c.add_places.result _ _ _
    (λ pieces halves. subst (λ n. AreMade given (n + 1) c.add_places.new.made) c.in-Some.ensures.number (record {
      pieces_are = pieces ∙ (λ i. pushed i ++ map (piece_at given slot) (are.are i))
          ∙ ap (λ ps. Fixed 0 ∷ ps) (some_next inputs c.requires.numbered.faultless k l are.at slot are.code);
      halves_are = subst (λ os. AreHalvesOf os c.add_places.new.made.halves.items)
          (ap (λ qs. (owners ++ None ∷ []) ++ map (unit_at given []) qs) are.are
          ∙ ap (λ os. None ∷ os) (owners_next inputs c.requires.numbered.faultless k l are.at slot are.code))
          (halves (owners ++ None ∷ []) old);
    }))
    c.add_places.ensures.pieces c.add_places.ensures.halves
