-- How far a run goes: the code takes as many of a section's places as the definition takes of its items.
use Prim.Native.Nat.{zero}
use Rattle.std.proofs.Common.{◌≡◌, ◌∙◌, ℕ, suc, ◌<◌, ◌≤◌, List, [], ◌∷◌, Option, Some, None, Bool, true, false, cond, length, take, map, eqb, refl, sym, ap, arith}
use Rattle.std.specs.Prelude.{◌||◌, not}
use Rattle.std.specs.List.{slice_get}
use Rattle.std.specs.Option.{is_some, option_and_then}
use Rattle.std.proofs.lemmas.Bool.{and_parts, and_cases, ne_eqb, not-true, not-false}
use Rattle.std.proofs.lemmas.List.{length-map}
use Rattle.std.proofs.lemmas.Option.{none-some, same_Some}
use Rattle.std.specs.Prelude.{◌⊎◌}
use Rattle.std.proofs.Common.{inl, inr}
use Rattle.zc_base.proofs.ListLaws.{get_map}
use Rattle.psabi_sym.specs.Inputs.{ParsedInputs}
use Rattle.psabi_sym.specs.Indexed.{IndexedSection}
use Rattle.rv_decode.specs.declared.instr.Instr.{Instr}
use Rattle.block_cut.specs.Items.{item_at, place_of}
use Rattle.block_cut.specs.declared.code_place.CodePlace.{CodePlace}
use Rattle.frame_match.specs.Groups.{may_have_groups, op_then, ops_behind, spot_on, Spot}
use Rattle.frame_match.specs.Read.{op_of}
use Rattle.frame_match.specs.Invariants.Runs.{joins, op_in, ops_of, run_from, spots_of, HaveOps, ArePlacesOf, IsRun}

-- ---- by index

pub get_taken : {X : Type 0} (n : ℕ) (xs : List X) (k : ℕ) (x : X) → slice_get (take n xs) k ≡ Some x → (k < n) × (slice_get xs k ≡ Some x)
get_taken zero xs k x h = absurd (none-some x h)
get_taken (suc n) [] k x h = absurd (none-some x h)
get_taken (suc n) (y ∷ ys) zero x h = (omega arith, h)
get_taken (suc n) (y ∷ ys) (suc k) x h = let w = get_taken n ys k x h in (omega (arith, w.0), w.1)

pub map_get : {X Y : Type 0} (f : X → Y) (xs : List X) (k : ℕ) (y : Y) → slice_get (map f xs) k ≡ Some y → (x : X) × (slice_get xs k ≡ Some x) × (f x ≡ y)
map_get f [] k y h = absurd (none-some y h)
map_get f (x ∷ xs) zero y h = (x, refl, same_Some (f x) y h)
map_get f (x ∷ xs) (suc k) y h = map_get f xs k y h

-- ---- the code's loop

-- the first n places have instructions that are a run
abbrev pub Joined : ParsedInputs → IndexedSection → List CodePlace → ℕ → Type 0
Joined inputs l ps n =
    (k : ℕ) (p : CodePlace) → k < n → slice_get ps k ≡ Some p
    → (is_some (op_in p) ≡ true) × (joins (eqb k 0) (spot_on inputs l p.offset) ≡ true)

pub joined_ops : (inputs : ParsedInputs) (l : IndexedSection) (ps : List CodePlace) (n : ℕ) → Joined inputs l ps n → HaveOps (take n ps)
joined_ops inputs l ps n h k p g = let w = get_taken n ps k p g in (h k p w.0 w.1).0

pub joined_run : (inputs : ParsedInputs) (l : IndexedSection) (ps : List CodePlace) (n : ℕ) → n ≤ length ps → n ≤ 16 → Joined inputs l ps n
    → ((p : CodePlace) → n < 16 → slice_get ps n ≡ Some p → joins (eqb n 0) (spot_on inputs l p.offset) ≡ false)
    → IsRun (spots_of inputs l ps) n
joined_run inputs l ps n within few h stops = record {
  within = let e = length-map ps (λ p. spot_on inputs l p.offset) in omega (arith, e, within);
  few = few;
  each = λ k s lt g.
      let w = map_get (λ p. spot_on inputs l p.offset) ps k s g in
      ap (joins (eqb k 0)) (sym w.2) ∙ (h k w.0 lt w.1).1;
  stops = λ s lt g.
      let w = map_get (λ p. spot_on inputs l p.offset) ps n s g in
      ap (joins (eqb n 0)) (sym w.2) ∙ stops w.0 lt w.1;
}

-- ---- the code's run is the definition's run

-- a basic block may begin at the first of some items, and at no other
abbrev at : Bool → ℕ → Bool
at first zero = first
at first (suc k) = false

at_is : (k : ℕ) → eqb k 0 ≡ at true k
at_is zero = refl
at_is (suc k) = ne_eqb (suc k) 0 (λ e. omega (arith, e))

at_false : (k : ℕ) → at false k ≡ false
at_false zero = refl
at_false (suc k) = refl

abbrev run_on : Bool → List Spot → List Instr
run_on true ss = run_from ss
run_on false ss = ops_behind ss

run_none : (first : Bool) → run_on first [] ≡ []
run_none true = refl
run_none false = refl

joined_op : (first : Bool) (s : Spot) (ss : List Spot) → joins first s ≡ true → (i : Instr) × (s.op ≡ Some i) × (run_on first (s ∷ ss) ≡ i ∷ ops_behind ss)
joined_op first s ss h = by first s.op refl (and_parts (is_some s.op) (first || not s.leader) h)
  where
    by : (first : Bool) (o : Option Instr) → s.op ≡ o → (is_some s.op ≡ true) × ((first || not s.leader) ≡ true)
        → (i : Instr) × (s.op ≡ Some i) × (run_on first (s ∷ ss) ≡ i ∷ ops_behind ss)
    by first None e p = let f = ap is_some (sym e) ∙ p.0 in absurd cc
    by true (Some i) e p = (i, e, ap (λ o. op_then o (ops_behind ss)) e)
    by false (Some i) e p = (i, e, ap (λ b. cond b [] (op_then s.op (ops_behind ss))) (not-true s.leader p.1) ∙ ap (λ o. op_then o (ops_behind ss)) e)

not_joined : (first : Bool) (s : Spot) (ss : List Spot) → joins first s ≡ false → run_on first (s ∷ ss) ≡ []
not_joined first s ss h = by first s.op refl (and_cases (is_some s.op) (first || not s.leader) h)
  where
    lead : (b : Bool) → cond b [] (op_then None (ops_behind ss)) ≡ []
    lead true = refl
    lead false = refl

    none : (first : Bool) → s.op ≡ None → run_on first (s ∷ ss) ≡ []
    none true e = ap (λ o. op_then o (ops_behind ss)) e
    none false e = ap (λ o. cond s.leader [] (op_then o (ops_behind ss))) e ∙ lead s.leader

    by : (first : Bool) (o : Option Instr) → s.op ≡ o → (is_some s.op ≡ false) ⊎ ((first || not s.leader) ≡ false) → run_on first (s ∷ ss) ≡ []
    by first None e p = none first e
    by first (Some i) e (inl f) = let g = ap is_some (sym e) ∙ f in absurd cc
    by true (Some i) e (inr f) = absurd cc
    by false (Some i) e (inr f) = ap (λ b. cond b [] (op_then s.op (ops_behind ss))) (not-false s.leader f)

-- what stands at an offset has its instruction, if the section may have groups
pub spot_op : (inputs : ParsedInputs) (l : IndexedSection) (n : ℕ) → may_have_groups inputs l.object l.index ≡ true
    → (spot_on inputs l n).op ≡ option_and_then op_of (item_at inputs (place_of l n))
spot_op inputs l n has = ap (λ b. cond b (option_and_then op_of (item_at inputs (place_of l n))) None) has

taken : (inputs : ParsedInputs) (l : IndexedSection) → may_have_groups inputs l.object l.index ≡ true → (first : Bool) (ps : List CodePlace) (n m : ℕ) → ArePlacesOf inputs l ps → n ≤ m → n ≤ length ps
    → ((k : ℕ) (p : CodePlace) → k < n → slice_get ps k ≡ Some p → joins (at first k) (spot_on inputs l p.offset) ≡ true)
    → ((p : CodePlace) → n < m → slice_get ps n ≡ Some p → joins (at first n) (spot_on inputs l p.offset) ≡ false)
    → take m (ops_of (take n ps)) ≡ take m (run_on first (spots_of inputs l ps))
taken inputs l has first [] zero m are le within each stops = ap (take m) (sym (run_none first))
taken inputs l has first [] (suc n) m are le within each stops = absurd (omega (arith, within))
taken inputs l has first (p ∷ ps) zero zero are le within each stops = refl
taken inputs l has first (p ∷ ps) zero (suc m) are le within each stops =
    ap (take (suc m)) (sym (not_joined first (spot_on inputs l p.offset) (spots_of inputs l ps) (stops p (omega arith) refl)))
taken inputs l has first (p ∷ ps) (suc n) zero are le within each stops = absurd (omega (arith, le))
taken inputs l has first (p ∷ ps) (suc n) (suc m) are le within each stops =
    let w = joined_op first (spot_on inputs l p.offset) (spots_of inputs l ps) (each 0 p (omega arith) refl) in
    let op : op_in p ≡ Some w.0 = ap op_in (are 0 p refl) ∙ sym (spot_op inputs l p.offset has) ∙ w.1 in
    ap (λ o. take (suc m) (op_then o (ops_of (take n ps)))) op
    ∙ ap (λ is. w.0 ∷ is)
    (taken inputs l has false ps n m (λ k q g. are (suc k) q g) (omega (arith, le)) (omega (arith, within))
    (λ k q lt g. ap (λ b. joins b (spot_on inputs l q.offset)) (at_false k) ∙ each (suc k) q (omega (arith, lt)) g)
    (λ q lt g. ap (λ b. joins b (spot_on inputs l q.offset)) (at_false n) ∙ stops q (omega (arith, lt)) g))
    ∙ ap (take (suc m)) (sym w.2)

pub run_is : (inputs : ParsedInputs) (l : IndexedSection) → may_have_groups inputs l.object l.index ≡ true → (ps : List CodePlace) (n : ℕ) → ArePlacesOf inputs l ps → IsRun (spots_of inputs l ps) n
    → take 16 (ops_of (take n ps)) ≡ take 16 (run_from (spots_of inputs l ps))
run_is inputs l has ps n are r =
    taken inputs l has true ps n 16 are r.few (let e = length-map ps (λ p. spot_on inputs l p.offset) in let w = r.within in omega (arith, e, w))
    (λ k p lt g. ap (λ b. joins b (spot_on inputs l p.offset)) (sym (at_is k)) ∙ r.each k (spot_on inputs l p.offset) lt (get_map (λ p. spot_on inputs l p.offset) ps k p g))
    (λ p lt g. ap (λ b. joins b (spot_on inputs l p.offset)) (sym (at_is n)) ∙ r.stops (spot_on inputs l p.offset) lt (get_map (λ p. spot_on inputs l p.offset) ps n p g))
