-- A cell of data lies in one region alone, a segment of data: so a byte that is written there is read there, and writing the byte that
-- it held brings back the memory from before.
use Rattle.std.proofs.Common.{◌≡◌, ℕ, suc, ◌+◌, ◌-◌, ◌<◌, List, [], ◌∷◌, length, get_or, Bool, true, false, cond, refl, sym, ap, ap₂, ◌∙◌, inl, inr, ⊎_elim, arith, leb, ltb}
use Rattle.std.specs.Prelude.{◌⊎◌, ◌&&◌, All}
use Rattle.std.proofs.lemmas.Bool.{and_from, and_parts, and_right, cases_eq, cond-false, cond-true, le-leb, leb-true, or_cases, or_from, or_parts}
use Rattle.std.proofs.lemmas.List.Elements.{All-head, All-tail}
use Rattle.rv_decode.specs.Memory.{Data, Extent, Kind, Region, Stack, Text, cell_at, cells_changed, changed, extent_of, extents_of, is_text, lies_in, spans, written}
use Rattle.rv_decode.proofs.MemoryLaws.{is_covered, lies_covered, untouched}
use Rattle.rv_decode.proofs.WriteLaws.{changed-after, written_there}
use Rattle.zc_machine.specs.Memory.{Apart, AreApart}
use Rattle.zc_machine.specs.Poked.{is_segment}

-- ---- where a cell lies

-- one region has the address, and that is a segment of data
abbrev pub LiesAlone : List Extent → ℕ → Type 0
LiesAlone [] a = ⊥
LiesAlone (x ∷ xs) a =
    ((is_segment x.kind ≡ true) × (spans x a 1 ≡ true) × (is_covered xs a ≡ false)) ⊎ ((spans x a 1 ≡ false) × LiesAlone xs a)

uncovered_lies : (fits : Kind → Bool) (es : List Extent) (a : ℕ) → is_covered es a ≡ false → lies_in fits es a 1 ≡ false
uncovered_lies fits [] a h = refl
uncovered_lies fits (x ∷ xs) a h =
    let q = or_parts (spans x a 1) (is_covered xs a) h in
    or_from (fits x.kind && spans x a 1) (lies_in fits xs a 1) (and_right (fits x.kind) (spans x a 1) q.0) (uncovered_lies fits xs a q.1)

-- what spans an address lies apart from what else spans it
apart_uncovered : (x : Extent) (ys : List Extent) (a : ℕ) → All (Apart x) ys → spans x a 1 ≡ true → is_covered ys a ≡ false
apart_uncovered x [] a apart here = refl
apart_uncovered x (y ∷ ys) a apart here = or_from (spans y a 1) (is_covered ys a) (by (spans y a 1) refl) (apart_uncovered x ys a (All-tail (Apart x) y ys apart) here)
  where
    by : (b : Bool) → spans y a 1 ≡ b → b ≡ false
    by true there =
        let q = and_parts (leb x.at a) (leb (a + 1) (x.at + x.size)) here in
        let u = and_parts (leb y.at a) (leb (a + 1) (y.at + y.size)) there in
        let none = All-head (Apart x) y ys apart in
        absurd (omega (arith, none, leb-true x.at a q.0, leb-true (a + 1) (x.at + x.size) q.1, leb-true y.at a u.0, leb-true (a + 1) (y.at + y.size) u.1))
    by false there = refl

-- of regions that lie apart only one has the address
pub alone_apart : (es : List Extent) (a : ℕ) → AreApart es → lies_in is_segment es a 1 ≡ true → LiesAlone es a
alone_apart [] a apart h = absurd cc
alone_apart (x ∷ xs) a apart h = ⊎_elim
    (λ here. let q = and_parts (is_segment x.kind) (spans x a 1) here in inl (q.0, q.1, apart_uncovered x xs a apart.1 q.1))
    (λ rest. inr (by (spans x a 1) refl (lies_covered is_segment xs a rest), alone_apart xs a apart.2 rest))
    (or_cases (is_segment x.kind && spans x a 1) (lies_in is_segment xs a 1) h)
  where
    by : (b : Bool) → spans x a 1 ≡ b → is_covered xs a ≡ true → b ≡ false
    by true here covered = absurd (let none = apart_uncovered x xs a apart.1 here in cc)
    by false here covered = refl

no_text : (k : Kind) → is_segment k ≡ true → is_text k ≡ false
no_text Text h = absurd cc
no_text Data h = refl
no_text Stack h = absurd cc

-- no text lies there
pub alone_no_text : (es : List Extent) (a : ℕ) → LiesAlone es a → lies_in is_text es a 1 ≡ false
alone_no_text [] a h = absurd h
alone_no_text (x ∷ xs) a (inl h) =
    or_from (is_text x.kind && spans x a 1) (lies_in is_text xs a 1) (ap (λ b. b && spans x a 1) (no_text x.kind h.0)) (uncovered_lies is_text xs a h.2)
alone_no_text (x ∷ xs) a (inr h) =
    or_from (is_text x.kind && spans x a 1) (lies_in is_text xs a 1) (and_right (is_text x.kind) (spans x a 1) h.0) (alone_no_text xs a h.1)

-- ---- a byte is written over itself

module _ (a o : ℕ) where
  -- the cells of one region, if only o stands there
  same_cells : (at : ℕ) (cs : List ℕ) → ((i : ℕ) → i < length cs → at + i ≡ a → get_or cs i 0 ≡ o) → cells_changed (written a 1 (λ _. o)) at cs ≡ cs
  same_cells at [] holds = refl
  same_cells at (c ∷ cs) holds = ap₂ (λ x xs. x ∷ xs) (first (cases_eq at a))
      (same_cells (suc at) cs (λ i lt is. holds (suc i) (omega (arith, lt)) (omega (arith, is))))
    where
      first : (at ≡ a) ⊎ (at ≡ a → ⊥) → written a 1 (λ _. o) at c ≡ c
      first (inl is) = written_there a 1 (λ _. o) at c (omega (arith, is)) (omega (arith, is)) ∙ sym (holds 0 (omega arith) (omega (arith, is)))
      first (inr other) = untouched a 1 (λ _. o) at c (λ low high. other (omega (arith, low, high)))

  -- a region without the address
  same_region : (r : Region ℕ) → spans (extent_of r) a 1 ≡ false → cells_changed (written a 1 (λ _. o)) r.at r.cells ≡ r.cells
  same_region r none = same_cells r.at r.cells (λ i lt is. absurd (
      let yes : spans (extent_of r) a 1 ≡ true = and_from (leb r.at a) (leb (a + 1) (r.at + length r.cells)) (le-leb r.at a (omega (arith, is))) (le-leb (a + 1) (r.at + length r.cells) (omega (arith, is, lt))) in
      cc
      ))

  uncovered_same : (rs : List (Region ℕ)) → is_covered (extents_of rs) a ≡ false → changed (written a 1 (λ _. o)) rs ≡ rs
  uncovered_same [] none = refl
  uncovered_same (r ∷ rs) none =
      let q = or_parts (spans (extent_of r) a 1) (is_covered (extents_of rs) a) none in
      ap₂ (λ cs xs. record r { cells = cs } ∷ xs) (same_region r q.0) (uncovered_same rs q.1)

  same_written : (rs : List (Region ℕ)) → LiesAlone (extents_of rs) a → cell_at 0 rs a ≡ o → changed (written a 1 (λ _. o)) rs ≡ rs
  same_written [] alone is = absurd alone
  same_written (r ∷ rs) (inl h) is =
      ap₂ (λ cs xs. record r { cells = cs } ∷ xs)
      (same_cells r.at r.cells (λ i lt at.
      let index : a - r.at ≡ i = omega (arith, at) in
      ap (λ k. get_or r.cells k 0) (sym index) ∙ sym (cond-true (spans (extent_of r) a 1) (get_or r.cells (a - r.at) 0) (cell_at 0 rs a) h.1) ∙ is))
      (uncovered_same rs h.2)
  same_written (r ∷ rs) (inr h) is =
      ap₂ (λ cs xs. record r { cells = cs } ∷ xs) (same_region r h.0)
      (same_written rs h.1 (sym (cond-false (spans (extent_of r) a 1) (get_or r.cells (a - r.at) 0) (cell_at 0 rs a) h.0) ∙ is))

-- the byte from before is written over another one
pub written_back :
    (a b : ℕ) (rs : List (Region ℕ)) → LiesAlone (extents_of rs) a → changed (written a 1 (λ _. cell_at 0 rs a)) (changed (written a 1 (λ _. b)) rs) ≡ rs
written_back a b rs alone =
    let o = cell_at 0 rs a in
    changed-after (written a 1 (λ _. o)) (written a 1 (λ _. b)) (written a 1 (λ _. o)) over rs ∙ same_written a o rs alone refl
  where
    over : (x c : ℕ) → written a 1 (λ _. cell_at 0 rs a) x (written a 1 (λ _. b) x c) ≡ written a 1 (λ _. cell_at 0 rs a) x c
    over x c = either (leb a x && ltb x (a + 1))
      where
        either : (t : Bool) → cond t (cell_at 0 rs a) (cond t b c) ≡ cond t (cell_at 0 rs a) c
        either true = refl
        either false = refl
