-- The sizes of a round, piece by piece.
use Rattle.std.proofs.Common.{◌≡◌, ℕ, zero, suc, ◌+◌, ◌<◌, true, false, List, [], ◌∷◌, length, refl, sym, ap, ◌∙◌, arith}
use Rattle.std.specs.Prelude.{slice_index}
use Rattle.std.proofs.lemmas.Bool.{and_from, and_left, and_right}
use Rattle.std.proofs.lemmas.List.{ext_get_or}
use Rattle.shrink_layout.specs.declared.piece.Piece.{Piece}
use Rattle.shrink_layout.specs.Invariants.Blocks.{grown_size, nth_piece}
use Rattle.shrink_layout.specs.Layout.{form_reaches_at, fit_from, grown_from}

-- there are as many sizes as before
length_grown : (a : List ℕ) (j : ℕ) (pieces : List Piece) (sizes : List ℕ) → length sizes ≡ length pieces → length (grown_from a j pieces sizes) ≡ length sizes
length_grown a j [] sizes e = refl
length_grown a j (p ∷ pieces) [] e = refl
length_grown a j (p ∷ pieces) (size ∷ sizes) e = ap suc (length_grown a (j + 1) pieces sizes (omega arith))

-- the size of the piece with number k is what the round makes of it
pub grown_at : (a : List ℕ) (j : ℕ) (pieces : List Piece) (sizes : List ℕ) (k : ℕ) → k < length pieces → length sizes ≡ length pieces
    → slice_index (grown_from a j pieces sizes) k ≡ grown_size a (j + k) (nth_piece pieces k) (slice_index sizes k)
grown_at a j [] sizes k lt e = absurd (omega arith)
grown_at a j (p ∷ pieces) [] k lt e = absurd (omega arith)
grown_at a j (p ∷ pieces) (size ∷ sizes) zero lt e =
    let z : j ≡ j + 0 = omega arith in ap (λ n. grown_size a n p size) z
grown_at a j (p ∷ pieces) (size ∷ sizes) (suc k) lt e =
    let z : j + 1 + k ≡ j + suc k = omega arith in
    grown_at a (j + 1) pieces sizes k (omega arith) (omega arith) ∙ ap (λ n. grown_size a n (nth_piece pieces k) (slice_index sizes k)) z

-- if each piece fits, all do
fit_all : (a : List ℕ) (j : ℕ) (pieces : List Piece) (sizes : List ℕ) → length sizes ≡ length pieces
    → ((k : ℕ) → k < length pieces → form_reaches_at a (j + k) (nth_piece pieces k) (slice_index sizes k) ≡ true) → fit_from a j pieces sizes ≡ true
fit_all a j [] sizes e f = refl
fit_all a j (p ∷ pieces) [] e f = refl
fit_all a j (p ∷ pieces) (size ∷ sizes) e f =
    let z : j + 0 ≡ j = omega arith in
    and_from _ _ (ap (λ n. form_reaches_at a n p size) (sym z) ∙ f 0 (omega arith))
    (fit_all a (j + 1) pieces sizes (omega arith) (λ k lt. let y : j + 1 + k ≡ j + suc k = omega arith in ap (λ n. form_reaches_at a n (nth_piece pieces k) (slice_index sizes k)) y ∙ f (suc k) (omega arith)))

-- if one doesn't, not all do
fit_not : (a : List ℕ) (j : ℕ) (pieces : List Piece) (sizes : List ℕ) (k : ℕ) → k < length pieces → length sizes ≡ length pieces
    → form_reaches_at a (j + k) (nth_piece pieces k) (slice_index sizes k) ≡ false → fit_from a j pieces sizes ≡ false
fit_not a j [] sizes k lt e out = absurd (omega arith)
fit_not a j (p ∷ pieces) [] k lt e out = absurd (omega arith)
fit_not a j (p ∷ pieces) (size ∷ sizes) zero lt e out =
    let z : j ≡ j + 0 = omega arith in and_left _ _ (ap (λ n. form_reaches_at a n p size) z ∙ out)
fit_not a j (p ∷ pieces) (size ∷ sizes) (suc k) lt e out =
    let z : j + 1 + k ≡ j + suc k = omega arith in
    and_right _ _ (fit_not a (j + 1) pieces sizes k (omega arith) (omega arith) (ap (λ n. form_reaches_at a n (nth_piece pieces k) (slice_index sizes k)) z ∙ out))

-- ---- of all pieces

-- sizes that are what the round makes of each piece are those of the round
pub grown_is : (a : List ℕ) (pieces : List Piece) (old new : List ℕ) → length old ≡ length pieces → length new ≡ length old
    → ((k : ℕ) → k < length pieces → slice_index new k ≡ grown_size a k (nth_piece pieces k) (slice_index old k)) → new ≡ grown_from a 0 pieces old
grown_is a pieces old new e same each =
    ext_get_or 0 new (grown_from a 0 pieces old) (same ∙ sym (length_grown a 0 pieces old e))
    (λ k lt.
    let within : k < length pieces = omega (arith, same, e, lt) in
    let z : k ≡ 0 + k = omega arith in
    each k within ∙ ap (λ n. grown_size a n (nth_piece pieces k) (slice_index old k)) z ∙ sym (grown_at a 0 pieces old k within e))

-- all fit if each does
pub fit_is : (a : List ℕ) (pieces : List Piece) (sizes : List ℕ) → length sizes ≡ length pieces
    → ((k : ℕ) → k < length pieces → form_reaches_at a k (nth_piece pieces k) (slice_index sizes k) ≡ true) → fit_from a 0 pieces sizes ≡ true
fit_is a pieces sizes e each =
    fit_all a 0 pieces sizes e (λ k lt. let z : 0 + k ≡ k = omega arith in ap (λ n. form_reaches_at a n (nth_piece pieces k) (slice_index sizes k)) z ∙ each k lt)

-- not all fit if one doesn't
pub fit_is_not : (a : List ℕ) (pieces : List Piece) (sizes : List ℕ) (k : ℕ) → length sizes ≡ length pieces → k < length pieces
    → form_reaches_at a k (nth_piece pieces k) (slice_index sizes k) ≡ false → fit_from a 0 pieces sizes ≡ false
fit_is_not a pieces sizes k e lt out =
    let z : 0 + k ≡ k = omega arith in
    fit_not a 0 pieces sizes k lt e (ap (λ n. form_reaches_at a n (nth_piece pieces k) (slice_index sizes k)) z ∙ out)
