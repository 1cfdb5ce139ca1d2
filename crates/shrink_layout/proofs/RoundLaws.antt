-- Rounds: each is a choice of forms, each that doesn't fit leaves less to grow, and one that fits stays.
use Rattle.std.proofs.Common.{◌≡◌, ℕ, zero, suc, ◌+◌, ◌<◌, ◌≤◌, Bool, true, false, cond, ◌&&◌, List, [], ◌∷◌, map, length, refl, ap, arith}
use Rattle.std.proofs.lemmas.Bool.{and_parts, true≢false}
use Rattle.shrink_layout.specs.declared.piece.Piece.{Piece}
use Rattle.shrink_layout.specs.Forms.{shortest, longer, IsForm}
use Rattle.shrink_layout.specs.Layout.{form_reaches_at, fit_from, grown_from, round}
use Rattle.shrink_layout.specs.Least.{AreForms}
use Rattle.shrink_layout.proofs.FormLaws.{slack, shortest_form, longer_form, slack_falls}

-- ---- choices of forms

-- there are as many sizes as pieces
pub length_forms : (pieces : List Piece) (sizes : List ℕ) → AreForms pieces sizes → length sizes ≡ length pieces
length_forms [] [] h = refl
length_forms [] (size ∷ sizes) h = absurd h
length_forms (p ∷ pieces) [] h = absurd h
length_forms (p ∷ pieces) (size ∷ sizes) h = ap suc (length_forms pieces sizes h.1)

-- the shortest forms are a choice
pub shortest_forms : (pieces : List Piece) → AreForms pieces (map shortest pieces)
shortest_forms [] = tt
shortest_forms (p ∷ pieces) = (shortest_form p, shortest_forms pieces)

-- a piece keeps its form or takes the next longer one
either_form : (b : Bool) (p : Piece) (size : ℕ) → IsForm p size → IsForm p (cond b size (longer p size))
either_form true p size h = h
either_form false p size h = longer_form p size h

-- what a round makes of forms are forms
pub grown_forms : (a : List ℕ) (k : ℕ) (pieces : List Piece) (sizes : List ℕ) → AreForms pieces sizes → AreForms pieces (grown_from a k pieces sizes)
grown_forms a k [] sizes h = h
grown_forms a k (p ∷ pieces) [] h = absurd h
grown_forms a k (p ∷ pieces) (size ∷ sizes) h = (either_form (form_reaches_at a k p size) p size h.0, grown_forms a (k + 1) pieces sizes h.1)

-- the sizes of each round are forms
pub round_forms : (text : ℕ) (pieces : List Piece) (r : ℕ) → AreForms pieces (round text pieces r)
round_forms text pieces zero = shortest_forms pieces
round_forms text pieces (suc r) = grown_forms _ 0 pieces (round text pieces r) (round_forms text pieces r)

-- ---- what is left to grow

-- how much the pieces can still grow
abbrev pub slack_of : List Piece → List ℕ → ℕ
slack_of [] sizes = 0
slack_of (p ∷ pieces) [] = 0
slack_of (p ∷ pieces) (size ∷ sizes) = slack p size + slack_of pieces sizes

-- a piece that grows has less to grow, and one that doesn't has the same
kept_or_less : (b : Bool) (p : Piece) (size r r' : ℕ) → (b ≡ false → slack p (longer p size) < slack p size) → r' ≤ r → slack p (cond b size (longer p size)) + r' ≤ slack p size + r
kept_or_less true p size r r' f h = omega arith
kept_or_less false p size r r' f h = omega (arith, f refl)

-- a round leaves no more to grow
slack_kept : (a : List ℕ) (k : ℕ) (pieces : List Piece) (sizes : List ℕ) → AreForms pieces sizes → slack_of pieces (grown_from a k pieces sizes) ≤ slack_of pieces sizes
slack_kept a k [] sizes h = omega arith
slack_kept a k (p ∷ pieces) [] h = omega arith
slack_kept a k (p ∷ pieces) (size ∷ sizes) h =
    kept_or_less (form_reaches_at a k p size) p size _ _ (slack_falls p size _ _ h.0) (slack_kept a (k + 1) pieces sizes h.1)

-- less is left in all if this piece grows or if less is left for the rest
less : (b c : Bool) (p : Piece) (size r r' : ℕ) → (b ≡ false → slack p (longer p size) < slack p size) → r' ≤ r → (c ≡ false → r' < r) → (b && c) ≡ false → slack p (cond b size (longer p size)) + r' < slack p size + r
less true c p size r r' f h g out = omega (arith, g out)
less false c p size r r' f h g out = omega (arith, f refl)

-- a round that doesn't fit leaves less
pub slack_less : (a : List ℕ) (k : ℕ) (pieces : List Piece) (sizes : List ℕ) → AreForms pieces sizes → fit_from a k pieces sizes ≡ false → slack_of pieces (grown_from a k pieces sizes) < slack_of pieces sizes
slack_less a k [] sizes h out = absurd (true≢false out)
slack_less a k (p ∷ pieces) [] h out = absurd h
slack_less a k (p ∷ pieces) (size ∷ sizes) h out =
    less (form_reaches_at a k p size) (fit_from a (k + 1) pieces sizes) p size _ _ (slack_falls p size _ _ h.0) (slack_kept a (k + 1) pieces sizes h.1) (slack_less a (k + 1) pieces sizes h.1) out

-- ---- a round that fits

-- a piece that fits keeps its form
same_head : (b : Bool) (p : Piece) (size : ℕ) (rest rest' : List ℕ) → b ≡ true → rest ≡ rest' → cond b size (longer p size) ∷ rest ≡ size ∷ rest'
same_head b p size rest rest' e h = λ i. cond (e i) size (longer p size) ∷ h i

-- a round that fits makes nothing longer
pub grown_same : (a : List ℕ) (k : ℕ) (pieces : List Piece) (sizes : List ℕ) → AreForms pieces sizes → fit_from a k pieces sizes ≡ true → grown_from a k pieces sizes ≡ sizes
grown_same a k [] sizes h fits = refl
grown_same a k (p ∷ pieces) [] h fits = refl
grown_same a k (p ∷ pieces) (size ∷ sizes) h fits =
    let parts = and_parts (form_reaches_at a k p size) (fit_from a (k + 1) pieces sizes) fits in
    same_head (form_reaches_at a k p size) p size _ _ parts.0 (grown_same a (k + 1) pieces sizes h.1 parts.1)
