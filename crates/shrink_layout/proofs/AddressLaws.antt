-- Addresses at given sizes: their number, how they follow one another, and how large they are.
use Rattle.std.proofs.Common.{◌≡◌, ℕ, zero, suc, ◌+◌, ◌%◌, ◌<◌, ◌≤◌, List, [], ◌∷◌, length, All, get_or, refl, sym, ap, ◌∙◌, subst, arith, true}
use Rattle.std.specs.Prelude.{slice_index}
use Rattle.std.specs.List.{sum_by}
use Rattle.std.proofs.lemmas.Bool.{and_parts}
use Rattle.std.proofs.lemmas.List.{get_or_default}
use Rattle.std.proofs.lemmas.List.Elements.{All-nil, All-cons, All-tail}
use Rattle.std.proofs.lemmas.List.Sums.{sum_by-cons}
use Rattle.shrink_layout.specs.declared.piece.Piece.{Piece}
use Rattle.shrink_layout.specs.Forms.{IsForm, HasAlignment, IsEvenPiece, form_reaches, longest, near_limit, target, width}
use Rattle.shrink_layout.specs.Layout.{addresses_of, form_reaches_at, fit_from, all_fit, IsLayout}
use Rattle.shrink_layout.specs.Least.{AreForms}
use Rattle.shrink_layout.proofs.FormLaws.{even_after, width_most}
use Rattle.shrink_layout.proofs.RoundLaws.{round_forms}

-- ---- sizes

-- each size is a form of its piece
pub form_at : (pieces : List Piece) (sizes : List ℕ) (k : ℕ) (d : Piece) → k < length pieces → AreForms pieces sizes → IsForm (get_or pieces k d) (slice_index sizes k)
form_at [] sizes k d lt h = absurd (omega arith)
form_at (p ∷ pieces) [] k d lt h = absurd h
form_at (p ∷ pieces) (size ∷ sizes) zero d lt h = h.0
form_at (p ∷ pieces) (size ∷ sizes) (suc k) d lt h = form_at pieces sizes k d (omega arith) h.1

-- the sizes of the layout are forms
pub layout_forms : (text : ℕ) (pieces : List Piece) (sizes : List ℕ) → IsLayout text pieces sizes → AreForms pieces sizes
layout_forms text pieces sizes is = subst (AreForms pieces) (sym is.is) (round_forms text pieces is.rounds)

-- ---- how addresses follow one another

-- there is one address for each piece, and one for the end
pub length_addresses : (at : ℕ) (pieces : List Piece) (sizes : List ℕ) → AreForms pieces sizes → length (addresses_of at pieces sizes) ≡ length pieces + 1
length_addresses at [] sizes h = refl
length_addresses at (p ∷ pieces) [] h = absurd h
length_addresses at (p ∷ pieces) (size ∷ sizes) h = omega (arith, length_addresses (at + width p size at) pieces sizes h.1)

-- the first is where the text begins
pub first_address : (at : ℕ) (pieces : List Piece) (sizes : List ℕ) → slice_index (addresses_of at pieces sizes) 0 ≡ at
first_address at [] sizes = refl
first_address at (p ∷ pieces) [] = refl
first_address at (p ∷ pieces) (size ∷ sizes) = refl

-- the next one is after the bytes of the piece
pub next_address : (at : ℕ) (pieces : List Piece) (sizes : List ℕ) (k : ℕ) (d : Piece) → k < length pieces → AreForms pieces sizes
    → slice_index (addresses_of at pieces sizes) (k + 1) ≡ slice_index (addresses_of at pieces sizes) k + width (get_or pieces k d) (slice_index sizes k) (slice_index (addresses_of at pieces sizes) k)
next_address at [] sizes k d lt h = absurd (omega arith)
next_address at (p ∷ pieces) [] k d lt h = absurd h
next_address at (p ∷ pieces) (size ∷ sizes) zero d lt h = first_address (at + width p size at) pieces sizes
next_address at (p ∷ pieces) (size ∷ sizes) (suc k) d lt h =
    let next : suc k + 1 ≡ suc (k + 1) = omega arith in
    ap (slice_index (addresses_of at (p ∷ pieces) (size ∷ sizes))) next ∙ next_address (at + width p size at) pieces sizes k d (omega arith) h.1

-- addresses ascend
pub ascending : (at : ℕ) (pieces : List Piece) (sizes : List ℕ) → AreForms pieces sizes → (i j : ℕ) → i ≤ j → j ≤ length pieces
    → slice_index (addresses_of at pieces sizes) i ≤ slice_index (addresses_of at pieces sizes) j
ascending at [] sizes h zero zero le within = omega arith
ascending at [] sizes h zero (suc j) le within = absurd (omega arith)
ascending at [] sizes h (suc i) j le within = absurd (omega arith)
ascending at (p ∷ pieces) [] h i j le within = absurd h
ascending at (p ∷ pieces) (size ∷ sizes) h zero zero le within = omega arith
ascending at (p ∷ pieces) (size ∷ sizes) h zero (suc j) le within =
    omega (arith, ascending (at + width p size at) pieces sizes h.1 zero j (omega arith) (omega arith), first_address (at + width p size at) pieces sizes)
ascending at (p ∷ pieces) (size ∷ sizes) h (suc i) zero le within = absurd (omega arith)
ascending at (p ∷ pieces) (size ∷ sizes) h (suc i) (suc j) le within = ascending (at + width p size at) pieces sizes h.1 i j (omega arith) (omega arith)

-- ---- what they are

-- addresses of even pieces are even
pub even_address : (at : ℕ) (pieces : List Piece) (sizes : List ℕ) → All IsEvenPiece pieces → AreForms pieces sizes → at % 2 ≡ 0 → (k : ℕ) → slice_index (addresses_of at pieces sizes) k % 2 ≡ 0
even_address at [] sizes even h e zero = e
even_address at [] sizes even h e (suc k) = refl
even_address at (p ∷ pieces) [] even h e k = absurd h
even_address at (p ∷ pieces) (size ∷ sizes) even h e zero = e
even_address at (p ∷ pieces) (size ∷ sizes) even h e (suc k) =
    even_address (at + width p size at) pieces sizes (All-tail IsEvenPiece p pieces even) h.1 (even_after p size at (even 0 p (omega arith)) h.0 e) k

-- none is beyond what the pieces take at most
pub address_most : (at : ℕ) (pieces : List Piece) (sizes : List ℕ) → All HasAlignment pieces → AreForms pieces sizes → All (λ a. a ≤ at + sum_by longest pieces) (addresses_of at pieces sizes)
address_most at [] sizes some h = All-cons (λ a. a ≤ at + 0) at [] (omega arith) (All-nil (λ a. a ≤ at + 0))
address_most at (p ∷ pieces) [] some h = absurd h
address_most at (p ∷ pieces) (size ∷ sizes) some h =
    let most = width_most p size at (some 0 p (omega arith)) h.0 in
    let all = sum_by-cons longest p pieces in
    let rest = address_most (at + width p size at) pieces sizes (All-tail HasAlignment p pieces some) h.1 in
    All-cons (λ a. a ≤ at + sum_by longest (p ∷ pieces)) at _ (omega arith) (λ k d lt. omega (arith, rest k d lt))

-- nor is the end
pub last_address : (at : ℕ) (pieces : List Piece) (sizes : List ℕ) → All HasAlignment pieces → AreForms pieces sizes → slice_index (addresses_of at pieces sizes) (length pieces) ≤ at + sum_by longest pieces
last_address at pieces sizes some h = address_most at pieces sizes some h (length pieces) 0 (omega (arith, length_addresses at pieces sizes h))

-- nor is one before the first
pub address_least : (at : ℕ) (pieces : List Piece) (sizes : List ℕ) → AreForms pieces sizes → All (λ a. at ≤ a) (addresses_of at pieces sizes)
address_least at pieces sizes h = λ k d lt.
    omega (
      arith,
      get_or_default (addresses_of at pieces sizes) k d 0 lt,
      first_address at pieces sizes,
      ascending at pieces sizes h 0 k (omega arith) (omega (arith, lt, length_addresses at pieces sizes h)),
    )

-- any two addresses are near each other
pub near_addresses : (at : ℕ) (pieces : List Piece) (sizes : List ℕ) → All HasAlignment pieces → AreForms pieces sizes → sum_by longest pieces < near_limit
    → All (λ a. All (λ b. a < b + near_limit) (addresses_of at pieces sizes)) (addresses_of at pieces sizes)
near_addresses at pieces sizes some h near = λ k d lt j e within. omega (arith, near, address_most at pieces sizes some h k d lt, address_least at pieces sizes h j e within)

-- ---- what fits

-- if pieces that are counted from n on fit, the form of each reaches its target
pub fit_at : (a : List ℕ) (n : ℕ) (pieces : List Piece) (sizes : List ℕ) (k : ℕ) (d : Piece) → k < length pieces → AreForms pieces sizes → fit_from a n pieces sizes ≡ true → form_reaches_at a (n + k) (get_or pieces k d) (slice_index sizes k) ≡ true
fit_at a n [] sizes k d lt h fits = absurd (omega arith)
fit_at a n (p ∷ pieces) [] k d lt h fits = absurd h
fit_at a n (p ∷ pieces) (size ∷ sizes) zero d lt h fits =
    let first : n + 0 ≡ n = omega arith in
    ap (λ j. form_reaches_at a j p size) first ∙ (and_parts (form_reaches_at a n p size) (fit_from a (n + 1) pieces sizes) fits).0
fit_at a n (p ∷ pieces) (size ∷ sizes) (suc k) d lt h fits =
    let next : n + suc k ≡ n + 1 + k = omega arith in
    ap (λ j. form_reaches_at a j (get_or pieces k d) (slice_index sizes k)) next ∙ fit_at a (n + 1) pieces sizes k d (omega arith) h.1 (and_parts (form_reaches_at a n p size) (fit_from a (n + 1) pieces sizes) fits).1

-- if all fit, the form of each piece reaches its target
pub fits_at : (text : ℕ) (pieces : List Piece) (sizes : List ℕ) (k : ℕ) (d : Piece) → k < length pieces → AreForms pieces sizes → all_fit text pieces sizes ≡ true
    → form_reaches (get_or pieces k d) (slice_index sizes k) (slice_index (addresses_of text pieces sizes) k) (slice_index (addresses_of text pieces sizes) (target (get_or pieces k d))) ≡ true
fits_at text pieces sizes k d lt h fits =
    let from_first : 0 + k ≡ k = omega arith in
    ap (λ j. form_reaches_at (addresses_of text pieces sizes) j (get_or pieces k d) (slice_index sizes k)) (sym from_first) ∙ fit_at (addresses_of text pieces sizes) 0 pieces sizes k d lt h fits
