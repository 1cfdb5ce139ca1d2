-- The sizes of the layout are those of the first round that fits. A round that doesn't fit makes some piece longer, and a piece
-- grows at most twice: so one of the first rounds fits, no more than twice as many as there are pieces. All later ones are like it.
use Rattle.std.proofs.Common.{◌≡◌, ℕ, zero, suc, ◌+◌, ◌-◌, ◌*◌, ◌%◌, ◌<◌, ◌≤◌, All, true, false, List, [], ◌∷◌, length, refl, sym, ap, ◌∙◌, subst, arith, inl, inr}
use Rattle.std.proofs.lemmas.Bool.{cases_Bool, cases_lt, true≢false}
use Rattle.shrink_layout.specs.declared.piece.Piece.{Piece}
use Rattle.shrink_layout.specs.Forms.{IsEvenPiece, target}
use Rattle.shrink_layout.specs.Layout.{Fits, IsLayout, addresses_of, all_fit, next_sizes, round, sizes_of}
use Rattle.shrink_layout.specs.Least.{AreForms, IsLeast, IsTight}
use Rattle.shrink_layout.specs.Invariants.Rounds.{LaidPieces, next_pieces, shortest_pieces}
use Rattle.shrink_layout.proofs.AddressLaws.{layout_forms}
use Rattle.shrink_layout.proofs.FormLaws.{slack_most}
use Rattle.shrink_layout.proofs.LeastLaws.{least}
use Rattle.shrink_layout.proofs.RoundLaws.{grown_same, round_forms, slack_less, slack_of}

-- ---- one of the first rounds fits

-- pieces grow at most twice each
slack_of_most : (pieces : List Piece) (sizes : List ℕ) → slack_of pieces sizes ≤ 2 * length pieces
slack_of_most [] sizes = omega arith
slack_of_most (p ∷ pieces) [] = omega arith
slack_of_most (p ∷ pieces) (size ∷ sizes) = omega (arith, slack_most p size, slack_of_most pieces sizes)

-- the first round that fits, which is one up to this number
record IsFirst (text : ℕ) (pieces : List Piece) (limit : ℕ) : Type 0 where
  pub number : ℕ
  pub within : number ≤ limit
  pub fits : Fits text pieces (round text pieces number)
  pub first : (r : ℕ) → r < number → Fits text pieces (round text pieces r) → ⊥

-- a round that doesn't fit leaves less to grow
less_left : (text : ℕ) (pieces : List Piece) (r : ℕ) → all_fit text pieces (round text pieces r) ≡ false
    → slack_of pieces (round text pieces (suc r)) < slack_of pieces (round text pieces r)
less_left text pieces r out =
    slack_less (addresses_of text pieces (round text pieces r)) 0 pieces (round text pieces r) (round_forms text pieces r) out

-- if none fits before a round, nor this one, none fits before the next
none_until : (text : ℕ) (pieces : List Piece) (r : ℕ) → ((j : ℕ) → j < r → Fits text pieces (round text pieces j) → ⊥)
    → all_fit text pieces (round text pieces r) ≡ false → (j : ℕ) → j < suc r → Fits text pieces (round text pieces j) → ⊥
none_until text pieces r none out j lt fits = elim (cases_lt j r) [
  | inl before ↦ none j before fits
  | inr not_before ↦
      let e : j ≡ r = omega arith in
      let it_fits : all_fit text pieces (round text pieces j) ≡ true = fits in
      true≢false (sym it_fits ∙ ap (λ n. all_fit text pieces (round text pieces n)) e ∙ out)
]

-- if none fits before a round, and pieces can then grow only so often, the first that fits comes after no more rounds
first_from : (text : ℕ) (pieces : List Piece) (left r : ℕ) → slack_of pieces (round text pieces r) ≤ left
    → ((j : ℕ) → j < r → Fits text pieces (round text pieces j) → ⊥) → IsFirst text pieces (r + left)
first_from text pieces zero r few none = elim (cases_Bool (all_fit text pieces (round text pieces r))) [
  | inl fits ↦ record { number = r; within = omega arith; fits = fits; first = none }
  | inr out ↦ absurd (omega (arith, few, less_left text pieces r out))
]
first_from text pieces (suc left) r few none = elim (cases_Bool (all_fit text pieces (round text pieces r))) [
  | inl fits ↦ record { number = r; within = omega arith; fits = fits; first = none }
  | inr out ↦
      let rest = first_from text pieces left (suc r) (omega (arith, few, less_left text pieces r out)) (none_until text pieces r none out) in
      record { number = rest.number; within = omega (arith, rest.within); fits = rest.fits; first = rest.first }
]

-- the first round that fits is among the first ones
first_of_all : (text : ℕ) (pieces : List Piece) → IsFirst text pieces (2 * length pieces)
first_of_all text pieces =
    let found = first_from text pieces (2 * length pieces) 0 (slack_of_most pieces (round text pieces 0)) (λ j lt fits. absurd (omega arith)) in
    record { number = found.number; within = omega (arith, found.within); fits = found.fits; first = found.first }

-- ---- all later rounds are like it

-- the round after one that fits is the same
same_next : (text : ℕ) (pieces : List Piece) (r : ℕ) → Fits text pieces (round text pieces r) → round text pieces (suc r) ≡ round text pieces r
same_next text pieces r fits =
    grown_same (addresses_of text pieces (round text pieces r)) 0 pieces (round text pieces r) (round_forms text pieces r) fits

-- all rounds after one that fits are like it
same_after : (text : ℕ) (pieces : List Piece) (r d : ℕ) → Fits text pieces (round text pieces r) → round text pieces (r + d) ≡ round text pieces r
same_after text pieces r zero fits = let e : r + 0 ≡ r = omega arith in ap (round text pieces) e
same_after text pieces r (suc d) fits =
    let e : r + suc d ≡ suc (r + d) = omega arith in
    ap (round text pieces) e ∙ ap (next_sizes text pieces) (same_after text pieces r d fits) ∙ same_next text pieces r fits

same_from : (text : ℕ) (pieces : List Piece) (r j : ℕ) → r ≤ j → Fits text pieces (round text pieces r) → round text pieces j ≡ round text pieces r
same_from text pieces r j le fits = let e : j ≡ r + (j - r) = omega arith in ap (round text pieces) e ∙ same_after text pieces r (j - r) fits

-- all rounds that fit are the same
same_rounds : (text : ℕ) (pieces : List Piece) (r j : ℕ) → Fits text pieces (round text pieces r) → Fits text pieces (round text pieces j)
    → round text pieces r ≡ round text pieces j
same_rounds text pieces r j fits fits' = elim (cases_lt r j) [
  | inl before ↦ sym (same_from text pieces r j (omega arith) fits)
  | inr not_before ↦ same_from text pieces j r (omega arith) fits'
]

-- ---- the sizes of the layout

-- the layout's sizes are those of the first round that fits
pub sizes_layout : (text : ℕ) (pieces : List Piece) → IsLayout text pieces (sizes_of text pieces)
unfolding sizes_of
sizes_layout text pieces =
    let found = first_of_all text pieces in
    let same : sizes_of text pieces ≡ round text pieces found.number = same_from text pieces found.number (2 * length pieces) found.within found.fits in
    record {
      rounds = found.number;
      is = same;
      fits = ap (all_fit text pieces) same ∙ found.fits;
      first = found.first;
    }

-- the layout's sizes are those of any round that fits
pub fitting_sizes : (text : ℕ) (pieces : List Piece) (r : ℕ) → Fits text pieces (round text pieces r) → round text pieces r ≡ sizes_of text pieces
fitting_sizes text pieces r fits =
    let is = sizes_layout text pieces in
    same_rounds text pieces r is.rounds fits (ap (all_fit text pieces) (sym is.is) ∙ is.fits) ∙ sym is.is

-- any layout has these sizes
pub layout_sizes : (text : ℕ) (pieces : List Piece) (sizes : List ℕ) → IsLayout text pieces sizes → sizes ≡ sizes_of text pieces
layout_sizes text pieces sizes is = is.is ∙ fitting_sizes text pieces is.rounds (ap (all_fit text pieces) (sym is.is) ∙ is.fits)

-- the layout's sizes are a choice of forms
pub sizes_forms : (text : ℕ) (pieces : List Piece) → AreForms pieces (sizes_of text pieces)
sizes_forms text pieces = layout_forms text pieces (sizes_of text pieces) (sizes_layout text pieces)

-- if no piece is aligned above 2 bytes, they are the least
pub sizes_least : (text : ℕ) (pieces : List Piece) → text % 2 ≡ 0 → All IsEvenPiece pieces → All IsTight pieces → All (λ p. target p ≤ length pieces) pieces
    → IsLeast text pieces (sizes_of text pieces)
sizes_least text pieces e even tight targets = least text pieces (sizes_of text pieces) e even tight targets (sizes_layout text pieces)

-- ---- pieces from round to round

-- sizes that are those of a round
abbrev pub AreOfRound : LaidPieces → Type 0
AreOfRound l = (r : ℕ) × (l.sizes ≡ round l.text l.pieces r)

-- the shortest are
pub shortest_of_round : (text : ℕ) (pieces : List Piece) → AreOfRound (shortest_pieces text pieces)
shortest_of_round text pieces = (0, refl)

-- the next sizes are those of a round too
pub next_of_round : (l : LaidPieces) → AreOfRound l → AreOfRound (next_pieces l)
next_of_round l now = (suc now.0, ap (next_sizes l.text l.pieces) now.1)

-- a round after one that doesn't fit leaves less to grow
pub next_less : (l : LaidPieces) → AreOfRound l → all_fit l.text l.pieces l.sizes ≡ false → slack_of l.pieces (next_pieces l).sizes < slack_of l.pieces l.sizes
next_less l now out =
    slack_less (addresses_of l.text l.pieces l.sizes) 0 l.pieces l.sizes (subst (AreForms l.pieces) (sym now.1) (round_forms l.text l.pieces now.0)) out

-- the round after one that fits has the sizes of the layout
pub next_fits : (l : LaidPieces) → AreOfRound l → all_fit l.text l.pieces l.sizes ≡ true → (next_pieces l).sizes ≡ sizes_of l.text l.pieces
next_fits l now fits =
    let it_fits : Fits l.text l.pieces (round l.text l.pieces now.0) = ap (all_fit l.text l.pieces) (sym now.1) ∙ fits in
    ap (next_sizes l.text l.pieces) now.1 ∙ same_next l.text l.pieces now.0 it_fits ∙ fitting_sizes l.text l.pieces now.0 it_fits
