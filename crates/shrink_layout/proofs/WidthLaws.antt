-- The bytes that pieces take: an address is the sum of those before it.
use Rattle.std.proofs.Common.{◌≡◌, ℕ, zero, suc, ◌+◌, ◌<◌, ◌≤◌, List, [], ◌∷◌, length, All, take, refl, arith}
use Rattle.std.specs.Prelude.{slice_index}
use Rattle.std.specs.List.{sum, sum_by}
use Rattle.std.proofs.lemmas.List.Elements.{All-tail}
use Rattle.std.proofs.lemmas.List.Sums.{sum_by-cons, sum_by_more}
use Rattle.shrink_layout.specs.declared.piece.Piece.{Piece}
use Rattle.shrink_layout.specs.Forms.{HasAlignment, longest, width}
use Rattle.shrink_layout.specs.Invariants.Blocks.{nth_piece}
use Rattle.shrink_layout.specs.Layout.{addresses_of, widths_of}
use Rattle.shrink_layout.specs.Least.{AreForms}
use Rattle.shrink_layout.proofs.FormLaws.{width_most}

-- there is one number of bytes for each piece
pub widths_count : (at : ℕ) (pieces : List Piece) (sizes : List ℕ) → length sizes ≡ length pieces → length (widths_of at pieces sizes) ≡ length pieces
widths_count at [] sizes same = refl
widths_count at (p ∷ pieces) [] same = absurd (omega arith)
widths_count at (p ∷ pieces) (size ∷ sizes) same = omega (arith, widths_count (at + width p size at) pieces sizes (omega arith))

-- an address is where the text begins, and the bytes of all pieces before it
pub address_by_widths : (at : ℕ) (pieces : List Piece) (sizes : List ℕ) (k : ℕ) → length sizes ≡ length pieces → k ≤ length pieces
    → slice_index (addresses_of at pieces sizes) k ≡ at + sum (take k (widths_of at pieces sizes))
address_by_widths at [] sizes zero same within = omega arith
address_by_widths at [] sizes (suc k) same within = absurd (omega arith)
address_by_widths at (p ∷ pieces) [] k same within = absurd (omega arith)
address_by_widths at (p ∷ pieces) (size ∷ sizes) zero same within = omega arith
address_by_widths at (p ∷ pieces) (size ∷ sizes) (suc k) same within =
    let next = at + width p size at in
    omega (arith, address_by_widths next pieces sizes k (omega arith) (omega arith), sum_by-cons (λ n. n) (width p size at) (take k (widths_of next pieces sizes)))

-- each number is what the piece takes at its address
pub width_at : (at : ℕ) (pieces : List Piece) (sizes : List ℕ) (k : ℕ) → length sizes ≡ length pieces → k < length pieces
    → slice_index (widths_of at pieces sizes) k ≡ width (nth_piece pieces k) (slice_index sizes k) (slice_index (addresses_of at pieces sizes) k)
width_at at [] sizes k same within = absurd (omega arith)
width_at at (p ∷ pieces) [] k same within = absurd (omega arith)
width_at at (p ∷ pieces) (size ∷ sizes) zero same within = refl
width_at at (p ∷ pieces) (size ∷ sizes) (suc k) same within = width_at (at + width p size at) pieces sizes k (omega arith) (omega arith)

-- the next address is after these bytes
pub width_between : (at : ℕ) (pieces : List Piece) (sizes : List ℕ) (k : ℕ) → length sizes ≡ length pieces → k < length pieces
    → slice_index (addresses_of at pieces sizes) (k + 1) ≡ slice_index (addresses_of at pieces sizes) k + slice_index (widths_of at pieces sizes) k
width_between at pieces sizes k same within = omega (
  arith,
  address_by_widths at pieces sizes k same (omega arith),
  address_by_widths at pieces sizes (k + 1) same (omega arith),
  sum_by_more (λ n. n) (widths_of at pieces sizes) k 0 (omega (arith, widths_count at pieces sizes same)),
)

-- all of them are no more than what the pieces take at most
pub widths_below : (at : ℕ) (pieces : List Piece) (sizes : List ℕ) → All HasAlignment pieces → AreForms pieces sizes → sum (widths_of at pieces sizes) ≤ sum_by longest pieces
widths_below at [] sizes some forms = omega arith
widths_below at (p ∷ pieces) [] some forms = absurd forms
widths_below at (p ∷ pieces) (size ∷ sizes) some forms =
    let next = at + width p size at in
    omega (
      arith,
      width_most p size at (some 0 p (omega arith)) forms.0,
      widths_below next pieces sizes (All-tail HasAlignment p pieces some) forms.1,
      sum_by-cons (λ n. n) (width p size at) (widths_of next pieces sizes),
      sum_by-cons longest p pieces,
    )
