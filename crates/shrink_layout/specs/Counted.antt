-- How pieces are counted, by their sizes.
use Rattle.std.specs.Prelude.{ℕ, ◌+◌, Bool, false, ◌==◌, if◌then◌else◌, List, [], ◌∷◌, drop, slice_index}
use Rattle.shrink_layout.specs.declared.piece.Piece.{Piece}
use Rattle.shrink_layout.specs.declared.piece.Piece.TheVariants.{Fixed, WithOthers, Align, Branch, Jump}

-- whether a piece is one item that isn't padding, and takes 2 bytes
abbrev pub is_short_piece : Piece → ℕ → Bool
is_short_piece (Fixed n) size = size == 2
is_short_piece (WithOthers n) size = false
is_short_piece (Align alignment) size = false
is_short_piece (Branch to short) size = size == 2
is_short_piece (Jump to) size = size == 2

-- whether a piece is a branch that takes 8 bytes
abbrev pub is_long_piece : Piece → ℕ → Bool
is_long_piece (Fixed n) size = false
is_long_piece (WithOthers n) size = false
is_long_piece (Align alignment) size = false
is_long_piece (Branch to short) size = size == 8
is_long_piece (Jump to) size = false

-- the number of pieces that meet a test; k is the first one's number among all, to which `sizes` belong
abbrev pub count_from : (Piece → ℕ → Bool) → List ℕ → ℕ → List Piece → ℕ
count_from test sizes k [] = 0
count_from test sizes k (p ∷ pieces) =
    (if test p (slice_index sizes k) then 1 else 0) + count_from test sizes (k + 1) pieces

-- the number of pieces that meet a test, without the first, which comes before all code
abbrev pub pieces_with : (Piece → ℕ → Bool) → List Piece → List ℕ → ℕ
pieces_with test pieces sizes = count_from test sizes 1 (drop 1 pieces)
