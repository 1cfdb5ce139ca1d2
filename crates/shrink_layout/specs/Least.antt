-- The least sizes.
use Rattle.std.specs.Prelude.{◌≡◌, ℕ, ◌≤◌, List, [], ◌∷◌, slice_index}
use Rattle.shrink_layout.specs.declared.piece.Piece.{Piece}
use Rattle.shrink_layout.specs.declared.piece.Piece.TheVariants.{Fixed, WithOthers, Align, Branch, Jump}
use Rattle.shrink_layout.specs.Forms.{IsForm}
use Rattle.shrink_layout.specs.Layout.{Fits}

-- a choice of sizes: a form for each piece
abbrev pub AreForms : List Piece → List ℕ → Type 0
AreForms [] [] = Unit {0}
AreForms [] (size ∷ sizes) = ⊥
AreForms (p ∷ pieces) [] = ⊥
AreForms (p ∷ pieces) (size ∷ sizes) = IsForm p size × AreForms pieces sizes

-- the sizes fit, and every choice that fits is at least as large at every piece
pub record IsLeast (text : ℕ) (pieces : List Piece) (sizes : List ℕ) : Type 0 where
  pub fits : Fits text pieces sizes
  pub least : (other : List ℕ) → AreForms pieces other → Fits text pieces other
      → (k : ℕ) → slice_index sizes k ≤ slice_index other k

-- no piece is aligned above 2 bytes
abbrev pub IsTight : Piece → Type 0
IsTight (Fixed size) = Unit {0}
IsTight (WithOthers size) = Unit {0}
IsTight (Align alignment) = alignment ≡ 2
IsTight (Branch to short) = Unit {0}
IsTight (Jump to) = Unit {0}
