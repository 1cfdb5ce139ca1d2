-- The forms of a piece: its sizes from the shortest on, each with the condition on the distance to its target (RISC-V
-- unprivileged manual, "Control Transfer Instructions", of RV32I and of the C extension).
use Rattle.std.specs.Prelude.{◌≡◌, ℕ, ℤ, pos, ◌-ℤ◌, ◌-◌, ◌%◌, ◌^◌, ◌<◌, ◌⊎◌, Bool, true, false, ◌==◌, if◌then◌else◌}
use Rattle.psabi_reloc.specs.Reaches.{branch_reach, short_branch_reach, short_jump_reach}
use Rattle.shrink_layout.specs.declared.piece.Piece.{Piece}
use Rattle.shrink_layout.specs.declared.piece.Piece.TheVariants.{Fixed, WithOthers, Align, Branch, Jump}

-- ---- sizes

abbrev pub shortest : Piece → ℕ
shortest (Fixed size) = size
shortest (WithOthers size) = size
shortest (Align alignment) = 0
shortest (Branch to true) = 2
shortest (Branch to false) = 4
shortest (Jump to) = 2

-- the next longer form; for the longest form that form itself
abbrev pub longer : Piece → ℕ → ℕ
longer (Fixed n) size = size
longer (WithOthers n) size = size
longer (Align alignment) size = size
longer (Branch to short) size = if size == 2 then 4 else 8
longer (Jump to) size = 4

-- the most bytes that a piece can take
abbrev pub longest : Piece → ℕ
longest (Fixed size) = size
longest (WithOthers size) = size
longest (Align alignment) = alignment
longest (Branch to short) = 8
longest (Jump to) = 4

-- the sizes that are forms; that of padding is what its place needs, so its form is 0
abbrev pub IsForm : Piece → ℕ → Type 0
IsForm (Fixed n) size = size ≡ n
IsForm (WithOthers n) size = size ≡ n
IsForm (Align alignment) size = size ≡ 0
IsForm (Branch to true) size = (size ≡ 2) ⊎ ((size ≡ 4) ⊎ (size ≡ 8))
IsForm (Branch to false) size = (size ≡ 4) ⊎ (size ≡ 8)
IsForm (Jump to) size = (size ≡ 2) ⊎ (size ≡ 4)

-- ---- reaches

-- the number of pieces before the target
abbrev pub target : Piece → ℕ
target (Fixed size) = 0
target (WithOthers size) = 0
target (Align alignment) = 0
target (Branch to short) = to
target (Jump to) = to

-- the distance from an address to another
abbrev pub distance : ℕ → ℕ → ℤ
distance «from» to = pos to -ℤ pos «from»

-- distances below this are those of 32 bits in two's complement
abbrev pub near_limit : ℕ
near_limit = 2 ^ 31

-- whether the target's address is in range of a form at the piece's address; it always is for the longest form
abbrev pub form_reaches : Piece → ℕ → ℕ → ℕ → Bool
form_reaches (Fixed n) size «from» to = true
form_reaches (WithOthers n) size «from» to = true
form_reaches (Align alignment) size «from» to = true
form_reaches (Branch t short) size «from» to =
    if size == 2 then short_branch_reach (distance «from» to)
    else (if size == 4 then branch_reach (distance «from» to) else true)
form_reaches (Jump t) size «from» to = if size == 2 then short_jump_reach (distance «from» to) else true

-- ---- addresses

-- the bytes that a piece takes at an address: its size, or what its alignment needs
abbrev pub width : Piece → ℕ → ℕ → ℕ
width (Fixed n) size at = size
width (WithOthers n) size at = size
width (Align alignment) size at = (alignment - at % alignment) % alignment
width (Branch to short) size at = size
width (Jump to) size at = size

-- an alignment is at least 1
abbrev pub HasAlignment : Piece → Type 0
HasAlignment (Fixed size) = Unit {0}
HasAlignment (WithOthers size) = Unit {0}
HasAlignment (Align alignment) = 0 < alignment
HasAlignment (Branch to short) = Unit {0}
HasAlignment (Jump to) = Unit {0}

-- sizes and alignments are even, so that all addresses are
abbrev pub IsEvenPiece : Piece → Type 0
IsEvenPiece (Fixed size) = size % 2 ≡ 0
IsEvenPiece (WithOthers size) = size % 2 ≡ 0
IsEvenPiece (Align alignment) = alignment % 2 ≡ 0
IsEvenPiece (Branch to short) = Unit {0}
IsEvenPiece (Jump to) = Unit {0}
