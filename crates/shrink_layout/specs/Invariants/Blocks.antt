-- Blocks of pieces. A round passes over blocks near which no piece changed in the round before, and moves a block as a whole
-- where its pieces take as many bytes as before.
use Rattle.std.specs.Prelude.{◌≡◌, ℕ, ◌+◌, ◌/◌, ◌%◌, ◌<◌, ◌≤◌, ◌⊎◌, All, Bool, true, false, if◌then◌else◌, List, length, slice_index, slice_index_or}
use Rattle.shrink_layout.specs.declared.piece.Piece.{Piece}
use Rattle.shrink_layout.specs.declared.piece.Piece.TheVariants.{Fixed, WithOthers, Align, Branch, Jump}
use Rattle.shrink_layout.specs.Forms.{form_reaches, longer, near_limit, target}
use Rattle.shrink_layout.specs.Layout.{form_reaches_at}

-- the number of pieces in a block; the last block may have fewer
abbrev pub block_size : ℕ
block_size = 64

-- the number of blocks; the last one may have no pieces
abbrev pub block_count : List Piece → ℕ
block_count pieces = length pieces / block_size + 1

-- the piece with number k
abbrev pub nth_piece : List Piece → ℕ → Piece
nth_piece pieces k = slice_index_or pieces k (Fixed 0)

-- ---- blocks that are moved as a whole

-- padding takes as many bytes if it is moved by a multiple of n
abbrev pub IsMovedBy : ℕ → Piece → Type 0
IsMovedBy n (Fixed size) = Unit {0}
IsMovedBy n (WithOthers size) = Unit {0}
IsMovedBy n (Align alignment) = n % alignment ≡ 0
IsMovedBy n (Branch to short) = Unit {0}
IsMovedBy n (Jump to) = Unit {0}

-- for each block a number by a multiple of which all of its pieces can be moved with the same paddings, or 0
abbrev pub AreMultiples : List Piece → List ℕ → Type 0
AreMultiples pieces multiples =
    (k : ℕ) → k < length pieces → 0 < slice_index multiples (k / block_size)
    → IsMovedBy (slice_index multiples (k / block_size)) (nth_piece pieces k)

-- no piece of the block grew
abbrev pub IsUnchanged : List Bool → ℕ → Type 0
IsUnchanged grown block = slice_index_or grown block false ≡ false

-- ---- pieces that are tested

-- any two addresses are less than 2 GiB apart
abbrev pub AreNear : List ℕ → Type 0
AreNear addresses = All (λ a. All (λ b. a < b + near_limit) addresses) addresses

-- whether the piece with number k reaches its target
abbrev pub block_fits : List ℕ → List Piece → List ℕ → ℕ → Bool
block_fits addresses pieces sizes k = form_reaches_at addresses k (nth_piece pieces k) (slice_index sizes k)

-- the form that a round gives to the piece with number k
abbrev pub grown_size : List ℕ → ℕ → Piece → ℕ → ℕ
grown_size addresses k p size = if form_reaches_at addresses k p size then size else longer p size

-- a form has every address in range from every other
abbrev pub ReachesAll : Piece → ℕ → Type 0
ReachesAll p size = («from» to : ℕ) → form_reaches p size «from» to ≡ true

-- a form has every address in range, or its target's number is one from low to high
abbrev pub IsSpanned : Piece → ℕ → ℕ → ℕ → Type 0
IsSpanned p size low high = ReachesAll p size ⊎ ((low ≤ target p) × (target p ≤ high))

-- the pieces with numbers from first on, before end, were tested: those that don't fit have grown, and all other sizes
-- are as before; it is told whether all fitted; and first, and the targets that may get out of reach, are numbers from
-- low to high
pub record HaveGrownIn (addresses : List ℕ) (pieces : List Piece) (old sizes : List ℕ) (first end : ℕ) (fitted : Bool)
    (low high : ℕ) : Type 0 where
  pub same : length sizes ≡ length old
  pub before : (k : ℕ) → k < first → slice_index sizes k ≡ slice_index old k
  pub after : (k : ℕ) → end ≤ k → slice_index sizes k ≡ slice_index old k
  pub grown : (k : ℕ) → first ≤ k → k < end
      → slice_index sizes k ≡ grown_size addresses k (nth_piece pieces k) (slice_index old k)
  pub fit : fitted ≡ true → (k : ℕ) → first ≤ k → k < end → block_fits addresses pieces old k ≡ true
  pub unfit : fitted ≡ false → (k : ℕ) × (first ≤ k) × (k < end) × (block_fits addresses pieces old k ≡ false)
  pub spanned : (k : ℕ) → first ≤ k → k < end → IsSpanned (nth_piece pieces k) (slice_index sizes k) low high
  pub low_most : low ≤ first
  pub high_least : first ≤ high
  pub high_most : high ≤ length pieces

-- ---- blocks that are passed over

-- the block of the piece is one from low to high, and so is that of its target, if that may get out of reach
abbrev pub IsNear : Piece → ℕ → ℕ → ℕ → ℕ → Type 0
IsNear p size block low high =
    (low ≤ block) × (block ≤ high)
    × (ReachesAll p size ⊎ ((low ≤ target p / block_size) × (target p / block_size ≤ high)))

-- the piece with number k is near in this sense, by what is kept of its block
abbrev pub IsNearAt : List Piece → List ℕ → List ℕ → List ℕ → ℕ → Type 0
IsNearAt pieces sizes lows highs k =
    IsNear (nth_piece pieces k) (slice_index sizes k) (k / block_size)
    (slice_index lows (k / block_size)) (slice_index highs (k / block_size))

-- no piece of a block from low to high changed; `changes` has for each block the number of changed pieces before it
abbrev pub IsStill : List ℕ → ℕ → ℕ → Type 0
IsStill changes low high = slice_index changes low ≡ slice_index changes (high + 1)
