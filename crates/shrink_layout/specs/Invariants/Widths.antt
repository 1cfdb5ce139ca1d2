-- The bytes that pieces take from round to round, the address of each block, and how many pieces changed in the last
-- round, that is, took other bytes than before.
use Rattle.std.specs.Prelude.{◌≡◌, ℕ, ◌+◌, ◌*◌, ◌/◌, ◌<◌, ◌≤◌, ◌^◌, All, List, [], ◌∷◌, length, max, min, slice_index, slice_set, true}
use Rattle.std.specs.List.{sum, sum_by}
use Rattle.shrink_layout.specs.declared.piece.Piece.{Piece}
use Rattle.shrink_layout.specs.declared.widths.Widths.{Widths}
use Rattle.shrink_layout.specs.Forms.{HasAlignment, longest, target}
use Rattle.shrink_layout.specs.Invariants.Blocks.{AreNear, block_fits, block_size, nth_piece}
use Rattle.shrink_layout.specs.Layout.{addresses_of, widths_of}
use Rattle.shrink_layout.specs.Least.{AreForms}

-- ---- addresses

-- addresses one after another, by the bytes between them
abbrev pub addresses_by : ℕ → List ℕ → List ℕ
addresses_by at [] = at ∷ []
addresses_by at (width ∷ widths) = at ∷ addresses_by (at + width) widths

-- the address of each piece, and of the end
abbrev pub addresses_in : Widths → List ℕ
addresses_in w = addresses_by (slice_index w.starts.items 0) w.sums

-- the address of the first piece of each block, among `count` pieces, and of the end
pub record AreStarts (addresses : List ℕ) (count : ℕ) (starts : List ℕ) : Type 0 where
  pub long : length starts ≡ count / block_size + 2
  pub each : (b : ℕ) → b ≤ count / block_size + 1
      → slice_index starts b ≡ slice_index addresses (min count (b * block_size))

-- ---- pieces that changed

-- the number of changed pieces before the piece with number k
abbrev pub changed_before : Widths → ℕ → ℕ
changed_before w k = slice_index w.changes.items (k / block_size) + slice_index w.within.items k

-- the next count is as large, or larger by one
abbrev pub IsRise : ℕ → ℕ → Type 0
IsRise count next = (count ≤ next) × (next ≤ count + 1)

-- each piece counts at most once, in its block and among all
pub record AreCounted (w : Widths) : Type 0 where
  pub changes_count : length w.changes.items ≡ length w.sums / block_size + 2
  pub within_count : length w.within.items ≡ length w.sums + 1
  pub none : slice_index w.changes.items 0 ≡ 0
  pub start : (b : ℕ) → b * block_size ≤ length w.sums → slice_index w.within.items (b * block_size) ≡ 0
  pub rise : (k : ℕ) → k < length w.sums → IsRise (changed_before w k) (changed_before w (k + 1))
  pub total : changed_before w (length w.sums) ≤ slice_index w.changes.items (length w.sums / block_size + 1)

-- the piece with number k didn't change, nor did one between it and its target
abbrev pub IsUntouched : Widths → Piece → ℕ → Type 0
IsUntouched w p k = changed_before w (min (target p) k) ≡ changed_before w (max (target p) (k + 1))

-- from number `first` on, pieces fit that are untouched in this sense
abbrev pub OthersFitFrom : ℕ → List Piece → List ℕ → Widths → Type 0
OthersFitFrom first pieces sizes w =
    (k : ℕ) → first ≤ k → k < length pieces → IsUntouched w (nth_piece pieces k) k
    → block_fits (addresses_in w) pieces sizes k ≡ true

-- pieces can be tested: each of them and each target has an address below 2^32, and these are near each other
pub record CanBeTested (pieces : List Piece) (w : Widths) : Type 0 where
  pub long : length w.sums ≡ length pieces
  pub starts : AreStarts (addresses_in w) (length pieces) w.starts.items
  pub counted : AreCounted w
  pub room : slice_index w.starts.items 0 + sum w.sums < 2 ^ 32
  pub near : AreNear (addresses_in w)
  pub targets : All (λ p. target p ≤ length pieces) pieces

-- ---- a block after a round

-- the counts within a block, whose first piece has this number, don't fall
abbrev pub IsAscending : List ℕ → ℕ → Type 0
IsAscending within first =
    (i j : ℕ) → first ≤ i → i ≤ j → j < first + block_size → j < length within
    → slice_index within i ≤ slice_index within j

-- the counts within this block are 0 now, and those within other blocks are as before
pub record IsCleared (old new : List ℕ) (first : ℕ) : Type 0 where
  pub same : length new ≡ length old
  pub none : (k : ℕ) → first ≤ k → k < first + block_size → k < length new → slice_index new k ≡ 0
  pub before : (k : ℕ) → k < first → slice_index new k ≡ slice_index old k
  pub after : (k : ℕ) → first + block_size ≤ k → slice_index new k ≡ slice_index old k

-- a block that takes `taken` bytes was moved as a whole
pub record IsBlockMoved (old new : Widths) (block taken : ℕ) : Type 0 where
  pub sums : new.sums ≡ old.sums
  pub starts : new.starts.items ≡ slice_set old.starts.items (block + 1) (slice_index old.starts.items block + taken)
  pub changes : new.changes.items ≡ slice_set old.changes.items (block + 1) (slice_index old.changes.items block)
  pub within : IsCleared old.within.items new.within.items (block * block_size)

-- the pieces of a block can be laid anew at these sizes, since those before it are laid
pub record CanBeLaidAnew (pieces : List Piece) (sizes : List ℕ) (w : Widths) (block : ℕ) : Type 0 where
  pub alignments : All HasAlignment pieces
  pub forms : AreForms pieces sizes
  pub long : length w.sums ≡ length pieces
  pub starts_count : length w.starts.items ≡ length pieces / block_size + 2
  pub changes_count : length w.changes.items ≡ length pieces / block_size + 2
  pub within_count : length w.within.items ≡ length pieces + 1
  pub room : slice_index w.starts.items 0 + sum_by longest pieces < 2 ^ 32
  pub most : (k : ℕ) → k < length pieces → slice_index w.sums k ≤ longest (nth_piece pieces k)
  pub at : slice_index w.starts.items block
      ≡ slice_index (addresses_of (slice_index w.starts.items 0) pieces sizes) (block * block_size)
  pub start : (b : ℕ) → b * block_size ≤ length pieces → slice_index w.within.items (b * block_size) ≡ 0
  pub few : slice_index w.changes.items block ≤ block * block_size

-- the pieces of a block are laid at these sizes, and those that took other bytes before are counted. They are those
-- from number first on, before end; text is where all pieces begin
pub record IsLaid (text : ℕ) (pieces : List Piece) (sizes : List ℕ) (old new : Widths) (block first end : ℕ)
    : Type 0 where
  pub sums_count : length new.sums ≡ length old.sums
  pub sums_before : (k : ℕ) → k < first → slice_index new.sums k ≡ slice_index old.sums k
  pub sums_after : (k : ℕ) → end ≤ k → slice_index new.sums k ≡ slice_index old.sums k
  pub laid : (k : ℕ) → first ≤ k → k < end → slice_index new.sums k ≡ slice_index (widths_of text pieces sizes) k
  pub starts : new.starts.items
      ≡ slice_set old.starts.items (block + 1) (slice_index (addresses_of text pieces sizes) end)
  pub changes_count : length new.changes.items ≡ length old.changes.items
  pub changes : (b : ℕ) → b ≤ block → slice_index new.changes.items b ≡ slice_index old.changes.items b
  pub few : slice_index new.changes.items (block + 1) ≤ slice_index new.changes.items block + block_size
  pub within_count : length new.within.items ≡ length old.within.items
  pub within_before : (k : ℕ) → k < first → slice_index new.within.items k ≡ slice_index old.within.items k
  pub within_after : (k : ℕ) → first + block_size ≤ k → slice_index new.within.items k ≡ slice_index old.within.items k
  pub start : slice_index new.within.items first ≡ 0
  pub rise : (k : ℕ) → first ≤ k → k < end → IsRise (changed_before new k) (changed_before new (k + 1))
      × (changed_before new k ≡ changed_before new (k + 1) → slice_index new.sums k ≡ slice_index old.sums k)
  pub total : changed_before new end ≡ slice_index new.changes.items (block + 1)
