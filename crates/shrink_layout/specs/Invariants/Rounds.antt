-- What rounds do with pieces, and what is kept of them from round to round: sizes, bytes and blocks.
use Rattle.std.specs.Prelude.{◌≡◌, ℕ, ◌+◌, ◌^◌, ◌/◌, ◌<◌, ◌≤◌, All, true, List, length, map, slice_index}
use Rattle.std.specs.List.{sum_by}
use Rattle.shrink_layout.specs.declared.blocks.Blocks.{Blocks}
use Rattle.shrink_layout.specs.declared.piece.Piece.{Piece}
use Rattle.shrink_layout.specs.declared.widths.Widths.{Widths}
use Rattle.shrink_layout.specs.Invariants.Blocks.{AreMultiples, IsNearAt, IsStill, IsUnchanged, block_count, block_fits, block_size}
use Rattle.shrink_layout.specs.Invariants.Widths.{AreCounted, AreStarts, OthersFitFrom, addresses_in}
use Rattle.shrink_layout.specs.Forms.{HasAlignment, longest, near_limit, shortest, target}
use Rattle.shrink_layout.specs.Layout.{addresses_of, next_sizes, widths_of}
use Rattle.shrink_layout.specs.Least.{AreForms}

-- ---- pieces at sizes

-- pieces from an address on, each at a size
pub record LaidPieces : Type 0 where
  pub text : ℕ
  pub pieces : List Piece
  pub sizes : List ℕ

-- the pieces at their shortest forms
abbrev pub shortest_pieces : ℕ → List Piece → LaidPieces
shortest_pieces text pieces = record { text = text; pieces = pieces; sizes = map shortest pieces }

-- the pieces after one more round
abbrev pub next_pieces : LaidPieces → LaidPieces
next_pieces l = record { text = l.text; pieces = l.pieces; sizes = next_sizes l.text l.pieces l.sizes }

-- ---- what is kept

-- pieces that can be laid from an address on: each alignment is at least 1, targets are among them, and in any forms
-- they end below 2^32, and are near each other
pub record CanBeLaid (text : ℕ) (pieces : List Piece) : Type 0 where
  pub alignments : All HasAlignment pieces
  pub targets : All (λ p. target p ≤ length pieces) pieces
  pub room : text + sum_by longest pieces < 2 ^ 32
  pub near : sum_by longest pieces < near_limit

-- what is kept of each block: there is as much as there are blocks, and the blocks that it names are some of them
pub record AreBlocks (pieces : List Piece) (blocks : Blocks) : Type 0 where
  pub multiples_count : length blocks.multiples.items ≡ block_count pieces
  pub grown_count : length blocks.grown.items ≡ block_count pieces
  pub lows_count : length blocks.lows.items ≡ block_count pieces
  pub highs_count : length blocks.highs.items ≡ block_count pieces
  pub multiples : AreMultiples pieces blocks.multiples.items
  pub low : All (λ b. b < block_count pieces) blocks.lows.items
  pub high : All (λ b. b < block_count pieces) blocks.highs.items

-- pieces at sizes: the bytes that each takes, and the address of each block
pub record ArePlaced (pieces : List Piece) (sizes : List ℕ) (w : Widths) : Type 0 where
  pub can : CanBeLaid (slice_index w.starts.items 0) pieces
  pub forms : AreForms pieces sizes
  pub sums : w.sums ≡ widths_of (slice_index w.starts.items 0) pieces sizes
  pub starts : AreStarts (addresses_of (slice_index w.starts.items 0) pieces sizes) (length pieces) w.starts.items
  pub counted : AreCounted w

-- before a round: a piece fits if neither it nor one between it and its target changed in the last round; and the blocks that are
-- kept for a block, if no piece in them changed, are all on which it depends whether its pieces fit
pub record AreLaid (pieces : List Piece) (sizes : List ℕ) (w : Widths) (blocks : Blocks) : Type 0 where
  pub placed : ArePlaced pieces sizes w
  pub blocks_are : AreBlocks pieces blocks
  pub others : OthersFitFrom 0 pieces sizes w
  pub near : (k : ℕ) → k < length pieces
      → IsStill w.changes.items (slice_index blocks.lows.items (k / block_size))
      (slice_index blocks.highs.items (k / block_size))
      → IsNearAt pieces sizes blocks.lows.items blocks.highs.items k

-- in the midst of a round: pieces grew, and bytes and addresses are still those at the sizes before. Pieces that didn't
-- grow fit
pub record HaveGrown (pieces : List Piece) (sizes : List ℕ) (w : Widths) (blocks : Blocks) : Type 0 where
  pub old : List ℕ
  pub placed : ArePlaced pieces old w
  pub forms : AreForms pieces sizes
  pub blocks_are : AreBlocks pieces blocks
  pub kept : (k : ℕ) → k < length pieces → IsUnchanged blocks.grown.items (k / block_size)
      → slice_index sizes k ≡ slice_index old k
  pub fit : (k : ℕ) → k < length pieces → slice_index sizes k ≡ slice_index old k
      → block_fits (addresses_in w) pieces old k ≡ true
  pub near : (k : ℕ) → k < length pieces → IsNearAt pieces sizes blocks.lows.items blocks.highs.items k
