-- The block begins at its start, and the bytes of its pieces lead from there to the piece.
use Rattle.std.proofs.Common.{◌≡◌, ℕ, ◌+◌, ◌*◌, ◌/◌, ◌≤◌, length, take, arith}
use Rattle.std.specs.Prelude.{slice_index}
use Rattle.std.specs.List.{sum}
use Rattle.shrink_layout.specs.declared.widths.Widths.{Widths}
use Rattle.shrink_layout.specs.Invariants.Blocks.{block_size}
use Rattle.shrink_layout.specs.Invariants.Widths.{AreStarts, addresses_in}
use Rattle.shrink_layout.proofs.ChangeLaws.{block_start, by_sum, by_top, index_is}
use Rattle.shrink_layout.proofs.widths.Widths.address.Goals as goal

-- the address of the piece is its block's address and the bytes of the block's pieces before it
piece_at : (w : Widths) (k start inside : ℕ) → AreStarts (addresses_in w) (length w.sums) w.starts.items → k ≤ length w.sums → start ≡ slice_index w.starts.items (k / block_size)
    → sum (take (k / block_size * block_size) w.sums) + inside ≡ sum (take k w.sums) → start + inside ≡ slice_index (addresses_in w) k
piece_at w k start inside starts within read more = omega (
  arith,
  read,
  more,
  block_start (addresses_in w) (length w.sums) w.starts.items k starts within,
  by_sum (slice_index w.starts.items 0) w.sums (k / block_size * block_size) (omega (arith, within)),
  by_sum (slice_index w.starts.items 0) w.sums k within,
)

pub index-requires : goal.index-requires
index-requires c = omega (arith, c.requires.within, c.requires.starts.long, c.args.self.now.starts.ok)

pub overflow_add-result : goal.overflow_add-result
overflow_add-result c =
    let w = c.args.self.now in
    let k = c.args.k in
    let read = index_is w.starts.items (k / block_size) _ c.index.result.now (omega (arith, c.requires.within, c.requires.starts.long)) c.index.ensures in
    omega (arith, piece_at w k c.index.result.now c.in_block.result c.requires.starts c.requires.within read c.in_block.ensures, by_top (slice_index w.starts.items 0) w.sums k c.requires.within, c.requires.room)

pub returns : goal.returns
returns c =
    let w = c.args.self.now in
    let k = c.args.k in
    let read = index_is w.starts.items (k / block_size) _ c.index.result.now (omega (arith, c.requires.within, c.requires.starts.long)) c.index.ensures in
    piece_at w k c.index.result.now c.in_block.result c.requires.starts c.requires.within read c.in_block.ensures
