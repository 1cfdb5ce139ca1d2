use Rattle.std.proofs.Common.{◌≡◌, ◌+◌, ◌/◌, length}
use Rattle.shrink_layout.specs.Invariants.Blocks.{block_size}
use Rattle.shrink_layout.proofs.BlockLaws.{AreMovedTo}
use Rattle.shrink_layout.proofs.shortest.find_multiples.Given as goal

abbrev pub invariant-loop-k : goal.invariant-loop-k
invariant-loop-k l = record {
  blocks : length l.multiples.items ≡ length l.pieces / block_size + 1;
  moved : AreMovedTo l.pieces l.multiples.items l.k;
}
