use Rattle.std.proofs.Common.{◌≡◌, ◌+◌, ◌*◌, ◌/◌, ◌≤◌}
use Rattle.shrink_layout.specs.Invariants.Blocks.{block_size}
use Rattle.shrink_layout.proofs.SumLaws.{front}
use Rattle.shrink_layout.proofs.sums.Sums.in_block.Given as goal

abbrev pub invariant-loop-k : goal.invariant-loop-k
invariant-loop-k l = record {
  within : l.k ≤ l.i;
  from_first : l.i / block_size * block_size ≤ l.k;
  so_far : l.sum + front l.self-inside.sizes.items l.k ≡ front l.self-inside.sizes.items l.i;
}

abbrev pub decreases-loop-k : goal.decreases-loop-k
decreases-loop-k l = l.k
