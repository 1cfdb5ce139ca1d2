use Rattle.std.proofs.Common.{◌≡◌, ℕ, ◌+◌, ◌%◌, ◌<◌, length}
use Rattle.std.specs.Prelude.{slice_index}
use Rattle.shrink_layout.specs.Invariants.Blocks.{block_size}
use Rattle.shrink_layout.proofs.widths.counts_within.Given as goal

abbrev pub invariant-loop-k : goal.invariant-loop-k
invariant-loop-k l = record {
  long : length l.counts.items ≡ l.pieces + 1;
  each : (k : ℕ) → k < l.k → slice_index l.counts.items k ≡ k % block_size;
}
