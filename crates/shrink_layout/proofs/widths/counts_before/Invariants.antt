use Rattle.std.proofs.Common.{◌≡◌, ℕ, ◌+◌, ◌*◌, ◌<◌, length}
use Rattle.std.specs.Prelude.{slice_index}
use Rattle.shrink_layout.specs.Invariants.Blocks.{block_size}
use Rattle.shrink_layout.proofs.widths.counts_before.Given as goal

abbrev pub invariant-loop-block : goal.invariant-loop-block
invariant-loop-block l = record {
  long : length l.counts.items ≡ l.blocks + 1;
  each : (b : ℕ) → b < l.block → slice_index l.counts.items b ≡ b * block_size;
}
