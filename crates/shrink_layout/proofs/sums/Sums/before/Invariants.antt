use Rattle.std.proofs.Common.{◌≡◌, ◌+◌, ◌≤◌}
use Rattle.shrink_layout.proofs.SumLaws.{front}
use Rattle.shrink_layout.proofs.sums.Sums.before.Given as goal

abbrev pub invariant-loop-k : goal.invariant-loop-k
invariant-loop-k l = record {
  within : l.k ≤ l.i;
  so_far : l.before + front l.self-inside.sizes.items l.k ≡ front l.self-inside.sizes.items l.i;
}

abbrev pub decreases-loop-k : goal.decreases-loop-k
decreases-loop-k l = l.k
