use Rattle.std.proofs.Common.{◌≡◌, ℕ, ◌<◌, ◌≤◌, length}
use Rattle.std.specs.Prelude.{slice_index}
use Rattle.shrink_layout.proofs.moves.clear.Given as goal

abbrev pub invariant-loop-k : goal.invariant-loop-k
invariant-loop-k l = record {
  same : length l.within ≡ length l.initial.within;
  none : (j : ℕ) → l.fn.first ≤ j → j < l.k → slice_index l.within j ≡ 0;
  before : (j : ℕ) → j < l.fn.first → slice_index l.within j ≡ slice_index l.initial.within j;
  after : (j : ℕ) → l.k ≤ j → slice_index l.within j ≡ slice_index l.initial.within j;
}
