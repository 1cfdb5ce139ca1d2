use Rattle.std.proofs.Common.{◌≡◌, ◌+◌, ◌≤◌, drop, filter, length}
use Rattle.shrink_layout.specs.Invariants.Numbers.{is_table_half}
use Rattle.shrink_layout.proofs.table_halves.count_table_halves.Given as goal

abbrev pub invariant-loop-half : goal.invariant-loop-half
invariant-loop-half l = record {
  counted : l.count + length (filter is_table_half (drop l.half-index l.halves)) ≡ length (filter is_table_half l.halves);
  few : l.count ≤ l.half-index;
}
