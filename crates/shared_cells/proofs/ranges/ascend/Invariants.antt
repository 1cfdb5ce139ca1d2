use Rattle.std.proofs.Common.{drop}
use Rattle.shared_cells.specs.Ascending.{AscendFrom}
use Rattle.shared_cells.proofs.ranges.ascend.Given as goal

abbrev pub invariant-loop-at : goal.invariant-loop-at
invariant-loop-at l = AscendFrom l.end (drop l.at-index l.ranges) → AscendFrom 0 l.ranges
