use Rattle.std.proofs.Common.{◌≡◌, drop}
use Rattle.shared_cells.specs.SharedRun.{cells_written}
use Rattle.shared_cells.proofs.shared_schedule.write_cells.Given as goal

abbrev pub invariant-loop-at : goal.invariant-loop-at
invariant-loop-at l = cells_written l.ranges (drop l.at-index l.cells) l.machine ≡ cells_written l.ranges l.cells l.initial.machine
