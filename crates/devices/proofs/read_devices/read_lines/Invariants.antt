use Rattle.std.proofs.Common.{◌≡◌, ◌+◌, ◌≤◌, [], length}
use Rattle.text_lines.specs.Lines.{lines_of}
use Rattle.devices.specs.Text.{lines_from}
use Rattle.devices.proofs.read_devices.read_lines.Given as goal

abbrev pub invariant-loop-rest : goal.invariant-loop-rest
invariant-loop-rest l = record {
  so_far : lines_from l.map [] (lines_of l.lines) ≡ lines_from l.map l.devices (lines_of l.rest);
  room : length l.devices + length l.rest ≤ length l.lines;
}

abbrev pub decreases-loop-rest : goal.decreases-loop-rest
decreases-loop-rest l = length l.rest
