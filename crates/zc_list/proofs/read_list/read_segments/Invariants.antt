use Rattle.std.proofs.Common.{◌≡◌, ◌+◌, ◌≤◌, [], length}
use Rattle.text_lines.specs.Lines.{lines_of}
use Rattle.zc_list.specs.Reader.{read_left}
use Rattle.zc_list.specs.Spelled.{Between, read_lines}
use Rattle.zc_list.proofs.read_list.read_segments.Given as goal

abbrev pub invariant-loop-line : goal.invariant-loop-line
invariant-loop-line l = record {
  so_far : read_left (Between []) l.fn.lines ≡ read_lines (Between l.segments.items) l.number (lines_of l.rest);
  room : l.number + length l.rest ≤ l.fn.lines.number + length l.fn.lines.rest.now;
}

abbrev pub decreases-loop-line : goal.decreases-loop-line
decreases-loop-line l = length l.rest
