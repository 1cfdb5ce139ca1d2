use Rattle.std.proofs.Common.{◌≡◌, ◌+◌, ◌*◌, ◌≤◌, ◌++◌, drop, length}
use Rattle.text_lines.specs.Lines.{lines_of}
use Rattle.pick_check.specs.Text.{read_while, saving_in_line}
use Rattle.pick_check.proofs.read_certificate.read_savings.Given as goal

abbrev pub invariant-loop-saving : goal.invariant-loop-saving
invariant-loop-saving l = record {
  so_far : read_while saving_in_line (lines_of l.lines) ≡ l.savings.items ++ read_while saving_in_line (lines_of l.rest);
  place : lines_of l.rest ≡ drop (length l.savings.items) (lines_of l.lines);
  room : 8 * length l.savings.items + length l.rest ≤ length l.lines;
}

abbrev pub decreases-loop-saving : goal.decreases-loop-saving
decreases-loop-saving l = length l.rest
