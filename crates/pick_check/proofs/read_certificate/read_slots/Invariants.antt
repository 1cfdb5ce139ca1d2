use Rattle.std.proofs.Common.{◌≡◌, ◌≤◌, ◌++◌, drop, length}
use Rattle.text_lines.specs.Lines.{lines_of}
use Rattle.pick_check.specs.Text.{read_while, slot_in_line}
use Rattle.pick_check.proofs.read_certificate.read_slots.Given as goal

abbrev pub invariant-loop-rest : goal.invariant-loop-rest
invariant-loop-rest l = record {
  so_far : read_while slot_in_line (lines_of l.lines) ≡ l.slots.items ++ read_while slot_in_line (lines_of l.rest);
  place : lines_of l.rest ≡ drop (length l.slots.items) (lines_of l.lines);
  few : length l.slots.items ≤ 256;
}

abbrev pub decreases-loop-rest : goal.decreases-loop-rest
decreases-loop-rest l = length l.rest
