use Rattle.std.proofs.Common.{◌≡◌, ◌+◌, ◌≤◌, length, map}
use Rattle.text_lines.specs.Lines.{lines_of}
use Rattle.interrupt_plan.specs.Text.{entries_of_lines}
use Rattle.interrupt_plan.proofs.EntryLaws.{with_entries}
use Rattle.interrupt_plan.proofs.read_lines.read_lines.Given as goal

abbrev pub invariant-loop-rest : goal.invariant-loop-rest
invariant-loop-rest g l = record {
  so_far : entries_of_lines g.K.FromLine.grammar 2 0 (lines_of l.lines) ≡ with_entries (map g.K.FromLine.entry l.cuts.items) (entries_of_lines g.K.FromLine.grammar l.number l.low (lines_of l.rest));
  count : l.number ≡ length l.cuts.items + 2;
  room : length l.cuts.items + length l.rest ≤ length l.lines;
}

abbrev pub decreases-loop-rest : goal.decreases-loop-rest
decreases-loop-rest g l = length l.rest
