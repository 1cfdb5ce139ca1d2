use Rattle.std.proofs.Common.{◌≡◌, drop, length, take}
use Rattle.std.specs.Option.{option_copied}
use Rattle.text_lines.specs.Lines.{words_in}
use Rattle.pick_check.specs.Text.{numbers_in, numbers_of}
use Rattle.pick_check.proofs.LineLaws.{with_numbers}
use Rattle.pick_check.proofs.line.read_numbers.Given as goal

abbrev pub invariant-loop-k : goal.invariant-loop-k
invariant-loop-k g l = record {
  so_far : numbers_in l.fn.name l.fn.limits l.line ≡ with_numbers (take l.k l.numbers) (numbers_of (drop l.k l.fn.limits) (words_in (option_copied l.rest)));
  size : length l.numbers ≡ g.row.N;
}
