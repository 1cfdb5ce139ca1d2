use Rattle.std.proofs.Common.{◌≡◌}
use Rattle.std.specs.Option.{option_copied}
use Rattle.interrupt_plan.specs.Text.{access_of, leading}
use Rattle.text_lines.specs.Lines.{words_in}
use Rattle.interrupt_plan.proofs.LineLaws.{after_values, room}
use Rattle.interrupt_plan.proofs.line.read_accesses.Given as goal

abbrev pub invariant-loop-rest : goal.invariant-loop-rest
invariant-loop-rest l =
    leading access_of (words_in (option_copied l.words)) ≡ after_values l.done.items (leading access_of (words_in (option_copied l.rest)))

abbrev pub decreases-loop-rest : goal.decreases-loop-rest
decreases-loop-rest l = room (option_copied l.rest)
