use Rattle.std.proofs.Common.{◌≡◌}
use Rattle.std.specs.Option.{option_copied}
use Rattle.text_lines.specs.Lines.{words_in}
use Rattle.devices.specs.Text.{line_bytes}
use Rattle.devices.proofs.LineLaws.{room, with_bytes}
use Rattle.devices.proofs.line.read_bytes.Given as goal

abbrev pub invariant-loop-rest : goal.invariant-loop-rest
invariant-loop-rest l = line_bytes (words_in (option_copied l.words)) ≡ with_bytes l.bytes.items (line_bytes (words_in (option_copied l.rest)))

abbrev pub decreases-loop-rest : goal.decreases-loop-rest
decreases-loop-rest l = room (option_copied l.rest)
