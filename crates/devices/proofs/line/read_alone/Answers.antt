use Rattle.std.proofs.Common.{None, ap, refl, sym}
use Rattle.devices.specs.Invariants.Kept.{shown}
use Rattle.devices.specs.Text.{line_alone}
use Rattle.devices.proofs.LineLaws.{no_word, some_word}
use Rattle.devices.proofs.line.read_alone.Goals as goal

pub returns-then-is_some : goal.returns-then-is_some
returns-then-is_some c = sym (some_word (line_alone (shown c.args.line)) None (λ w ws. refl) c.args.words (sym c.if-is_some.ensures))

pub returns : goal.returns
returns c = sym (ap (line_alone (shown c.args.line)) (no_word c.args.words (sym c.if-is_some.ensures)))
