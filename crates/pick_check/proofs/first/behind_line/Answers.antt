use Rattle.std.proofs.Common.{sym}
use Rattle.pick_check.proofs.FirstLaws.{first_only}
use Rattle.pick_check.proofs.first.behind_line.Goals as goal

pub returns-then-eq-clause-read : goal.returns-then-eq-clause-read
returns-then-eq-clause-read c = sym (first_only c.args.text.now c.in_ok-line.line.now c.in_ok-line.rest.now c.args.wanted.now c.in_ok-line.ensures.lines (sym c.if-eq.ensures))
