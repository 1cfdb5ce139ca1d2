use Rattle.std.proofs.Common.{sym}
use Rattle.text_lines.proofs.SplitLaws.{split_found, split_none, text_found}
use Rattle.text_lines.proofs.split.split_at_byte.Goals as goal

pub returns-in_err-place-clause-none : goal.returns-in_err-place-clause-none
returns-in_err-place-clause-none c = rw c.from_residual.ensures (split_none _ c.args.text.now (sym c.in_err-place.ensures))

pub returns-clause-parts : goal.returns-clause-parts
returns-clause-parts c = split_found _ c.args.text.now _ (sym c.in_ok-place.ensures)

pub returns-clause-whole : goal.returns-clause-whole
returns-clause-whole c = text_found _ c.args.text.now _ (sym c.in_ok-place.ensures)
