use Rattle.std.proofs.Common.{sym, ◌∙◌}
use Rattle.pick_check.specs.Text.{prices_in_line}
use Rattle.pick_check.proofs.FirstLaws.{first_line}
use Rattle.pick_check.proofs.first.first_prices.Goals as goal

pub returns-clause-read : goal.returns-clause-read
returns-clause-read c =
    sym (first_line prices_in_line c.args.text.now c.in_ok-line.line.now c.in_ok-line.rest.now c.in_ok-line.ensures.lines ∙ sym c.in_ok-prices.ensures)
