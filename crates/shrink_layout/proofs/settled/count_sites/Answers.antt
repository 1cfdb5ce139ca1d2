-- Without slots there are no such jumps and calls, and otherwise as many as halfwords of such.
use Rattle.std.proofs.Common.{sym, ◌∙◌}
use Rattle.shrink_layout.proofs.SiteCounts.{empty_sites, sites_counted}
use Rattle.shrink_layout.proofs.settled.count_sites.Goals as goal

pub returns-then-is_empty : goal.returns-then-is_empty
returns-then-is_empty c = λ inputs are. empty_sites inputs c.args.slots.now (sym c.is_empty.ensures ∙ c.if-is_empty.true)

pub returns-else-is_empty : goal.returns-else-is_empty
returns-else-is_empty c = λ inputs are. c.count_table_halves.ensures ∙ sites_counted inputs c.args.slots.now c.args.halves.now are
