use Rattle.std.proofs.Common.{rules, refl}
use Rattle.zcld.proofs.Commands.{calls, usage}
use Rattle.zcld.proofs.Headline.{links}
use Rattle.zcld.proofs.call.zcld.Goals as goal

pub returns-clause-usage : goal.returns-clause-usage
returns-clause-usage g c = usage _ _ _ _ _ c.perform-outcome.ensures.does

pub returns-clause-calls : goal.returns-clause-calls
returns-clause-calls g c =
    calls _ _ _ _ _ (record { shelf = refl; out = c.write_line.ensures.out; line = search rules; only = c.write_line.ensures.only }) _ c.perform-outcome.ensures.does

pub returns-clause-links : goal.returns-clause-links
returns-clause-links g c = links _ _ _ _ (returns-clause-calls g c)
