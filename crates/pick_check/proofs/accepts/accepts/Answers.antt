use Rattle.pick_check.proofs.Accepted.{accepted_test}
use Rattle.pick_check.proofs.accepts.accepts.Goals as goal

pub returns-clause-value : goal.returns-clause-value
returns-clause-value c = accepted_test _ _ _ c.saves_most.ensures.exactly
