use Rattle.devices.proofs.AnswerLaws.{repeated_none}
use Rattle.devices.proofs.answers.refilled.Goals as goal

pub returns-then-copies-gt0-clause-none : goal.returns-then-copies-gt0-clause-none
returns-then-copies-gt0-clause-none c = λ none. repeated_none _ c.args.again.now none
