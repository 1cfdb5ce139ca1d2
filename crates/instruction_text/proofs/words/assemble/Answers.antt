use Rattle.instruction_text.proofs.AssembledLaws.{assembled_some}
use Rattle.instruction_text.proofs.words.assemble.Goals as goal

pub returns-clause-in_range : goal.returns-clause-in_range
returns-clause-in_range c = assembled_some c.args.operation c.args.operands c.by_operands.result c.by_operands.ensures
