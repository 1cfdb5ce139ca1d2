use Rattle.std.proofs.Common.{◌∙◌}
use Rattle.sym_machine.proofs.SpanLaws.{data_word, stack_word}
use Rattle.sym_machine.proofs.memory.SymMemory.word.Goals as goal

pub returns-in-Data : goal.returns-in-Data
returns-in-Data c = c.word.ensures ∙ data_word c.self.view_is c.args.a c.in-Data.i c.in-Data.ensures

pub returns-in-Stack : goal.returns-in-Stack
returns-in-Stack c = c.word-in-Stack.ensures ∙ stack_word c.self.view_is c.self.invariant c.args.a c.in-Stack.i c.in-Stack.ensures
