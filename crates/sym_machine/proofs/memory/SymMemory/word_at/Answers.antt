use Rattle.std.proofs.Common.{◌≡◌, subst}
use Rattle.std.specs.Prelude.{IfSome}
use Rattle.sym_machine.specs.declared.word.SymWord.{SymWord}
use Rattle.sym_machine.specs.Words.{number_word}
use Rattle.sym_machine.proofs.SpanLaws.{anyway, data_there, data_word, stack_there, stack_word}
use Rattle.sym_machine.proofs.memory.SymMemory.word_at.Goals as goal

pub returns-in-Data-clause-there : goal.returns-in-Data-clause-there
returns-in-Data-clause-there c = anyway c.word_at.result _ (data_there c.self.view_is c.args.a 4 c.in-Data.i c.in-Data.ensures)

pub returns-in-Data-clause-value : goal.returns-in-Data-clause-value
returns-in-Data-clause-value c =
    subst (λ (w : SymWord). IfSome c.word_at.result (λ n. number_word n ≡ w)) (data_word c.self.view_is c.args.a c.in-Data.i c.in-Data.ensures) c.word_at.ensures

pub returns-in-Stack-clause-there : goal.returns-in-Stack-clause-there
returns-in-Stack-clause-there c = anyway c.word_at-in-Stack.result _ (stack_there c.self.view_is c.self.invariant c.args.a 4 c.in-Stack.i c.in-Stack.ensures)

pub returns-in-Stack-clause-value : goal.returns-in-Stack-clause-value
returns-in-Stack-clause-value c =
    subst (λ (w : SymWord). IfSome c.word_at-in-Stack.result (λ n. number_word n ≡ w)) (stack_word c.self.view_is c.self.invariant c.args.a c.in-Stack.i c.in-Stack.ensures) c.word_at-in-Stack.ensures
