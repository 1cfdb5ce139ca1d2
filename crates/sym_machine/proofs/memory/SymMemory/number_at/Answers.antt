use Rattle.std.proofs.Common.{◌≡◌, subst, arith}
use Rattle.std.specs.Prelude.{IfSome}
use Rattle.sym_machine.specs.declared.word.SymByte.{SymByte}
use Rattle.sym_machine.specs.declared.word.SymByte.TheVariants.{Num}
use Rattle.sym_machine.proofs.SpanLaws.{anyway, data_cell, data_there, stack_cell, stack_there}
use Rattle.sym_machine.proofs.memory.SymMemory.number_at.Goals as goal

pub returns-in-Data-clause-there : goal.returns-in-Data-clause-there
returns-in-Data-clause-there c = anyway c.number_at.result _ (data_there c.self.view_is c.args.a 1 c.in-Data.i c.in-Data.ensures)

pub returns-in-Data-clause-value : goal.returns-in-Data-clause-value
returns-in-Data-clause-value c =
    subst (λ (x : SymByte). IfSome c.number_at.result (λ b. x ≡ Num b)) (data_cell c.self.view_is c.args.a 1 c.in-Data.i c.in-Data.ensures c.args.a c.in-Data.i (omega arith) (omega arith) (omega arith)) c.number_at.ensures

pub returns-in-Stack-clause-there : goal.returns-in-Stack-clause-there
returns-in-Stack-clause-there c = anyway c.number_at-in-Stack.result _ (stack_there c.self.view_is c.self.invariant c.args.a 1 c.in-Stack.i c.in-Stack.ensures)

pub returns-in-Stack-clause-value : goal.returns-in-Stack-clause-value
returns-in-Stack-clause-value c =
    subst (λ (x : SymByte). IfSome c.number_at-in-Stack.result (λ b. x ≡ Num b)) (stack_cell c.self.view_is c.self.invariant c.args.a 1 c.in-Stack.i c.in-Stack.ensures c.args.a c.in-Stack.i (omega arith) (omega arith)) c.number_at-in-Stack.ensures
