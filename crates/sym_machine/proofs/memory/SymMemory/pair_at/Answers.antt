use Rattle.std.proofs.Common.{◌≡◌, ◌+◌, subst, arith}
use Rattle.std.specs.Prelude.{IfSome}
use Rattle.sym_machine.specs.declared.word.SymByte.{SymByte}
use Rattle.sym_machine.specs.declared.word.SymByte.TheVariants.{Num}
use Rattle.sym_machine.proofs.SpanLaws.{anyway, data_cell, data_there, stack_cell, stack_there}
use Rattle.sym_machine.proofs.memory.SymMemory.pair_at.Goals as goal

pub returns-in-Data-clause-there : goal.returns-in-Data-clause-there
returns-in-Data-clause-there c = anyway c.pair_at.result _ (data_there c.self.view_is c.args.a 2 c.in-Data.i c.in-Data.ensures)

pub returns-in-Data-clause-low : goal.returns-in-Data-clause-low
returns-in-Data-clause-low c =
    subst (λ (x : SymByte). IfSome c.pair_at.result (λ b. x ≡ Num b.0)) (data_cell c.self.view_is c.args.a 2 c.in-Data.i c.in-Data.ensures c.args.a c.in-Data.i (omega arith) (omega arith) (omega arith)) c.pair_at.ensures.low

pub returns-in-Data-clause-high : goal.returns-in-Data-clause-high
returns-in-Data-clause-high c =
    subst (λ (x : SymByte). IfSome c.pair_at.result (λ b. x ≡ Num b.1)) (data_cell c.self.view_is c.args.a 2 c.in-Data.i c.in-Data.ensures (c.args.a + 1) (c.in-Data.i + 1) (omega arith) (omega arith) (omega arith)) c.pair_at.ensures.high

pub returns-in-Stack-clause-there : goal.returns-in-Stack-clause-there
returns-in-Stack-clause-there c = anyway c.pair_at-in-Stack.result _ (stack_there c.self.view_is c.self.invariant c.args.a 2 c.in-Stack.i c.in-Stack.ensures)

pub returns-in-Stack-clause-low : goal.returns-in-Stack-clause-low
returns-in-Stack-clause-low c =
    subst (λ (x : SymByte). IfSome c.pair_at-in-Stack.result (λ b. x ≡ Num b.0)) (stack_cell c.self.view_is c.self.invariant c.args.a 2 c.in-Stack.i c.in-Stack.ensures c.args.a c.in-Stack.i (omega arith) (omega arith)) c.pair_at-in-Stack.ensures.low

pub returns-in-Stack-clause-high : goal.returns-in-Stack-clause-high
returns-in-Stack-clause-high c =
    subst (λ (x : SymByte). IfSome c.pair_at-in-Stack.result (λ b. x ≡ Num b.1)) (stack_cell c.self.view_is c.self.invariant c.args.a 2 c.in-Stack.i c.in-Stack.ensures (c.args.a + 1) (c.in-Stack.i + 1) (omega arith) (omega arith)) c.pair_at-in-Stack.ensures.high
