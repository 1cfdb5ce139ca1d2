use Rattle.std.proofs.Common.{◌≡◌, ℕ, length, get_or, ap, subst, arith}
use Rattle.rv_decode.specs.Memory.{written}
use Rattle.sym_machine.specs.declared.word.SymByte.{SymByte}
use Rattle.sym_machine.specs.declared.word.SymByte.TheVariants.{Undef}
use Rattle.sym_machine.specs.Kept.{IsChanged, Kept}
use Rattle.sym_machine.specs.Stack.{stack_cells}
use Rattle.sym_machine.proofs.MemoryLaws.{stored_nowhere}
use Rattle.sym_machine.proofs.SpanLaws.{written_in_data, written_in_stack}
use Rattle.sym_machine.proofs.memory.SymMemory.write.Goals as goal

pub returns-in-Data : goal.returns-in-Data
returns-in-Data c =
    let at = c.in-Data.ensures in
    written_in_data c.self.view_is c.self.invariant c.args.a c.in-Data.i c.args.bytes.now c.write_cells.new.self at.0 at.1 c.write_cells.ensures.len c.write_cells.ensures.each

pub returns-in-Stack : goal.returns-in-Stack
returns-in-Stack c =
    let at = c.in-Stack.ensures in
    let write = c.write_cells-in-Stack in
    written_in_stack c.self.view_is c.self.invariant c.args.a c.in-Stack.i c.args.bytes.now (stack_cells write.new.self) at.0 at.2 write.ensures.len write.ensures.each

pub returns-in-Below : goal.returns-in-Below
returns-in-Below c =
    let k : Kept = record { map = c.self.inside.map; bytes = c.self.inside.bytes; stack = stack_cells c.self.inside.stack; from = c.self.inside.from } in
    let is = c.self.invariant in
    let at = c.in-Below.ensures in
    let low : k.map.stack_low ≡ c.args.self.now.map.stack_low = ap (λ (m : Kept). m.map.stack_low) c.self.view_is in
    let from : k.from ≡ c.args.self.now.from = ap (λ (m : Kept). m.from) c.self.view_is in
    let bytes = c.args.bytes.now in
    let given : ℕ → SymByte = λ i. get_or bytes i Undef in
    subst (λ (m : Kept). IsChanged (written c.args.a (length bytes) given) m m) c.self.view_is
    (stored_nowhere k is c.args.a (length bytes) given (λ j lt l h. omega (arith, at, low, is.apart, lt, l)) (λ j lt kept l h. omega (arith, at, from, kept, h)))
