use Rattle.std.proofs.Common.{map, arith}
use Rattle.std.proofs.lemmas.List.{length-map}
use Rattle.sym_machine.specs.declared.word.SymByte.TheVariants.{Num}
use Rattle.sym_machine.specs.Stack.{stack_cells}
use Rattle.sym_machine.proofs.SpanLaws.{written_in_data, written_in_stack}
use Rattle.sym_machine.proofs.memory.SymMemory.store.Goals as goal

pub returns-in-Data-clause-done : goal.returns-in-Data-clause-done
returns-in-Data-clause-done c =
    let at = c.in-Data.ensures in
    let numbers = c.args.numbers.now in
    written_in_data c.self.view_is c.self.invariant c.args.a c.in-Data.i (map Num numbers) c.write_numbers.new.self at.0 (omega (arith, at, length-map numbers Num)) c.write_numbers.ensures.len
    c.write_numbers.ensures.each

pub returns-in-Stack-clause-done : goal.returns-in-Stack-clause-done
returns-in-Stack-clause-done c =
    let at = c.in-Stack.ensures in
    let write = c.write_numbers-in-Stack in
    written_in_stack c.self.view_is c.self.invariant c.args.a c.in-Stack.i (map Num c.args.numbers.now) (stack_cells write.new.self) at.0 at.2 write.ensures.len write.ensures.each
