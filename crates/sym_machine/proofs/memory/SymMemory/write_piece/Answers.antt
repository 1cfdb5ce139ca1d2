-- Addresses from 2^32 on lie past all memory.
use Rattle.std.proofs.Common.{ℕ, length, map, subst, arith}
use Rattle.std.specs.Prelude.{slice_index_or}
use Rattle.sym_machine.specs.declared.word.SymByte.{SymByte}
use Rattle.sym_machine.specs.declared.word.SymByte.TheVariants.{Num, Undef}
use Rattle.sym_machine.specs.Kept.{IsKept}
use Rattle.sym_machine.proofs.MemoryLaws.{stored_nowhere}
use Rattle.sym_machine.proofs.memory.SymMemory.write_piece.Goals as goal

pub returns-else-a : goal.returns-else-a
returns-else-a c =
    let k = c.args.self.now in
    let is : IsKept k = subst IsKept c.self.view_is c.self.invariant in
    let bytes = map Num c.args.numbers.now in
    let given : ℕ → SymByte = λ i. slice_index_or bytes i Undef in
    stored_nowhere k is c.args.a (length bytes) given
    (λ j lt l h. omega (arith, is.apart, is.some, is.top, lt, l, c.if-a.false))
    (λ j lt kept l h. omega (arith, is.size, is.some, is.top, lt, l, c.if-a.false))
