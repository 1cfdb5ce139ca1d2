use Rattle.std.proofs.Common.{◌≡◌, ℕ, ◌+◌, get_or, ap, subst, arith}
use Rattle.std.proofs.lemmas.List.{get_or_default}
use Rattle.std.specs.Prelude.{slice_index_or}
use Rattle.rv_decode.specs.Memory.{written}
use Rattle.sym_machine.specs.declared.word.SymByte.{SymByte}
use Rattle.sym_machine.specs.declared.word.SymByte.TheVariants.{Num, Undef}
use Rattle.sym_machine.specs.Kept.{IsChanged, IsKept}
use Rattle.sym_machine.proofs.MemoryLaws.{write_more, write_none}
use Rattle.sym_machine.proofs.memory.SymMemory.put_each.Goals as goal

pub loop-i-init : goal.loop-i-init
loop-i-init c = write_none c.args.a (λ i. slice_index_or c.args.bytes.now i Undef) c.args.self.now (subst IsKept c.self.view_is c.self.invariant)

pub loop-i-preserved : goal.loop-i-preserved
loop-i-preserved c =
    let given : ℕ → SymByte = λ i. slice_index_or c.args.bytes.now i Undef in
    let at : c.from.result + c.loop-i.i ≡ c.args.a + c.loop-i.i = ap (λ m. m + c.loop-i.i) c.from.ensures in
    let byte : get_or c.args.bytes.now c.loop-i.i (Num 0) ≡ given c.loop-i.i = get_or_default c.args.bytes.now c.loop-i.i (Num 0) Undef (omega arith) in
    write_more c.args.a given c.loop-i.i c.args.self.now c.loop-i.self c.put.new.self c.loop-i.invariant
    (subst (λ (m : ℕ). IsChanged (written m 1 (λ _. given c.loop-i.i)) c.loop-i.self c.put.new.self) at
    (subst (λ (b : SymByte). IsChanged (written (c.from.result + c.loop-i.i) 1 (λ _. b)) c.loop-i.self c.put.new.self) byte c.put.ensures))
