use Rattle.std.proofs.Common.{◌≡◌, ℕ, ◌+◌, length, map, get_or, ap, sym, subst, arith}
use Rattle.std.specs.Prelude.{slice_index_or}
use Rattle.std.proofs.lemmas.List.{get_or-map, length-map}
use Rattle.rv_decode.specs.Memory.{written}
use Rattle.sym_machine.specs.declared.word.SymByte.{SymByte}
use Rattle.sym_machine.specs.declared.word.SymByte.TheVariants.{Num, Undef}
use Rattle.sym_machine.specs.Kept.{IsChanged, IsKept}
use Rattle.sym_machine.proofs.MemoryLaws.{write_more, write_none}
use Rattle.sym_machine.proofs.memory.SymMemory.put_each_number.Goals as goal

pub loop-i-init : goal.loop-i-init
loop-i-init c = write_none c.args.a (λ i. slice_index_or (map Num c.args.numbers.now) i Undef) c.args.self.now (subst IsKept c.self.view_is c.self.invariant)

pub loop-i-preserved : goal.loop-i-preserved
loop-i-preserved c =
    let numbers = c.args.numbers.now in
    let i = c.loop-i.i in
    let given : ℕ → SymByte = λ j. slice_index_or (map Num numbers) j Undef in
    let at : c.from.result + i ≡ c.args.a + i = ap (λ m. m + i) c.from.ensures in
    let byte : Num (get_or numbers i 0) ≡ given i = sym (get_or-map Num numbers i 0 Undef (omega arith)) in
    write_more c.args.a given i c.args.self.now c.loop-i.self c.put.new.self c.loop-i.invariant
    (subst (λ (m : ℕ). IsChanged (written m 1 (λ _. given i)) c.loop-i.self c.put.new.self) at
    (subst (λ (b : SymByte). IsChanged (written (c.from.result + i) 1 (λ _. b)) c.loop-i.self c.put.new.self) byte c.put.ensures))

pub returns : goal.returns
returns c =
    let numbers = c.args.numbers.now in
    let all : c.loop-i.i ≡ length (map Num numbers) = omega (arith, length-map numbers Num) in
    subst (λ (n : ℕ). IsChanged (written c.args.a n (λ j. slice_index_or (map Num numbers) j Undef)) c.args.self.now c.loop-i.self) all c.loop-i.invariant
