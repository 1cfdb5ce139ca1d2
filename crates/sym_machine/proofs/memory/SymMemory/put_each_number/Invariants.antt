use Rattle.std.specs.Prelude.{map, slice_index_or}
use Rattle.rv_decode.specs.Memory.{written}
use Rattle.sym_machine.specs.declared.word.SymByte.TheVariants.{Num, Undef}
use Rattle.sym_machine.specs.Kept.{IsChanged}
use Rattle.sym_machine.proofs.memory.SymMemory.put_each_number.Given as goal

abbrev pub invariant-loop-i : goal.invariant-loop-i
invariant-loop-i l = IsChanged (written l.a l.i (λ i. slice_index_or (map Num l.numbers) i Undef)) l.fn.self l.self
