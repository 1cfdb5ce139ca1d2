use Rattle.std.proofs.Common.{◌≡◌, Some}
use Rattle.sym_machine.specs.Change.{numbers_at}
use Rattle.sym_machine.specs.Kept.{regions_of}
use Rattle.sym_machine.proofs.memory.SymMemory.numbers.Given as goal

abbrev pub invariant-loop-i : goal.invariant-loop-i
invariant-loop-i l = numbers_at (regions_of l.self) l.a l.i ≡ Some l.bytes.items
