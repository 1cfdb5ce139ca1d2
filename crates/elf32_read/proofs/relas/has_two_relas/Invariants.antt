use Rattle.elf32_read.proofs.Marks.{AreMarked}
use Rattle.elf32_read.proofs.relas.has_two_relas.Given as goal

abbrev pub invariant-loop-i : goal.invariant-loop-i
invariant-loop-i l = AreMarked l.sections l.changed l.i
