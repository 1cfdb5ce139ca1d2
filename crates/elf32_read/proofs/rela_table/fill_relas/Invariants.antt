use Rattle.elf32_read.proofs.RelaTable.{AreFound}
use Rattle.elf32_read.proofs.rela_table.fill_relas.Given as goal

abbrev pub invariant-loop-i : goal.invariant-loop-i
invariant-loop-i l = AreFound l.sections l.table l.i
