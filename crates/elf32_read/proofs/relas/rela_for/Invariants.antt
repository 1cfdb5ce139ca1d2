use Rattle.elf32_read.specs.Header.{header_of}
use Rattle.elf32_read.proofs.Alone.{Found}
use Rattle.elf32_read.proofs.Tests.{changes}
use Rattle.elf32_read.proofs.relas.rela_for.Given as goal

abbrev pub invariant-loop-i : goal.invariant-loop-i
invariant-loop-i l = Found (changes l.section) (header_of l.sections) l.i l.found
