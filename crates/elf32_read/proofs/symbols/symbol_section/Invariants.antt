use Rattle.elf32_read.specs.Header.{header_of}
use Rattle.elf32_read.proofs.Tests.{has_symbols}
use Rattle.elf32_read.proofs.Alone.{Found}
use Rattle.elf32_read.proofs.symbols.symbol_section.Given as goal

abbrev pub invariant-loop-i : goal.invariant-loop-i
invariant-loop-i l = Found has_symbols (header_of l.sections) l.i l.found
