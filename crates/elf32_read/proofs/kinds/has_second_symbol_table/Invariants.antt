use Rattle.std.proofs.Common.{◌≡◌, map, length, cond}
use Rattle.std.specs.Prelude.{filter}
use Rattle.std.specs.List.{range_with_len}
use Rattle.elf32_read.specs.Header.{header_of}
use Rattle.elf32_read.proofs.Tests.{has_symbols}
use Rattle.elf32_read.proofs.kinds.has_second_symbol_table.Given as goal

abbrev pub invariant-loop-i : goal.invariant-loop-i
invariant-loop-i l = length (filter has_symbols (map (header_of l.sections) (range_with_len 0 l.i))) ≡ cond l.found 1 0
