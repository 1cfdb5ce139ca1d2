use Rattle.std.proofs.Common.{◌≡◌, map, false}
use Rattle.std.specs.List.{list_any, range_with_len}
use Rattle.elf32_read.specs.Header.{header_of}
use Rattle.elf32_read.specs.Object.{passes_end}
use Rattle.elf32_read.proofs.bounds.has_truncated_section.Given as goal

abbrev pub invariant-loop-i : goal.invariant-loop-i
invariant-loop-i l = list_any (passes_end l.bytes) (map (header_of l.bytes) (range_with_len 0 l.i)) ≡ false
