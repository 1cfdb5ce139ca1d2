use Rattle.std.proofs.Common.{◌≡◌, map, false}
use Rattle.std.specs.List.{list_any, range_with_len}
use Rattle.elf32_read.specs.Header.{header_of}
use Rattle.elf32_read.specs.Names.{is_unnamed_section}
use Rattle.elf32_read.proofs.unnamed.has_unnamed_section.Given as goal

abbrev pub invariant-loop-i : goal.invariant-loop-i
invariant-loop-i l = list_any (is_unnamed_section l.sections) (map (header_of l.sections) (range_with_len 0 l.i)) ≡ false
