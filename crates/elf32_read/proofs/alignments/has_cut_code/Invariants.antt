use Rattle.std.proofs.Common.{◌≡◌, map, false}
use Rattle.std.specs.List.{list_any, range_with_len}
use Rattle.elf32_read.specs.Header.{header_of}
use Rattle.elf32_read.specs.Object.{is_cut_code}
use Rattle.elf32_read.proofs.alignments.has_cut_code.Given as goal

abbrev pub invariant-loop-i : goal.invariant-loop-i
invariant-loop-i l = list_any (is_cut_code l.sections) (map (header_of l.sections) (range_with_len 0 l.i)) ≡ false
