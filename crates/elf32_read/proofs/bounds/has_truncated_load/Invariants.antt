use Rattle.std.proofs.Common.{◌≡◌, map, false}
use Rattle.std.specs.Prelude.{◌&&◌, ◌==◌}
use Rattle.std.specs.List.{list_any, range_with_len}
use Rattle.elf32_read.specs.Header.{program_header_of}
use Rattle.elf32_read.proofs.Tests.{load_passes_end}
use Rattle.elf32_read.proofs.bounds.has_truncated_load.Given as goal

abbrev pub invariant-loop-i : goal.invariant-loop-i
invariant-loop-i l =
    list_any (λ header. header.kind == 1 && load_passes_end l.bytes header) (map (program_header_of l.bytes) (range_with_len 0 l.i)) ≡ false
