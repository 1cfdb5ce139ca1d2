use Rattle.std.proofs.Common.{◌≡◌, map}
use Rattle.std.specs.Prelude.{◌==◌, filter}
use Rattle.std.specs.List.{range_with_len}
use Rattle.elf32_read.specs.Header.{program_header_of}
use Rattle.elf32_read.proofs.loads.loads_in.Given as goal

abbrev pub invariant-loop-i : goal.invariant-loop-i
invariant-loop-i l = l.loads ≡ filter (λ header. header.kind == 1) (map (program_header_of l.bytes) (range_with_len 0 l.i))
