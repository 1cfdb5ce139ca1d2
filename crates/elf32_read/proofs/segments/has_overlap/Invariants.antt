use Rattle.std.proofs.Common.{◌≡◌, drop}
use Rattle.elf32_read.specs.Image.{some_overlap}
use Rattle.elf32_read.proofs.segments.has_overlap.Given as goal

abbrev pub invariant-loop-i : goal.invariant-loop-i
invariant-loop-i l = some_overlap l.loads ≡ some_overlap (drop l.i l.loads)
