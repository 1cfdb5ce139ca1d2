use Rattle.std.proofs.Common.{◌≡◌, map, take}
use Rattle.elf32_read.specs.Segments.{segments_of}
use Rattle.zc_machine.specs.Load.{region_of}
use Rattle.zc_machine.proofs.load.first_regions.Given as goal

abbrev pub invariant-loop-i : goal.invariant-loop-i
invariant-loop-i l = l.regions.items ≡ map region_of (take l.i (segments_of l.image.0))
