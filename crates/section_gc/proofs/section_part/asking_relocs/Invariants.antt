use Rattle.std.proofs.Common.{◌≡◌, filter, take}
use Rattle.block_cut.specs.Resolved.{asks}
use Rattle.section_gc.proofs.section_part.asking_relocs.Given as goal

abbrev pub invariant-loop-k : goal.invariant-loop-k
invariant-loop-k l = l.relocs.items ≡ filter asks (take l.k l.section.section.relocs)
