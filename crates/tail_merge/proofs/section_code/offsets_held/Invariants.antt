use Rattle.std.proofs.Common.{◌≡◌, filter, map, take}
use Rattle.block_cut.specs.Resolved.{asks}
use Rattle.elf32_read.specs.declared.reloc.Reloc.{Reloc}
use Rattle.tail_merge.proofs.section_code.offsets_held.Given as goal

abbrev pub invariant-loop-k : goal.invariant-loop-k
invariant-loop-k l = l.offsets.items ≡ map (λ (r : Reloc). r.offset) (filter asks (take l.k l.section.section.relocs))
