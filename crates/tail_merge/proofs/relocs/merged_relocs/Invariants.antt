use Rattle.std.proofs.Common.{◌≡◌, filter, map, take}
use Rattle.psabi_sym.specs.Inputs.{parsed}
use Rattle.block_cut.specs.Resolved.{asks}
use Rattle.tail_merge.specs.Merged.{merged_reloc, removed_at}
use Rattle.tail_merge.proofs.relocs.merged_relocs.Given as goal

abbrev pub invariant-loop-k : goal.invariant-loop-k
invariant-loop-k l =
    let inputs = parsed l.cut in
    l.relocs.items ≡ map (merged_reloc inputs l.section.object (removed_at inputs l.section.object l.section.index)) (filter asks (take l.k l.section.section.relocs))
