use Rattle.std.proofs.Common.{◌≡◌, ◌≤◌, filter, length, take}
use Rattle.block_cut.specs.Resolved.{asks}
use Rattle.object_passes.proofs.relocs.asking_count.Given as goal

abbrev pub invariant-loop-k : goal.invariant-loop-k
invariant-loop-k l = (l.count ≡ length (filter asks (take l.k l.section.section.relocs))) × (l.count ≤ l.k)
