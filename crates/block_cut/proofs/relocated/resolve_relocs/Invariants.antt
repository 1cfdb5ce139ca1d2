use Rattle.std.proofs.Common.{◌≡◌, filter, map, take}
use Rattle.psabi_sym.specs.Inputs.{parsed}
use Rattle.block_cut.specs.Resolved.{asks, resolved_reloc}
use Rattle.block_cut.proofs.relocated.resolve_relocs.Given as goal

abbrev pub invariant-loop-k : goal.invariant-loop-k
invariant-loop-k l = l.relocs.items ≡ map (resolved_reloc (parsed l.objects) l.section) (filter asks (take l.k l.section.section.relocs))
