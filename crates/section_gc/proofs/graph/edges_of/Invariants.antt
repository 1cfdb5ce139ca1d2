use Rattle.std.proofs.Common.{◌≡◌, take}
use Rattle.std.specs.List.{flat_map}
use Rattle.psabi_sym.specs.Inputs.{parsed}
use Rattle.section_gc.specs.Graph.{reloc_nodes}
use Rattle.section_gc.proofs.graph.edges_of.Given as goal

abbrev pub invariant-loop-k : goal.invariant-loop-k
invariant-loop-k l = l.nodes.items ≡ flat_map (reloc_nodes (parsed l.objects) l.section.object) (take l.k l.section.section.relocs)
