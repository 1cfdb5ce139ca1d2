use Rattle.std.proofs.Common.{◌≡◌, take, map}
use Rattle.psabi_sym.specs.Indexed.{all_sections}
use Rattle.psabi_sym.specs.Inputs.{parsed}
use Rattle.section_gc.specs.Graph.{section_nodes}
use Rattle.section_gc.proofs.graph.section_graph.Given as goal

abbrev pub invariant-loop-k : goal.invariant-loop-k
invariant-loop-k l = map (λ v. v.items) l.graph.items ≡ map (section_nodes (parsed l.objects)) (take l.k (all_sections (parsed l.objects).objects))
