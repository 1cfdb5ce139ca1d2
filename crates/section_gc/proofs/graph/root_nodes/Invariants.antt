use Rattle.std.proofs.Common.{◌≡◌, ◌++◌, take}
use Rattle.psabi_sym.specs.Indexed.{all_sections}
use Rattle.psabi_sym.specs.Inputs.{parsed}
use Rattle.section_gc.specs.Graph.{nodes_at, root_nodes_from}
use Rattle.section_gc.proofs.graph.root_nodes.Given as goal

abbrev pub invariant-loop-k : goal.invariant-loop-k
invariant-loop-k l = l.nodes.items ≡ nodes_at (parsed l.objects).objects l.fn.entry.object l.fn.entry.section ++ root_nodes_from l.objects.fixed 0 (take l.k (all_sections (parsed l.objects).objects))
