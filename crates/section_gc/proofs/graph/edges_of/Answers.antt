use Rattle.std.proofs.Common.{◌∙◌, ◌++◌, ap, arith}
use Rattle.std.specs.List.{flat_map}
use Rattle.std.proofs.lemmas.List.{take_all}
use Rattle.psabi_sym.specs.Inputs.{parsed}
use Rattle.section_gc.specs.Graph.{reloc_nodes}
use Rattle.section_gc.proofs.EdgeLaws.{flat-more}
use Rattle.section_gc.proofs.graph.edges_of.Goals as goal

pub loop-k-preserved : goal.loop-k-preserved
loop-k-preserved c =
    flat-more (reloc_nodes (parsed c.args.objects.now) c.args.section.now.object) c.args.section.now.section.relocs c.loop-k.k c.reloc.result c.loop-k.nodes.items c.add_edge.new.nodes.items c.reloc.ensures c.loop-k.invariant
    (c.in_ok-add_edge.ensures ∙ ap (λ o. c.loop-k.nodes.items ++ reloc_nodes (parsed c.args.objects.now) o c.reloc.result) c.object.ensures)

pub returns : goal.returns
returns c = c.loop-k.invariant ∙ ap (flat_map (reloc_nodes (parsed c.args.objects.now) c.args.section.now.object)) (take_all c.loop-k.k c.args.section.now.section.relocs (omega arith))
