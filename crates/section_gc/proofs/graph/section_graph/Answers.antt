use Rattle.std.specs.Prelude.{ℕ, Vec}
use Rattle.std.specs.declared.alloc.Global.{Global}
use Rattle.psabi_sym.specs.Indexed.{all_sections}
use Rattle.psabi_sym.specs.Inputs.{parsed}
use Rattle.section_gc.specs.Graph.{section_nodes}
use Rattle.section_gc.proofs.EdgeLaws.{map-more}
use Rattle.section_gc.proofs.graph.section_graph.Goals as goal

pub loop-k-preserved : goal.loop-k-preserved
loop-k-preserved c =
    map-more (λ (v : Vec ℕ Global). v.items) (section_nodes (parsed c.args.objects.now)) (all_sections (parsed c.args.objects.now).objects) c.loop-k.k c.section-section.result c.loop-k.graph.items c.push.new.self.items c.in_ok-edges_of.field-0
    c.section-section.ensures c.loop-k.invariant c.in_ok-push.ensures.items c.in_ok-edges_of.ensures
