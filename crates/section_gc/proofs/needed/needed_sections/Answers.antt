use Rattle.std.proofs.Common.{◌∙◌, ◌++◌, ℕ, List, ap, ap₂, map}
use Rattle.std.specs.Prelude.{Vec}
use Rattle.std.specs.declared.alloc.Global.{Global}
use Rattle.zc_base.specs.declared.place.Place.{Place}
use Rattle.psabi_sym.specs.Indexed.{all_sections}
use Rattle.psabi_sym.specs.Inputs.{Inputs, parsed}
use Rattle.section_gc.specs.Graph.{nodes_at, root_nodes_from, section_nodes}
use Rattle.section_gc.proofs.GraphLaws.{edges-inside, found-needed, nodes-within}
use Rattle.section_gc.proofs.needed.needed_sections.Goals as goal

-- the nodes that are needed by themselves
abbrev root_list : Inputs → Place → List ℕ
root_list inputs entry = nodes_at (parsed inputs).objects entry.object entry.section ++ root_nodes_from inputs.fixed 0 (all_sections (parsed inputs).objects)

abbrev edge_lists : Inputs → List (List ℕ)
edge_lists inputs = map (section_nodes (parsed inputs)) (all_sections (parsed inputs).objects)

pub reach-requires-clause-roots : goal.reach-requires-clause-roots
reach-requires-clause-roots c =
    nodes-within c.args.cut.now c.deref.result.now c.deref-2.result.now c.objects.ensures.faultless
    (ap (map (λ (v : Vec ℕ Global). v.items)) c.deref.ensures.value ∙ c.in_ok-graph.ensures ∙ ap edge_lists c.objects.ensures.same)
    (c.deref-2.ensures.value ∙ c.in_ok-roots.ensures ∙ ap₂ root_list c.objects-2.ensures.same c.entry.ensures)

pub reach-requires-clause-edges : goal.reach-requires-clause-edges
reach-requires-clause-edges c =
    edges-inside (parsed c.args.cut.now) c.deref.result.now
    (ap (map (λ (v : Vec ℕ Global). v.items)) c.deref.ensures.value ∙ c.in_ok-graph.ensures ∙ ap edge_lists c.objects.ensures.same)

pub returns-clause-needed : goal.returns-clause-needed
returns-clause-needed c =
    found-needed c.args.cut.now c.deref.result.now c.deref-2.result.now c.objects.ensures.faultless
    (ap (map (λ (v : Vec ℕ Global). v.items)) c.deref.ensures.value ∙ c.in_ok-graph.ensures ∙ ap edge_lists c.objects.ensures.same)
    (c.deref-2.ensures.value ∙ c.in_ok-roots.ensures ∙ ap₂ root_list c.objects-2.ensures.same c.entry.ensures) c.in_ok-marks.marks.items c.in_ok-marks.ensures
