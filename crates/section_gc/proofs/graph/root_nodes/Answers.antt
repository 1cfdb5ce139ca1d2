use Rattle.std.proofs.Common.{◌≡◌, ◌∙◌, sym, ap}
use Rattle.std.specs.Prelude.{◌||◌}
use Rattle.psabi_sym.specs.Indexed.{all_sections}
use Rattle.psabi_sym.specs.Inputs.{parsed}
use Rattle.psabi_sym.specs.declared.section_row.SectionRow.{SectionRow}
use Rattle.section_gc.specs.Graph.{is_data_role, is_root, nodes_at}
use Rattle.section_gc.proofs.EdgeLaws.{root-added, root-passed}
use Rattle.section_gc.proofs.graph.root_nodes.Goals as goal
use Rattle.section_gc.proofs.graph.root_nodes.Goals.{then-is_root+in_ok-push, else-is_root}

pub loop-k-preserved : goal.loop-k-preserved
loop-k-preserved c =
    let inputs = parsed c.args.objects.now in
    let entry = c.args.entry in
    let all = all_sections inputs.objects in
    let l = c.section_row.ensures.0 in
    let tested : c.is_root.result ≡ is_root inputs.fixed l.section = c.is_root.ensures ∙ ap (λ (r : SectionRow). is_data_role r.role || r.fixed) c.section_row.ensures.2 in
    elim c.if-is_root.branch [
      | then-is_root+in_ok-push w ↦
          root-added inputs.fixed all c.loop-k.k l (nodes_at inputs.objects entry.object entry.section) c.loop-k.nodes.items c.if-is_root.nodes.items c.section_row.ensures.1 (sym tested ∙ w.if-is_root.true) c.loop-k.invariant
          (ap (λ v. v.items) w.nodes-is ∙ w.in_ok-push.ensures.items)
      | else-is_root w ↦
          ap (λ v. v.items) w.nodes-is
          ∙ root-passed inputs.fixed all c.loop-k.k l (nodes_at inputs.objects entry.object entry.section) c.loop-k.nodes.items c.section_row.ensures.1 (sym tested ∙ w.if-is_root.false) c.loop-k.invariant
    ]
