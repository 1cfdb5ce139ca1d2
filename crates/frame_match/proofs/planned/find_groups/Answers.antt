use Rattle.std.proofs.Common.{◌∙◌, ◌<◌, ◌++◌, ◌∷◌, [], ap, arith, length, map, sym, take}
use Rattle.std.specs.List.{flat_map}
use Rattle.std.proofs.lemmas.List.{flat_map_more}
use Rattle.psabi_sym.specs.Inputs.{parsed}
use Rattle.psabi_sym.specs.Indexed.{all_sections}
use Rattle.frame_match.specs.Groups.{groups_in, roles_in}
use Rattle.frame_match.specs.Invariants.Marks.{marks_from, section_marks}
use Rattle.frame_match.proofs.MarkLaws.{first_marks_more, take_next}
use Rattle.frame_match.proofs.MemberLaws.{get_some}
use Rattle.frame_match.proofs.RoleLaws.{all_few}
use Rattle.frame_match.proofs.planned.find_groups.Goals as goal

pub loop-k-preserved : goal.loop-k-preserved
loop-k-preserved c =
    let inputs = parsed c.args.cut.now in
    let k = c.loop-k.k in
    let all = all_sections inputs.objects in
    let count = ap (λ x. length (all_sections (parsed x).objects)) c.objects.ensures.same in
    let within : k < length all = omega (arith, c.loop-k-test.true, c.section_count-count.ensures.count, count) in
    let there = get_some all k within in
    let l = there.0 in
    let next = take_next k all l there.1 in
    let groups = c.in_ok-walk.ensures.groups l there.1 in
    let marks = c.in_ok-walk.ensures.marks l there.1 in
    record {
      groups = groups ∙ ap (λ gs. gs ++ groups_in inputs l) c.loop-k.invariant.groups
          ∙ flat_map_more (groups_in inputs) [] (take k all) l
          ∙ ap (flat_map (groups_in inputs)) (sym next);
      sections = c.in_ok-push.ensures.items
          ∙ (λ i. c.loop-k.invariant.sections i ++ marks i ∷ [])
          ∙ ap (λ gs. section_marks 0 (map (roles_in inputs) (take k all)) ++ marks_from (length gs) (roles_in inputs l) ∷ []) c.loop-k.invariant.groups
          ∙ sym (first_marks_more (roles_in inputs) (take k all) l)
          ∙ ap (λ ls. section_marks 0 (map (roles_in inputs) ls)) (sym next);
    }

pub walk_section-requires-clause-few : goal.walk_section-requires-clause-few
walk_section-requires-clause-few c =
    let inputs = parsed c.args.cut.now in
    let few = all_few inputs (take c.loop-k.k (all_sections inputs.objects)) in
    let count = ap length c.loop-k.invariant.groups in
    omega (arith, few, count)
