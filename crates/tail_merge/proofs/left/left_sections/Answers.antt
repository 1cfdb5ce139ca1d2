use Rattle.std.proofs.Common.{◌∷◌, ◌++◌, ◌∙◌, [], ap, arith, length, map}
use Rattle.std.proofs.lemmas.List.{take_all}
use Rattle.psabi_sym.specs.Indexed.{all_sections}
use Rattle.psabi_sym.specs.Inputs.{Inputs, parsed}
use Rattle.object_passes.proofs.ListLaws.{made-more}
use Rattle.tail_merge.specs.Left.{merged_left}
use Rattle.tail_merge.proofs.left.left_sections.Goals as goal

pub left_section-requires-clause-section : goal.left_section-requires-clause-section
left_section-requires-clause-section c =
    let count = ap (λ (i : Inputs). length (all_sections (parsed i).objects)) c.objects.ensures.same in
    omega (arith, c.loop-k-test.true, c.section_count-k-end.ensures.count, count)

pub loop-k-preserved : goal.loop-k-preserved
loop-k-preserved c =
    let one = c.left_section.ensures in
    let old = c.loop-k.left.items in
    c.in_ok-push.ensures.items ∙ ap (λ x. old ++ x ∷ []) one.2
    ∙ made-more (merged_left (parsed c.args.cut.now)) (all_sections (parsed c.args.cut.now).objects) c.loop-k.k one.0 old one.1 c.loop-k.invariant

pub returns : goal.returns
returns c =
    let count = ap (λ (i : Inputs). length (all_sections (parsed i).objects)) c.objects.ensures.same in
    c.loop-k.invariant
    ∙ ap (map (merged_left (parsed c.args.cut.now)))
    (take_all c.loop-k.k (all_sections (parsed c.args.cut.now).objects) (omega (arith, c.loop-k-test.false, c.section_count-k-end.ensures.count, count)))
