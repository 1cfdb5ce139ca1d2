use Rattle.std.proofs.Common.{◌∷◌, ◌++◌, ◌∙◌, [], ap, arith, map}
use Rattle.std.proofs.lemmas.List.{take_all}
use Rattle.psabi_sym.specs.Indexed.{all_sections}
use Rattle.psabi_sym.specs.Inputs.{parsed}
use Rattle.object_passes.proofs.ListLaws.{made-more}
use Rattle.section_gc.specs.Left.{cleaned_left}
use Rattle.section_gc.specs.Marked.{needed_by}
use Rattle.section_gc.proofs.left.left_sections.Goals as goal

pub loop-k-preserved : goal.loop-k-preserved
loop-k-preserved c =
    let f = cleaned_left (needed_by c.args.objects.now c.args.marks.now) in
    let one = c.left_section.ensures in
    let old = c.loop-k.left.items in
    c.in_ok-push.ensures.items ∙ ap (λ x. old ++ x ∷ []) one.2 ∙ made-more f (all_sections (parsed c.args.objects.now).objects) c.loop-k.k one.0 old one.1 c.loop-k.invariant

pub returns : goal.returns
returns c =
    c.loop-k.invariant
    ∙ ap (map (cleaned_left (needed_by c.args.objects.now c.args.marks.now)))
    (take_all c.loop-k.k (all_sections (parsed c.args.objects.now).objects) (omega (arith, c.loop-k-test.false, c.section_count-k-end.ensures.count)))
