use Rattle.std.proofs.Common.{◌∙◌, ap, length, map, sym}
use Rattle.std.proofs.lemmas.List.{length-map}
use Rattle.psabi_sym.specs.Indexed.{all_sections}
use Rattle.psabi_sym.specs.Inputs.{Inputs, parsed}
use Rattle.object_passes.specs.Rooms.{left_section}
use Rattle.object_passes.specs.Sizes.{first_oversized}
use Rattle.moved_runs.specs.Passes.{passed_objects}
use Rattle.tail_merge.specs.Left.{merged_left}
use Rattle.tail_merge.proofs.MergingLaws.{merging}
use Rattle.tail_merge.proofs.left.oversized_index.Goals as goal

pub first_oversized-requires : goal.first_oversized-requires
first_oversized-requires c =
    ap length (c.deref.ensures.value ∙ c.in_ok-left.ensures) ∙ length-map (all_sections (parsed c.args.cut.now).objects) (merged_left (parsed c.args.cut.now))
    ∙ ap (λ (i : Inputs). length (all_sections (parsed i).objects)) (sym c.objects.ensures.same)

pub returns : goal.returns
returns c =
    let pass = merging (parsed c.args.cut.now) in
    c.first_oversized.ensures pass (c.deref.ensures.value ∙ c.in_ok-left.ensures ∙ ap (λ (i : Inputs). map (left_section pass) (all_sections (parsed i).objects)) (sym c.objects.ensures.same))
    ∙ ap (λ (i : Inputs). first_oversized (passed_objects pass (parsed i).objects)) c.objects.ensures.same
