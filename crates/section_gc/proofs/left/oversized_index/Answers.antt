use Rattle.std.proofs.Common.{◌∙◌, ap, length}
use Rattle.std.proofs.lemmas.List.{length-map}
use Rattle.psabi_sym.specs.Indexed.{all_sections}
use Rattle.psabi_sym.specs.Inputs.{parsed}
use Rattle.section_gc.specs.Graph.{has_mark}
use Rattle.section_gc.specs.Left.{cleaned_left}
use Rattle.section_gc.proofs.CleaningLaws.{cleaning_of}
use Rattle.section_gc.proofs.left.oversized_index.Goals as goal

pub first_oversized-requires : goal.first_oversized-requires
first_oversized-requires c =
    let objects = (parsed c.args.objects.now).objects in
    ap length (c.deref.ensures.value ∙ c.in_ok-left.ensures) ∙ length-map (all_sections objects) (cleaned_left (has_mark objects c.args.marks.now))

pub returns : goal.returns
returns c =
    let inputs = c.args.objects.now in
    c.first_oversized.ensures (cleaning_of inputs (has_mark (parsed inputs).objects c.args.marks.now)) (c.deref.ensures.value ∙ c.in_ok-left.ensures)
