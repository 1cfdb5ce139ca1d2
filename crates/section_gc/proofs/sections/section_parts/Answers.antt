use Rattle.std.proofs.Common.{◌∷◌, ◌++◌, ◌∙◌, ◌<◌, [], ap, arith, get_or, length, sym, subst}
use Rattle.std.proofs.lemmas.Option.{get_or_from_slice_get, slice_get-get_or, slice_get_within}
use Rattle.elf32_read.specs.Header.{section_count}
use Rattle.elf32_read.specs.Lent.{IsSection}
use Rattle.elf32_read.specs.Parts.{object_parts, section_parts}
use Rattle.elf32_read.proofs.PartsLaws.{length-sections, section_at}
use Rattle.psabi_sym.specs.Indexed.{all_sections}
use Rattle.psabi_sym.specs.Inputs.{parsed}
use Rattle.moved_runs.specs.Passes.{new_number}
use Rattle.object_passes.specs.Written.{without_mark}
use Rattle.section_gc.specs.Cleaned.{cleaned_section}
use Rattle.section_gc.specs.Remains.{is_something, is_whole}
use Rattle.section_gc.specs.declared.remains.Remains.TheVariants.{Nothing}
use Rattle.section_gc.proofs.PartLaws.{got-remains, one-section, section-passed, section-turn, sections-all}
use Rattle.section_gc.proofs.sections.section_parts.Goals as goal
use Rattle.section_gc.proofs.sections.section_parts.Goals.{then-is_something+in_ok-section_part+in_ok-push, else-is_something}

pub bounds-table-i : goal.bounds-table-i
bounds-table-i c =
    let file = get_or c.args.objects.now.files c.args.object [] in
    let same = get_or_from_slice_get c.args.objects.now.files c.args.object c.object-given.result [] c.object-given.ensures in
    omega (arith, c.loop-i-test.true, c.section_count-i-end.ensures.count, ap section_count same, c.requires.count, length-sections file)

pub number_among_all-requires-clause-index : goal.number_among_all-requires-clause-index
number_among_all-requires-clause-index c =
    let same = get_or_from_slice_get c.args.objects.now.files c.args.object c.object-given.result [] c.object-given.ensures in
    omega (arith, c.loop-i-test.true, c.section_count-i-end.ensures.count, ap section_count same)

pub section-section-requires : goal.section-section-requires
section-section-requires c = slice_get_within (all_sections (parsed c.args.objects.now).objects) c.number_among_all.result _ c.number_among_all.ensures

pub section_part-requires : goal.section_part-requires
section_part-requires c =
    let files = c.args.objects.now.files in
    let file = get_or files c.args.object [] in
    let same = get_or_from_slice_get files c.args.object c.object-given.result [] c.object-given.ensures in
    let here = one-section (parsed c.args.objects.now).objects c.number_among_all.result c.args.object c.loop-i.i (section_parts file c.loop-i.i) c.section-section.result c.number_among_all.ensures c.section-section.ensures in
    subst (IsSection c.section.result) (ap (λ f. section_parts f c.loop-i.i) (sym same) ∙ here) c.section.ensures

pub loop-i-preserved : goal.loop-i-preserved
loop-i-preserved c = λ needed made.
    let files = c.args.objects.now.files in
    let file = get_or files c.args.object [] in
    let object = object_parts file in
    let i = c.loop-i.i in
    let n = new_number object.sections i in
    let s = section_parts file i in
    let old = c.loop-i.sections.items in
    let same = get_or_from_slice_get files c.args.object c.object-given.result [] c.object-given.ensures in
    let within : i < section_count file = omega (arith, c.loop-i-test.true, c.section_count-i-end.ensures.count, ap section_count same) in
    let here = section_at file i within in
    let inside : i < length c.args.table.now = omega (arith, within, c.requires.count, length-sections file) in
    let got = got-remains needed object c.args.table.now i s (get_or c.args.table.now i Nothing) made here (slice_get-get_or c.args.table.now i Nothing inside) in
    let left = ap is_something (sym got) ∙ sym c.is_something.ensures in
    elim c.if-is_something.branch [
      | then-is_something+in_ok-section_part+in_ok-push w ↦
          let section = one-section (parsed c.args.objects.now).objects w.number_among_all.result c.args.object i s w.section-section.result w.number_among_all.ensures w.section-section.ensures in
          let whole = w.is_whole.ensures ∙ ap is_whole got in
          let part = w.in_ok-section_part.ensures ∙ (λ j. without_mark (cleaned_section (whole j) (sym section j))) in
          ap (λ v. v.items) w.sections-is ∙ w.in_ok-push.ensures.items ∙ ap (λ t. old ++ t ∷ []) part
          ∙ section-turn needed object i n s old here (left ∙ w.if-is_something.true) (c.loop-i.invariant needed made)
      | else-is_something w ↦
          ap (λ v. v.items) w.sections-is ∙ section-passed needed object i n s old here (left ∙ w.if-is_something.false) (c.loop-i.invariant needed made)
    ]

pub returns : goal.returns
returns c = λ needed made.
    let file = get_or c.args.objects.now.files c.args.object [] in
    let same = get_or_from_slice_get c.args.objects.now.files c.args.object c.object-given.result [] c.object-given.ensures in
    sections-all needed (object_parts file) c.loop-i.i c.loop-i.sections.items
    (omega (arith, c.loop-i-test.false, c.section_count-i-end.ensures.count, ap section_count same, length-sections file)) (c.loop-i.invariant needed made)
