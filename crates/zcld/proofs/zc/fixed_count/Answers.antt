use Rattle.std.proofs.Common.{◌∙◌, sym, ap, arith}
use Rattle.std.proofs.lemmas.List.Sums.{count_by_more_no, count_by_more_yes}
use Rattle.std.proofs.lemmas.Option.{get_or_from_slice_get, slice_get_within}
use Rattle.psabi_sym.specs.Fixed.{is_fixed}
use Rattle.psabi_sym.specs.Indexed.{IndexedSection, all_sections}
use Rattle.psabi_sym.specs.Inputs.{parsed}
use Rattle.psabi_sym.specs.declared.section_row.SectionRow.{SectionRow}
use Rattle.zcld.proofs.zc.fixed_count.Goals as goal
use Rattle.zcld.proofs.zc.fixed_count.Goals.{else-section_row, then-section_row}

pub loop-k-preserved : goal.loop-k-preserved
loop-k-preserved c =
    let inputs = parsed c.args.objects.now in
    let all = all_sections inputs.objects in
    let k = c.loop-k.k in
    let row = c.section_row.ensures in
    let within = slice_get_within all k row.0 row.1 in
    let is =
    ap (λ (l : IndexedSection). is_fixed inputs.fixed l.section) (get_or_from_slice_get all k row.0 row.0 row.1)
    ∙ sym (ap (λ (r : SectionRow). r.fixed) row.2) in
    elim c.if-section_row.branch [
      | then-section_row w ↦
          let more = count_by_more_yes (λ l. is_fixed inputs.fixed l.section) all k row.0 within (is ∙ w.if-section_row.true) in
          w.count-is ∙ omega (arith, c.loop-k.invariant, more)
      | else-section_row w ↦
          let same = count_by_more_no (λ l. is_fixed inputs.fixed l.section) all k row.0 within (is ∙ w.if-section_row.false) in
          w.count-is ∙ omega (arith, c.loop-k.invariant, same)
    ]
