use Rattle.std.proofs.Common.{◌∙◌, ap, arith, length, refl, slice_get, subst, sym}
use Rattle.psabi_sym.specs.Indexed.{all_sections}
use Rattle.psabi_sym.specs.Inputs.{Inputs, parsed}
use Rattle.tail_merge.specs.MovedTails.{AreMovedTails}
use Rattle.tail_merge.proofs.LeftCounts.{content-short, left-is, none-left, saved-within, table-moved}
use Rattle.tail_merge.proofs.left.left_section.Goals as goal

pub overflow_cast-bytes : goal.overflow_cast-bytes
overflow_cast-bytes c =
    let at = ap (λ (i : Inputs). slice_get (all_sections (parsed i).objects) c.args.k) (sym c.objects.ensures.same) ∙ c.section-section.ensures in
    omega (arith, content-short c.args.cut.now c.args.k c.section-section.result c.recall_invariant.ensures.gathered at, ap length c.bytes.ensures)

pub overflow_sub-result : goal.overflow_sub-result
overflow_sub-result c =
    let inputs = c.args.cut.now in
    let l = c.section-section.result in
    let at = ap (λ (i : Inputs). slice_get (all_sections (parsed i).objects) c.args.k) (sym c.objects.ensures.same) ∙ c.section-section.ensures in
    let moved = table-moved (parsed inputs) c.args.tables.now c.args.k c.index-tables-k.result l c.requires.tables (sym c.index-tables-k.is) at in
    let saved = c.saved_by_all.ensures (parsed inputs) l (subst (AreMovedTails (parsed inputs) l) (sym c.deref.ensures.value) moved) in
    omega (arith, saved, saved-within inputs c.recall_invariant.ensures.gathered c.args.k l at, ap length c.bytes.ensures)

pub returns-then-not-is_kept : goal.returns-then-not-is_kept
returns-then-not-is_kept c =
    let at = ap (λ (i : Inputs). slice_get (all_sections (parsed i).objects) c.args.k) (sym c.objects.ensures.same) ∙ c.section-section.ensures in
    (c.section-section.result, at, none-left (parsed c.args.cut.now) c.section-section.result _ (sym c.is_kept.ensures ∙ c.if-not-is_kept.true) refl)

pub returns : goal.returns
returns c =
    let inputs = c.args.cut.now in
    let l = c.section-section.result in
    let at = ap (λ (i : Inputs). slice_get (all_sections (parsed i).objects) c.args.k) (sym c.objects.ensures.same) ∙ c.section-section.ensures in
    let moved = table-moved (parsed inputs) c.args.tables.now c.args.k c.index-tables-k.result l c.requires.tables (sym c.index-tables-k.is) at in
    let saved = c.saved_by_all.ensures (parsed inputs) l (subst (AreMovedTails (parsed inputs) l) (sym c.deref.ensures.value) moved) in (
      l,
      at,
      left-is inputs c.recall_invariant.ensures.gathered c.args.k l at (length c.bytes.result.now) c.saved_by_all.result c.asking_count.result (sym c.is_kept.ensures ∙ c.if-not-is_kept.false) (ap length c.bytes.ensures) saved c.asking_count.ensures,
    )
