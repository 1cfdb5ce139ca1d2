use Rattle.std.proofs.Common.{◌∙◌, refl, sym}
use Rattle.psabi_sym.specs.Inputs.{parsed}
use Rattle.section_gc.specs.Graph.{has_mark}
use Rattle.section_gc.proofs.LeftLaws.{bytes-short, left-is, none-left}
use Rattle.section_gc.proofs.left.left_section.Goals as goal

pub cleaned_counts-requires : goal.cleaned_counts-requires
cleaned_counts-requires c = bytes-short c.args.objects.now c.args.k c.section-section.result c.recall_invariant.ensures.faultless c.section-section.ensures

pub returns-then-not-is_kept : goal.returns-then-not-is_kept
returns-then-not-is_kept c = (
  c.section-section.result,
  c.section-section.ensures,
  none-left (has_mark (parsed c.args.objects.now).objects c.args.marks.now) c.section-section.result _ (sym c.is_kept.ensures ∙ c.if-not-is_kept.true) refl,
)

pub returns : goal.returns
returns c = (
  c.section-section.result,
  c.section-section.ensures,
  left-is (parsed c.args.objects.now).objects c.args.marks.now c.args.k c.section-section.result c.cleaned_counts.result c.section-section.ensures (sym c.is_kept.ensures ∙ c.if-not-is_kept.false) c.cleaned_counts.ensures,
)
