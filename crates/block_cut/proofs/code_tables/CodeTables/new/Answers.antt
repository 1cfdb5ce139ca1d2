use Rattle.std.proofs.Common.{◌++◌, ◌∷◌, [], map, take, sym, ap, subst, ◌∙◌, arith}
use Rattle.std.proofs.lemmas.List.{map-append}
use Rattle.psabi_sym.specs.Inputs.{parsed}
use Rattle.psabi_sym.specs.Indexed.{all_sections}
use Rattle.psabi_sym.proofs.SectionNumbers.{listed_at}
use Rattle.block_cut.specs.Invariants.CodeTargets.{AreCodeTargets}
use Rattle.block_cut.specs.Invariants.SectionItems.{section_tables}
use Rattle.block_cut.proofs.TakeLaws.{take_next}
use Rattle.block_cut.proofs.TextLaws.{count_fits, end_before, tables_of}
use Rattle.block_cut.proofs.code_tables.CodeTables.new.Goals as goal

pub new-requires-in-loop-k : goal.new-requires-in-loop-k
new-requires-in-loop-k c = record {
  faultless = c.section_count-count.ensures.faultless;
  is_map = c.section_count-count.ensures.is_map;
  section = listed_at (parsed c.args.objects.now).objects c.loop-k.k c.section-section.result c.section-section.ensures;
  end = end_before c.args.objects.now c.section_count-count.ensures.faultless c.loop-k.k c.section-section.result c.section-section.ensures c.loop-k.span.end c.loop-k.invariant.span.end_is;
}

pub with-span-requires : goal.with-span-requires
with-span-requires c =
    let inputs = c.args.objects.now in
    let l = c.section-section.result in
    let places = c.places.ensures ∙ (tables_of (parsed inputs) l c.in_ok-cut.cut.text c.in_ok-cut.ensures.text_is).places in
    omega (arith, count_fits inputs c.section_count-count.ensures.faultless c.loop-k.k l c.section-section.ensures c.loop-k.span c.places.result.now c.loop-k.invariant.span places)

pub loop-k-preserved : goal.loop-k-preserved
loop-k-preserved c =
    let inputs = c.args.objects.now in
    let l = c.section-section.result in
    let k = c.loop-k.k in
    let all = all_sections (parsed inputs).objects in
    let places = c.places.ensures ∙ (tables_of (parsed inputs) l c.in_ok-cut.cut.text c.in_ok-cut.ensures.text_is).places in
    record {
      sections = c.in_ok-push.ensures.items ∙ (λ j. c.loop-k.invariant.sections j ++ c.in_ok-cut.ensures.text_is j ∷ [])
          ∙ sym (map-append (section_tables (parsed inputs)) (take k all) (l ∷ [])) ∙ ap (map (section_tables (parsed inputs))) (sym (take_next all k l c.section-section.ensures));
      targets = subst (λ ls. AreCodeTargets (parsed inputs) ls c.add.new.self) (sym (take_next all k l c.section-section.ensures))
          (c.in_ok-add.ensures (take k all) l (c.deref.ensures.value ∙ c.in_ok-cut.ensures.relocs_are) c.loop-k.invariant.targets);
      span = c.with-span.ensures inputs k l c.section_count-count.ensures.faultless c.section-section.ensures places c.loop-k.invariant.span;
    }
