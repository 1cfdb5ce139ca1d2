-- Section after section: the first fault is that of the first section with one, and where none has one, the targets are added to those before.
use Rattle.std.proofs.Common.{◌≡◌, ℕ, ◌++◌, ◌||◌, ◌&&◌, [], None, Some, cond, map, refl, sym, take, true, ap, ◌∙◌, arith}
use Rattle.std.specs.List.{flat_map, list_any}
use Rattle.std.specs.Option.{option_map}
use Rattle.std.proofs.lemmas.List.{take_all}
use Rattle.elf32_read.specs.declared.fault.Fault.{Fault}
use Rattle.psabi_sym.specs.Faults.{first_some}
use Rattle.psabi_sym.specs.Inputs.{parsed}
use Rattle.psabi_sym.specs.Indexed.{all_sections}
use Rattle.psabi_sym.proofs.SectionNumbers.{listed_at}
use Rattle.elf32_read.specs.Parts.{is_code_section}
use Rattle.block_cut.specs.Invariants.CodeTargets.{code_leads}
use Rattle.block_cut.specs.DataWords.{data_words_in}
use Rattle.block_cut.specs.Faults.{relocs_fault, section_fault}
use Rattle.block_cut.specs.Leaders.{is_place, section_leads}
use Rattle.block_cut.specs.Resolved.{placed_relocs, resolved_fault}
use Rattle.block_cut.proofs.DataLaws.{words_next}
use Rattle.block_cut.proofs.FirstLaws.{none_next, some_next}
use Rattle.psabi_sym.proofs.UsedLaws.{any_next}
use Rattle.std.proofs.Math.Bool.{or-false}
use Rattle.block_cut.proofs.RelocTargetLaws.{any_here, code_lead, code_led, left_judged, left_leads, when_both}
use Rattle.block_cut.proofs.StrayLaws.{placed_data}
use Rattle.block_cut.proofs.reloc_targets.RelocTargets.find.Goals as goal

pub loop-k-init : goal.loop-k-init
loop-k-init c = record {
  faultless = refl;
  words = c.new-words.ensures.items;
  leaders = λ q. c.requires.targets.leaders_are q ∙ sym (or-false (list_any (code_leads (parsed c.args.objects.now) q) (all_sections (parsed c.args.objects.now).objects)));
}

pub relocs_left-requires-clause-section : goal.relocs_left-requires-clause-section
relocs_left-requires-clause-section c = listed_at (parsed c.args.objects.now).objects c.loop-k.k c.section-section.result c.section-section.ensures

pub relocs_left-requires-clause-numbers : goal.relocs_left-requires-clause-numbers
relocs_left-requires-clause-numbers c = c.numbers_left-numbers.ensures.numbers c.args.objects.now c.section-section.result c.requires.tables c.section-section.ensures

pub returns-in-Some-clause-err : goal.returns-in-Some-clause-err
unfolding relocs_fault
returns-in-Some-clause-err c =
    let inputs = parsed c.args.objects.now in
    let all = all_sections inputs.objects in
    let k = c.loop-k.k in
    let l = c.section-section.result in
    let at = c.section-section.ensures in
    let own = c.in_ok-own.ensures ∙ ap (λ b. cond (is_code_section l.section && b) [] (placed_relocs inputs l)) c.numbers_left-numbers.ensures.fine in
    let here : section_fault inputs l ≡ Some (l.object, c.in-Some.fault) =
    sym (left_judged inputs l (is_code_section l.section && c.is_fine-fine.result) c.in_ok-own.own.items own (λ is. when_both (is_code_section l.section) c.is_fine-fine.result is (λ code fine. c.is_fine-fine.ensures fine k l at code)))
    ∙ ap (λ o. option_map {U = ℕ × Fault} (λ (f : Fault). (l.object, f)) o) ((λ j. first_some (map (resolved_fault inputs.objects (sym c.index.ensures j)) (sym c.deref.ensures.value j))) ∙ sym c.section_fault.ensures ∙ c.in-Some.is) in
    some_next (section_fault inputs) all k l at c.loop-k.invariant.faultless (l.object, c.in-Some.fault) here ∙ ap (λ n. Some (n, c.in-Some.fault)) (sym (c.from.ensures ∙ c.object.ensures))

pub add_section_words-requires-clause-section : goal.add_section_words-requires-clause-section
add_section_words-requires-clause-section c = listed_at (parsed c.args.objects.now).objects c.loop-k.k c.section-section.result c.section-section.ensures

pub add_section_words-requires-clause-relocs : goal.add_section_words-requires-clause-relocs
add_section_words-requires-clause-relocs c =
    let inputs = parsed c.args.objects.now in
    let all = all_sections inputs.objects in
    let k = c.loop-k.k in
    let l = c.section-section.result in
    let at = c.section-section.ensures in
    let own = c.in_ok-own.ensures ∙ ap (λ b. cond (is_code_section l.section && b) [] (placed_relocs inputs l)) c.numbers_left-numbers.ensures.fine in
    λ other. c.deref-in-loop-k.ensures.value ∙ own ∙ ap (λ b. cond (b && c.is_fine-fine.result) [] (placed_relocs inputs l)) other ∙ placed_data inputs l other

pub add_section_words-requires-clause-faultless : goal.add_section_words-requires-clause-faultless
add_section_words-requires-clause-faultless c =
    let inputs = parsed c.args.objects.now in
    let all = all_sections inputs.objects in
    let k = c.loop-k.k in
    let l = c.section-section.result in
    let at = c.section-section.ensures in
    let own = c.in_ok-own.ensures ∙ ap (λ b. cond (is_code_section l.section && b) [] (placed_relocs inputs l)) c.numbers_left-numbers.ensures.fine in
    sym (left_judged inputs l (is_code_section l.section && c.is_fine-fine.result) c.in_ok-own.own.items own (λ is. when_both (is_code_section l.section) c.is_fine-fine.result is (λ code fine. c.is_fine-fine.ensures fine k l at code)))
    ∙ ap (λ o. option_map {U = ℕ × Fault} (λ (f : Fault). (l.object, f)) o) ((λ j. first_some (map (resolved_fault inputs.objects (sym c.index.ensures j)) (sym c.deref.ensures.value j))) ∙ sym c.section_fault.ensures ∙ c.in_default.is)

pub loop-k-preserved : goal.loop-k-preserved
loop-k-preserved c =
    let inputs = parsed c.args.objects.now in
    let all = all_sections inputs.objects in
    let k = c.loop-k.k in
    let l = c.section-section.result in
    let at = c.section-section.ensures in
    let own = c.in_ok-own.ensures ∙ ap (λ b. cond (is_code_section l.section && b) [] (placed_relocs inputs l)) c.numbers_left-numbers.ensures.fine in
    let here : section_fault inputs l ≡ None =
    sym (left_judged inputs l (is_code_section l.section && c.is_fine-fine.result) c.in_ok-own.own.items own (λ is. when_both (is_code_section l.section) c.is_fine-fine.result is (λ code fine. c.is_fine-fine.ensures fine k l at code)))
    ∙ ap (λ o. option_map {U = ℕ × Fault} (λ (f : Fault). (l.object, f)) o) ((λ j. first_some (map (resolved_fault inputs.objects (sym c.index.ensures j)) (sym c.deref.ensures.value j))) ∙ sym c.section_fault.ensures ∙ c.in_default.is) in
    record {
      faultless = none_next (section_fault inputs) all k l at c.loop-k.invariant.faultless here;
      words = c.in_ok-add_section_words.ensures ∙ ap (λ ws. ws ++ data_words_in inputs l) c.loop-k.invariant.words ∙ sym (words_next inputs k l at);
      leaders = λ q.
          let before = list_any (code_leads inputs q) all in
          let rest = list_any (section_leads inputs q) (take k all) in
          let kept : (is_code_section l.section && c.is_fine-fine.result) ≡ true → section_leads inputs q l ≡ true → before ≡ true =
          λ is leads. when_both (is_code_section l.section) c.is_fine-fine.result is (λ code fine. any_here (code_leads inputs q) all k l at (code_lead inputs q l code ∙ leads)) in
          c.in_ok-add_relocs.ensures q
          ∙ (λ j. c.loop-k.invariant.leaders q j || list_any (λ d. is_place q d.target) (c.deref-in-loop-k-2.ensures.value j))
          ∙ left_leads inputs l (is_code_section l.section && c.is_fine-fine.result) c.in_ok-own.own.items own q before kept rest
          ∙ ap (λ b. before || b) (sym (any_next (section_leads inputs q) all k l at));
    }

pub returns-clause-faultless : goal.returns-clause-faultless
unfolding relocs_fault
returns-clause-faultless c =
    let inputs = parsed c.args.objects.now in
    let all = all_sections inputs.objects in
    ap (λ ls. first_some (map (section_fault inputs) ls)) (sym (take_all c.loop-k.k all (omega (arith, c.section_count-k-end.ensures.count)))) ∙ c.loop-k.invariant.faultless

pub returns-clause-targets : goal.returns-clause-targets
returns-clause-targets c =
    let inputs = parsed c.args.objects.now in
    let all = all_sections inputs.objects in
    let whole = take_all c.loop-k.k all (omega (arith, c.section_count-k-end.ensures.count)) in
    record {
      words_are = c.loop-k.invariant.words ∙ ap (flat_map (data_words_in inputs)) whole;
      leaders_are = λ q. c.loop-k.invariant.leaders q ∙ ap (λ ls. list_any (code_leads inputs q) all || list_any (section_leads inputs q) ls) whole ∙ code_led inputs q all;
    }
