-- A section has as many pieces as places (`places_counted`), and there are few pieces (`count_few`).
use Rattle.std.proofs.Common.{◌≡◌, ℕ, ◌+◌, ◌<◌, ◌∷◌, ◌++◌, ◌∙◌, List, [], length, map, ap, sym, arith}
use Rattle.std.specs.List.{range_with_len}
use Rattle.std.proofs.lemmas.List.FromFn.{map-range_with_len_more}
use Rattle.psabi_sym.specs.Faults.{gather_fault}
use Rattle.psabi_sym.specs.Inputs.{parsed}
use Rattle.psabi_sym.specs.Indexed.{all_sections}
use Rattle.shrink_layout.specs.Invariants.Numbers.{first_number}
use Rattle.shrink_layout.proofs.SectionLaws.{count_few, places_counted}
use Rattle.shrink_layout.proofs.numbers.first_numbers.Goals as goal

-- one section more
pushed : (f : ℕ → ℕ) (k n : ℕ) (old new : List ℕ) → new ≡ old ++ n ∷ [] → old ≡ map f (range_with_len 0 k) → n ≡ f k → new ≡ map f (range_with_len 0 (k + 1))
pushed f k n old new more old_is n_is = more ∙ (λ i. old_is i ++ n_is i ∷ []) ∙ sym (map-range_with_len_more f 0 k k (omega arith))

pub overflow_add-count : goal.overflow_add-count
overflow_add-count c =
    let none = ap gather_fault (sym c.objects.ensures.same) ∙ c.section_count-sections.ensures.faultless in
    omega (arith, c.loop-section.invariant.count, count_few c.args.cut.now none c.loop-section.section)

pub overflow_add-count-in-loop-section : goal.overflow_add-count-in-loop-section
overflow_add-count-in-loop-section c =
    let none = ap gather_fault (sym c.objects.ensures.same) ∙ c.section_count-sections.ensures.faultless in
    omega (arith, c.loop-section.invariant.count, count_few c.args.cut.now none c.loop-section.section)

pub overflow_cast-count : goal.overflow_cast-count
overflow_cast-count c =
    let none = ap gather_fault (sym c.objects.ensures.same) ∙ c.section_count-sections.ensures.faultless in
    let within : c.loop-section.section < length (all_sections (parsed c.args.cut.now).objects) =
    omega (arith, c.loop-section-test.true, c.section_count-sections.ensures.count, ap (λ x. length (all_sections (parsed x).objects)) c.objects.ensures.same) in
    let counted = places_counted c.args.cut.now none c.loop-section.section within c.places.result.now c.places.ensures in
    omega (arith, counted.next, counted.few)

pub overflow_add-count-in-loop-section-2 : goal.overflow_add-count-in-loop-section-2
overflow_add-count-in-loop-section-2 c =
    let none = ap gather_fault (sym c.objects.ensures.same) ∙ c.section_count-sections.ensures.faultless in
    let within : c.loop-section.section < length (all_sections (parsed c.args.cut.now).objects) =
    omega (arith, c.loop-section-test.true, c.section_count-sections.ensures.count, ap (λ x. length (all_sections (parsed x).objects)) c.objects.ensures.same) in
    let counted = places_counted c.args.cut.now none c.loop-section.section within c.places.result.now c.places.ensures in
    omega (arith, c.loop-section.invariant.count, counted.next, counted.few)

pub loop-section-preserved : goal.loop-section-preserved
loop-section-preserved c =
    let none = ap gather_fault (sym c.objects.ensures.same) ∙ c.section_count-sections.ensures.faultless in
    let within : c.loop-section.section < length (all_sections (parsed c.args.cut.now).objects) =
    omega (arith, c.loop-section-test.true, c.section_count-sections.ensures.count, ap (λ x. length (all_sections (parsed x).objects)) c.objects.ensures.same) in
    let k = c.loop-section.section in
    let counted = places_counted c.args.cut.now none k within c.places.result.now c.places.ensures in
    let f = first_number (parsed c.args.cut.now).objects in
    let first : 1 + c.loop-section.count + 1 ≡ f k = omega (arith, c.loop-section.invariant.count) in
    record {
      starts = pushed f k (1 + c.loop-section.count + 1) c.loop-section.starts.items c.push.new.self.items c.in_ok-push.ensures.items c.loop-section.invariant.starts first;
      count = omega (arith, c.loop-section.invariant.count, counted.next);
    }
