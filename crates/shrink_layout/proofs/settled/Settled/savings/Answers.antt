-- What is counted over all sections, and has sites, is what can be saved (`savings_are`).
use Rattle.std.proofs.Common.{◌∙◌, ◌≤◌, All, length, rules, sym, ap, subst, arith}
use Rattle.std.proofs.lemmas.Fn.{filter_same}
use Rattle.psabi_sym.specs.Faults.{gather_fault}
use Rattle.psabi_sym.specs.Inputs.{parsed}
use Rattle.psabi_sym.specs.Indexed.{all_sections}
use Rattle.shrink_layout.specs.Savings.{HasFewSites, has_sites}
use Rattle.shrink_layout.proofs.SavingLaws.{savings_are, savings_few, savings_sized}
use Rattle.shrink_layout.proofs.settled.Settled.savings.Goals as goal

pub returns-clause-value : goal.returns-clause-value
returns-clause-value c =
    let inputs = c.args.self.now.inputs in
    let cut = c.cut-cut.ensures.same ∙ c.planned.ensures.same in
    let none = ap gather_fault (sym (c.objects.ensures.same ∙ cut)) ∙ c.section_count-section-end.ensures.faultless in
    let count = ap (λ x. length (all_sections (parsed x).objects)) (c.objects.ensures.same ∙ cut) in
    let past : length (all_sections (parsed inputs).objects) ≤ c.loop-section.section = omega (arith, c.loop-section-test.false, c.loop-section.auto.section-end, c.section_count-section-end.ensures.count, count) in
    c.shrink_to_fit.ensures.items
    ∙ filter_same _ has_sites _ (λ x b f' k. search rules) c.loop-section.savings.items c.retain.new.self.items c.retain.ensures.filtered
    ∙ savings_are inputs none c.loop-section.section c.loop-section.savings.items past c.loop-section.invariant

pub returns-clause-few : goal.returns-clause-few
returns-clause-few c =
    let cut = c.cut-cut.ensures.same ∙ c.planned.ensures.same in
    let none = ap gather_fault (sym (c.objects.ensures.same ∙ cut)) ∙ c.section_count-section-end.ensures.faultless in
    omega (arith, ap length (returns-clause-value c), savings_few c.args.self.now.inputs none)

pub returns-clause-sites : goal.returns-clause-sites
returns-clause-sites c =
    let cut = c.cut-cut.ensures.same ∙ c.planned.ensures.same in
    let none = ap gather_fault (sym (c.objects.ensures.same ∙ cut)) ∙ c.section_count-section-end.ensures.faultless in
    subst (All HasFewSites) (sym (returns-clause-value c)) (savings_sized c.args.self.now.inputs none)
