-- By whether the chip has Zcmt.
use Rattle.std.proofs.Common.{◌≡◌, ◌∙◌, List, [], true, false, cond, sym, ap, subst}
use Rattle.std.specs.Prelude.{All}
use Rattle.std.proofs.lemmas.List.Elements.{All-nil}
use Rattle.std.proofs.lemmas.Result.{IfOk-weaker}
use Rattle.pick_check.specs.declared.saving.Saving.{Saving}
use Rattle.psabi_sym.specs.Inputs.{Inputs, parsed}
use Rattle.shrink_layout.specs.Savings.{HasFewSites, savings_of, table_savings}
use Rattle.zc_link.proofs.zc.savings_on.Goals as goal

pub returns-then-has_zcmt-clause-value : goal.returns-then-has_zcmt-clause-value
returns-then-has_zcmt-clause-value c =
    let inputs = c.args.first.now.inputs in
    let same : c.map-has_zcmt.result ≡ inputs.map = c.map-has_zcmt.ensures.value ∙ ap (λ (i : Inputs). i.map) (c.objects.ensures.same ∙ c.cut.ensures.same ∙ c.planned.ensures.same) in
    let has : inputs.map.extensions.zcmt ≡ true = sym (ap (λ m. m.extensions.zcmt) same) ∙ c.if-has_zcmt.true in
    let all : savings_of (parsed inputs) ≡ table_savings (parsed inputs) = sym (ap (λ b. cond {A = List Saving} b (savings_of (parsed inputs)) []) has) in
    IfOk-weaker c.savings.result _ _ (λ found is. is ∙ all) c.savings.ensures.value

pub returns-else-has_zcmt-clause-value : goal.returns-else-has_zcmt-clause-value
returns-else-has_zcmt-clause-value c =
    let inputs = c.args.first.now.inputs in
    let same : c.map-has_zcmt.result ≡ inputs.map = c.map-has_zcmt.ensures.value ∙ ap (λ (i : Inputs). i.map) (c.objects.ensures.same ∙ c.cut.ensures.same ∙ c.planned.ensures.same) in
    let lacks : inputs.map.extensions.zcmt ≡ false = sym (ap (λ m. m.extensions.zcmt) same) ∙ c.if-has_zcmt.false in
    c.new.ensures.items ∙ sym (ap (λ b. cond {A = List Saving} b (savings_of (parsed inputs)) []) lacks)

pub returns-else-has_zcmt-clause-sites : goal.returns-else-has_zcmt-clause-sites
returns-else-has_zcmt-clause-sites c = subst (All HasFewSites) (sym c.new.ensures.items) (All-nil HasFewSites)
