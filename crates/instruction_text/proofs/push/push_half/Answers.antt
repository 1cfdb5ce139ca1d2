-- The text is that of the row and of what the halfword spells, or its digits.
use Rattle.std.proofs.Common.{◌≡◌, ◌++◌, IfOk, sym, subst, ap₂, ◌∙◌}
use Rattle.instruction_text.specs.Texts.{named_text}
use Rattle.instruction_text.proofs.TextLaws.{half_named, half_unspelled}
use Rattle.instruction_text.proofs.push.push_half.Goals as goal

pub returns-in_default-decode16 : goal.returns-in_default-decode16
returns-in_default-decode16 c =
    subst (λ t. IfOk c.push_half_digits-in_default-decode16.result (λ x. c.push_half_digits-in_default-decode16.new.text.items ≡ c.args.text.now.items ++ t))
    (sym (half_unspelled c.args.half (sym c.decode16.ensures.value ∙ c.in_default-decode16.is))) c.push_half_digits-in_default-decode16.ensures

pub returns : goal.returns
returns c =
    subst (λ t. IfOk c.push_named.result (λ x. c.push_named.new.text.items ≡ c.args.text.now.items ++ t))
    (ap₂ named_text c.form_name.ensures c.operands_of_short.ensures
    ∙ sym (half_named c.args.half c.in-Some.form c.in-Some-decode16.short (sym c.form_of_half.ensures ∙ c.in-Some.is) (sym c.decode16.ensures.value ∙ c.in-Some-decode16.is)))
    c.push_named.ensures
