-- A push's halfword stands before the other instruction, and a pop's behind it.
use Rattle.std.proofs.Common.{◌<◌, inr, Some, sym, ap, ◌∙◌, subst, arith}
use Rattle.zc_decode.specs.declared.short.Short.TheVariants.{Base}
use Rattle.zc_encode.specs.Halves.{encoded16}
use Rattle.zca_zcb_pass.specs.Forms.{ShortForm}
use Rattle.zc_link.proofs.GroupBytes.{pop_halves, pop_word, push_halves, push_word}
use Rattle.zc_link.proofs.group.group_code.Goals as goal

pub returns-then-push-clause-written : goal.returns-then-push-clause-written
returns-then-push-clause-written c =
    let g = c.args.group.now in
    let some : 0 < g.rest = omega (arith, c.if-group-eq0.false) in
    let form = subst (λ i. ShortForm i (Some c.in-Some.short)) c.rest_instr.ensures c.in-Some.ensures.form in
    let found = sym (c.in-Some.ensures.fields ∙ ap (λ i. encoded16 (Base i)) c.rest_instr.ensures) in
    inr (some, push_halves g some c.half_of-half.result c.half_of-half.ensures c.in-Some.short form.0.spells.small found form.1 (sym c.is_push-push.ensures ∙ c.if-push.true))

pub returns-else-push-clause-written : goal.returns-else-push-clause-written
returns-else-push-clause-written c =
    let g = c.args.group.now in
    let some : 0 < g.rest = omega (arith, c.if-group-eq0.false) in
    let form = subst (λ i. ShortForm i (Some c.in-Some.short)) c.rest_instr.ensures c.in-Some.ensures.form in
    let found = sym (c.in-Some.ensures.fields ∙ ap (λ i. encoded16 (Base i)) c.rest_instr.ensures) in
    inr (some, pop_halves g some c.half_of-half.result c.half_of-half.ensures c.in-Some.short form.0.spells.small found form.1 (sym c.is_push-push.ensures ∙ c.if-push.false))

pub returns-then-push-2-clause-written : goal.returns-then-push-2-clause-written
returns-then-push-2-clause-written c =
    let g = c.args.group.now in
    let some : 0 < g.rest = omega (arith, c.if-group-eq0.false) in
    let none = sym (ap (λ i. encoded16 (Base i)) c.rest_instr.ensures) ∙ sym c.in_default.ensures.fields in
    let word = c.encode-word.ensures.decodes ∙ ap Some c.rest_instr-2.ensures in
    inr (some, push_word g some c.half_of-half.result c.half_of-half.ensures c.encode-word.result c.encode-word.type_inv none word (sym c.is_push-push.ensures ∙ c.if-push-2.true))

pub returns-else-push-2-clause-written : goal.returns-else-push-2-clause-written
returns-else-push-2-clause-written c =
    let g = c.args.group.now in
    let some : 0 < g.rest = omega (arith, c.if-group-eq0.false) in
    let none = sym (ap (λ i. encoded16 (Base i)) c.rest_instr.ensures) ∙ sym c.in_default.ensures.fields in
    let word = c.encode-word.ensures.decodes ∙ ap Some c.rest_instr-2.ensures in
    inr (some, pop_word g some c.half_of-half.result c.half_of-half.ensures c.encode-word.result c.encode-word.type_inv none word (sym c.is_push-push.ensures ∙ c.if-push-2.false))
