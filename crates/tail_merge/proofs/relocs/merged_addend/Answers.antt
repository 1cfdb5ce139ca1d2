use Rattle.std.proofs.Common.{◌∙◌, ◌≡◌, ◌-ℤ◌, pos, ap, cond, of_z, rules, subst, sym, to_z, w32}
use Rattle.psabi_sym.specs.Inputs.{Inputs, parsed}
use Rattle.psabi_sym.specs.Resolve.{resolved}
use Rattle.psabi_sym.specs.declared.target.Target.TheVariants.{Code}
use Rattle.block_cut.specs.Items.{target_of}
use Rattle.tail_merge.specs.Merged.{addend_to, is_align_kind, merged_place}
use Rattle.tail_merge.proofs.ValueLaws.{led-from}
use Rattle.tail_merge.proofs.relocs.merged_addend.Goals as goal

pub addend_to_place-requires-clause-symbol : goal.addend_to_place-requires-clause-symbol
addend_to_place-requires-clause-symbol c =
    let led = led-from c.args.cut.now c.recall_invariant.ensures.gathered (to_z w32 (of_z w32 c.args.reloc.addend)) c.in-Code.to c.args.object c.args.reloc.symbol (subst (λ (it : Inputs). resolved (parsed it) c.args.object c.args.reloc.symbol (to_z w32 (of_z w32 c.args.reloc.addend)) ≡ Code c.in-Code.to) c.objects.ensures.same (sym c.in-Code.ensures)) in
    (led.value, (led.sum, led.low))

pub addend_to_place-requires-clause-place : goal.addend_to_place-requires-clause-place
addend_to_place-requires-clause-place c =
    (led-from c.args.cut.now c.recall_invariant.ensures.gathered (to_z w32 (of_z w32 c.args.reloc.addend)) c.in-Code.to c.args.object c.args.reloc.symbol (subst (λ (it : Inputs). resolved (parsed it) c.args.object c.args.reloc.symbol (to_z w32 (of_z w32 c.args.reloc.addend)) ≡ Code c.in-Code.to) c.objects.ensures.same (sym c.in-Code.ensures))).inside

pub returns-in-Code : goal.returns-in-Code
returns-in-Code c =
    let inputs = parsed c.args.cut.now in
    let o = c.args.object in
    let r = c.args.reloc in
    let to = c.in-Code.to in
    let led = led-from c.args.cut.now c.recall_invariant.ensures.gathered (to_z w32 (of_z w32 c.args.reloc.addend)) c.in-Code.to c.args.object c.args.reloc.symbol (subst (λ (it : Inputs). resolved (parsed it) c.args.object c.args.reloc.symbol (to_z w32 (of_z w32 c.args.reloc.addend)) ≡ Code c.in-Code.to) c.objects.ensures.same (sym c.in-Code.ensures)) in
    let read : to_z w32 (of_z w32 r.addend) ≡ r.addend = search rules in
    let back : to_z w32 (of_z w32 c.addend_to_place.result) ≡ c.addend_to_place.result = search rules in
    let leads : target_of inputs o r ≡ Code to =
    ap (resolved inputs o r.symbol) (sym read)
    ∙ subst (λ (it : Inputs). resolved (parsed it) o r.symbol (to_z w32 (of_z w32 r.addend)) ≡ Code to) c.objects.ensures.same (sym c.in-Code.ensures) in
    back ∙ c.addend_to_place.ensures led.value led.sum
    ∙ ap (λ v. pos (merged_place inputs to).offset -ℤ pos v) (sym led.new)
    ∙ ap (addend_to inputs o r) (sym leads)
    ∙ ap (λ b. cond b r.addend (addend_to inputs o r (target_of inputs o r))) (sym (sym c.is_align_kind.ensures ∙ c.if-is_align_kind.false))
    ∙ ap (λ k. cond (is_align_kind k) r.addend (addend_to inputs o r (target_of inputs o r))) c.of.ensures
