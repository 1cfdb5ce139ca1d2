use Rattle.std.proofs.Common.{◌/◌, ◌%◌, ◌^◌, ◌++◌, ◌∷◌, [], cond, eqb, filter, sym, ap, ◌∙◌, append-nil}
use Rattle.std.specs.List.{range_with_len}
use Rattle.std.proofs.lemmas.Bool.{eq-eqb, ne_eqb}
use Rattle.interrupt_plan.proofs.MadeLaws.{done_more}
use Rattle.interrupt_plan.proofs.make_plan.drawn_accesses.Goals as goal
use Rattle.interrupt_plan.proofs.make_plan.drawn_accesses.Goals.{then-bits-access-eq1+in_ok-push, else-bits-access-eq1}

pub loop-access-preserved : goal.loop-access-preserved
loop-access-preserved c =
    let d = c.args.bits in
    let a = c.loop-access.access in
    let before = filter (λ k. eqb (d / 2 ^ k % 2) 1) (range_with_len 0 a) in
    elim c.if-bits-access-eq1.branch [
      | then-bits-access-eq1+in_ok-push w ↦
          ap (λ v. v.items) w.done-is ∙ w.in_ok-push.ensures.items ∙ ap (λ l. l ++ a ∷ []) c.loop-access.invariant
          ∙ sym (done_more d a ∙ ap (λ b. before ++ cond b (a ∷ []) []) (eq-eqb (d / 2 ^ a % 2) 1 w.if-bits-access-eq1.true))
      | else-bits-access-eq1 w ↦
          ap (λ v. v.items) w.done-is ∙ c.loop-access.invariant
          ∙ sym (done_more d a ∙ ap (λ b. before ++ cond b (a ∷ []) []) (ne_eqb (d / 2 ^ a % 2) 1 w.if-bits-access-eq1.false) ∙ append-nil before)
    ]
