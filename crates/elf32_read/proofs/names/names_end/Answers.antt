use Rattle.std.proofs.Common.{◌≡◌, ◌+◌, ◌-◌, ◌<◌, drop, get_or, length, sym, ap, ◌∙◌, arith, eq-eqb, inl, inr}
use Rattle.std.specs.Prelude.{◌==◌}
use Rattle.std.specs.List.{list_any}
use Rattle.std.proofs.lemmas.Bool.{cases_lt, le-ltb, lt-ltb, ne_eqb, or_from}
use Rattle.std.proofs.lemmas.List.{drop_more, get_or-drop, length-drop}
use Rattle.std.proofs.lemmas.List.Folds.{list_any_at}
use Rattle.elf32_read.proofs.names.names_end.Goals as goal

-- no byte from the current one on is zero
pub loop-i-preserved : goal.loop-i-preserved
loop-i-preserved c = λ k past.
    let names = c.args.names.now in
    let i = c.loop-i.i in
    elim (cases_lt (k + i) (length names)) [
      | inl here ↦
          let at : length names - i - 1 ≡ k = omega (arith, here, past) in
          let other = ne_eqb (get_or names k 0) 0 (λ zero. c.if-names-end-eq0.false (ap (λ j. get_or names j 0) at ∙ zero)) in
          ap (list_any (λ byte. byte == 0)) (drop_more names k 0 (omega (arith, here)))
          ∙ or_from _ _ other (c.loop-i.invariant (k + 1) (omega (arith, past)))
      | inr later ↦ c.loop-i.invariant k later
    ]

-- the current byte is zero
pub returns-then-names-end-eq0 : goal.returns-then-names-end-eq0
returns-then-names-end-eq0 c = λ k.
    let names = c.args.names.now in
    let end = length names - c.loop-i.i in
    elim (cases_lt k end) [
      | inl below ↦
          let at : k + (end - 1 - k) ≡ end - 1 = omega (arith, below) in
          let inside : end - 1 - k < length (drop k names) = omega (arith, below, length-drop k names) in
          let zero = get_or-drop k names (end - 1 - k) 0 ∙ ap (λ j. get_or names j 0) at ∙ c.if-names-end-eq0.true in
          list_any_at (λ byte. byte == 0) (drop k names) (end - 1 - k) 0 inside (eq-eqb _ 0 zero) ∙ sym (lt-ltb k end below)
      | inr past ↦ c.loop-i.invariant k (omega (arith, past)) ∙ sym (le-ltb k end past)
    ]

-- no byte is zero
pub returns : goal.returns
returns c = λ k. c.loop-i.invariant k (omega arith) ∙ sym (le-ltb k 0 (omega arith))
