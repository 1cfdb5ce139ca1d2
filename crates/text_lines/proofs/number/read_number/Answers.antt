use Rattle.std.proofs.Common.{arith, refl, sym}
use Rattle.std.proofs.lemmas.Bool.{false≢true}
use Rattle.text_lines.proofs.NumberLaws.{number_above, number_of_is, number_other, number_read, number_zero}
use Rattle.text_lines.proofs.number.read_number.Goals as goal

pub returns-then-has_leading_zero-clause-value : goal.returns-then-has_leading_zero-clause-value
returns-then-has_leading_zero-clause-value c = sym (number_zero c.args.limit c.args.word.now (omega arith) (c.if-has_leading_zero.ensures.0 refl))

pub returns-in_err-value-clause-value : goal.returns-in_err-value-clause-value
returns-in_err-value-clause-value c = rw c.from_residual.ensures (sym (number_other c.args.limit c.args.word.now (omega arith) c.in_err-value.ensures))

pub returns-then-value-limit-clause-value : goal.returns-then-value-limit-clause-value
returns-then-value-limit-clause-value c =
    sym (number_read c.args.limit c.args.word.now c.in_ok-value.value (omega arith) c.in_ok-value.ensures.0 (λ zeros. false≢true (c.if-has_leading_zero.ensures.1 zeros)) (sym c.in_ok-value.ensures.1) (omega arith))

pub returns-then-value-limit-clause-spells : goal.returns-then-value-limit-clause-spells
returns-then-value-limit-clause-spells c =
    (number_of_is c.args.limit c.args.word.now c.in_ok-value.value
    (number_read c.args.limit c.args.word.now c.in_ok-value.value (omega arith) c.in_ok-value.ensures.0 (λ zeros. false≢true (c.if-has_leading_zero.ensures.1 zeros)) (sym c.in_ok-value.ensures.1) (omega arith))).1

pub returns-else-value-limit-clause-value : goal.returns-else-value-limit-clause-value
returns-else-value-limit-clause-value c = sym (number_above c.args.limit c.args.word.now (omega (arith, c.in_ok-value.ensures.1)))
