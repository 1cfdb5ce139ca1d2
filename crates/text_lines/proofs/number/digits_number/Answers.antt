use Rattle.std.proofs.Common.{◌≡◌, ℕ, ◌+◌, ◌*◌, ◌^◌, ◌<◌, ◌≤◌, List, arith, take, get_or, length, subst, ap, ◌∙◌, sym}
use Rattle.std.specs.Char.{digit_value}
use Rattle.std.specs.Str.Parse.{AllDigits, digits_value}
use Rattle.std.proofs.lemmas.Int.Digits.{digits_more, digits_value_more}
use Rattle.std.proofs.lemmas.List.{take_all}
use Rattle.std.proofs.lemmas.Str.Parse.{digit_at, digits_value-take-le}
use Rattle.text_lines.proofs.number.digits_number.Goals as goal

-- the value so far doesn't fit 64 bits, so the value of all digits doesn't
above : (ds : List ℕ) (i value : ℕ) → i < length ds → digits_value 10 (take i ds) ≡ value → 2 ^ 64 ≤ value * 10 + digit_value (get_or ds i 0) → digits_value 10 ds < 2 ^ 64 → ⊥
above ds i value lt is over small =
    let more = digits_value_more 10 ds i lt in
    let front = digits_value-take-le 10 ds (i + 1) (omega arith) in
    omega (arith, is, over, more, front, small)

pub returns-in_err-digit : goal.returns-in_err-digit
returns-in_err-digit c =
    rw c.from_residual.ensures (λ h.
    let here = digit_at c.args.digits.now c.loop-byte.byte-index h.1 (omega arith) in
    omega (arith, here, c.from.ensures, c.in_err-digit.ensures.cases))

pub returns-in_err-checked_mul : goal.returns-in_err-checked_mul
returns-in_err-checked_mul c =
    rw c.from_residual-in_err-checked_mul.ensures (λ h. above c.args.digits.now c.loop-byte.byte-index c.loop-byte.value (omega arith) c.loop-byte.invariant.value (omega (arith, c.in_err-checked_mul.ensures)) h.2)

pub returns-in_err-value : goal.returns-in_err-value
returns-in_err-value c =
    let same = ap digit_value c.from.ensures in
    rw c.from_residual-in_err-value.ensures (λ h. above c.args.digits.now c.loop-byte.byte-index c.loop-byte.value (omega arith) c.loop-byte.invariant.value (omega (arith, same, c.in_err-value.ensures, c.in_ok-checked_mul.ensures, c.in_ok-digit.ensures.value, c.from-in-loop-byte.ensures)) h.2)

pub loop-byte-preserved : goal.loop-byte-preserved
loop-byte-preserved c =
    let lt : c.loop-byte.byte-index < length c.args.digits.now = omega arith in
    let more = digits_value_more 10 c.args.digits.now c.loop-byte.byte-index lt in
    let same = ap digit_value c.from.ensures in
    record {
      digits = digits_more 10 c.args.digits.now c.loop-byte.byte-index lt c.loop-byte.invariant.digits (omega (arith, same, c.in_ok-digit.ensures.value));
      value = omega (arith, more, same, c.loop-byte.invariant.value, c.in_ok-value.ensures, c.in_ok-checked_mul.ensures, c.in_ok-digit.ensures.value, c.from-in-loop-byte.ensures);
      some = c.loop-byte.invariant.some;
      below = omega (arith, c.in_ok-value.ensures);
    }

pub returns : goal.returns
returns c =
    let ds = c.args.digits.now in
    let end : take c.loop-byte.byte-index ds ≡ ds = take_all c.loop-byte.byte-index ds (omega arith) in
    let P : List ℕ → Type 0 = AllDigits 10 in
    let value : c.loop-byte.value ≡ digits_value 10 ds = sym c.loop-byte.invariant.value ∙ ap (digits_value 10) end in
    ((c.loop-byte.invariant.some, subst P end c.loop-byte.invariant.digits, omega (arith, value, c.loop-byte.invariant.below)), value)
