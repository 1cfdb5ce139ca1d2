-- What a number word is read as.
use Rattle.std.proofs.Common.{◌≡◌, ℕ, ◌<◌, ◌^◌, List, length, Bool, true, false, ◌&&◌, refl, Result, Err, None, subst, arith, rules, leb}
use Rattle.std.proofs.lemmas.Bool.{and_parts, leb-true, cond-false}
use Rattle.std.specs.Char.{is_ascii_digit}
use Rattle.std.specs.List.{list_all}
use Rattle.std.proofs.lemmas.Str.Parse.{IsNumeralModel, numerals_by_value, parse_digits}
use Rattle.std.specs.Result.{OkIff}
use Rattle.std.specs.Str.Parse.{ParsesUnsigned, digits_value}
use Rattle.command_words.specs.declared.number.TheConstants.{MOST_DIGITS}
use Rattle.command_words.specs.Number.{is_number, number_up_to}

-- a text of digits and its number
digits : IsNumeralModel (λ ds. list_all is_ascii_digit ds ≡ true) (digits_value 10)
digits = numerals_by_value _ (search rules)

-- what a number word is read as
number_read : {E : Type 0} (word : List ℕ) (r : Result ℕ E) → is_number word ≡ true → ParsesUnsigned 64 10 word r → OkIff r ((0 < length word) × (digits_value 10 word < 2 ^ 64)) (digits_value 10 word)
number_read word r number parsed =
    let parts = and_parts (leb 1 (length word) && leb (length word) MOST_DIGITS) (list_all is_ascii_digit word) number in
    parse_digits digits 64 word r parsed parts.1

-- a number that is too large to be read is too large to be allowed
pub no_number : {E : Type 0} (most : ℕ) (word : List ℕ) (r : Result ℕ E) (e : E) → most < 2 ^ 64 → is_number word ≡ true → ParsesUnsigned 64 10 word r → r ≡ Err e → number_up_to most word ≡ None
no_number {E = E} most word r e fits number parsed failed = by_size (leb (digits_value 10 word) most) refl
  where
    lengthy : 0 < length word
    lengthy =
        let parts = and_parts (leb 1 (length word) && leb (length word) MOST_DIGITS) (list_all is_ascii_digit word) number in
        let long = and_parts (leb 1 (length word)) (leb (length word) MOST_DIGITS) parts.0 in
        let one = leb-true 1 (length word) long.0 in
        omega arith

    refused : digits_value 10 word < 2 ^ 64 → ⊥
    refused small = subst (λ (x : Result ℕ E). OkIff x ((0 < length word) × (digits_value 10 word < 2 ^ 64)) (digits_value 10 word)) failed (number_read word r number parsed) (lengthy, small)

    by_size : (b : Bool) → leb (digits_value 10 word) most ≡ b → number_up_to most word ≡ None
    by_size true small =
        let le = leb-true (digits_value 10 word) most small in
        absurd (refused (omega arith))
    by_size false large = cond-false (is_number word && leb (digits_value 10 word) most) _ _ (rw (number, large) refl)
