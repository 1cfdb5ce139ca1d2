-- A word spells a number if the number is printed as that word.
use Rattle.std.proofs.Common.{◌≡◌, ◌⊎◌, ℕ, ◌^◌, ◌<◌, ◌≤◌, Some, None, Bool, true, List, length, get_or, leb, inl, inr, ap, sym, ◌∙◌, subst, arith}
use Rattle.std.specs.Prelude.{◌&&◌, bytes_eq}
use Rattle.std.specs.Fmt.{decimal}
use Rattle.std.specs.Str.Parse.{AllDigits, digits_value}
use Rattle.std.proofs.lemmas.Bool.{and_from, and_parts, cases_lt, cond-false, cond-true, false_from_ne_true, le-leb, leb-true}
use Rattle.std.proofs.lemmas.Fmt.{decimal-digits_value, decimal_is_IsNumeral, decimal_digit, first_decimal}
use Rattle.std.proofs.lemmas.Option.{cond_some}
use Rattle.std.proofs.lemmas.Slice.Eq.{bytes_eq-Decides}
use Rattle.std.proofs.lemmas.Str.Parse.{numerals_by_value, tells_digits}
use Rattle.text_lines.specs.Number.{decimal_of, if_text_of}

-- ---- what a word spells

pub if_text_of-Some : {A : Type 0} (allowed : Bool) (text : A → List ℕ) (value : A) (word : List ℕ) → allowed ≡ true → word ≡ text value → if_text_of allowed text value word ≡ Some value
unfolding if_text_of
if_text_of-Some allowed text value word may same =
    cond-true (allowed && bytes_eq word (text value)) (Some value) None (and_from allowed (bytes_eq word (text value)) may ((bytes_eq-Decides word (text value)).1 same))

pub if_text_of-None : {A : Type 0} (allowed : Bool) (text : A → List ℕ) (value : A) (word : List ℕ) → (allowed ≡ true → word ≡ text value → ⊥) → if_text_of allowed text value word ≡ None
unfolding if_text_of
if_text_of-None allowed text value word never =
    cond-false (allowed && bytes_eq word (text value)) (Some value) None
    (false_from_ne_true (allowed && bytes_eq word (text value)) (λ both.
    let parts = and_parts allowed (bytes_eq word (text value)) both in
    never parts.0 ((bytes_eq-Decides word (text value)).0 parts.1)))

-- if a word spells a value, the value is allowed, and the word is its text
pub spelled_is : {A : Type 0} (allowed : Bool) (text : A → List ℕ) (value : A) (word : List ℕ) (x : A) → if_text_of allowed text value word ≡ Some x → (allowed ≡ true) × (word ≡ text value) × (value ≡ x)
unfolding if_text_of
spelled_is allowed text value word x is =
    let parts = cond_some (allowed && bytes_eq word (text value)) value x is in
    let both = and_parts allowed (bytes_eq word (text value)) parts.0 in
    (both.0, (bytes_eq-Decides word (text value)).0 both.1, parts.1)

-- ---- decimal numbers

pub value_decimal : (n : ℕ) → n < 2 ^ 64 → digits_value 10 (decimal n) ≡ n
value_decimal n lt = (decimal_is_IsNumeral n lt).1

-- a word that is the text of no number up to the limit
pub decimal_of-None : (limit : ℕ) (word : List ℕ) → ((n : ℕ) → n ≤ limit → word ≡ decimal n → ⊥) → decimal_of limit word ≡ None
decimal_of-None limit word never =
    if_text_of-None (leb (digits_value 10 word) limit) decimal (digits_value 10 word) word (λ below same. never _ (leb-true _ _ below) same)

pub decimal_of-Some : (limit n : ℕ) (word : List ℕ) → limit < 2 ^ 64 → n ≤ limit → word ≡ decimal n → decimal_of limit word ≡ Some n
decimal_of-Some limit n word small below same =
    let value : digits_value 10 word ≡ n = ap (digits_value 10) same ∙ value_decimal n (omega (arith, small, below)) in
    if_text_of-Some (leb (digits_value 10 word) limit) decimal (digits_value 10 word) word (le-leb _ _ (omega (arith, value, below))) (same ∙ ap decimal (sym value))
    ∙ ap Some value

pub number_of_is : (limit : ℕ) (word : List ℕ) (n : ℕ) → decimal_of limit word ≡ Some n → (n ≤ limit) × (word ≡ decimal n)
number_of_is limit word n is =
    let parts = spelled_is (leb (digits_value 10 word) limit) decimal (digits_value 10 word) word n is in
    (let below = leb-true _ _ parts.0 in omega (arith, below, parts.2), parts.1 ∙ ap decimal parts.2)

-- ---- what the reader finds

-- digits without a leading zero are what is printed of their value
pub number_read : (limit : ℕ) (word : List ℕ) (n : ℕ) → limit < 2 ^ 64 → (0 < length word) × AllDigits 10 word × (digits_value 10 word < 2 ^ 64) → ((get_or word 0 0 ≡ 48) × (1 < length word) → ⊥) → digits_value 10 word ≡ n → n ≤ limit → decimal_of limit word ≡ Some n
number_read limit word n small digits plain value below =
    decimal_of-Some limit n word small below
    (sym (decimal-digits_value (numerals_by_value (AllDigits 10) tells_digits) word digits.1 digits.0 (λ zeros. let some = digits.0 in alone zeros some (cases_lt 1 (length word))) digits.2)
    ∙ ap decimal value)
  where
    alone : get_or word 0 0 ≡ 48 → 0 < length word → (1 < length word) ⊎ (length word ≤ 1) → length word ≡ 1
    alone zeros some (inl long) = absurd (plain (zeros, long))
    alone zeros some (inr short) = omega (arith, some, short)

-- a zero with more digits after it is no number
pub number_zero : (limit : ℕ) (word : List ℕ) → limit < 2 ^ 64 → (get_or word 0 0 ≡ 48) × (1 < length word) → decimal_of limit word ≡ None
number_zero limit word small zeros = decimal_of-None limit word (λ n below same. either n below same (cases_lt 0 n))
  where
    either : (n : ℕ) → n ≤ limit → word ≡ decimal n → (0 < n) ⊎ (n ≤ 0) → ⊥
    either n below same (inl some) =
        let first = first_decimal n some (omega (arith, below, small)) in
        omega (arith, first, zeros.0, ap (λ ds. get_or ds 0 0) same)
    either n below same (inr none) = omega (arith, zeros.1, none, ap length same, ap length (decimal_digit n (omega (arith, none))))

-- a word isn't a number if it has other characters than digits, or its value doesn't fit 64 bits
pub number_other : (limit : ℕ) (word : List ℕ) → limit < 2 ^ 64 → ((0 < length word) × AllDigits 10 word × (digits_value 10 word < 2 ^ 64) → ⊥) → decimal_of limit word ≡ None
number_other limit word small other = decimal_of-None limit word (λ n below same.
    let bound : n < 2 ^ 64 = omega (arith, below, small) in
    let is = decimal_is_IsNumeral n bound in
    let P : List ℕ → Type 0 = λ ds. (0 < length ds) × AllDigits 10 ds × (digits_value 10 ds < 2 ^ 64) in
    other (subst P (sym same) (is.0.0, is.0.1, omega (arith, is.1, bound))))

-- a number above the limit isn't returned
pub number_above : (limit : ℕ) (word : List ℕ) → limit < digits_value 10 word → decimal_of limit word ≡ None
number_above limit word above =
    if_text_of-None (leb (digits_value 10 word) limit) decimal (digits_value 10 word) word (λ below same. let le = leb-true _ _ below in omega (arith, le, above))
