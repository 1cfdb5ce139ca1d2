-- Hexadecimal digits are above a space, and four of them are read back.
use Rattle.std.proofs.Common.{◌≡◌, ℕ, ◌+◌, ◌*◌, ◌/◌, ◌%◌, ◌^◌, ◌<◌, Some, Bool, true, false, cond, List, [], ◌∷◌, map, ltb, ap, ap₂, ◌∙◌, arith}
use Rattle.std.specs.Option.{option_and_then, option_map}
use Rattle.std.proofs.lemmas.List.Elements.{All-cons, All-nil}
use Rattle.text_lines.specs.Hex.{hex_at, hex_byte, hex_digit, hex_word}
use Rattle.text_lines.proofs.HexLaws.{hex_byte_of-Some}
use Rattle.text_lines.proofs.PlainLaws.{IsPlain}
use Rattle.instruction_text.specs.Reading.{hex_half_of}
use Rattle.instruction_text.specs.Texts.{hex_half}

digit_plain : (d : ℕ) → 32 < hex_digit d
digit_plain d = either (ltb d 10)
  where
    either : (b : Bool) → 32 < cond b (48 + d) (87 + d)
    either true = omega arith
    either false = omega arith

digits_plain : (n : ℕ) (shifts : List ℕ) → IsPlain (map (hex_at n) shifts)
digits_plain n [] = All-nil (λ b. 32 < b)
digits_plain n (shift ∷ shifts) =
    All-cons (λ b. 32 < b) (hex_at n shift) (map (hex_at n) shifts) (digit_plain (n / 2 ^ shift % 16)) (digits_plain n shifts)

pub hex_half_plain : (n : ℕ) → IsPlain (hex_half n)
hex_half_plain n = digits_plain n (12 ∷ 8 ∷ 4 ∷ 0 ∷ [])

pub hex_word_plain : (n : ℕ) → IsPlain (hex_word n)
hex_word_plain n = digits_plain n (28 ∷ 24 ∷ 20 ∷ 16 ∷ 12 ∷ 8 ∷ 4 ∷ 0 ∷ [])

-- the digits of a byte of a number
digits_of_byte : (n b high low : ℕ) → n / 2 ^ high % 16 ≡ b / 2 ^ 4 % 16 → n / 2 ^ low % 16 ≡ b / 2 ^ 0 % 16 → hex_at n high ∷ hex_at n low ∷ [] ≡ hex_byte b
digits_of_byte n b high low one two = ap₂ (λ x y. hex_digit x ∷ hex_digit y ∷ []) one two

pub hex_half_back : (n : ℕ) → n < 2 ^ 16 → hex_half_of (hex_half n) ≡ Some n
hex_half_back n small =
    let high = hex_byte_of-Some (n / 256) (hex_at n 12 ∷ hex_at n 8 ∷ []) (omega (arith, small)) (digits_of_byte n (n / 256) 12 8 (omega arith) (omega arith)) in
    let low = hex_byte_of-Some (n % 256) (hex_at n 4 ∷ hex_at n 0 ∷ []) (omega arith) (digits_of_byte n (n % 256) 4 0 (omega arith) (omega arith)) in
    ap₂ (λ h l. option_and_then (λ x. option_map (λ y. 256 * x + y) l) h) high low
    ∙ ap Some (let whole : 256 * (n / 256) + n % 256 ≡ n = omega arith in whole)
