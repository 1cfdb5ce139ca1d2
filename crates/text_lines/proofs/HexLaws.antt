-- Words of hexadecimal digits, and their numbers.
use Rattle.std.proofs.Common.{◌≡◌, ℕ, ◌+◌, ◌*◌, ◌/◌, ◌%◌, ◌^◌, ◌<◌, Some, None, true, List, [], ◌∷◌, ◌++◌, length, get_or, take, drop, ltb, eqb, refl, ap, ap₂, sym, ◌∙◌, arith}
use Rattle.std.specs.Char.{digit_value}
use Rattle.std.specs.Str.Parse.{digits_value}
use Rattle.std.proofs.lemmas.Bool.{agree_below_at, lt-ltb, ltb-true, eqb-true}
use Rattle.std.proofs.lemmas.List.{drop-drop, take-append-drop}
use Rattle.text_lines.specs.Hex.{hex_at, hex_byte, hex_digit, hex_word}
use Rattle.text_lines.specs.Number.{hex_byte_of, hex_word_of}
use Rattle.text_lines.proofs.NumberLaws.{if_text_of-None, if_text_of-Some, spelled_is}

-- ---- what is printed is read back

digit_value-hex : (d : ℕ) → d < 16 → digit_value (hex_digit d) ≡ d
digit_value-hex d lt =
    eqb-true (digit_value (hex_digit d)) d (agree_below_at (λ x. eqb (digit_value (hex_digit x)) x) (λ _. true) 16 d refl lt)

pub value_byte : (n : ℕ) → n < 256 → digits_value 16 (hex_byte n) ≡ n
value_byte n lt =
    ap₂ (λ a b. (0 * 16 + a) * 16 + b) (digit_value-hex (n / 2 ^ 4 % 16) (omega arith)) (digit_value-hex (n / 2 ^ 0 % 16) (omega arith))
    ∙ (omega (arith, lt))

pub value_word : (n : ℕ) → n < 2 ^ 32 → digits_value 16 (hex_word n) ≡ n
value_word n lt =
    let d = λ (shift : ℕ). digit_value-hex (n / 2 ^ shift % 16) in
    rw (d 28 (omega arith), d 24 (omega arith), d 20 (omega arith), d 16 (omega arith), d 12 (omega arith), d 8 (omega arith), d 4 (omega arith), d 0 (omega arith))
    (omega (arith, lt))

-- ---- a byte

pub hex_byte_of-None : (word : List ℕ) → ((n : ℕ) → n < 256 → word ≡ hex_byte n → ⊥) → hex_byte_of word ≡ None
hex_byte_of-None word never =
    if_text_of-None (ltb (digits_value 16 word) 256) hex_byte (digits_value 16 word) word (λ below same. never (digits_value 16 word) (ltb-true _ _ below) same)

pub hex_byte_of-Some : (n : ℕ) (word : List ℕ) → n < 256 → word ≡ hex_byte n → hex_byte_of word ≡ Some n
hex_byte_of-Some n word lt same =
    let value : digits_value 16 word ≡ n = ap (digits_value 16) same ∙ value_byte n lt in
    if_text_of-Some (ltb (digits_value 16 word) 256) hex_byte (digits_value 16 word) word (lt-ltb _ _ (omega (arith, value, lt))) (same ∙ ap hex_byte (sym value))
    ∙ ap Some value

pub hex_byte_of_is : (word : List ℕ) (n : ℕ) → hex_byte_of word ≡ Some n → (n < 256) × (word ≡ hex_byte n)
hex_byte_of_is word n is =
    let parts = spelled_is (ltb (digits_value 16 word) 256) hex_byte (digits_value 16 word) word n is in
    (let below = ltb-true _ _ parts.0 in omega (arith, below, parts.2), parts.1 ∙ ap hex_byte parts.2)

-- a byte is read from its two digits
two_digits : (high low : ℕ) → high < 16 → low < 16 → hex_digit high ∷ hex_digit low ∷ [] ≡ hex_byte (16 * high + low)
two_digits high low h l =
    let first : high ≡ (16 * high + low) / 2 ^ 4 % 16 = omega (arith, h, l) in
    let second : low ≡ (16 * high + low) / 2 ^ 0 % 16 = omega (arith, h, l) in
    ap₂ (λ a b. hex_digit a ∷ hex_digit b ∷ []) first second

pub byte_read : (word : List ℕ) (high low : ℕ) → length word ≡ 2 → high < 16 → low < 16 → get_or word 0 0 ≡ hex_digit high → get_or word 1 0 ≡ hex_digit low → word ≡ hex_byte (16 * high + low)
byte_read [] high low two h l first second = absurd (omega (arith, two))
byte_read (a ∷ []) high low two h l first second = absurd (omega (arith, two))
byte_read (a ∷ (b ∷ [])) high low two h l first second = ap₂ (λ x y. x ∷ y ∷ []) first second ∙ two_digits high low h l
byte_read (a ∷ (b ∷ (c ∷ ds))) high low two h l first second = absurd (omega (arith, two))

-- ---- a 32-bit number

pub hex_word_of-None : (word : List ℕ) → ((n : ℕ) → n < 2 ^ 32 → word ≡ hex_word n → ⊥) → hex_word_of word ≡ None
hex_word_of-None word never =
    if_text_of-None (ltb (digits_value 16 word) (2 ^ 32)) hex_word (digits_value 16 word) word (λ below same. never (digits_value 16 word) (ltb-true _ _ below) same)

pub hex_word_of-Some : (n : ℕ) (word : List ℕ) → n < 2 ^ 32 → word ≡ hex_word n → hex_word_of word ≡ Some n
hex_word_of-Some n word lt same =
    let value : digits_value 16 word ≡ n = ap (digits_value 16) same ∙ value_word n lt in
    if_text_of-Some (ltb (digits_value 16 word) (2 ^ 32)) hex_word (digits_value 16 word) word (lt-ltb _ _ (omega (arith, value, lt))) (same ∙ ap hex_word (sym value))
    ∙ ap Some value

pub hex_word_of_is : (word : List ℕ) (n : ℕ) → hex_word_of word ≡ Some n → (n < 2 ^ 32) × (word ≡ hex_word n)
hex_word_of_is word n is =
    let parts = spelled_is (ltb (digits_value 16 word) (2 ^ 32)) hex_word (digits_value 16 word) word n is in
    (let below = ltb-true _ _ parts.0 in omega (arith, below, parts.2), parts.1 ∙ ap hex_word parts.2)

-- the bytes of a word of digits, from the highest on
byte_at : (n b high low : ℕ) → n / 2 ^ high % 16 ≡ b / 2 ^ 4 % 16 → n / 2 ^ low % 16 ≡ b / 2 ^ 0 % 16 → hex_at n high ∷ hex_at n low ∷ [] ≡ hex_byte b
byte_at n b high low h l = ap₂ (λ x y. hex_digit x ∷ hex_digit y ∷ []) h l

pub first_byte : (n : ℕ) → take 2 (hex_word n) ≡ hex_byte (n / 2 ^ 24 % 256)
first_byte n = byte_at n (n / 2 ^ 24 % 256) 28 24 (omega arith) (omega arith)

pub second_byte : (n : ℕ) → take 2 (drop 2 (hex_word n)) ≡ hex_byte (n / 2 ^ 16 % 256)
second_byte n = byte_at n (n / 2 ^ 16 % 256) 20 16 (omega arith) (omega arith)

pub third_byte : (n : ℕ) → take 2 (drop 4 (hex_word n)) ≡ hex_byte (n / 2 ^ 8 % 256)
third_byte n = byte_at n (n / 2 ^ 8 % 256) 12 8 (omega arith) (omega arith)

pub fourth_byte : (n : ℕ) → drop 6 (hex_word n) ≡ hex_byte (n / 2 ^ 0 % 256)
fourth_byte n = byte_at n (n / 2 ^ 0 % 256) 4 0 (omega arith) (omega arith)

-- a word is no number if two of its digits aren't a byte's
pub hex_word_of-bad : (word part : List ℕ) (byte : ℕ → ℕ) → ((n : ℕ) → byte n < 256) → ((n : ℕ) → word ≡ hex_word n → part ≡ hex_byte (byte n)) → hex_byte_of part ≡ None → hex_word_of word ≡ None
hex_word_of-bad word part byte small is bad = hex_word_of-None word (λ n lt same. let good = hex_byte_of-Some (byte n) part (small n) (is n same) in cc)

-- a word of digits from four bytes
pub four_bytes : (a b c d : ℕ) → a < 256 → b < 256 → c < 256 → d < 256 → hex_byte a ++ (hex_byte b ++ (hex_byte c ++ hex_byte d)) ≡ hex_word (a * 2 ^ 24 + b * 2 ^ 16 + c * 2 ^ 8 + d)
four_bytes a b c d la lb lc ld =
    let n : ℕ = a * 2 ^ 24 + b * 2 ^ 16 + c * 2 ^ 8 + d in
    let first : a ≡ n / 2 ^ 24 % 256 = omega (arith, la, lb, lc, ld) in
    let second : b ≡ n / 2 ^ 16 % 256 = omega (arith, la, lb, lc, ld) in
    let third : c ≡ n / 2 ^ 8 % 256 = omega (arith, la, lb, lc, ld) in
    let fourth : d ≡ n / 2 ^ 0 % 256 = omega (arith, la, lb, lc, ld) in
    ap₂ (λ p q. p ++ q) (ap hex_byte first ∙ sym (first_byte n))
    (ap₂ (λ p q. p ++ q) (ap hex_byte second ∙ sym (second_byte n))
    (ap₂ (λ p q. p ++ q) (ap hex_byte third ∙ sym (third_byte n)) (ap hex_byte fourth ∙ sym (fourth_byte n))))

pub word_parts : (word : List ℕ) → word ≡ take 2 word ++ (take 2 (drop 2 word) ++ (take 2 (drop 4 word) ++ drop 6 word))
word_parts word =
    sym (take-append-drop 2 word)
    ∙ ap (λ rest. take 2 word ++ rest) (sym (take-append-drop 2 (drop 2 word)) ∙ ap (λ rest. take 2 (drop 2 word) ++ rest) (drop-drop 2 2 word ∙ sym (take-append-drop 2 (drop 4 word)) ∙ ap (λ rest. take 2 (drop 4 word) ++ rest) (drop-drop 2 4 word)))

-- a word whose four parts are the digits of bytes
pub word_read : (word : List ℕ) (a b c d : ℕ) → a < 256 → b < 256 → c < 256 → d < 256 → take 2 word ≡ hex_byte a → take 2 (drop 2 word) ≡ hex_byte b → take 2 (drop 4 word) ≡ hex_byte c → drop 6 word ≡ hex_byte d → word ≡ hex_word (a * 2 ^ 24 + b * 2 ^ 16 + c * 2 ^ 8 + d)
word_read word a b c d la lb lc ld ia ib ic id =
    word_parts word
    ∙ ap₂ (λ p q. p ++ q) ia (ap₂ (λ p q. p ++ q) ib (ap₂ (λ p q. p ++ q) ic id))
    ∙ four_bytes a b c d la lb lc ld

-- ---- a byte of another length, or of other digits

pub hex_byte_of-long : (word : List ℕ) → (length word ≡ 2 → ⊥) → hex_byte_of word ≡ None
hex_byte_of-long word other = hex_byte_of-None word (λ n lt same. other (ap length same))

pub hex_byte_of-high : (word : List ℕ) → ((d : ℕ) → d < 16 → get_or word 0 0 ≡ hex_digit d → ⊥) → hex_byte_of word ≡ None
hex_byte_of-high word other = hex_byte_of-None word (λ n lt same. other (n / 2 ^ 4 % 16) (omega arith) (ap (λ w. get_or w 0 0) same))

pub hex_byte_of-low : (word : List ℕ) → ((d : ℕ) → d < 16 → get_or word 1 0 ≡ hex_digit d → ⊥) → hex_byte_of word ≡ None
hex_byte_of-low word other = hex_byte_of-None word (λ n lt same. other (n / 2 ^ 0 % 16) (omega arith) (ap (λ w. get_or w 1 0) same))

pub hex_word_of-long : (word : List ℕ) → (length word ≡ 8 → ⊥) → hex_word_of word ≡ None
hex_word_of-long word other = hex_word_of-None word (λ n lt same. other (ap length same))
