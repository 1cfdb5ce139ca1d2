-- The numbers that words spell: a word spells a number if the number is printed as that word.
use Rattle.std.specs.Prelude.{ℕ, ◌^◌, Bool, ◌&&◌, nat_le, nat_lt, bytes_eq, if◌then◌else◌, List, Option, Some, None, decimal}
use Rattle.std.specs.Str.Parse.{digits_value}
use Rattle.text_lines.specs.Hex.{hex_byte, hex_word}

-- a value, if it is allowed and the word is its text
unfoldable pub if_text_of : {A : Type 0} → Bool → (A → List ℕ) → A → List ℕ → Option A
if_text_of allowed text value word = if allowed && bytes_eq word (text value) then Some value else None

-- a decimal number without leading zeros that isn't above a limit
abbrev pub decimal_of : ℕ → List ℕ → Option ℕ
decimal_of limit word = let n = digits_value 10 word in if_text_of (nat_le n limit) decimal n word

-- a 32-bit number as eight lower-case hexadecimal digits
abbrev pub hex_word_of : List ℕ → Option ℕ
hex_word_of word = let n = digits_value 16 word in if_text_of (nat_lt n (2 ^ 32)) hex_word n word

-- a byte as two lower-case hexadecimal digits
abbrev pub hex_byte_of : List ℕ → Option ℕ
hex_byte_of word = let n = digits_value 16 word in if_text_of (nat_lt n 256) hex_byte n word
