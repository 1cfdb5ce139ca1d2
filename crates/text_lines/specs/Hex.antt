-- Numbers in hexadecimal digits.
use Rattle.std.specs.Prelude.{ℕ, ◌+◌, ◌/◌, ◌%◌, ◌^◌, nat_lt, if◌then◌else◌, List, [], ◌∷◌}

-- a lower-case hexadecimal digit
abbrev pub hex_digit : ℕ → ℕ
hex_digit d = if nat_lt d 10 then 48 + d else 87 + d

-- the hexadecimal digit of the four bits of a number from bit `shift` up
abbrev pub hex_at : ℕ → ℕ → ℕ
hex_at n shift = hex_digit (n / 2 ^ shift % 16)

-- a byte as two hexadecimal digits
abbrev pub hex_byte : ℕ → List ℕ
hex_byte n = hex_at n 4 ∷ hex_at n 0 ∷ []

-- a 32-bit number as eight hexadecimal digits
abbrev pub hex_word : ℕ → List ℕ
hex_word n =
    hex_at n 28 ∷ hex_at n 24 ∷ hex_at n 20 ∷ hex_at n 16 ∷ hex_at n 12 ∷ hex_at n 8 ∷ hex_at n 4 ∷ hex_at n 0 ∷ []
