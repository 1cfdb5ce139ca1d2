-- Bit fields, two's complement, and sums that wrap.
use Rattle.std.specs.Prelude.{ℕ, ◌+◌, ◌-◌, ◌/◌, ◌%◌, ◌^◌, ◌<◌, ◌≡◌, ℤ, pos, negsuc, nat_lt, if◌then◌else◌}
use Rattle.std.specs.Int.{w32, cast_signed, cast_unsigned}

-- the `width` bits of a word from bit `low` on
abbrev pub field : ℕ → ℕ → ℕ → ℕ
field word low width = word / 2 ^ low % 2 ^ width

-- a number of `bits` bits, read in two's complement
abbrev pub signed : ℕ → ℕ → ℤ
signed bits n = if nat_lt n (2 ^ (bits - 1)) then pos n else negsuc (2 ^ bits - n - 1)

-- a word, read in two's complement
abbrev pub as_signed : ℕ → ℤ
as_signed n = cast_signed w32 n

-- a signed number from -2^32 on, modulo 2^32
abbrev pub as_word : ℤ → ℕ
as_word z = cast_unsigned w32 z % 2 ^ 32

-- the sum of a word and a signed number, modulo 2^32
abbrev pub add32 : ℕ → ℤ → ℕ
add32 n imm = (n + cast_unsigned w32 imm) % 2 ^ 32

-- a signed number fits in `bits` bits of two's complement
abbrev pub FitsIn : ℕ → ℤ → Type 0
FitsIn bits (pos n) = n < 2 ^ (bits - 1)
FitsIn bits (negsuc n) = n < 2 ^ (bits - 1)

-- a signed number is even
abbrev pub IsEven : ℤ → Type 0
IsEven (pos n) = n % 2 ≡ 0
IsEven (negsuc n) = n % 2 ≡ 1
