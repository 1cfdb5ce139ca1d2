-- How far branches and jumps reach (RISC-V unprivileged manual, "Control Transfer Instructions", of RV32I and of the C extension).
use Rattle.std.specs.Prelude.{ℕ, ℤ, pos, negsuc, ◌-◌, ◌%◌, ◌^◌, Bool, ◌==◌, ◌&&◌, nat_lt}

-- an even number that fits in `bits` bits of two's complement
abbrev pub is_even_of : ℕ → ℤ → Bool
is_even_of bits (pos n) = nat_lt n (2 ^ (bits - 1)) && (n % 2 == 0)
is_even_of bits (negsuc n) = nat_lt n (2 ^ (bits - 1)) && (n % 2 == 1)

-- a conditional branch, and jal
abbrev pub branch_reach : ℤ → Bool
branch_reach distance = is_even_of 13 distance

abbrev pub jal_reach : ℤ → Bool
jal_reach distance = is_even_of 21 distance

-- c.j and c.jal, and c.beqz and c.bnez
abbrev pub short_jump_reach : ℤ → Bool
short_jump_reach distance = is_even_of 12 distance

abbrev pub short_branch_reach : ℤ → Bool
short_branch_reach distance = is_even_of 9 distance
