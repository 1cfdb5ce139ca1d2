-- What instructions compute of words (RISC-V unprivileged manual, chapters "RV32I" and "M"). Words are numbers below 2^32.
use Rattle.std.specs.Prelude.{ℕ, ℤ, pos, ◌+◌, ◌-◌, ◌*◌, ◌/◌, ◌%◌, ◌^◌, ◌*ℤ◌, Bool, not, ◌==◌, nat_lt, if◌then◌else◌, bit_and, bit_or, bit_xor, int_lt, int_div, int_rem}
use Rattle.std.specs.Int.{int_shr}
use Rattle.rv_decode.specs.Bits.{add32, as_signed, as_word}
use Rattle.rv_decode.specs.declared.instr.UpperOp.{UpperOp}
use Rattle.rv_decode.specs.declared.instr.UpperOp.TheVariants.{Lui, Auipc}
use Rattle.rv_decode.specs.declared.instr.BranchOp.{BranchOp}
use Rattle.rv_decode.specs.declared.instr.BranchOp.TheVariants.{Beq, Bne, Blt, Bge, Bltu, Bgeu}
use Rattle.rv_decode.specs.declared.instr.ImmOp.{ImmOp}
use Rattle.rv_decode.specs.declared.instr.ImmOp.TheVariants.{Addi, Slti, Sltiu, Xori, Ori, Andi, Slli, Srli, Srai}
use Rattle.rv_decode.specs.declared.instr.RegOp.{RegOp}
use Rattle.rv_decode.specs.declared.instr.RegOp.TheVariants.{Add, Sub, Sll, Slt, Sltu, Xor, Srl, Sra, Or, And, Mul, Mulh, Mulhsu, Mulhu, Div, Divu, Rem, Remu}

-- ---- two registers

-- whether a word is less than another, both read in two's complement
abbrev pub is_less : ℕ → ℕ → Bool
is_less a b = int_lt (as_signed a) (as_signed b)

-- the operations on two registers: sums wrap, and a shift takes the low five bits of its amount. A quotient by 0 has all bits
-- set, and the remainder is the dividend; -2^31 / -1 is 2^31, whose word is that of -2^31 again
abbrev pub reg_result : RegOp → ℕ → ℕ → ℕ
reg_result Add a b = (a + b) % 2 ^ 32
reg_result Sub a b = (a + (2 ^ 32 - b)) % 2 ^ 32
reg_result Sll a b = a * 2 ^ (b % 32) % 2 ^ 32
reg_result Slt a b = if is_less a b then 1 else 0
reg_result Sltu a b = if nat_lt a b then 1 else 0
reg_result Xor a b = bit_xor a b
reg_result Srl a b = a / 2 ^ (b % 32)
reg_result Sra a b = as_word (int_shr (as_signed a) (b % 32))
reg_result Or a b = bit_or a b
reg_result And a b = bit_and a b
reg_result Mul a b = a * b % 2 ^ 32
reg_result Mulh a b = as_word (int_shr (as_signed a *ℤ as_signed b) 32)
reg_result Mulhsu a b = as_word (int_shr (as_signed a *ℤ pos b) 32)
reg_result Mulhu a b = a * b / 2 ^ 32
reg_result Div a b = if b == 0 then 2 ^ 32 - 1 else as_word (int_div (as_signed a) (as_signed b))
reg_result Divu a b = if b == 0 then 2 ^ 32 - 1 else a / b
reg_result Rem a b = if b == 0 then a else as_word (int_rem (as_signed a) (as_signed b))
reg_result Remu a b = if b == 0 then a else a % b

-- ---- a register and an immediate

-- each is the operation on two registers, with the immediate as the second word
abbrev pub imm_result : ImmOp → ℕ → ℤ → ℕ
imm_result Addi n imm = add32 n imm
imm_result Slti n imm = reg_result Slt n (as_word imm)
imm_result Sltiu n imm = reg_result Sltu n (as_word imm)
imm_result Xori n imm = reg_result Xor n (as_word imm)
imm_result Ori n imm = reg_result Or n (as_word imm)
imm_result Andi n imm = reg_result And n (as_word imm)
imm_result Slli n imm = reg_result Sll n (as_word imm)
imm_result Srli n imm = reg_result Srl n (as_word imm)
imm_result Srai n imm = reg_result Sra n (as_word imm)

-- ---- upper immediates

-- the 20 bits are the upper ones of a word, alone or added to the program counter
abbrev pub upper_result : UpperOp → ℕ → ℕ → ℕ
upper_result Lui pc imm = imm * 2 ^ 12 % 2 ^ 32
upper_result Auipc pc imm = (pc + imm * 2 ^ 12) % 2 ^ 32

-- ---- branches

-- whether a branch is taken
abbrev pub is_taken : BranchOp → ℕ → ℕ → Bool
is_taken Beq a b = a == b
is_taken Bne a b = not (a == b)
is_taken Blt a b = is_less a b
is_taken Bge a b = not (is_less a b)
is_taken Bltu a b = nat_lt a b
is_taken Bgeu a b = not (nat_lt a b)
