-- The fields of a word (RISC-V unprivileged manual, "Base Instruction Formats" and "Immediate Encoding Variants").
use Rattle.std.specs.Prelude.{ℕ, ℤ, ◌+◌, ◌*◌, ◌^◌}
use Rattle.rv_decode.specs.Bits.{field, signed}

-- the opcode: bits 6 to 0
abbrev pub opcode_of : ℕ → ℕ
opcode_of word = field word 0 7

-- the register that gets the result: bits 11 to 7
abbrev pub rd_of : ℕ → ℕ
rd_of word = field word 7 5

-- which of an opcode's operations: bits 14 to 12
abbrev pub funct3_of : ℕ → ℕ
funct3_of word = field word 12 3

-- the first source register: bits 19 to 15
abbrev pub rs1_of : ℕ → ℕ
rs1_of word = field word 15 5

-- the second source register: bits 24 to 20
abbrev pub rs2_of : ℕ → ℕ
rs2_of word = field word 20 5

-- ---- immediates

-- I: bits 31 to 20
abbrev pub imm_i_of : ℕ → ℤ
imm_i_of word = signed 12 (field word 20 12)

-- S: bits 31 to 25, and 11 to 7
abbrev pub imm_s_of : ℕ → ℤ
imm_s_of word = signed 12 (field word 25 7 * 2 ^ 5 + field word 7 5)

-- B, an even number: imm[12] is bit 31, imm[11] bit 7, imm[10:5] bits 30 to 25, imm[4:1] bits 11 to 8
abbrev pub imm_b_of : ℕ → ℤ
imm_b_of word = signed 13 (field word 31 1 * 2 ^ 12 + field word 7 1 * 2 ^ 11 + field word 25 6 * 2 ^ 5 + field word 8 4 * 2)

-- U: bits 31 to 12, as they stand
abbrev pub imm_u_of : ℕ → ℕ
imm_u_of word = field word 12 20

-- J, an even number: imm[20] is bit 31, imm[19:12] bits 19 to 12, imm[11] bit 20, imm[10:1] bits 30 to 21
abbrev pub imm_j_of : ℕ → ℤ
imm_j_of word = signed 21 (field word 31 1 * 2 ^ 20 + field word 12 8 * 2 ^ 12 + field word 20 1 * 2 ^ 11 + field word 21 10 * 2)
