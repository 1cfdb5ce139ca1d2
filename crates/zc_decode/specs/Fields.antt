-- The fields of a halfword (RISC-V unprivileged manual, "Compressed Instruction Formats" and "RVC Instruction Set Listings";
-- RISC-V Zc specification 1.0, "Zcb", "Zcmp" and "Zcmt").
use Rattle.std.specs.Prelude.{ℕ, ℤ, ◌+◌, ◌-◌, ◌*◌, ◌^◌, nat_lt, if◌then◌else◌}
use Rattle.rv_decode.specs.Bits.{field, signed}
use Rattle.zc_decode.specs.Lists.{stack_adjust_base}

-- which rows are possible: bits 15 to 13 and 1 to 0, as one number of five bits
abbrev pub group_of : ℕ → ℕ
group_of half = field half 13 3 * 4 + field half 0 2

-- ---- registers: that of bits 11 to 7, rd and rs1, stands where a word's rd does (rd_of)

-- the register of bits 6 to 2: rs2
abbrev pub c_rs2_of : ℕ → ℕ
c_rs2_of half = field half 2 5

-- the register of bits 9 to 7, one of x8 to x15: rs1', and rd' if it is a source too
abbrev pub high_reg_of : ℕ → ℕ
high_reg_of half = 8 + field half 7 3

-- the register of bits 4 to 2, one of x8 to x15: rs2', and rd' of a load
abbrev pub low_reg_of : ℕ → ℕ
low_reg_of half = 8 + field half 2 3

-- the one of s0 to s7 with a number of three bits: x8, x9, x18 to x23
abbrev pub s_register_of : ℕ → ℕ
s_register_of code = if nat_lt code 2 then 8 + code else 16 + code

-- r1s': the s register of bits 9 to 7
abbrev pub r1s_of : ℕ → ℕ
r1s_of half = s_register_of (field half 7 3)

-- r2s': the s register of bits 4 to 2
abbrev pub r2s_of : ℕ → ℕ
r2s_of half = s_register_of (field half 2 3)

-- the register list of a push or pop: bits 7 to 4
abbrev pub list_of : ℕ → ℕ
list_of half = field half 4 4

-- ---- immediates without a sign

-- a shift's amount: bits 6 to 2
abbrev pub amount_of : ℕ → ℕ
amount_of half = field half 2 5

-- c.addi4spn: imm[5:4] is bits 12 to 11, imm[9:6] bits 10 to 7, imm[2] bit 6, imm[3] bit 5
abbrev pub addi4spn_of : ℕ → ℕ
addi4spn_of half = field half 7 4 * 2 ^ 6 + field half 11 2 * 2 ^ 4 + field half 5 1 * 2 ^ 3 + field half 6 1 * 2 ^ 2

-- c.lw and c.sw: imm[5:3] is bits 12 to 10, imm[2] bit 6, imm[6] bit 5
abbrev pub word_offset_of : ℕ → ℕ
word_offset_of half = field half 5 1 * 2 ^ 6 + field half 10 3 * 2 ^ 3 + field half 6 1 * 2 ^ 2

-- c.lhu, c.lh and c.sh: imm[1] is bit 5
abbrev pub half_offset_of : ℕ → ℕ
half_offset_of half = field half 5 1 * 2

-- c.lbu and c.sb: imm[0] is bit 6, imm[1] bit 5
abbrev pub byte_offset_of : ℕ → ℕ
byte_offset_of half = field half 5 1 * 2 + field half 6 1

-- c.lwsp: imm[5] is bit 12, imm[4:2] bits 6 to 4, imm[7:6] bits 3 to 2
abbrev pub lwsp_of : ℕ → ℕ
lwsp_of half = field half 2 2 * 2 ^ 6 + field half 12 1 * 2 ^ 5 + field half 4 3 * 2 ^ 2

-- c.swsp: imm[5:2] is bits 12 to 9, imm[7:6] bits 8 to 7
abbrev pub swsp_of : ℕ → ℕ
swsp_of half = field half 7 2 * 2 ^ 6 + field half 9 4 * 2 ^ 2

-- the bytes that a push or pop moves sp by: its list's base, and sixteens by bits 3 to 2
abbrev pub adjust_of : ℕ → ℕ
adjust_of half = stack_adjust_base (list_of half) + 16 * field half 2 2

-- the entry of the jump table: bits 9 to 2
abbrev pub index_of : ℕ → ℕ
index_of half = field half 2 8

-- ---- immediates with a sign

-- six bits: imm[5] is bit 12, imm[4:0] bits 6 to 2
abbrev pub imm_ci_of : ℕ → ℤ
imm_ci_of half = signed 6 (field half 12 1 * 2 ^ 5 + field half 2 5)

-- c.addi16sp: imm[9] is bit 12, imm[4] bit 6, imm[6] bit 5, imm[8:7] bits 4 to 3, imm[5] bit 2
abbrev pub addi16sp_of : ℕ → ℤ
addi16sp_of half =
    signed 10 (field half 12 1 * 2 ^ 9 + field half 3 2 * 2 ^ 7 + field half 5 1 * 2 ^ 6 + field half 2 1 * 2 ^ 5 + field half 6 1 * 2 ^ 4)

-- c.lui, as the upper 20 bits of a word: imm[17] is bit 12 and stands in all bits above too, imm[16:12] is bits 6 to 2
abbrev pub lui_of : ℕ → ℕ
lui_of half = field half 12 1 * (2 ^ 20 - 2 ^ 5) + field half 2 5

-- c.j and c.jal, an even number: imm[11] is bit 12, imm[4] bit 11, imm[9:8] bits 10 to 9, imm[10] bit 8, imm[6] bit 7,
-- imm[7] bit 6, imm[3:1] bits 5 to 3, imm[5] bit 2
abbrev pub cj_offset_of : ℕ → ℤ
cj_offset_of half =
    signed 12 (field half 12 1 * 2 ^ 11 + field half 8 1 * 2 ^ 10 + field half 9 2 * 2 ^ 8 + field half 6 1 * 2 ^ 7
    + field half 7 1 * 2 ^ 6 + field half 2 1 * 2 ^ 5 + field half 11 1 * 2 ^ 4 + field half 3 3 * 2)

-- c.beqz and c.bnez, an even number: imm[8] is bit 12, imm[4:3] bits 11 to 10, imm[7:6] bits 6 to 5, imm[2:1] bits 4 to 3,
-- imm[5] bit 2
abbrev pub cb_offset_of : ℕ → ℤ
cb_offset_of half =
    signed 9 (field half 12 1 * 2 ^ 8 + field half 5 2 * 2 ^ 6 + field half 2 1 * 2 ^ 5 + field half 10 2 * 2 ^ 3 + field half 3 2 * 2)
