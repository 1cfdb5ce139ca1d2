-- The table of words (RISC-V unprivileged manual, "RV32/64G Instruction Set Listings"): RV32I, M, and of Zicsr the one
-- instruction that sets the table base register jvt (Zc 1.0, "Zcmt"). Each operation is a line, in the manual's order.
use Rattle.std.specs.Prelude.{ℕ, pos, ◌+◌, ◌*◌, ◌^◌, List, [], ◌∷◌, Option, Some, None, ◌==◌, ◌&&◌, if◌then◌else◌}
use Rattle.std.specs.Option.{option_flatten, option_map, option_or}
use Rattle.rv_decode.specs.declared.instr.Instr.{Instr}
use Rattle.rv_decode.specs.declared.instr.Instr.TheVariants.{Upper, Jal, Jalr, Branch, Load, Store, WithImm, WithReg, Fence, Ecall, Ebreak, Csrrw}
use Rattle.rv_decode.specs.declared.instr.UpperOp.TheVariants.{Lui, Auipc}
use Rattle.rv_decode.specs.declared.instr.BranchOp.{BranchOp}
use Rattle.rv_decode.specs.declared.instr.BranchOp.TheVariants.{Beq, Bne, Blt, Bge, Bltu, Bgeu}
use Rattle.rv_decode.specs.declared.instr.LoadOp.{LoadOp}
use Rattle.rv_decode.specs.declared.instr.LoadOp.TheVariants.{Lb, Lh, Lw, Lbu, Lhu}
use Rattle.rv_decode.specs.declared.instr.StoreOp.{StoreOp}
use Rattle.rv_decode.specs.declared.instr.StoreOp.TheVariants.{Sb, Sh, Sw}
use Rattle.rv_decode.specs.declared.instr.ImmOp.{ImmOp}
use Rattle.rv_decode.specs.declared.instr.ImmOp.TheVariants.{Addi, Slti, Sltiu, Xori, Ori, Andi, Slli, Srli, Srai}
use Rattle.rv_decode.specs.declared.instr.RegOp.{RegOp}
use Rattle.rv_decode.specs.declared.instr.RegOp.TheVariants.{Add, Sub, Sll, Slt, Sltu, Xor, Srl, Sra, Or, And, Mul, Mulh, Mulhsu, Mulhu, Div, Divu, Rem, Remu}
use Rattle.rv_decode.specs.Bits.{field}
use Rattle.rv_decode.specs.Formats.{opcode_of, rd_of, funct3_of, rs1_of, rs2_of, imm_i_of, imm_s_of, imm_b_of, imm_u_of, imm_j_of}

-- what stands in the row with this number
abbrev pub row_of : {A : Type 0} → List (ℕ × A) → ℕ → Option A
row_of [] n = None
row_of (row ∷ rows) n = if n == row.0 then Some row.1 else row_of rows n

-- ---- operations by funct3

-- BRANCH, format B
abbrev pub branch_ops : List (ℕ × BranchOp)
branch_ops =
    (0b000, Beq) ∷
    (0b001, Bne) ∷
    (0b100, Blt) ∷
    (0b101, Bge) ∷
    (0b110, Bltu) ∷
    (0b111, Bgeu) ∷
    []

-- LOAD, format I
abbrev pub load_ops : List (ℕ × LoadOp)
load_ops =
    (0b000, Lb) ∷
    (0b001, Lh) ∷
    (0b010, Lw) ∷
    (0b100, Lbu) ∷
    (0b101, Lhu) ∷
    []

-- STORE, format S
abbrev pub store_ops : List (ℕ × StoreOp)
store_ops =
    (0b000, Sb) ∷
    (0b001, Sh) ∷
    (0b010, Sw) ∷
    []

-- OP-IMM, format I
abbrev pub imm_ops : List (ℕ × ImmOp)
imm_ops =
    (0b000, Addi) ∷
    (0b010, Slti) ∷
    (0b011, Sltiu) ∷
    (0b100, Xori) ∷
    (0b110, Ori) ∷
    (0b111, Andi) ∷
    []

-- ---- operations by funct7 (bits 31 to 25) and funct3, read as one number of ten bits

abbrev pub funct_of : ℕ → ℕ
funct_of word = field word 25 7 * 8 + funct3_of word

-- OP-IMM, with a shift's amount
abbrev pub shift_ops : List (ℕ × ImmOp)
shift_ops =
    (0b0000000_001, Slli) ∷
    (0b0000000_101, Srli) ∷
    (0b0100000_101, Srai) ∷
    []

-- OP, format R: RV32I and then M
abbrev pub reg_ops : List (ℕ × RegOp)
reg_ops =
    (0b0000000_000, Add) ∷
    (0b0100000_000, Sub) ∷
    (0b0000000_001, Sll) ∷
    (0b0000000_010, Slt) ∷
    (0b0000000_011, Sltu) ∷
    (0b0000000_100, Xor) ∷
    (0b0000000_101, Srl) ∷
    (0b0100000_101, Sra) ∷
    (0b0000000_110, Or) ∷
    (0b0000000_111, And) ∷
    (0b0000001_000, Mul) ∷
    (0b0000001_001, Mulh) ∷
    (0b0000001_010, Mulhsu) ∷
    (0b0000001_011, Mulhu) ∷
    (0b0000001_100, Div) ∷
    (0b0000001_101, Divu) ∷
    (0b0000001_110, Rem) ∷
    (0b0000001_111, Remu) ∷
    []

-- ---- instructions, by opcode

-- an operation with an immediate of the I format, or else one with a shift's amount, which stands where rs2 does
abbrev pub with_imm_of : ℕ → Option Instr
with_imm_of word = option_or
    (option_map (λ op. WithImm op (rd_of word) (rs1_of word) (imm_i_of word)) (row_of imm_ops (funct3_of word)))
    (option_map (λ op. WithImm op (rd_of word) (rs1_of word) (pos (rs2_of word))) (row_of shift_ops (funct_of word)))

-- ECALL and EBREAK are whole words; of CSRRW only the one on jvt (bits 31 to 20 are 0x017) is here
abbrev pub system_of : ℕ → Option Instr
system_of word =
    if word == 0x00000073 then Some Ecall else
    (if word == 0x00100073 then Some Ebreak else
    (if funct3_of word == 0b001 && field word 20 12 == 0x017 then Some (Csrrw (rd_of word) (rs1_of word)) else None))

-- the opcodes, each with the instruction that a word with it encodes; a fence keeps its bits 31 to 15 and 11 to 7, as one number
abbrev pub opcodes : ℕ → List (ℕ × Option Instr)
opcodes word =
    (0b0110111, Some (Upper Lui (rd_of word) (imm_u_of word))) ∷
    (0b0010111, Some (Upper Auipc (rd_of word) (imm_u_of word))) ∷
    (0b1101111, Some (Jal (rd_of word) (imm_j_of word))) ∷
    (0b1100111, if funct3_of word == 0b000 then Some (Jalr (rd_of word) (rs1_of word) (imm_i_of word)) else None) ∷
    (0b1100011, option_map (λ op. Branch op (rs1_of word) (rs2_of word) (imm_b_of word)) (row_of branch_ops (funct3_of word))) ∷
    (0b0000011, option_map (λ op. Load op (rd_of word) (rs1_of word) (imm_i_of word)) (row_of load_ops (funct3_of word))) ∷
    (0b0100011, option_map (λ op. Store op (rs2_of word) (rs1_of word) (imm_s_of word)) (row_of store_ops (funct3_of word))) ∷
    (0b0010011, with_imm_of word) ∷
    (0b0110011, option_map (λ op. WithReg op (rd_of word) (rs1_of word) (rs2_of word)) (row_of reg_ops (funct_of word))) ∷
    (0b0001111, if funct3_of word == 0b000 then Some (Fence (field word 15 17 * 2 ^ 5 + field word 7 5)) else None) ∷
    (0b1110011, system_of word) ∷
    []

-- the instruction that a word encodes; none outside the table
unfoldable pub decoded : ℕ → Option Instr
decoded word = option_flatten (row_of (opcodes word) (opcode_of word))
