-- The fields that distinguish the operations of a format (RISC-V unprivileged manual, "RV32/64G Instruction Set
-- Listings").
use Rattle.std.specs.Prelude.{ℕ}
use Rattle.rv_decode.specs.declared.instr.UpperOp.{UpperOp}
use Rattle.rv_decode.specs.declared.instr.UpperOp.TheVariants.{Lui, Auipc}
use Rattle.rv_decode.specs.declared.instr.BranchOp.{BranchOp}
use Rattle.rv_decode.specs.declared.instr.BranchOp.TheVariants.{Beq, Bne, Blt, Bge, Bltu, Bgeu}
use Rattle.rv_decode.specs.declared.instr.LoadOp.{LoadOp}
use Rattle.rv_decode.specs.declared.instr.LoadOp.TheVariants.{Lb, Lh, Lw, Lbu, Lhu}
use Rattle.rv_decode.specs.declared.instr.StoreOp.{StoreOp}
use Rattle.rv_decode.specs.declared.instr.StoreOp.TheVariants.{Sb, Sh, Sw}
use Rattle.rv_decode.specs.declared.instr.ImmOp.{ImmOp}
use Rattle.rv_decode.specs.declared.instr.ImmOp.TheVariants.{Addi, Slti, Sltiu, Xori, Ori, Andi, Slli, Srli, Srai}
use Rattle.rv_decode.specs.declared.instr.RegOp.{RegOp}
use Rattle.rv_decode.specs.declared.instr.RegOp.TheVariants.{Add, Sub, Sll, Slt, Sltu, Xor, Srl, Sra, Or, And, Mul, Mulh, Mulhsu, Mulhu, Div, Divu, Rem, Remu}
use Rattle.rv_encode.specs.declared.codes.ImmCode.{ImmCode}
use Rattle.rv_encode.specs.declared.codes.ImmCode.TheVariants.{Operand, Shift}

-- the opcode of an instruction with an upper immediate
abbrev pub upper_opcode : UpperOp → ℕ
upper_opcode Lui = 0b0110111
upper_opcode Auipc = 0b0010111

-- the funct3 of a branch
abbrev pub branch_funct3 : BranchOp → ℕ
branch_funct3 Beq = 0b000
branch_funct3 Bne = 0b001
branch_funct3 Blt = 0b100
branch_funct3 Bge = 0b101
branch_funct3 Bltu = 0b110
branch_funct3 Bgeu = 0b111

-- the funct3 of a load
abbrev pub load_funct3 : LoadOp → ℕ
load_funct3 Lb = 0b000
load_funct3 Lh = 0b001
load_funct3 Lw = 0b010
load_funct3 Lbu = 0b100
load_funct3 Lhu = 0b101

-- the funct3 of a store
abbrev pub store_funct3 : StoreOp → ℕ
store_funct3 Sb = 0b000
store_funct3 Sh = 0b001
store_funct3 Sw = 0b010

-- the funct3 of an operation with an immediate, or the funct7 and funct3 of a shift, read as one number of ten bits
abbrev pub imm_code : ImmOp → ImmCode
imm_code Addi = Operand 0b000
imm_code Slti = Operand 0b010
imm_code Sltiu = Operand 0b011
imm_code Xori = Operand 0b100
imm_code Ori = Operand 0b110
imm_code Andi = Operand 0b111
imm_code Slli = Shift 0b0000000_001
imm_code Srli = Shift 0b0000000_101
imm_code Srai = Shift 0b0100000_101

-- the funct7 and funct3 of an operation on two registers, read as one number of ten bits
abbrev pub reg_funct : RegOp → ℕ
reg_funct Add = 0b0000000_000
reg_funct Sub = 0b0100000_000
reg_funct Sll = 0b0000000_001
reg_funct Slt = 0b0000000_010
reg_funct Sltu = 0b0000000_011
reg_funct Xor = 0b0000000_100
reg_funct Srl = 0b0000000_101
reg_funct Sra = 0b0100000_101
reg_funct Or = 0b0000000_110
reg_funct And = 0b0000000_111
reg_funct Mul = 0b0000001_000
reg_funct Mulh = 0b0000001_001
reg_funct Mulhsu = 0b0000001_010
reg_funct Mulhu = 0b0000001_011
reg_funct Div = 0b0000001_100
reg_funct Divu = 0b0000001_101
reg_funct Rem = 0b0000001_110
reg_funct Remu = 0b0000001_111
