-- The immediates that a word has room for (RISC-V unprivileged manual, "Immediate Encoding Variants").
use Rattle.std.specs.Prelude.{ℤ, pos, negsuc, ◌<◌, ◌^◌}
use Rattle.rv_decode.specs.Bits.{FitsIn, IsEven}
use Rattle.rv_decode.specs.declared.instr.Instr.{Instr}
use Rattle.rv_decode.specs.declared.instr.Instr.TheVariants.{Upper, Jal, Jalr, Branch, Load, Store, WithImm, WithReg, Fence, Ecall, Ebreak, Csrrw}
use Rattle.rv_decode.specs.declared.instr.ImmOp.{ImmOp}
use Rattle.rv_decode.specs.declared.instr.ImmOp.TheVariants.{Addi, Slti, Sltiu, Xori, Ori, Andi, Slli, Srli, Srai}

-- the amount of a shift of 32 bits
abbrev pub IsAmount : ℤ → Type 0
IsAmount (pos n) = n < 32
IsAmount (negsuc n) = ⊥

-- the operand of an operation with an immediate: 12 bits, or a shift's amount
abbrev pub ImmInRange : ImmOp → ℤ → Type 0
ImmInRange Addi imm = FitsIn 12 imm
ImmInRange Slti imm = FitsIn 12 imm
ImmInRange Sltiu imm = FitsIn 12 imm
ImmInRange Xori imm = FitsIn 12 imm
ImmInRange Ori imm = FitsIn 12 imm
ImmInRange Andi imm = FitsIn 12 imm
ImmInRange Slli imm = IsAmount imm
ImmInRange Srli imm = IsAmount imm
ImmInRange Srai imm = IsAmount imm

-- the immediate of an instruction, if it has one, fits its format
abbrev pub InRange : Instr → Type 0
InRange (Upper op rd imm) = imm < 2 ^ 20
InRange (Jal rd distance) = FitsIn 21 distance × IsEven distance
InRange (Jalr rd base imm) = FitsIn 12 imm
InRange (Branch op first second distance) = FitsIn 13 distance × IsEven distance
InRange (Load op rd base imm) = FitsIn 12 imm
InRange (Store op source base imm) = FitsIn 12 imm
InRange (WithImm op rd first imm) = ImmInRange op imm
InRange (WithReg op rd first second) = Unit {0}
InRange (Fence rest) = rest < 2 ^ 22
InRange Ecall = Unit {0}
InRange Ebreak = Unit {0}
InRange (Csrrw rd source) = Unit {0}
