-- Instructions as assemblers write them: mnemonics with operands in their order (RISC-V unprivileged manual, "RV32/64G
-- Instruction Set Listings").
use Rattle.std.specs.Prelude.{ℕ, ℤ}
use Rattle.rv_decode.specs.declared.instr.Instr.{Instr}
use Rattle.rv_decode.specs.declared.instr.Instr.TheVariants.{Upper, Jalr, Branch, Load, Store, WithImm, WithReg}
use Rattle.rv_decode.specs.declared.instr.UpperOp.TheVariants.{Lui, Auipc}
use Rattle.rv_decode.specs.declared.instr.BranchOp.TheVariants.{Beq}
use Rattle.rv_decode.specs.declared.instr.LoadOp.TheVariants.{Lw}
use Rattle.rv_decode.specs.declared.instr.StoreOp.TheVariants.{Sw}
use Rattle.rv_decode.specs.declared.instr.ImmOp.TheVariants.{Addi, Xori, Slli, Srai}
use Rattle.rv_decode.specs.declared.instr.RegOp.TheVariants.{Add, Sub, Xor}
use Rattle.load_maker.specs.declared.register.Register.{Register}
use Rattle.load_maker.specs.declared.register.Register.TheVariants.{Zero, Ra, Sp, Temp1, S0, A0, A1, A2, A7}

-- the number of a register (RISC-V ELF psABI, "Integer Register Convention")
abbrev pub register_number : Register → ℕ
register_number Zero = 0
register_number Ra = 1
register_number Sp = 2
register_number Temp1 = 6
register_number S0 = 8
register_number A0 = 10
register_number A1 = 11
register_number A2 = 12
register_number A7 = 17

-- ---- operations on a register and a number

abbrev pub addi : Register → Register → ℤ → Instr
addi rd rs1 imm = WithImm Addi (register_number rd) (register_number rs1) imm

abbrev pub xori : Register → Register → ℤ → Instr
xori rd rs1 imm = WithImm Xori (register_number rd) (register_number rs1) imm

abbrev pub slli : Register → Register → ℤ → Instr
slli rd rs1 amount = WithImm Slli (register_number rd) (register_number rs1) amount

abbrev pub srai : Register → Register → ℤ → Instr
srai rd rs1 amount = WithImm Srai (register_number rd) (register_number rs1) amount

abbrev pub lui : Register → ℕ → Instr
lui rd imm = Upper Lui (register_number rd) imm

abbrev pub auipc : Register → ℕ → Instr
auipc rd imm = Upper Auipc (register_number rd) imm

-- ---- operations on two registers

abbrev pub add : Register → Register → Register → Instr
add rd rs1 rs2 = WithReg Add (register_number rd) (register_number rs1) (register_number rs2)

abbrev pub sub : Register → Register → Register → Instr
sub rd rs1 rs2 = WithReg Sub (register_number rd) (register_number rs1) (register_number rs2)

abbrev pub xor : Register → Register → Register → Instr
xor rd rs1 rs2 = WithReg Xor (register_number rd) (register_number rs1) (register_number rs2)

-- ---- memory, in the order of `lw rd, imm(rs1)` and `sw rs2, imm(rs1)`

abbrev pub lw : Register → ℤ → Register → Instr
lw rd imm rs1 = Load Lw (register_number rd) (register_number rs1) imm

abbrev pub sw : Register → ℤ → Register → Instr
sw rs2 imm rs1 = Store Sw (register_number rs2) (register_number rs1) imm

-- ---- going elsewhere

abbrev pub beq : Register → Register → ℤ → Instr
beq rs1 rs2 distance = Branch Beq (register_number rs1) (register_number rs2) distance

-- in the order of `jalr rd, imm(rs1)`
abbrev pub jalr : Register → ℤ → Register → Instr
jalr rd imm rs1 = Jalr (register_number rd) (register_number rs1) imm
