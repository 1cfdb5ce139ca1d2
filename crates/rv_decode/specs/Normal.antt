-- Normal forms: instructions that differ in how they are written alone have the same one, and the same effect.
use Rattle.std.specs.Prelude.{◌≡◌, ℕ, ℤ, pos, ◌==◌, nat_lt, if◌then◌else◌}
use Rattle.rv_decode.specs.declared.instr.Instr.{Instr}
use Rattle.rv_decode.specs.declared.instr.Instr.TheVariants.{Upper, Jal, Jalr, Branch, Load, Store, WithImm, WithReg, Fence, Ecall, Ebreak, Csrrw}
use Rattle.rv_decode.specs.declared.instr.BranchOp.{BranchOp}
use Rattle.rv_decode.specs.declared.instr.BranchOp.TheVariants.{Beq, Bne, Blt, Bge, Bltu, Bgeu}
use Rattle.rv_decode.specs.declared.instr.ImmOp.TheVariants.{Addi}
use Rattle.rv_decode.specs.declared.instr.RegOp.{RegOp}
use Rattle.rv_decode.specs.declared.instr.RegOp.TheVariants.{Add, Sub, Sll, Slt, Sltu, Xor, Srl, Sra, Or, And, Mul, Mulh, Mulhsu, Mulhu, Div, Divu, Rem, Remu}
use Rattle.rv_decode.specs.Effect.{effect}
use Rattle.rv_decode.specs.State.{ZcCore}

-- the source with the greater number comes first
abbrev pub greater_first : RegOp → ℕ → ℕ → ℕ → Instr
greater_first op rd first second = if nat_lt first second then WithReg op rd second first else WithReg op rd first second

-- a sum with register 0 is an `addi` of 0
abbrev pub normal_sum : ℕ → ℕ → ℕ → Instr
normal_sum rd first second =
    if second == 0 then WithImm Addi rd first (pos 0) else
    (if first == 0 then WithImm Addi rd second (pos 0) else greater_first Add rd first second)

-- the operations on two registers: five have their sources in order
abbrev pub normal_reg : RegOp → ℕ → ℕ → ℕ → Instr
normal_reg Add rd first second = normal_sum rd first second
normal_reg Sub rd first second = WithReg Sub rd first second
normal_reg Sll rd first second = WithReg Sll rd first second
normal_reg Slt rd first second = WithReg Slt rd first second
normal_reg Sltu rd first second = WithReg Sltu rd first second
normal_reg Xor rd first second = greater_first Xor rd first second
normal_reg Srl rd first second = WithReg Srl rd first second
normal_reg Sra rd first second = WithReg Sra rd first second
normal_reg Or rd first second = greater_first Or rd first second
normal_reg And rd first second = greater_first And rd first second
normal_reg Mul rd first second = greater_first Mul rd first second
normal_reg Mulh rd first second = WithReg Mulh rd first second
normal_reg Mulhsu rd first second = WithReg Mulhsu rd first second
normal_reg Mulhu rd first second = WithReg Mulhu rd first second
normal_reg Div rd first second = WithReg Div rd first second
normal_reg Divu rd first second = WithReg Divu rd first second
normal_reg Rem rd first second = WithReg Rem rd first second
normal_reg Remu rd first second = WithReg Remu rd first second

-- a branch with its sources in order
abbrev pub greater_branch : BranchOp → ℕ → ℕ → ℤ → Instr
greater_branch op first second distance =
    if nat_lt first second then Branch op second first distance else Branch op first second distance

-- the branches: those that test for equality have their sources in order
abbrev pub normal_branch : BranchOp → ℕ → ℕ → ℤ → Instr
normal_branch Beq first second distance = greater_branch Beq first second distance
normal_branch Bne first second distance = greater_branch Bne first second distance
normal_branch Blt first second distance = Branch Blt first second distance
normal_branch Bge first second distance = Branch Bge first second distance
normal_branch Bltu first second distance = Branch Bltu first second distance
normal_branch Bgeu first second distance = Branch Bgeu first second distance

-- the normal form of an instruction
abbrev pub normal_of : Instr → Instr
normal_of (Upper op rd imm) = Upper op rd imm
normal_of (Jal rd distance) = Jal rd distance
normal_of (Jalr rd base imm) = Jalr rd base imm
normal_of (Branch op first second distance) = normal_branch op first second distance
normal_of (Load op rd base imm) = Load op rd base imm
normal_of (Store op source base imm) = Store op source base imm
normal_of (WithImm op rd first imm) = WithImm op rd first imm
normal_of (WithReg op rd first second) = normal_reg op rd first second
normal_of (Fence rest) = Fence rest
normal_of Ecall = Ecall
normal_of Ebreak = Ebreak
normal_of (Csrrw rd source) = Csrrw rd source

-- two instructions have the same effect on every state, if they take the same number of bytes
abbrev pub SameEffect : Instr → Instr → Type 0
SameEffect i j = (size : ℕ) (z : ZcCore) → effect i size z ≡ effect j size z
