-- The short and long forms of instructions.
use Rattle.std.specs.Prelude.{◌≡◌, ℕ, ℤ, pos, ◌-ℤ◌, List, Option, Some, None, not, slice_index}
use Rattle.rv_decode.specs.declared.instr.Instr.{Instr}
use Rattle.rv_decode.specs.declared.instr.Instr.TheVariants.{Upper, Jal, Jalr, Branch, Load, Store, WithImm, WithReg, Fence, Ecall, Ebreak, Csrrw}
use Rattle.rv_decode.specs.declared.instr.BranchOp.{BranchOp}
use Rattle.rv_decode.specs.Decode.{decoded}
use Rattle.rv_decode.specs.Normal.{SameEffect}
use Rattle.rv_decode.specs.Results.{is_taken}
use Rattle.zc_decode.specs.Halfwords.{decoded16}
use Rattle.zc_decode.specs.declared.short.Short.TheVariants.{Base}
use Rattle.zc_encode.specs.Encoding.{IsEncoding}

-- a halfword encodes an instruction with the same effect
abbrev pub HasEffectOf : Instr → ℕ → Type 0
HasEffectOf i half = (j : Instr) × (decoded16 half ≡ Some (Base j)) × SameEffect j i

-- an instruction's short form: the first halfword that encodes it, which has its effect; `None` if no halfword encodes
-- it
abbrev pub ShortForm : Instr → Option ℕ → Type 0
ShortForm i None = IsEncoding (Base i) None
ShortForm i (Some half) = IsEncoding (Base i) (Some half) × HasEffectOf i half

-- a conditional branch
abbrev pub IsBranch : Instr → Type 0
IsBranch (Upper op rd imm) = ⊥
IsBranch (Jal rd distance) = ⊥
IsBranch (Jalr rd base imm) = ⊥
IsBranch (Branch op first second distance) = Unit {0}
IsBranch (Load op rd base imm) = ⊥
IsBranch (Store op source base imm) = ⊥
IsBranch (WithImm op rd first imm) = ⊥
IsBranch (WithReg op rd first second) = ⊥
IsBranch (Fence rest) = ⊥
IsBranch Ecall = ⊥
IsBranch Ebreak = ⊥
IsBranch (Csrrw rd source) = ⊥

-- a `jal`
abbrev pub IsJump : Instr → Type 0
IsJump (Upper op rd imm) = ⊥
IsJump (Jal rd distance) = Unit {0}
IsJump (Jalr rd base imm) = ⊥
IsJump (Branch op first second distance) = ⊥
IsJump (Load op rd base imm) = ⊥
IsJump (Store op source base imm) = ⊥
IsJump (WithImm op rd first imm) = ⊥
IsJump (WithReg op rd first second) = ⊥
IsJump (Fence rest) = ⊥
IsJump Ecall = ⊥
IsJump Ebreak = ⊥
IsJump (Csrrw rd source) = ⊥

-- the opposite condition
abbrev pub IsOpposite : BranchOp → BranchOp → Type 0
IsOpposite op other = (a b : ℕ) → is_taken other a b ≡ not (is_taken op a b)

-- the long form of a branch: a branch of the opposite condition over eight bytes, and then a jump
pub record IsLongForm (op : BranchOp) (first second : ℕ) (distance : ℤ) (words : List ℕ) : Type 0 where
  pub other : BranchOp
  pub opposite : IsOpposite op other
  pub over : decoded (slice_index words 0) ≡ Some (Branch other first second (pos 8))
  pub jump : decoded (slice_index words 1) ≡ Some (Jal 0 (distance -ℤ pos 4))
