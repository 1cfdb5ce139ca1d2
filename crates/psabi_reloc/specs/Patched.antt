-- Instructions with another immediate.
use Rattle.std.specs.Prelude.{ℕ, ℤ}
use Rattle.rv_decode.specs.declared.instr.Instr.{Instr}
use Rattle.rv_decode.specs.declared.instr.Instr.TheVariants.{Upper, Jal, Jalr, Branch, Load, Store, WithImm, WithReg, Fence, Ecall, Ebreak, Csrrw}

-- an instruction with these upper 20 bits
abbrev pub with_upper : Instr → ℕ → Instr
with_upper (Upper op rd imm) k = Upper op rd k
with_upper (Jal rd distance) k = Jal rd distance
with_upper (Jalr rd base imm) k = Jalr rd base imm
with_upper (Branch op first second distance) k = Branch op first second distance
with_upper (Load op rd base imm) k = Load op rd base imm
with_upper (Store op source base imm) k = Store op source base imm
with_upper (WithImm op rd first imm) k = WithImm op rd first imm
with_upper (WithReg op rd first second) k = WithReg op rd first second
with_upper (Fence rest) k = Fence rest
with_upper Ecall k = Ecall
with_upper Ebreak k = Ebreak
with_upper (Csrrw rd source) k = Csrrw rd source

-- an instruction with this immediate to add to its base register
abbrev pub with_imm : Instr → ℤ → Instr
with_imm (Upper op rd imm) k = Upper op rd imm
with_imm (Jal rd distance) k = Jal rd distance
with_imm (Jalr rd base imm) k = Jalr rd base k
with_imm (Branch op first second distance) k = Branch op first second distance
with_imm (Load op rd base imm) k = Load op rd base k
with_imm (Store op source base imm) k = Store op source base k
with_imm (WithImm op rd first imm) k = WithImm op rd first k
with_imm (WithReg op rd first second) k = WithReg op rd first second
with_imm (Fence rest) k = Fence rest
with_imm Ecall k = Ecall
with_imm Ebreak k = Ebreak
with_imm (Csrrw rd source) k = Csrrw rd source

-- an instruction with this distance to its target
abbrev pub with_distance : Instr → ℤ → Instr
with_distance (Upper op rd imm) k = Upper op rd imm
with_distance (Jal rd distance) k = Jal rd k
with_distance (Jalr rd base imm) k = Jalr rd base imm
with_distance (Branch op first second distance) k = Branch op first second k
with_distance (Load op rd base imm) k = Load op rd base imm
with_distance (Store op source base imm) k = Store op source base imm
with_distance (WithImm op rd first imm) k = WithImm op rd first imm
with_distance (WithReg op rd first second) k = WithReg op rd first second
with_distance (Fence rest) k = Fence rest
with_distance Ecall k = Ecall
with_distance Ebreak k = Ebreak
with_distance (Csrrw rd source) k = Csrrw rd source
