-- The registers that an instruction names.
use Rattle.std.specs.Prelude.{◌<◌}
use Rattle.rv_decode.specs.declared.instr.Instr.{Instr}
use Rattle.rv_decode.specs.declared.instr.Instr.TheVariants.{Upper, Jal, Jalr, Branch, Load, Store, WithImm, WithReg, Fence, Ecall, Ebreak, Csrrw}

-- each is one of the 32
abbrev pub HasRegisters : Instr → Type 0
HasRegisters (Upper op rd imm) = rd < 32
HasRegisters (Jal rd distance) = rd < 32
HasRegisters (Jalr rd base imm) = (rd < 32) × (base < 32)
HasRegisters (Branch op first second distance) = (first < 32) × (second < 32)
HasRegisters (Load op rd base imm) = (rd < 32) × (base < 32)
HasRegisters (Store op source base imm) = (source < 32) × (base < 32)
HasRegisters (WithImm op rd first imm) = (rd < 32) × (first < 32)
HasRegisters (WithReg op rd first second) = (rd < 32) × (first < 32) × (second < 32)
HasRegisters (Fence rest) = Unit {0}
HasRegisters Ecall = Unit {0}
HasRegisters Ebreak = Unit {0}
HasRegisters (Csrrw rd source) = (rd < 32) × (source < 32)
