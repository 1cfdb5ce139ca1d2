-- Instructions that read and write control and status registers, and `wfi`: words that the tables don't have, which the machine's
-- environment answers (RISC-V unprivileged manual, "Zicsr"; privileged manual, "Wait for Interrupt").
use Rattle.std.specs.Prelude.{ℕ, ◌%◌, Bool, not, ◌==◌, ◌&&◌, ◌||◌, nat_lt, if◌then◌else◌}
use Rattle.rv_decode.specs.Bits.{field}
use Rattle.rv_decode.specs.Formats.{funct3_of, opcode_of, rd_of, rs1_of}

-- whether a word is one of the six instructions of Zicsr, on a register other than jvt (0x017), or `wfi`
abbrev pub is_system : ℕ → Bool
is_system word =
    opcode_of word == 0b1110011
    && ((not (funct3_of word % 4 == 0) && not (field word 20 12 == 0x017)) || word == 0x1050_0073)

-- whether its operand is what a register holds, and not five bits of the word
abbrev pub takes_register : ℕ → Bool
takes_register word = nat_lt (funct3_of word) 4

-- the operand, if that register holds this
abbrev pub system_operand : ℕ → ℕ → ℕ
system_operand word register = if takes_register word then register else rs1_of word

-- how many bytes are answered: those of a word, unless rd is register 0
abbrev pub system_width : ℕ → ℕ
system_width word = if rd_of word == 0 then 0 else 4
