-- Objects with compressed code (RISC-V ELF psABI, "File Header"; RISC-V unprivileged manual, "Expanded
-- Instruction-Length Encoding").
use Rattle.std.specs.Prelude.{ℕ, Bool, if◌then◌else◌}
use Rattle.elf32_read.specs.Kept.{has_flags}

-- an object with these e_flags is compressed, so its code may have instructions of 2 bytes: RVC (1) is among them
abbrev pub has_rvc : ℕ → Bool
has_rvc flags = has_flags 1 flags

-- the number that the addresses and sizes of code are multiples of
abbrev pub code_step : Bool → ℕ
code_step compressed = if compressed then 2 else 4
