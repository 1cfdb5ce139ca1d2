-- Sizes in code (RISC-V unprivileged manual, "Base Instruction Formats" and "Expanded Instruction-Length Encoding").
pub use Rattle.elf32_read.specs.Compressed.{code_step}
use Rattle.std.specs.Prelude.{ℕ, ◌+◌, ◌%◌, Bool, ◌&&◌, ◌==◌, nat_le, if◌then◌else◌, List, length, slice_index}

-- whether a 32-bit instruction starts at an offset: four bytes are left, and the low two bits of the first are 11
abbrev pub is_long_at : List ℕ → ℕ → Bool
is_long_at bytes n = nat_le (n + 4) (length bytes) && (slice_index bytes n % 4 == 3)

-- the number of bytes that an item without a relocation takes at an offset
abbrev pub own_size : Bool → List ℕ → ℕ → ℕ
own_size compressed bytes n = if compressed then (if is_long_at bytes n then 4 else 2) else 4
