-- Upper and lower parts of an address (RISC-V ELF psABI, "Absolute Addresses").
use Rattle.std.specs.Prelude.{ℕ, ℤ, ◌+◌, ◌/◌, ◌%◌, ◌^◌}
use Rattle.rv_decode.specs.Bits.{field, signed}

-- the upper 20 bits, rounded so that the signed lower 12 complete the address
abbrev pub hi20_of : ℕ → ℕ
hi20_of x = (x + 0x800) % 2 ^ 32 / 2 ^ 12

-- the lower 12 bits, signed
abbrev pub lo12_of : ℕ → ℤ
lo12_of x = signed 12 (field x 0 12)
