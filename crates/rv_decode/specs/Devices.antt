-- Devices: ranges of addresses outside memory, and the control and status registers. What is loaded or read there is an answer of the
-- machine's environment, and what is stored or written there goes to it.
use Rattle.std.specs.Prelude.{ℕ, ◌+◌, ◌*◌, ◌%◌, ◌≤◌, ◌⊎◌, Bool, true, false, ◌&&◌, ◌||◌, nat_le, List, [], ◌∷◌, All}
use Rattle.zc_base.specs.Fields.{half_bytes, word_bytes}
use Rattle.zc_base.specs.declared.mem_map.MemMap.{MemMap}
use Rattle.rv_decode.specs.declared.instr.LoadOp.{LoadOp}
use Rattle.rv_decode.specs.declared.instr.LoadOp.TheVariants.{Lb, Lh, Lw, Lbu, Lhu}
use Rattle.rv_decode.specs.declared.instr.StoreOp.{StoreOp}
use Rattle.rv_decode.specs.declared.instr.StoreOp.TheVariants.{Sb, Sh, Sw}
use Rattle.rv_decode.specs.Bits.{as_word, signed}

-- a range of addresses
pub record DeviceRange : Type 0 where
  pub at : ℕ
  pub size : ℕ

-- a device at a range of addresses; or the control and status registers, and what `wfi` waits for
pub data Device : Type 0 where
  Range : DeviceRange → Device
  Registers : Device

-- a range lies below all code, data and stack, or above
abbrev pub IsOutside : MemMap → Device → Type 0
IsOutside map (Range d) = (d.at + d.size ≤ map.text) ⊎ (map.stack_high ≤ d.at)
IsOutside map Registers = Unit {0}

abbrev pub AreOutside : MemMap → List Device → Type 0
AreOutside map devices = All (IsOutside map) devices

-- whether the n bytes from an address on lie in one of the ranges
abbrev pub in_devices : List Device → ℕ → ℕ → Bool
in_devices [] a n = false
in_devices (Range d ∷ ds) a n = (nat_le d.at a && nat_le (a + n) (d.at + d.size)) || in_devices ds a n
in_devices (Registers ∷ ds) a n = in_devices ds a n

-- whether the registers are among them
abbrev pub has_registers : List Device → Bool
has_registers [] = false
has_registers (Range d ∷ ds) = has_registers ds
has_registers (Registers ∷ ds) = true

-- ---- what is loaded and stored

-- the number that bytes are, the lowest first; those that are missing count as 0
abbrev pub number_from : List ℕ → ℕ
number_from [] = 0
number_from (b ∷ bytes) = b + 256 * number_from bytes

-- what a load makes of it, with its sign or with zeros above
abbrev pub widened : LoadOp → ℕ → ℕ
widened Lb n = as_word (signed 8 n)
widened Lh n = as_word (signed 16 n)
widened Lw n = n
widened Lbu n = n
widened Lhu n = n

-- the bytes of a word that a store sends
abbrev pub sent_bytes : StoreOp → ℕ → List ℕ
sent_bytes Sb word = word % 256 ∷ []
sent_bytes Sh word = half_bytes word
sent_bytes Sw word = word_bytes word
