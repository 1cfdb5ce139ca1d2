-- Accesses of a frame, by the indices of their instructions.
use Rattle.std.specs.Prelude.{◌≡◌, ◌≢◌, ℕ, ◌+◌, ◌-◌, ◌*◌, ◌<◌, ◌==◌, ◌&&◌, nat_le, if◌then◌else◌, List, Option, Some, slice_get, slice_index}
use Rattle.rv_decode.specs.declared.instr.Instr.{Instr}
use Rattle.zc_decode.specs.Lists.{saved_registers}
use Rattle.frame_match.specs.Read.{slot_accessed}
use Rattle.frame_match.specs.declared.slot.Access.{Access}
use Rattle.frame_match.specs.declared.slot.Slot.{Slot}

-- there is a list without exactly this many of the 13 registers (no list has all but one)
pub record IsKnown (left_out : ℕ) : Type 0 where
  pub small : left_out < 13
  pub other : left_out ≢ 1

-- the list without this many registers
abbrev pub list_leaving_out : ℕ → ℕ
list_leaving_out left_out = if left_out == 0 then 15 else 16 - left_out

-- the index of a register among the 13; 13 if it isn't one of them
abbrev pub saved_index : ℕ → ℕ
saved_index r =
    if nat_le 18 r && nat_le r 27 then 27 - r else
    (if nat_le 8 r && nat_le r 9 then 19 - r else (if r == 1 then 12 else 13))

-- a slot of a frame, by its number from the highest on
abbrev pub frame_slot : ℕ → ℕ → ℕ → Slot
frame_slot bytes left_out j = record { offset = bytes - 4 * (j + 1); register = slice_index saved_registers (left_out + j) }

-- an instruction saves to or restores from the slot with number j
abbrev pub IsSlot : Access → ℕ → ℕ → ℕ → Option Instr → Type 0
IsSlot which bytes left_out j i = (j + left_out < 13) × (slot_accessed which i ≡ Some (frame_slot bytes left_out j))

-- from an index on there are as many instructions as the list has registers; each uses a slot, and each slot is used
pub record Fills (which : Access) (bytes left_out : ℕ) (is : List Instr) (from : ℕ) : Type 0 where
  pub each : (m : ℕ) → m + left_out < 13 → (j : ℕ) × IsSlot which bytes left_out j (slice_get is (from + m))
  pub all : (j : ℕ) → j + left_out < 13
      → (m : ℕ) × (m + left_out < 13) × IsSlot which bytes left_out j (slice_get is (from + m))
