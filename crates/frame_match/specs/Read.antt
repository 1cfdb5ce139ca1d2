-- What the search for groups reads from an instruction (RISC-V unprivileged manual, "Integer Register-Immediate
-- Instructions" and "Load and Store Instructions").
use Rattle.std.specs.Prelude.{ℕ, ℤ, pos, negsuc, ◌+◌, Bool, false, ◌==◌, ◌&&◌, if◌then◌else◌, Option, Some, None}
use Rattle.std.specs.Ordering.{int_eq}
use Rattle.std.specs.Option.{option_and_then, option_map_or}
use Rattle.rv_decode.specs.declared.instr.Instr.{Instr}
use Rattle.rv_decode.specs.declared.instr.Instr.TheVariants.{WithImm, Load, Store, Jalr}
use Rattle.rv_decode.specs.declared.instr.ImmOp.TheVariants.{Addi}
use Rattle.rv_decode.specs.declared.instr.LoadOp.TheVariants.{Lw}
use Rattle.rv_decode.specs.declared.instr.StoreOp.TheVariants.{Sw}
use Rattle.block_cut.specs.declared.item.Item.{Item}
use Rattle.block_cut.specs.declared.item.Item.TheVariants.{Op}
use Rattle.frame_match.specs.declared.slot.Access.{Access}
use Rattle.frame_match.specs.declared.slot.Access.TheVariants.{Saves, Restores}
use Rattle.frame_match.specs.declared.slot.Slot.{Slot}
use Rattle.frame_match.specs.declared.found.Move.{Move}

-- the instruction of an item without relocation
abbrev pub op_of : Item → Option Instr
op_of (Op i) = Some i
op_of _ = None

-- ---- of an instruction

-- the slot at an offset from a base, if the base is sp and the offset isn't negative
abbrev pub slot_at_offset : ℕ → ℤ → ℕ → Option Slot
slot_at_offset base (pos offset) r = if base == 2 then Some (record { offset = offset; register = r }) else None
slot_at_offset base (negsuc n) r = None

-- the slot that `sw r,offset(sp)` saves to, or `lw r,offset(sp)` restores from
abbrev pub slot_of : Access → Instr → Option Slot
slot_of Saves (Store Sw r base imm) = slot_at_offset base imm r
slot_of Restores (Load Lw r base imm) = slot_at_offset base imm r
slot_of _ _ = None

-- how far `addi sp,sp,imm` moves sp
abbrev pub sp_move_of : Instr → Option ℤ
sp_move_of (WithImm Addi rd first imm) = if rd == 2 && first == 2 then Some imm else None
sp_move_of _ = None

-- what `addi rd,source,0` moves
abbrev pub move_of : Instr → Option Move
move_of (WithImm Addi rd source imm) = if int_eq imm (pos 0) then Some (record { rd = rd; source = source }) else None
move_of _ = None

-- `addi a0,x0,0`
abbrev pub is_zero_instr : Instr → Bool
is_zero_instr (WithImm Addi rd first imm) = rd == 10 && (first == 0 && int_eq imm (pos 0))
is_zero_instr _ = false

-- `jalr x0,0(ra)`
abbrev pub is_return_instr : Instr → Bool
is_return_instr (Jalr rd base imm) = rd == 0 && (base == 1 && int_eq imm (pos 0))
is_return_instr _ = false

-- ---- of an instruction that may be missing

-- the slot that an instruction saves to or restores from, if there is an instruction
abbrev pub slot_accessed : Access → Option Instr → Option Slot
slot_accessed which i = option_and_then (slot_of which) i

-- the number of bytes by which an instruction lowers sp, or raises it
abbrev pub down_by : ℤ → Option ℕ
down_by (pos n) = None
down_by (negsuc n) = Some (n + 1)

abbrev pub up_by : ℤ → Option ℕ
up_by (pos n) = Some n
up_by (negsuc n) = None

abbrev pub lowered : Option Instr → Option ℕ
lowered i = option_and_then down_by (option_and_then sp_move_of i)

abbrev pub raised : Option Instr → Option ℕ
raised i = option_and_then up_by (option_and_then sp_move_of i)

-- the move that an instruction makes
abbrev pub moved : Option Instr → Option Move
moved i = option_and_then move_of i

-- whether an instruction sets a0 to 0, and whether it returns
abbrev pub is_zero : Option Instr → Bool
is_zero i = option_map_or is_zero_instr i false

abbrev pub is_return : Option Instr → Bool
is_return i = option_map_or is_return_instr i false
