-- What one instruction of RV32IM does (RISC-V unprivileged manual, chapters "RV32I" and "M"), and the one of Zicsr that sets jvt
-- (RISC-V Zc specification 1.0, "Zcmt").
use Rattle.std.specs.Prelude.{ℕ, ℤ, ◌+◌, ◌*◌, ◌/◌, ◌%◌, ◌^◌, Bool, ◌==◌, if◌then◌else◌, List}
use Rattle.rv_decode.specs.declared.instr.Instr.{Instr}
use Rattle.rv_decode.specs.declared.instr.Instr.TheVariants.{Upper, Jal, Jalr, Branch, Load, Store, WithImm, WithReg, Fence, Ecall, Ebreak, Csrrw}
use Rattle.rv_decode.specs.declared.instr.LoadOp.{LoadOp}
use Rattle.rv_decode.specs.declared.instr.LoadOp.TheVariants.{Lb, Lh, Lw, Lbu, Lhu}
use Rattle.rv_decode.specs.declared.instr.StoreOp.{StoreOp}
use Rattle.rv_decode.specs.declared.instr.StoreOp.TheVariants.{Sb, Sh, Sw}
use Rattle.rv_decode.specs.Bits.{add32, as_word, signed}
use Rattle.rv_decode.specs.declared.device_access.DeviceAccess.{DeviceAccess}
use Rattle.rv_decode.specs.declared.device_access.DeviceAccess.TheVariants as access
use Rattle.rv_decode.specs.Memory.{byte_of, changed, extents_of, is_data, lies_in, written}
use Rattle.rv_decode.specs.Results.{imm_result, is_taken, reg_result, upper_result}
use Rattle.rv_decode.specs.State.{ZcCore, byte_in, half_at, reg_in, set_reg, word_at}

-- what an instruction comes to: it commits and leaves this state, or it doesn't commit, for this cause; an access outside memory
-- is a device's, if one lies there
pub data Effect : Type 0 where
  Commits : ZcCore → Effect
  Misaligned : Effect
  BadAccess : Effect
  Outside : DeviceAccess → Effect
  Break : Effect
  Call : Effect

-- ---- the next instruction

-- the address after an instruction of this size
abbrev pub after : ZcCore → ℕ → ℕ
after z size = (z.pc + size) % 2 ^ 32

-- the state after an instruction of this size, with these registers
abbrev pub onward : ZcCore → ℕ → List ℕ → ZcCore
onward z size regs = record z { pc = after z size; regs = regs; commits = z.commits + 1 }

-- a result goes to a register
abbrev pub gives : ℕ → ℕ → ℕ → ZcCore → Effect
gives v rd size z = Commits (onward z size (set_reg z.regs rd v))

-- ---- jumps and branches

-- a jump to an address, with the one after the instruction in a register
abbrev pub jumps : ℕ → ℕ → ℕ → ZcCore → Effect
jumps to rd size z = Commits (record (onward z size (set_reg z.regs rd (after z size))) { pc = to })

-- a branch that is taken or isn't
abbrev pub branches : Bool → ℤ → ℕ → ZcCore → Effect
branches taken distance size z = Commits (record (onward z size z.regs) { pc = (if taken then add32 z.pc distance else after z size) })

-- ---- loads and stores

-- an access of n bytes: its alignment is looked at before its place, and outside memory for data it comes to something else
abbrev pub attempting : ℕ → ℕ → ZcCore → Effect → Effect → Effect
attempting n a z other go = if a % n == 0 then (if lies_in is_data (extents_of z.memory) a n then go else other) else Misaligned

-- an access of data
abbrev pub reaching : ℕ → ℕ → ZcCore → Effect → Effect
reaching n a z go = attempting n a z BadAccess go

-- the number of bytes that a load reads
abbrev pub load_width : LoadOp → ℕ
load_width Lb = 1
load_width Lh = 2
load_width Lw = 4
load_width Lbu = 1
load_width Lhu = 2

-- a number of `bits` bits, read in two's complement, as a word
abbrev pub extended : ℕ → ℕ → ℕ
extended bits n = as_word (signed bits n)

-- what a load gives, with its sign or with zeros above
abbrev pub load_result : LoadOp → ZcCore → ℕ → ℕ
load_result Lb z a = extended 8 (byte_in z a)
load_result Lh z a = extended 16 (half_at z a)
load_result Lw z a = word_at z a
load_result Lbu z a = byte_in z a
load_result Lhu z a = half_at z a

-- a load from an address
abbrev pub loads : LoadOp → ℕ → ℕ → ℕ → ZcCore → Effect
loads op a rd size z = attempting (load_width op) a z (Outside (access.Load op a rd size)) (gives (load_result op z a) rd size z)

-- the number of bytes that a store writes
abbrev pub store_width : StoreOp → ℕ
store_width Sb = 1
store_width Sh = 2
store_width Sw = 4

-- the state with the low n bytes of a word at an address
abbrev pub stored : ℕ → ℕ → ℕ → ZcCore → ZcCore
stored n a word z = record z { memory = changed (written a n (byte_of word)) z.memory }

-- a store to an address
abbrev pub stores : StoreOp → ℕ → ℕ → ℕ → ZcCore → Effect
stores op a word size z =
    attempting (store_width op) a z (Outside (access.Store op a word size)) (Commits (onward (stored (store_width op) a word z) size z.regs))

-- ---- the jump table

-- a register gets the table's base, and jvt the word of another, whose low six bits count as 0: the mode is always 0
abbrev pub swaps_jvt : ℕ → ℕ → ℕ → ZcCore → Effect
swaps_jvt word rd size z = Commits (record (onward z size (set_reg z.regs rd z.jvt)) { jvt = word / 64 * 64 })

-- ---- instructions

-- the effect of an instruction of `size` bytes; `jalr` clears bit 0 of its sum, and a fence does nothing
abbrev pub effect : Instr → ℕ → ZcCore → Effect
effect (Upper op rd imm) size z = gives (upper_result op z.pc imm) rd size z
effect (Jal rd distance) size z = jumps (add32 z.pc distance) rd size z
effect (Jalr rd base imm) size z = jumps (add32 (reg_in z base) imm / 2 * 2) rd size z
effect (Branch op first second distance) size z = branches (is_taken op (reg_in z first) (reg_in z second)) distance size z
effect (Load op rd base imm) size z = loads op (add32 (reg_in z base) imm) rd size z
effect (Store op source base imm) size z = stores op (add32 (reg_in z base) imm) (reg_in z source) size z
effect (WithImm op rd first imm) size z = gives (imm_result op (reg_in z first) imm) rd size z
effect (WithReg op rd first second) size z = gives (reg_result op (reg_in z first) (reg_in z second)) rd size z
effect (Fence rest) size z = Commits (onward z size z.regs)
effect Ecall size z = Call
effect Ebreak size z = Break
effect (Csrrw rd source) size z = swaps_jvt (reg_in z source) rd size z
