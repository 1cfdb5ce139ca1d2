-- Runs of small programs with devices, and from a start where sp is or isn't set, computed.
use Rattle.std.specs.Prelude.{◌≡◌, ℕ, ◌+◌, ◌/◌, pos, negsuc, Bool, true, false, List, [], ◌∷◌, map, Option, Some, None, Result, Ok, Err, slice_get, refl}
use Rattle.zc_base.specs.MemMap.{all_extensions}
use Rattle.zc_base.specs.declared.place.Place.{Place}
use Rattle.psabi_sym.specs.declared.target.Target.TheVariants as target
use Rattle.rv_decode.specs.declared.instr.Instr.{Instr}
use Rattle.rv_decode.specs.declared.instr.Instr.TheVariants as instr
use Rattle.rv_decode.specs.declared.instr.ImmOp.TheVariants.{Addi}
use Rattle.rv_decode.specs.declared.instr.LoadOp.TheVariants.{Lh, Lw}
use Rattle.rv_decode.specs.declared.instr.StoreOp.TheVariants.{Sb, Sw}
use Rattle.rv_decode.specs.declared.instr.UpperOp.TheVariants.{Lui, Auipc}
use Rattle.rv_decode.specs.Devices.{Device, Range, Registers}
use Rattle.rv_decode.specs.Memory.{blank}
use Rattle.rv_decode.specs.State.{Load, Store, System}
use Rattle.block_cut.specs.declared.item.Item.{Item}
use Rattle.block_cut.specs.declared.item.Item.TheVariants.{Op, Hi, Lo, PcHi, PcLo, Raw}
use Rattle.sym_machine.specs.declared.why.Why.{Why}
use Rattle.sym_machine.specs.declared.why.Why.TheVariants.{ArgumentUnknown, BadAddress, Misaligned, NoInstruction, StackPointer}
use Rattle.sym_machine.specs.Events.{SymEvent, Numeric, StoresCode, HandsCode}
use Rattle.sym_machine.specs.Program.{Program}
use Rattle.sym_machine.specs.Run.{plain_turn, program_after_with}
use Rattle.sym_machine.specs.State.{PlainState, reg_of, start_plain}
use Rattle.sym_machine.specs.Step.{ends, step_with}
use Rattle.sym_machine.specs.Words.{number_of}

-- the place at an offset of the program's only section
at : ℕ → Place
at offset = record { object = 0; section = 0; offset = offset }

-- these items of four bytes, one behind the other, without data, and with 16 bytes of stack
program : List Item → Program
program is = record {
  item = λ q. slice_get is (q.offset / 4);
  next = λ q. record q { offset = q.offset + 4 };
  entry = at 0;
  map = record { text = 0x10000; data_low = 0x20000; stack_low = 0x30000; stack_high = 0x30010; extensions = all_extensions };
  bytes = [];
}

-- what a run shows: its events, and the numbers that sp, a1 and a2 hold
abbrev shown : Result PlainState (Place × Why) → Result (List SymEvent × Option ℕ × Option ℕ × Option ℕ) Why
shown (Ok r) = Ok (r.events, number_of (reg_of r.core 2), number_of (reg_of r.core 11), number_of (reg_of r.core 12))
shown (Err e) = Err e.1

-- from a start where sp is set or not
ran_from : Bool → List Item → List Device → List ℕ → ℕ → Result (List SymEvent × Option ℕ × Option ℕ × Option ℕ) Why
ran_from sp_set is devices input n = shown (program_after_with (program is) (start_plain sp_set (program is) input) devices n)

ran : List Instr → List Device → List ℕ → ℕ → Result (List SymEvent × Option ℕ × Option ℕ × Option ℕ) Why
ran is devices input n = ran_from true (map Op is) devices input n

-- lui a0, 0x10013; lw a1, 0(a0); sb a1, 4(a0); lh a2, 8(a0)
uart : List Instr
uart = instr.Upper Lui 10 0x10013 ∷ instr.Load Lw 11 10 (pos 0) ∷ instr.Store Sb 11 10 (pos 4) ∷ instr.Load Lh 12 10 (pos 8) ∷ []

uart_device : Device
uart_device = Range (record { at = 0x10013000; size = 0x1000 })

-- the word that is loaded is the next four bytes of the input; its low byte is stored; and the halfword has the one byte that is left,
-- and 0 above
uart_answered :
    ran uart (uart_device ∷ []) (0x61 ∷ 2 ∷ 3 ∷ 4 ∷ 5 ∷ []) 4
    ≡ Ok (Numeric (Load 0x10013000 4 (0x61 ∷ 2 ∷ 3 ∷ 4 ∷ [])) ∷ Numeric (Store 0x10013004 (0x61 ∷ [])) ∷ Numeric (Load 0x10013008 2 (5 ∷ [])) ∷ [], Some 0x30010, Some 0x04030261, Some 5)
unfolding ran ran_from program at uart uart_device program_after_with plain_turn step_with ends blank
uart_answered = refl

-- a halfword's sign is copied
sign_copied :
    ran (instr.Upper Lui 10 0x10013 ∷ instr.Load Lh 12 10 (pos 8) ∷ []) (uart_device ∷ []) (0xFE ∷ 0xFF ∷ []) 2
    ≡ Ok (Numeric (Load 0x10013008 2 (0xFE ∷ 0xFF ∷ [])) ∷ [], Some 0x30010, None, Some 0xFFFFFFFE)
unfolding ran ran_from program at uart_device program_after_with plain_turn step_with ends blank
sign_copied = refl

-- without a device the machine is stuck at the first access
no_device : ran uart [] (0x61 ∷ []) 2 ≡ Err BadAddress
unfolding ran ran_from program at uart program_after_with plain_turn step_with ends blank
no_device = refl

-- and at one over a device's end
over_the_end : ran uart (Range (record { at = 0x10013000; size = 3 }) ∷ []) (0x61 ∷ []) 2 ≡ Err BadAddress
unfolding ran ran_from program at uart program_after_with plain_turn step_with ends blank
over_the_end = refl

-- one that isn't aligned is no device's
not_aligned : ran (instr.Upper Lui 10 0x10013 ∷ instr.Load Lw 11 10 (pos 2) ∷ []) (uart_device ∷ []) [] 2 ≡ Err Misaligned
unfolding ran ran_from program at uart_device program_after_with plain_turn step_with ends blank
not_aligned = refl

-- nor is one by sp, even where a device begins at the stack's end
not_by_sp : ran (instr.Load Lw 11 2 (pos 0) ∷ []) (Range (record { at = 0x30010; size = 4 }) ∷ []) [] 1 ≡ Err BadAddress
unfolding ran ran_from program at program_after_with plain_turn step_with ends blank
not_by_sp = refl

-- nor one whose bytes aren't numbers: a2 is undefined at the start
not_a_number : ran (instr.Upper Lui 10 0x10013 ∷ instr.Store Sw 12 10 (pos 0) ∷ []) (uart_device ∷ []) [] 2 ≡ Err BadAddress
unfolding ran ran_from program at uart_device program_after_with plain_turn step_with ends blank
not_a_number = refl

-- ---- instructions of the system, and addresses that are handed out

-- la t0, handler; csrw mtvec, t0; lui a0, 0x10013; sw t0, 0(a0)
handler : Place
handler = record { object = 0; section = 1; offset = 8 }

starting : List Item
starting =
    PcHi (instr.Upper Auipc 5 0) (target.Code handler) ∷ PcLo (instr.WithImm Addi 5 5 (pos 0)) (at 0) ∷ Raw 0x3052_9073
    ∷ Op (instr.Upper Lui 10 0x10013) ∷ Op (instr.Store Sw 5 10 (pos 0)) ∷ []

-- mtvec gets the handler's address, as an event, and so does the device
address_handed_out :
    ran_from true starting (Registers ∷ uart_device ∷ []) [] 5
    ≡ Ok (HandsCode 0x3052_9073 handler [] ∷ StoresCode 0x10013000 handler ∷ [], Some 0x30010, None, None)
unfolding ran_from program at handler starting uart_device program_after_with plain_turn step_with ends blank
address_handed_out = refl

-- without the registers, `csrw` is no instruction
no_registers : ran_from true starting (uart_device ∷ []) [] 3 ≡ Err NoInstruction
unfolding ran_from program at handler starting uart_device program_after_with plain_turn step_with ends blank
no_registers = refl

-- wfi; csrr a1, mstatus: `wfi` gets nothing, and a read the next four bytes of the input
waits : ran_from true (Raw 0x1050_0073 ∷ Raw 0x3000_25F3 ∷ []) (Registers ∷ []) (8 ∷ 0x18 ∷ 0 ∷ 0 ∷ 5 ∷ []) 2
    ≡ Ok (Numeric (System 0x1050_0073 0 []) ∷ Numeric (System 0x3000_25F3 0 (8 ∷ 0x18 ∷ 0 ∷ 0 ∷ [])) ∷ [], Some 0x30010, Some 0x1808, None)
unfolding ran_from program at program_after_with plain_turn step_with ends blank
waits = refl

-- csrw mtvec, a2, which is undefined at the start
operand_unknown : ran_from true (Raw 0x3056_1073 ∷ []) (Registers ∷ []) [] 1 ≡ Err ArgumentUnknown
unfolding ran_from program at program_after_with plain_turn step_with ends blank
operand_unknown = refl

-- ---- a start where sp isn't set

-- lui sp, %hi(0x30010); addi sp, sp, %lo(0x30010); sw x0, -4(sp); lw a1, -4(sp)
sets_sp : List Item
sets_sp =
    Hi (instr.Upper Lui 2 0) (target.Number 0x30010) ∷ Lo (instr.WithImm Addi 2 2 (pos 0)) (target.Number 0x30010)
    ∷ Op (instr.Store Sw 0 2 (negsuc 3)) ∷ Op (instr.Load Lw 11 2 (negsuc 3)) ∷ []

-- the number that `lui` gives lies in the stack, and so does the sum; a word below sp is undefined
sp_is_set : ran_from false sets_sp [] [] 2 ≡ Ok ([], Some 0x30010, None, None)
unfolding ran_from program at sets_sp program_after_with plain_turn step_with ends blank
sp_is_set = refl

below_sp : ran_from false sets_sp [] [] 4 ≡ Ok ([], Some 0x30010, None, None)
unfolding ran_from program at sets_sp program_after_with plain_turn step_with ends blank
below_sp = refl

-- sp may be outside the stack before it is set: lui sp, 0x40; and then 0x30
outside_first : ran_from false (Op (instr.Upper Lui 2 0x40) ∷ Op (instr.Upper Lui 2 0x30) ∷ []) [] [] 2 ≡ Ok ([], Some 0x30000, None, None)
unfolding ran_from program at program_after_with plain_turn step_with ends blank
outside_first = refl

-- but not afterwards
not_outside_again : ran_from false (Op (instr.Upper Lui 2 0x30) ∷ Op (instr.Upper Lui 2 0x40) ∷ []) [] [] 2 ≡ Err StackPointer
unfolding ran_from program at program_after_with plain_turn step_with ends blank
not_outside_again = refl

-- an access by sp before it is set
too_early : ran_from false (Op (instr.Store Sw 0 2 (pos 0)) ∷ []) [] [] 1 ≡ Err StackPointer
unfolding ran_from program at program_after_with plain_turn step_with ends blank
too_early = refl

-- and `addi sp, sp, n`, even if the sum lies in the stack: lui sp, 0x40; addi sp, sp, -16
moved_too_early : ran_from false (Op (instr.Upper Lui 2 0x40) ∷ Op (instr.WithImm Addi 2 2 (negsuc 15)) ∷ []) [] [] 2 ≡ Err StackPointer
unfolding ran_from program at program_after_with plain_turn step_with ends blank
moved_too_early = refl
