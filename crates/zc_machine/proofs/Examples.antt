-- Runs of small images, computed.
use Rattle.std.specs.Prelude.{◌≡◌, ℕ, true, List, [], ◌∷◌, Result, Ok, Err, refl, None}
use Rattle.zc_base.specs.MemMap.{all_extensions}
use Rattle.rv_decode.specs.Decode.{decoded}
use Rattle.rv_decode.specs.Devices.{Range, Registers}
use Rattle.rv_decode.specs.Memory.{blank, Stack, Text}
use Rattle.rv_decode.specs.State.{ZcCore, ZcState, Event, Exit, Load, Store, System, byte_in, reg_in, word_at}
use Rattle.zc_decode.specs.Halfwords.{decoded16}
use Rattle.zc_decode.specs.Rows.{form_of}
use Rattle.interrupt_plan.specs.Plan.{Entry}
use Rattle.zc_machine.specs.declared.reason.Reason.{Reason}
use Rattle.zc_machine.specs.declared.reason.Reason.TheVariants.{BadAccess, Illegal}
use Rattle.zc_machine.specs.Step.{zc_step}
use Rattle.zc_machine.specs.Answer.{core_after}
use Rattle.zc_machine.specs.Interrupt.{interrupted, all_interrupted}
use Rattle.zc_machine.specs.Run.{interrupts_by, machine_after, machine_after_with, turn}
use Rattle.zc_machine.specs.Load.{first_core}

-- the machine with this text at 0x10000, of this size in memory, and with 16 bytes of stack
loaded : List ℕ → ℕ → ZcCore
loaded text size =
    first_core 0x10000 (record { at = 0x10000; size = size; code = true; bytes = text } ∷ []) (record { text = 0x10000; data_low = 0x20000; stack_low = 0x30000; stack_high = 0x30010; extensions = all_extensions })

-- what a run shows: its events and the number of its commits
abbrev shown : Result ZcState Reason → Result (List Event × ℕ) Reason
shown (Ok r) = Ok (r.events, r.core.commits)
shown (Err e) = Err e

ran : List ℕ → ℕ → List Entry → ℕ → Result (List Event × ℕ) Reason
ran text size plan m = shown (machine_after (loaded text size) [] (interrupts_by plan) m)

-- c.li a0, 3; addi a7, x0, 93; ecall
three : List ℕ
three = 0x0D ∷ 0x45 ∷ 0x93 ∷ 0x08 ∷ 0xD0 ∷ 0x05 ∷ 0x73 ∷ 0x00 ∷ 0x00 ∷ 0x00 ∷ []

-- an interrupt before each commit changes none of it
three_interrupted : ran three 10 (record { at = 0; cut = record { done = []; dirt = (0x3000F, 0xEE) ∷ (0x10000, 0xEE) ∷ [] } } ∷ record { at = 2; cut = record { done = 0 ∷ []; dirt = (0x30000, 0xEE) ∷ [] } } ∷ []) 3 ≡ Ok (Exit 3 ∷ [], 3)
unfolding decoded decoded16 form_of ran loaded three first_core blank machine_after_with turn zc_step
three_interrupted = refl

-- after the bytes of the file a segment is 0, which is no instruction
after_the_file : ran (0x0D ∷ 0x45 ∷ []) 4 [] 2 ≡ Err Illegal
unfolding decoded decoded16 form_of ran loaded first_core blank machine_after_with turn zc_step
after_the_file = refl

-- ---- devices

-- lui a0, 0x10013; lw a1, 0(a0); sb a1, 4(a0); lh a2, 8(a0)
uart : List ℕ
uart = 0x37 ∷ 0x35 ∷ 0x01 ∷ 0x10 ∷ 0x83 ∷ 0x25 ∷ 0x05 ∷ 0x00 ∷ 0x23 ∷ 0x02 ∷ 0xB5 ∷ 0x00 ∷ 0x03 ∷ 0x16 ∷ 0x85 ∷ 0x00 ∷ []

-- with a device there, the word that is loaded is the next four bytes of the input; its low byte is stored; and the halfword has the one
-- byte that is left, and 0 above
uart_answers :
    shown (machine_after_with (loaded uart 16) (Range (record { at = 0x10013000; size = 0x1000 }) ∷ []) (0x61 ∷ 2 ∷ 3 ∷ 4 ∷ 5 ∷ []) (interrupts_by []) 4)
    ≡ Ok (Load 0x10013000 4 (0x61 ∷ 2 ∷ 3 ∷ 4 ∷ []) ∷ Store 0x10013004 (0x61 ∷ []) ∷ Load 0x10013008 2 (5 ∷ []) ∷ [], 4)
unfolding decoded decoded16 form_of loaded uart first_core blank machine_after_with turn zc_step
uart_answers = refl

-- without one the machine stops at the first access
no_uart : ran uart 16 [] 2 ≡ Err BadAccess
unfolding decoded decoded16 form_of ran loaded uart first_core blank machine_after_with turn zc_step
no_uart = refl

-- ---- instructions of the system

-- csrrs a0, mstatus, x0; csrrw x0, mtvec, a0; csrrsi a1, mie, 8; wfi
start_up : List ℕ
start_up = 0x73 ∷ 0x25 ∷ 0x00 ∷ 0x30 ∷ 0x73 ∷ 0x10 ∷ 0x55 ∷ 0x30 ∷ 0xF3 ∷ 0x65 ∷ 0x44 ∷ 0x30 ∷ 0x73 ∷ 0x00 ∷ 0x50 ∷ 0x10 ∷ []

-- what is read is the next four bytes of the input, and what is written with x0 as rd takes none; the register that is read last gets the
-- one byte that is left
registers_answer :
    shown (machine_after_with (loaded start_up 16) (Registers ∷ []) (0x80 ∷ 0x18 ∷ 0 ∷ 0 ∷ 5 ∷ []) (interrupts_by []) 4)
    ≡ Ok (System 0x30002573 0 (0x80 ∷ 0x18 ∷ 0 ∷ 0 ∷ []) ∷ System 0x30551073 0x1880 [] ∷ System 0x304465F3 8 (5 ∷ []) ∷ System 0x10500073 0 [] ∷ [], 4)
unfolding decoded decoded16 form_of loaded start_up first_core blank machine_after_with turn zc_step
registers_answer = refl

-- without the registers the machine stops, whatever other devices there are
no_registers : shown (machine_after_with (loaded start_up 16) (Range (record { at = 0x10013000; size = 0x1000 }) ∷ []) [] (interrupts_by []) 1) ≡ Err Illegal
unfolding decoded decoded16 form_of loaded start_up first_core blank machine_after_with turn zc_step
no_registers = refl

-- ---- interrupts

at_work : ZcCore
at_work = record (loaded three 10) { regs = 0 ∷ 0 ∷ 0x30008 ∷ [] }

-- an interrupt writes below sp, and not at sp, nor in code
written_below : byte_in (interrupted (record { done = []; dirt = (0x30007, 0xEE) ∷ [] }) at_work) 0x30007 ≡ 0xEE
unfolding at_work loaded three first_core blank decoded decoded16 form_of
written_below = refl

not_at_sp : byte_in (interrupted (record { done = []; dirt = (0x30008, 0xEE) ∷ [] }) at_work) 0x30008 ≡ 0
unfolding at_work loaded three first_core blank decoded decoded16 form_of
not_at_sp = refl

not_in_code : byte_in (interrupted (record { done = []; dirt = (0x10000, 0xEE) ∷ [] }) at_work) 0x10000 ≡ 0x0D
unfolding at_work loaded three first_core blank decoded decoded16 form_of
not_in_code = refl

-- ---- interrupts of a push and a pop

-- cm.push {ra, s0}, -16; cm.popretz {ra, s0}, 16; with 16 bytes of stack
push_and_pop : ZcCore
push_and_pop = record {
  pc = 0x10000;
  regs = 0 ∷ 0x10010 ∷ 0x10000000 ∷ 0 ∷ 0 ∷ 0 ∷ 0 ∷ 0 ∷ 0x11223344 ∷ 0 ∷ 0 ∷ [];
  jvt = 0;
  memory = record { kind = Text; at = 0x10000; cells = 0x52 ∷ 0xB8 ∷ 0x52 ∷ 0xBC ∷ [] } ∷ record { kind = Stack; at = 0xFFFFFF0; cells = blank 16 0 } ∷ [];
  commits = 0;
  exit = None;
}

-- the push, interrupted once: s0 was saved, and the interrupt wrote over it
push_interrupted : ZcCore
push_interrupted =
    interrupted (record { done = 0 ∷ []; dirt = (0xFFFFFFC, 0xEE) ∷ (0xFFFFFFD, 0xEE) ∷ (0xFFFFFFE, 0xEE) ∷ (0xFFFFFFF, 0xEE) ∷ [] }) push_and_pop

-- the push starts again from where it was
push_starts_again : (push_interrupted.pc ≡ 0x10000) × (reg_in push_interrupted 2 ≡ 0x10000000) × (word_at push_interrupted 0xFFFFFFC ≡ 0xEEEEEEEE)
unfolding push_interrupted push_and_pop blank decoded decoded16 form_of
push_starts_again = (refl, refl, refl)

push_committed : ZcCore
push_committed = core_after (zc_step push_interrupted) push_interrupted

-- the push saves both registers
push_saves : (word_at push_committed 0xFFFFFFC ≡ 0x11223344) × (word_at push_committed 0xFFFFFF8 ≡ 0x10010) × (reg_in push_committed 2 ≡ 0xFFFFFF0)
unfolding push_committed push_interrupted push_and_pop blank decoded decoded16 form_of zc_step
push_saves = (refl, refl, refl)

-- the pop, interrupted after each access
pop_interrupted : ZcCore
pop_interrupted =
    all_interrupted (record { done = 0 ∷ []; dirt = [] } ∷ record { done = 1 ∷ []; dirt = [] } ∷ [])
    (record push_committed { regs = 0 ∷ 0 ∷ 0xFFFFFF0 ∷ 0 ∷ 0 ∷ 0 ∷ 0 ∷ 0 ∷ 0 ∷ 0 ∷ 9 ∷ [] })

-- registers that were restored stay so, and a0 isn't set before the commit
pop_starts_again : (reg_in pop_interrupted 8 ≡ 0x11223344) × (reg_in pop_interrupted 1 ≡ 0x10010) × (reg_in pop_interrupted 10 ≡ 9)
unfolding pop_interrupted push_committed push_interrupted push_and_pop blank decoded decoded16 form_of zc_step
pop_starts_again = (refl, refl, refl)

pop_committed : ZcCore
pop_committed = core_after (zc_step pop_interrupted) pop_interrupted

pop_returns : (reg_in pop_committed 10 ≡ 0) × (reg_in pop_committed 2 ≡ 0x10000000) × (pop_committed.pc ≡ 0x10010)
unfolding pop_committed pop_interrupted push_committed push_interrupted push_and_pop blank decoded decoded16 form_of zc_step
pop_returns = (refl, refl, refl)
