-- Runs of the machine, with whatever happens to it between its commits.
use Rattle.std.specs.Prelude.{ℕ, zero, suc, Bool, List, [], ◌∷◌, ◌++◌, take, drop, if◌then◌else◌, Result, Ok, Err}
use Rattle.std.specs.Option.{option_map_or}
use Rattle.interrupt_plan.specs.Plan.{Interrupt, Entry, interrupts_at}
use Rattle.rv_decode.specs.Run.{◌>>=◌}
use Rattle.rv_decode.specs.Devices.{Device, has_registers, in_devices, number_from, sent_bytes, widened}
use Rattle.rv_decode.specs.declared.device_access.DeviceAccess.{DeviceAccess}
use Rattle.rv_decode.specs.declared.device_access.DeviceAccess.TheVariants as access
use Rattle.rv_decode.specs.Effect.{load_width, onward, store_width}
use Rattle.rv_decode.specs.Formats.{rd_of}
use Rattle.rv_decode.specs.State.{ZcCore, ZcState, Exit, Load, Read, Store, System, Write, set_reg}
use Rattle.rv_decode.specs.System.{system_width}
use Rattle.zc_machine.specs.declared.reason.Reason.TheVariants.{BadAccess, Illegal}
use Rattle.zc_machine.specs.declared.reason.Reason.{Reason}
use Rattle.zc_machine.specs.declared.answer.EnvCall.{EnvCall}
use Rattle.zc_machine.specs.declared.answer.EnvCall.TheVariants as call
use Rattle.zc_machine.specs.Answer.{exited, has_read, has_written}
use Rattle.zc_machine.specs.Buffer.{bytes_at}
use Rattle.zc_machine.specs.Step.{ZcStep, Committed, Wants, Ended, Stopped, Asks, zc_step}
use Rattle.zc_machine.specs.Interrupt.{all_interrupted}

-- the environment's answer to a call is a commit with an event: the exit; a read of as many bytes as the buffer has room for and
-- the input has; or a write of all bytes of the buffer
abbrev pub answered : EnvCall → ZcState → Result ZcState Reason
answered (call.Exit status) r = Ok (record r { core = exited status r.core; events = r.events ++ Exit status ∷ [] })
answered (call.Read at len) r =
    let bytes = take len r.input in
    Ok (record r { core = has_read bytes r.core; input = drop len r.input; events = r.events ++ Read bytes ∷ [] })
answered (call.Write fd at len) r =
    Ok (record r { core = has_written r.core; events = r.events ++ Write fd (bytes_at r.core at len) ∷ [] })

-- a device's answer to an access is a commit with an event: a load takes as many bytes of the input as it asks for, or all that are
-- left, and what comes of them goes to its register; a store changes nothing else. An instruction of the system does what a load
-- of a word does, unless rd is register 0
abbrev pub device_answers : DeviceAccess → ZcState → ZcState
device_answers (access.Load op a rd size) r =
    let bytes = take (load_width op) r.input in
    record r {
      core = onward r.core size (set_reg r.core.regs rd (widened op (number_from bytes)));
      input = drop (load_width op) r.input;
      events = r.events ++ Load a (load_width op) bytes ∷ [];
    }
device_answers (access.Store op a word size) r =
    record r { core = onward r.core size r.core.regs; events = r.events ++ Store a (sent_bytes op word) ∷ [] }
device_answers (access.System word operand) r =
    let bytes = take (system_width word) r.input in
    record r {
      core = onward r.core 4 (set_reg r.core.regs (rd_of word) (number_from bytes));
      input = drop (system_width word) r.input;
      events = r.events ++ System word operand bytes ∷ [];
    }

-- whether there is a device for an access
abbrev pub is_answered : List Device → DeviceAccess → Bool
is_answered devices (access.Load op a rd size) = in_devices devices a (load_width op)
is_answered devices (access.Store op a word size) = in_devices devices a (store_width op)
is_answered devices (access.System word operand) = has_registers devices

-- why the machine stops if there is none
abbrev pub unanswered : DeviceAccess → Reason
unanswered (access.System word operand) = Illegal
unanswered other = BadAccess

-- what asks a device
abbrev pub asked : DeviceAccess → ZcState → Result ZcState Reason
asked x r = if is_answered r.devices x then Ok (device_answers x r) else Err (unanswered x)

-- the state after a step, with the environment's answer if it wants one
abbrev pub committed : ZcStep → ZcState → Result ZcState Reason
committed (Committed z) r = Ok (record r { core = z })
committed (Wants c) r = answered c r
committed (Ended status) r = Ok r
committed (Stopped reason) r = Err reason
committed (Asks x) r = asked x r

-- ---- whatever happens between commits

-- a turn: what happens to the machine before its next commit, and then that commit; after the exit the state stays
unfoldable pub turn : (ZcCore → ZcCore) → ZcState → Result ZcState Reason
turn happens r = option_map_or (λ status. Ok r) r.core.exit (let z = happens r.core in committed (zc_step z) (record r { core = z }))

-- m turns, with what happens before each of their commits, counted from 0
abbrev pub turns : (ℕ → ZcCore → ZcCore) → ℕ → ZcState → Result ZcState Reason
turns happens zero r = Ok r
turns happens (suc m) r = turn (happens 0) r >>= turns (λ k. happens (suc k)) m

-- a run's first state: this core, with these devices and this input
abbrev pub first_state_with : ZcCore → List Device → List ℕ → ZcState
first_state_with first devices input = record { core = first; input = input; events = []; devices = devices }

abbrev pub first_state : ZcCore → List ℕ → ZcState
first_state first input = first_state_with first [] input

-- the state after m commits from there, or why the machine stops before; what happens before commit m isn't in it
unfoldable pub machine_after_with : ZcCore → List Device → List ℕ → (ℕ → ZcCore → ZcCore) → ℕ → Result ZcState Reason
machine_after_with first devices input happens m = turns happens m (first_state_with first devices input)

-- without devices
abbrev pub machine_after : ZcCore → List ℕ → (ℕ → ZcCore → ZcCore) → ℕ → Result ZcState Reason
machine_after first input happens m = machine_after_with first [] input happens m

-- ---- interrupts

-- a turn with these interrupts before its commit
abbrev pub zc_turn : List Interrupt → ZcState → Result ZcState Reason
zc_turn cuts r = turn (all_interrupted cuts) r

-- m turns, with the interrupts before each of their commits
abbrev pub zc_turns : (ℕ → List Interrupt) → ℕ → ZcState → Result ZcState Reason
zc_turns cuts m r = turns (λ k. all_interrupted (cuts k)) m r

-- what happens by a plan: all its interrupts before the commit with this number, in order
abbrev pub interrupts_by : List Entry → ℕ → ZcCore → ZcCore
interrupts_by plan k = all_interrupted (interrupts_at plan k)
