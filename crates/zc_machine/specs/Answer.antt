-- What a step answers and leaves, and what the answers to calls leave.
use Rattle.std.specs.Prelude.{ℕ, ◌≡◌, ◌≤◌, ◌+◌, List, length, slice_index, Some, Result, Ok, Err}
use Rattle.rv_decode.specs.Effect.{onward}
use Rattle.rv_decode.specs.Memory.{changed, written}
use Rattle.rv_decode.specs.State.{ZcCore, reg_in, set_reg}
use Rattle.zc_decode.specs.declared.short.Short.{Short}
use Rattle.zc_machine.specs.declared.reason.Reason.{Reason}
use Rattle.zc_machine.specs.declared.answer.EnvCall.TheVariants.{Exit, Read, Write}
use Rattle.zc_machine.specs.declared.answer.Step.{Step}
use Rattle.zc_machine.specs.declared.answer.Step.TheVariants as answer
use Rattle.zc_machine.specs.Fetch.{Fetched, Found, Missing}
use Rattle.zc_machine.specs.Step.{ZcStep, Committed, Wants, Ended, Stopped, Asks}

-- the step's answer
abbrev pub answer_of : ZcStep → Step
answer_of (Committed z) = answer.Committed
answer_of (Wants c) = answer.Wants c
answer_of (Ended status) = answer.Ended status
answer_of (Stopped reason) = answer.Stopped reason
answer_of (Asks x) = answer.Asks x

-- the state after a step from this one
abbrev pub core_after : ZcStep → ZcCore → ZcCore
core_after (Committed z') z = z'
core_after (Wants c) z = z
core_after (Ended status) z = z
core_after (Stopped reason) z = z
core_after (Asks x) z = z

-- the program has exited, which is a commit; all else stays
abbrev pub exited : ℕ → ZcCore → ZcCore
exited status z = record z { exit = Some status; commits = z.commits + 1 }

-- the step wants the exit
abbrev pub WantsExit : ZcStep → Type 0
WantsExit step = (status : ℕ) × (step ≡ Wants (Exit status))

-- these bytes were read, to a1 on, and their number is in a0; `ecall` has four bytes
abbrev pub has_read : List ℕ → ZcCore → ZcCore
has_read bytes z = record (onward z 4 (set_reg z.regs 10 (length bytes))) { memory = changed (written (reg_in z 11) (length bytes) (slice_index bytes)) z.memory }

-- the a2 bytes at a1 were written, and their number is in a0
abbrev pub has_written : ZcCore → ZcCore
has_written z = onward z 4 (set_reg z.regs 10 (reg_in z 12))

-- the step wants a read, of n bytes or more
abbrev pub WantsRead : ℕ → ZcStep → Type 0
WantsRead n step = (at : ℕ) × (len : ℕ) × (step ≡ Wants (Read at len)) × (n ≤ len)

-- the step wants a write
abbrev pub WantsWrite : ZcStep → Type 0
WantsWrite step = (fd : ℕ) × (at : ℕ) × (len : ℕ) × (step ≡ Wants (Write fd at len))

-- an instruction with its size, or why there is none, as a result
abbrev pub fetched_as : Result (Short × ℕ) Reason → Fetched
fetched_as (Ok (s, size)) = Found s size
fetched_as (Err reason) = Missing reason
