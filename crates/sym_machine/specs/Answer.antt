-- What the answers of the code say of the definitions.
use Rattle.std.specs.Prelude.{◌≡◌, ℕ, ◌+◌, ◌^◌, ◌≤◌, ◌⊎◌, true, min, List, [], ◌∷◌, length, take, Option, Some, None, Result, Ok, Err}
use Rattle.std.specs.declared.alloc.AllocError.{AllocError}
use Rattle.rv_decode.specs.Devices.{sent_bytes}
use Rattle.rv_decode.specs.Effect.{load_width, store_width}
use Rattle.rv_decode.specs.State.{Exit, Load, Read, Store, System, Write}
use Rattle.rv_decode.specs.System.{system_width}
use Rattle.sym_machine.specs.declared.answer.SymStep.{SymStep}
use Rattle.sym_machine.specs.declared.answer.SymStep.TheVariants as answer
use Rattle.sym_machine.specs.declared.known.Known.{Known}
use Rattle.sym_machine.specs.declared.known.Known.TheVariants.{Number, Code, Unknown}
use Rattle.sym_machine.specs.declared.why.Why.{Why}
use Rattle.sym_machine.specs.Change.{Does, Stops, is_output}
use Rattle.sym_machine.specs.Events.{SymEvent, Numeric, StoresCode, HandsCode}
use Rattle.sym_machine.specs.State.{PlainCore}
use Rattle.sym_machine.specs.Step.{PlainStep, Went, Stuck}

-- a step of a program that runs on, with these events
abbrev pub RunsOn : PlainStep → List SymEvent → PlainCore → PlainCore → Type 0
RunsOn step events old new = (old.exit ≡ None) × (new.exit ≡ None) × (step ≡ Went new events)

-- the bytes of the input that an answer of n bytes takes
abbrev pub answer_bytes : ℕ → PlainCore → List ℕ
answer_bytes n s = take (min n (length s.input)) s.input

-- the event of an instruction of the system, by its word, its operand, which is a number or the address of a place, and the answer
abbrev pub system_event : ℕ → Known → List ℕ → List SymEvent
system_event word (Number n) bytes = Numeric (System word n bytes) ∷ []
system_event word (Code q) bytes = HandsCode word q bytes ∷ []
system_event word Unknown bytes = []

-- the answer and the state after it are this step's: reads, writes, the exit and what a device answers are events, a stuck step
-- changes nothing, and after the exit nothing changes any more
abbrev pub StepAnswers : PlainStep → SymStep → PlainCore → PlainCore → Type 0
StepAnswers step answer.Done old new = RunsOn step [] old new
StepAnswers step (answer.Read count) old new =
    (count ≤ length old.input) × RunsOn step (Numeric (Read (take count old.input)) ∷ []) old new
StepAnswers step (answer.Wrote fd bytes) old new = (is_output fd ≡ true) × RunsOn step (Numeric (Write fd bytes.items) ∷ []) old new
StepAnswers step (answer.Loaded op at) old new =
    RunsOn step (Numeric (Load at (load_width op) (answer_bytes (load_width op) old)) ∷ []) old new
StepAnswers step (answer.Stored sent) old new =
    (sent.at + store_width sent.op ≤ 2 ^ 32) × RunsOn step (Numeric (Store sent.at (sent_bytes sent.op sent.word)) ∷ []) old new
StepAnswers step (answer.StoredCode at place) old new = RunsOn step (StoresCode at place ∷ []) old new
StepAnswers step (answer.System word operand) old new =
    RunsOn step (system_event word operand (answer_bytes (system_width word) old)) old new
StepAnswers step (answer.Exited status) old new =
    ((old.exit ≡ None) × (new.exit ≡ Some status) × (step ≡ Went new (Numeric (Exit status) ∷ [])))
    ⊎ ((old.exit ≡ Some status) × (new ≡ old) × (step ≡ Went new []))
StepAnswers step (answer.Stuck place why) old new =
    (old.exit ≡ None) × (new ≡ old) × (place ≡ old.place) × (step ≡ Stuck why)

-- what devices answer to a step, by what it is without them: this answer; or none, and then they make no difference
abbrev pub DevicesAnswer : PlainStep → PlainStep → Option SymStep → PlainCore → PlainCore → Type 0
DevicesAnswer step alone None old new = (new ≡ old) × (step ≡ alone)
DevicesAnswer step alone (Some answer) old new = StepAnswers step answer old new

-- a step without events: the program runs on, or the step is stuck for this cause and changes nothing
abbrev pub RunsOnUnlessStuck : PlainStep → Option Why → PlainCore → PlainCore → Type 0
RunsOnUnlessStuck step None old new = RunsOn step [] old new
RunsOnUnlessStuck step (Some why) old new = (old.exit ≡ None) × (new ≡ old) × (step ≡ Stuck why)

-- a step with this answer, or a refusal when there is no memory, which changes nothing
abbrev pub Makes : Result SymStep AllocError → PlainStep → PlainCore → PlainCore → Type 0
Makes (Ok answer) step old new = StepAnswers step answer old new
Makes (Err e) step old new = new ≡ old

-- what an access goes on with, by its address or the cause for which it can't be made
abbrev pub reached : Result ℕ Why → (ℕ → Does) → Does
reached (Ok a) go = go a
reached (Err why) go = Stops why
