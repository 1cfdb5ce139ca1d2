-- Runs of a machine that writes to a console: how they end, and what they have then written.
use Rattle.std.specs.Prelude.{◌≡◌, ℕ, ◌+◌, ◌<◌, ◌≤◌, ◌==◌, if◌then◌else◌, List, [], ◌++◌, length, take, Option, Some, None, Result, Ok, Err}
use Rattle.zc_outside.specs.Desk.{Desk, WriteCause, Wrote}
use Rattle.zc_outside.specs.declared.console.ConsoleFault.{ConsoleFault}

-- a run: the state after each number of steps, or what stopped the machine before it; for a state, the exit's status
-- and the bytes written so far to each stream (1 is the output, 2 the output for errors); and the limit of steps
pub record Course (State Stop : Type 0) : Type 0 where
  pub after : ℕ → Result State Stop
  pub exit : State → Option ℕ
  pub written : State → ℕ → List ℕ
  pub steps : ℕ

-- ---- one write

-- what a write to one stream puts on the stream with this number: its bytes, or nothing if it is the other stream
abbrev pub sent : ℕ → List ℕ → ℕ → List ℕ
sent stream bytes number = if stream == number then bytes else []

-- these bytes were written to the stream, and nothing to the other one
abbrev pub WroteTo : ℕ → List ℕ → Desk → Desk → Type 0
WroteTo stream bytes before after = Wrote (sent stream bytes 1) (sent stream bytes 2) before after

-- a first part of these bytes was written to the stream, but not all of them
pub record WrotePart (stream : ℕ) (bytes : List ℕ) (before after : Desk) : Type 0 where
  pub count : ℕ
  pub part : count < length bytes
  pub wrote : WroteTo stream (take count bytes) before after

-- ---- ends

-- the program exited with this status within the steps, and all that it wrote is on the streams
pub record EndsWithExit {State Stop : Type 0} (run : Course State Stop) (status : ℕ) (before after : Desk) : Type 0 where
  pub count : ℕ
  pub within : count ≤ run.steps
  pub last : State
  pub state : run.after count ≡ Ok last
  pub exit : run.exit last ≡ Some status
  pub wrote : Wrote (run.written last 1) (run.written last 2) before after

-- `count` steps were made, after which the program hasn't exited, and all that it wrote is on the streams
pub record EndsAfter {State Stop : Type 0} (run : Course State Stop) (count : ℕ) (before after : Desk) : Type 0 where
  pub last : State
  pub state : run.after count ≡ Ok last
  pub running : run.exit last ≡ None
  pub wrote : Wrote (run.written last 1) (run.written last 2) before after

-- fewer steps were made than the run may make, after which the program hasn't exited, and all that it wrote is on the streams
pub record EndsEarly {State Stop : Type 0} (run : Course State Stop) (before after : Desk) : Type 0 where
  pub count : ℕ
  pub within : count < run.steps
  pub made : EndsAfter run count before after

-- the run ended early (`EndsEarly`), and the next step stops the machine
pub record EndsWithStop {State Stop : Type 0} (run : Course State Stop) (stop : Stop) (before after : Desk) : Type 0 where
  pub early : EndsEarly run before after
  pub next : run.after (early.count + 1) ≡ Err stop

-- the next step is a write that the console refused: the streams have all that was written before it, and at most a
-- first part of its bytes
pub record EndsWithRefusal {State Stop : Type 0} (run : Course State Stop) (fault : ConsoleFault) (before after : Desk) : Type 0 where
  pub between : Desk
  pub early : EndsEarly run before between
  pub next : State
  pub state : run.after (early.count + 1) ≡ Ok next
  pub stream : ℕ
  pub bytes : List ℕ
  pub write : (number : ℕ) → run.written next number ≡ run.written early.made.last number ++ sent stream bytes number
  pub wrote : WrotePart stream bytes between after
  pub cause : WriteCause before after fault

-- ---- ends, apart from what a console shows

-- an exit: what the program has written to its output by then, and its status
pub record Exit : Type 0 where
  pub bytes : List ℕ
  pub status : ℕ

-- the program exits so at step `count` and no earlier, within the limit of steps
pub record ExitsAt {State Stop : Type 0} (run : Course State Stop) (count : ℕ) (exit : Exit) : Type 0 where
  pub within : count ≤ run.steps
  pub last : State
  pub state : run.after count ≡ Ok last
  pub status : run.exit last ≡ Some exit.status
  pub bytes : run.written last 1 ≡ exit.bytes
  pub first : (k : ℕ) (s : State) → k < count → run.after k ≡ Ok s → run.exit s ≡ None

-- all steps are made, and the program hasn't exited
pub record IsSpent {State Stop : Type 0} (run : Course State Stop) : Type 0 where
  pub last : State
  pub state : run.after run.steps ≡ Ok last
  pub running : run.exit last ≡ None

-- fewer steps are made, after which the program hasn't exited, and the next step stops the machine
pub record StopsWith {State Stop : Type 0} (run : Course State Stop) (stop : Stop) : Type 0 where
  pub count : ℕ
  pub within : count < run.steps
  pub last : State
  pub state : run.after count ≡ Ok last
  pub running : run.exit last ≡ None
  pub next : run.after (count + 1) ≡ Err stop
