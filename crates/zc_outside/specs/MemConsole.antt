-- What a console in memory holds and counts, and what its calls do to that.
use Rattle.std.specs.Prelude.{ℕ, ◌==◌, List, [], ◌∷◌, length, drop, Some, Result, Ok, Err}
use Rattle.zc_outside.specs.declared.console.ConsoleFault.{ConsoleFault}
use Rattle.zc_outside.specs.declared.console.ConsoleFault.TheVariants.{Failed, OutOfMemory}
use Rattle.zc_outside.specs.Calls.{next_call, more}
use Rattle.zc_outside.specs.Desk.{Desk}

-- the state of a console in memory: its streams, the numbers of its calls that fail, and its counts
pub record ConsoleState : Type 0 where
  -- the bytes that are left
  pub input : List ℕ
  -- the bytes written so far
  pub out : List ℕ
  pub err : List ℕ
  -- the numbers of the calls that fail
  pub fails : List ℕ
  -- the number of calls made, which is the next call's number
  pub calls : ℕ
  pub read_faults : ℕ
  pub write_faults : ℕ
  pub write_memory_faults : ℕ
  -- the number of bytes that left the input
  pub taken : ℕ

-- what the console shows: it tells all its bytes, and is sure if it was made with no call that fails; a take never runs
-- out of memory
abbrev pub desk_of : ConsoleState → Desk
desk_of c = record {
  input = Some c.input;
  out = Some c.out;
  err = Some c.err;
  read_faults = c.read_faults;
  write_faults = c.write_faults;
  read_memory_faults = 0;
  write_memory_faults = c.write_memory_faults;
  taken = c.taken;
  sure = length c.fails == 0;
}

-- a take moves its bytes out of the input, and a refused one moves nothing
abbrev pub after_take : ConsoleState → Result ℕ ConsoleFault → ConsoleState
after_take c (Ok n) = record c { input = drop n c.input; calls = next_call c.calls; taken = more c.taken n }
after_take c (Err Failed) = record c { calls = next_call c.calls; read_faults = more c.read_faults 1 }
after_take c (Err OutOfMemory) = record c { calls = next_call c.calls }

-- what a write counts: an empty piece is no call, and a refusal is counted by its cause
abbrev pub after_write : {A : Type 0} → ConsoleState → List ℕ → Result A ConsoleFault → ConsoleState
after_write c [] result = c
after_write c (byte ∷ piece) (Ok done) = record c { calls = next_call c.calls }
after_write c (byte ∷ piece) (Err Failed) = record c { calls = next_call c.calls; write_faults = more c.write_faults 1 }
after_write c (byte ∷ piece) (Err OutOfMemory) = record c { calls = next_call c.calls; write_memory_faults = more c.write_memory_faults 1 }

-- what a write adds: the whole piece, or nothing
abbrev pub appended : {A : Type 0} → List ℕ → Result A ConsoleFault → List ℕ
appended piece (Ok done) = piece
appended piece (Err fault) = []
