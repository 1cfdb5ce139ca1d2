-- What a console shows of itself, and what its calls do to that.
use Rattle.std.specs.Prelude.{◌≡◌, ℕ, ◌≤◌, Bool, IsTrue, List, Option}
use Rattle.zc_outside.specs.declared.console.ConsoleFault.{ConsoleFault}
use Rattle.zc_outside.specs.declared.console.ConsoleFault.TheVariants.{Failed, OutOfMemory}
use Rattle.zc_outside.specs.Files.{Rose}
use Rattle.zc_outside.specs.Streams.{Adds, KeepsBytes}

-- what a console shows: the input that is left and what was written, if it tells them; how many reads and writes
-- failed, and how many were refused because memory ran out; how many bytes left the input; and whether it is sure: then
-- no call fails, unless memory runs out
pub record Desk : Type 0 where
  pub input : Option (List ℕ)
  pub out : Option (List ℕ)
  pub err : Option (List ℕ)
  pub read_faults : ℕ
  pub write_faults : ℕ
  pub read_memory_faults : ℕ
  pub write_memory_faults : ℕ
  pub taken : ℕ
  pub sure : Bool

-- what taking input does to a console apart from the input: nothing is written, and only the counts of reads and of
-- bytes taken may rise; the count of failed reads doesn't if the console is sure
pub record OnlyTakes (before after : Desk) : Type 0 where
  pub out : KeepsBytes before.out after.out
  pub err : KeepsBytes before.err after.err
  pub reads : before.read_faults ≤ after.read_faults
  pub writes : after.write_faults ≡ before.write_faults
  pub read_memory : before.read_memory_faults ≤ after.read_memory_faults
  pub write_memory : after.write_memory_faults ≡ before.write_memory_faults
  pub taken : before.taken ≤ after.taken
  pub sure : after.sure ≡ before.sure
  pub counted : IsTrue before.sure → after.read_faults ≡ before.read_faults

-- what writing does to a console apart from what is written: the input stays, and only the counts of writes may rise;
-- the count of failed writes doesn't if the console is sure
pub record OnlyWrites (before after : Desk) : Type 0 where
  pub input : KeepsBytes before.input after.input
  pub reads : after.read_faults ≡ before.read_faults
  pub writes : before.write_faults ≤ after.write_faults
  pub read_memory : after.read_memory_faults ≡ before.read_memory_faults
  pub write_memory : before.write_memory_faults ≤ after.write_memory_faults
  pub taken : after.taken ≡ before.taken
  pub sure : after.sure ≡ before.sure
  pub counted : IsTrue before.sure → after.write_faults ≡ before.write_faults

-- these bytes were written to the two streams, each after what was there
pub record Wrote (to_out to_err : List ℕ) (before after : Desk) : Type 0 where
  pub out : Adds before.out after.out to_out
  pub err : Adds before.err after.err to_err

-- what a refused take shows: the count for its cause rose, and it failed only if the console isn't sure
abbrev pub TakeCause : Desk → Desk → ConsoleFault → Type 0
TakeCause before after Failed = Rose before.read_faults after.read_faults × (IsTrue before.sure → ⊥)
TakeCause before after OutOfMemory = Rose before.read_memory_faults after.read_memory_faults

-- what a refused write shows: the count for its cause rose, and it failed only if the console isn't sure
abbrev pub WriteCause : Desk → Desk → ConsoleFault → Type 0
WriteCause before after Failed = Rose before.write_faults after.write_faults × (IsTrue before.sure → ⊥)
WriteCause before after OutOfMemory = Rose before.write_memory_faults after.write_memory_faults
