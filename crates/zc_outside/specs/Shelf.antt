-- What a store of files shows of itself, and what its calls do to that.
use Rattle.std.specs.Prelude.{◌≡◌, ℕ, ◌+◌, ◌≤◌, ◌⊎◌, Bool, IsTrue, List, Option, ⊤}
use Rattle.zc_outside.specs.declared.store.StoreFault.{StoreFault}
use Rattle.zc_outside.specs.declared.store.StoreFault.TheVariants.{Failed, TooLong, OutOfMemory}
use Rattle.zc_outside.specs.Files.{Files, Holds, IsLong, KeepsFiles, Rose}

-- what a store shows: its files, if it tells them; how many reads failed, how many files were too long, how many writes
-- failed, and how many writes ran out of memory; and whether it is sure: then, unless memory runs out, no write fails,
-- and no read of a name that it holds
pub record Shelf : Type 0 where
  pub files : Option Files
  pub read_faults : ℕ
  pub long_files : ℕ
  pub write_faults : ℕ
  pub write_memory_faults : ℕ
  pub sure : Bool

-- what a read does to a store: its files stay, and only the counts of reads may rise; if the store is sure and holds
-- the name, no read failed, and only a file that is too long was counted
pub record OnlyReads (name : List ℕ) (limit : ℕ) (before after : Shelf) : Type 0 where
  pub files : KeepsFiles before.files after.files
  pub reads : before.read_faults ≤ after.read_faults
  pub longs : before.long_files ≤ after.long_files
  pub writes : after.write_faults ≡ before.write_faults
  pub write_memory : after.write_memory_faults ≡ before.write_memory_faults
  pub sure : after.sure ≡ before.sure
  pub counted :
      IsTrue before.sure → Holds before.files name →
      (after.read_faults ≡ before.read_faults) × ((after.long_files ≡ before.long_files) ⊎ IsLong before.files name limit)

-- what a write does to a store's counts: only the counts of writes may rise, and the count of failed writes doesn't if
-- the store is sure
pub record OnlyPuts (before after : Shelf) : Type 0 where
  pub reads : after.read_faults ≡ before.read_faults
  pub longs : after.long_files ≡ before.long_files
  pub writes : before.write_faults ≤ after.write_faults
  pub write_memory : before.write_memory_faults ≤ after.write_memory_faults
  pub sure : after.sure ≡ before.sure
  pub counted : IsTrue before.sure → after.write_faults ≡ before.write_faults

-- what a refused read shows: the count for its cause rose; it failed only if the store isn't sure or doesn't hold the
-- name, and the file was called too long only if it is longer than the limit
abbrev pub GetCause : List ℕ → ℕ → Shelf → Shelf → StoreFault → Type 0
GetCause name limit before after Failed =
    Rose before.read_faults after.read_faults × (IsTrue before.sure → Holds before.files name → ⊥)
GetCause name limit before after (TooLong taken) =
    Rose before.long_files after.long_files × (taken ≡ limit + 1) × IsLong before.files name limit
GetCause name limit before after OutOfMemory = ⊤

-- what a refused write shows: the count for its cause rose, and it failed only if the store isn't sure
abbrev pub PutCause : Shelf → Shelf → StoreFault → Type 0
PutCause before after Failed = Rose before.write_faults after.write_faults × (IsTrue before.sure → ⊥)
PutCause before after (TooLong taken) = ⊥
PutCause before after OutOfMemory = Rose before.write_memory_faults after.write_memory_faults
