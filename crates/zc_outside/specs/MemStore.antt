-- What a store in memory holds and counts, what its calls do to that, and what it shows.
use Rattle.std.specs.Prelude.{ℕ, ◌==◌, List, length, map, Option, Some, Result, Ok, Err}
use Rattle.std.specs.Cmp.Lexicographic.{slice_cmp}
use Rattle.std.specs.FinMap.{find, put}
use Rattle.std.specs.Global.{Global, Vec}
use Rattle.std.specs.Ordering.{nat_cmp}
use Rattle.std.specs.String.{string_bytes}
use Rattle.std.specs.declared.string.String.{String}
use Rattle.zc_outside.specs.declared.store.StoreFault.{StoreFault}
use Rattle.zc_outside.specs.declared.store.StoreFault.TheVariants.{Failed, TooLong, OutOfMemory}
use Rattle.zc_outside.specs.Calls.{next_call, more}
use Rattle.zc_outside.specs.Shelf.{Shelf}

-- the bytes under a name
abbrev pub file_in : List (List ℕ × List ℕ) → List ℕ → Option (List ℕ)
file_in files name = find (slice_cmp nat_cmp) name files

-- the files with these bytes under the name
abbrev pub with_file : List (List ℕ × List ℕ) → List ℕ → List ℕ → List (List ℕ × List ℕ)
with_file files name bytes = put (slice_cmp nat_cmp) name bytes files

-- the names and the bytes of a program's map
abbrev pub files_of : List (String Global × Vec ℕ) → List (List ℕ × List ℕ)
files_of entries = map (λ e. (string_bytes e.0, e.1.items)) entries

-- the state of a store in memory: its files, each name with its bytes, in the names' order; the numbers of the calls
-- that fail; the number of calls made, which is the next call's number; and its counts
pub record StoreState : Type 0 where
  pub files : List (List ℕ × List ℕ)
  pub fails : List ℕ
  pub calls : ℕ
  pub read_faults : ℕ
  pub long_files : ℕ
  pub write_faults : ℕ
  pub write_memory_faults : ℕ

-- what the store shows: it tells all its files, and is sure if it was made with no call that fails
abbrev pub shelf_of : StoreState → Shelf
shelf_of s = record {
  files = Some (file_in s.files);
  read_faults = s.read_faults;
  long_files = s.long_files;
  write_faults = s.write_faults;
  write_memory_faults = s.write_memory_faults;
  sure = length s.fails == 0;
}

-- how often a call failed: once or not at all
abbrev pub failures : {A : Type 0} → Result A StoreFault → ℕ
failures (Ok done) = 0
failures (Err Failed) = 1
failures (Err (TooLong taken)) = 0
failures (Err OutOfMemory) = 0

-- how often a call found a file too long
abbrev pub too_longs : {A : Type 0} → Result A StoreFault → ℕ
too_longs (Ok done) = 0
too_longs (Err Failed) = 0
too_longs (Err (TooLong taken)) = 1
too_longs (Err OutOfMemory) = 0

-- how often a call was refused because memory ran out
abbrev pub memory_failures : {A : Type 0} → Result A StoreFault → ℕ
memory_failures (Ok done) = 0
memory_failures (Err Failed) = 0
memory_failures (Err (TooLong taken)) = 0
memory_failures (Err OutOfMemory) = 1

-- a read is one call, and a refusal is counted by its cause
abbrev pub after_get : {A : Type 0} → StoreState → Result A StoreFault → StoreState
after_get s result = record s {
  calls = next_call s.calls;
  read_faults = more s.read_faults (failures result);
  long_files = more s.long_files (too_longs result);
}

-- a write gives the name its bytes, or changes no file
abbrev pub files_after : {A : Type 0} → List (List ℕ × List ℕ) → List ℕ → List ℕ → Result A StoreFault → List (List ℕ × List ℕ)
files_after files name bytes (Ok done) = with_file files name bytes
files_after files name bytes (Err fault) = files

-- a write is one call, and a refusal is counted by its cause
abbrev pub after_put : {A : Type 0} → StoreState → List ℕ → List ℕ → Result A StoreFault → StoreState
after_put s name bytes result = record s {
  files = files_after s.files name bytes result;
  calls = next_call s.calls;
  write_faults = more s.write_faults (failures result);
  write_memory_faults = more s.write_memory_faults (memory_failures result);
}
