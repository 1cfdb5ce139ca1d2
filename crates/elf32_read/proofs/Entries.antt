-- The entries of a list of places, by their index.
use Rattle.std.proofs.Common.{◌≡◌, ℕ, ◌<◌, ◌/◌, List, length, Some}
use Rattle.std.specs.Prelude.{slice_get}
use Rattle.std.proofs.lemmas.List.FromFn.{length-map-range_with_len}
use Rattle.elf32_read.specs.Places.{place_entry_at, entries_of}
use Rattle.elf32_read.proofs.Listed.{slice_get-listed}

-- each entry has twelve bytes
pub length-entries_of : (entries : List ℕ) → length (entries_of entries) ≡ length entries / 12
length-entries_of entries = length-map-range_with_len (place_entry_at entries) 0 (length entries / 12)

-- the entry at an index
pub slice_get-entries_of : (entries : List ℕ) (i : ℕ) → i < length entries / 12 → slice_get (entries_of entries) i ≡ Some (place_entry_at entries i)
slice_get-entries_of entries i lt = slice_get-listed (place_entry_at entries) (length entries / 12) i lt
