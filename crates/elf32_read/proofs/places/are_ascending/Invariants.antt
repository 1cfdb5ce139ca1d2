use Rattle.std.proofs.Common.{◌≡◌, ◌-◌, ◌/◌, length, map}
use Rattle.std.specs.List.{range_with_len}
use Rattle.elf32_read.specs.Places.{place_entry_at, entries_of, is_ascending}
use Rattle.elf32_read.proofs.places.are_ascending.Given as goal

abbrev pub invariant-loop-i : goal.invariant-loop-i
invariant-loop-i l =
    is_ascending (entries_of l.entries) ≡ is_ascending (map (place_entry_at l.entries) (range_with_len l.i (length l.entries / 12 - l.i)))
