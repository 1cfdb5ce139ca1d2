use Rattle.std.proofs.Common.{◌≡◌, map, false}
use Rattle.std.specs.List.{list_any, range_with_len}
use Rattle.elf32_read.specs.Places.{place_entry_at, is_outside}
use Rattle.elf32_read.proofs.places.has_outside.Given as goal

abbrev pub invariant-loop-i : goal.invariant-loop-i
invariant-loop-i l = list_any (is_outside l.map) (map (place_entry_at l.entries) (range_with_len 0 l.i)) ≡ false
