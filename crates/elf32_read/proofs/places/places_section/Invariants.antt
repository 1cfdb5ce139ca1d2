use Rattle.std.proofs.Common.{◌≡◌, map, false}
use Rattle.std.specs.Prelude.{filter}
use Rattle.std.specs.Option.{option_to_list}
use Rattle.std.specs.List.{list_any, range_with_len}
use Rattle.elf32_read.specs.Header.{header_of}
use Rattle.elf32_read.specs.Object.{passes_end}
use Rattle.elf32_read.proofs.Tests.{holds_places}
use Rattle.elf32_read.proofs.places.places_section.Given as goal

abbrev pub invariant-loop-i : goal.invariant-loop-i
invariant-loop-i l = record {
  found : filter (holds_places l.sections) (map (header_of l.sections) (range_with_len 0 l.i)) ≡ option_to_list l.found;
  whole : list_any (passes_end l.sections) (option_to_list l.found) ≡ false;
}
