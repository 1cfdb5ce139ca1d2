-- The bytes of data that files hold, as they lie in memory at a program's start (System V gABI, "Sections").
use Rattle.std.specs.Prelude.{ℕ, ◌+◌, ◌-◌, ◌==◌, if◌then◌else◌, List, ◌++◌, drop, length, replicate, take}
use Rattle.std.specs.List.{fold}
use Rattle.std.specs.Option.{option_map_or}
use Rattle.psabi_sym.specs.Data.{data_address, data_file_end}
use Rattle.psabi_sym.specs.Inputs.{ParsedInputs}
use Rattle.psabi_sym.specs.Indexed.{IndexedSection, all_sections}

-- a list with another over it, from an index on; what would stand past its end is left out, which never happens to data: its
-- classes with content end where the list does
abbrev pub overlaid : {X : Type 0} → ℕ → List X → List X → List X
overlaid at new old = take at old ++ (take (length old - at) new ++ drop (at + length new) old)

-- bytes from the map's start of data on, with the content of a section over those at its address; a section of NOBITS (8) has
-- no content, and one that isn't data no address
abbrev pub with_content : ParsedInputs → List ℕ → IndexedSection → List ℕ
with_content inputs bytes l =
    if l.section.kind == 8 then bytes
    else option_map_or (λ at. overlaid (at - inputs.map.data_low) l.section.bytes bytes) (data_address inputs l.object l.index) bytes

-- the bytes from the map's start of data to the end of small data: zeros, with the content of each section of data at its
-- address
unfoldable pub data_contents : ParsedInputs → List ℕ
data_contents inputs = fold (with_content inputs) (replicate (data_file_end inputs - inputs.map.data_low) 0) (all_sections inputs.objects)
