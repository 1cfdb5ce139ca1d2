-- The size of an object's file as it is summed, section by section and name by name. Contracts and proofs of the sums
-- name these; nothing that must be believed does.
use Rattle.std.specs.Prelude.{◌≡◌, ◌<◌, ◌≤◌, ℕ, ◌+◌, ◌*◌, ◌^◌, Bool, true, false, nat_lt, if◌then◌else◌, List, [], length, map, Option, MatchOption}
use Rattle.std.specs.List.{sum_by}
use Rattle.elf32_read.specs.Parts.{ObjectParts, SectionParts, SymbolParts, is_kept_section}
use Rattle.elf32_write.specs.Image.{padded_length}
use Rattle.elf32_write.specs.NameTable.{name_bytes}
use Rattle.elf32_write.specs.ObjectFile.{object_size}
use Rattle.psabi_sym.specs.Indexed.{IndexedSection, all_sections}
use Rattle.moved_runs.specs.Passes.{Pass}
use Rattle.object_passes.specs.Sizes.{is_small_object}
use Rattle.object_passes.specs.declared.section_room.LeftSection.{LeftSection}
use Rattle.object_passes.specs.declared.section_room.SectionRoom.{SectionRoom}

-- ---- one section

-- how many bytes a name has in a table, with the zero after it
abbrev pub name_size : List ℕ → ℕ
name_size name = length (name_bytes name)

-- a section has relocations, so that the file has a section of them as well
abbrev pub has_relas : SectionParts → Bool
has_relas s = nat_lt 0 (length s.relocs)

-- the headers of a section and of its relocations
abbrev pub part_headers : SectionParts → ℕ
part_headers s = 1 + (if has_relas s then 1 else 0)

-- the bytes of their contents: each relocation has 12
abbrev pub part_content : SectionParts → ℕ
part_content s = padded_length (length s.bytes) + 12 * length s.relocs

-- the bytes of their names: that of the relocations is .rela and the section's
abbrev pub part_names : SectionParts → ℕ
part_names s = name_size s.name + (if has_relas s then 6 + length s.name else 0)

-- the room of one section in a file
abbrev pub part_room : SectionParts → SectionRoom
part_room s = record { headers = part_headers s; content = part_content s; names = part_names s }

-- few enough bytes to be added to others
pub record IsFewBytes (room : SectionRoom) : Type 0 where
  pub headers : room.headers ≤ 2
  pub content : room.content ≤ 2 ^ 37
  pub names : room.names ≤ 2 ^ 24

-- ---- what is left of sections

-- how many bytes and relocations a section has
abbrev pub counts_of : SectionParts → LeftSection
counts_of s = record { bytes = length s.bytes; relocs = length s.relocs }

-- how many a pass leaves of a section: none of one that is dropped
abbrev pub left_section : Pass → IndexedSection → LeftSection
left_section pass l =
    if is_kept_section l.section then counts_of (pass.section l.object l.index l.section)
    else record { bytes = 0; relocs = 0 }

-- the same of all sections
abbrev pub left_sections : Pass → List ObjectParts → List LeftSection
left_sections pass objects = map (left_section pass) (all_sections objects)

-- ---- all sections and symbols

-- the room of sections
abbrev pub parts_room : List SectionParts → SectionRoom
parts_room ss =
    record { headers = sum_by part_headers ss; content = sum_by part_content ss; names = sum_by part_names ss }

-- the room of a section in a pass's result: none if it is dropped
abbrev pub passed_room : Pass → IndexedSection → SectionRoom
passed_room pass l =
    if is_kept_section l.section then part_room (pass.section l.object l.index l.section) else parts_room []

-- two rooms together
abbrev pub with_room : SectionRoom → SectionRoom → SectionRoom
with_room a b = record { headers = a.headers + b.headers; content = a.content + b.content; names = a.names + b.names }

-- the bytes of the names of symbols
abbrev pub symbols_room : List SymbolParts → ℕ
symbols_room symbols = sum_by (λ s. name_size s.name) symbols

-- a sum is this, or is left off since it passes 4 MiB
abbrev pub IsSumUpTo : ℕ → Option ℕ → Type 0
IsSumUpTo total result = MatchOption result (0x40_0000 < total) (λ n. (n ≡ total) × (n ≤ 0x40_0000))

-- the room is this, or is left off since its bytes pass 4 MiB
abbrev pub IsRoomUpTo : SectionRoom → Option SectionRoom → Type 0
IsRoomUpTo total result =
    MatchOption result (0x40_0000 < total.content + total.names)
    (λ room. (room ≡ total) × (room.content + room.names ≤ 0x40_0000))

-- ---- the file

-- the number of its headers: beside those of the given sections, those of section 0, .symtab, .strtab and .shstrtab
abbrev pub room_total : SectionRoom → ℕ
room_total room = 4 + room.headers

-- its length: its header; the contents of the sections; 16 bytes for each symbol and symbol 0; the names of the symbols
-- and those of the sections, each table after a zero, with the 26 bytes of .symtab, .strtab and .shstrtab; and 40 bytes
-- for each header
abbrev pub room_size : SectionRoom → ℕ → ℕ → ℕ
room_size room symbols names =
    52 + room.content + 16 * (1 + symbols) + padded_length (1 + names) + padded_length (27 + room.names)
    + 40 * room_total room

-- the size of an object's file, or none if it is too large
abbrev pub IsSmallSize : ObjectParts → Option ℕ → Type 0
IsSmallSize parts result =
    MatchOption result (is_small_object parts ≡ false) (λ n. (is_small_object parts ≡ true) × (n ≡ object_size parts))
