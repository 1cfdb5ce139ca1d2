-- The headers of a little-endian ELF file of class 32 (System V gABI, "ELF Header", "Sections" and
-- "Program Header").
use Rattle.std.specs.Prelude.{◌≡◌, ◌<◌, ℕ, ◌+◌, ◌*◌, Bool, not, ◌&&◌, ◌||◌, ◌==◌, if◌then◌else◌, List, [], ◌∷◌, take, drop, map, filter, slice_index, Option, Some, None}
use Rattle.std.specs.List.{range_with_len}
use Rattle.zc_base.specs.Fields.{half_in, word_in}
use Rattle.elf32_read.specs.declared.header.SectionHeader.{SectionHeader}
use Rattle.elf32_read.specs.declared.header.ProgramHeader.{ProgramHeader}

-- e_entry: the address at which the program starts
abbrev pub entry_address : List ℕ → ℕ
entry_address bytes = word_in bytes 24

-- e_phoff: where the program headers begin
abbrev pub program_table : List ℕ → ℕ
program_table bytes = word_in bytes 28

-- e_shoff: where the section headers begin
abbrev pub section_table : List ℕ → ℕ
section_table bytes = word_in bytes 32

-- e_flags (RISC-V ELF psABI, "File Header")
abbrev pub file_flags : List ℕ → ℕ
file_flags bytes = word_in bytes 36

-- e_flags has no bits other than RVC (0x1) and TSO (0x10)
abbrev pub are_known_flags : ℕ → Bool
are_known_flags flags = flags == 0 || flags == 0x1 || flags == 0x10 || flags == 0x11

-- e_phnum: the number of program headers
abbrev pub program_count : List ℕ → ℕ
program_count bytes = half_in bytes 44

-- e_shnum: the number of sections
abbrev pub section_count : List ℕ → ℕ
section_count bytes = half_in bytes 48

-- e_shstrndx: the section that holds the names of the sections
abbrev pub name_section : List ℕ → ℕ
name_section bytes = half_in bytes 50

-- there are section headers, but e_shentsize isn't 40
abbrev pub has_other_section_headers : List ℕ → Bool
has_other_section_headers bytes = not (section_count bytes == 0) && not (half_in bytes 46 == 40)

-- e_ident begins 7F "ELF", class 1 (32-bit), data 1 (little-endian), version 1; e_type is the given
-- one, and e_machine is 243 (RISC-V ELF psABI, "File Header")
abbrev pub begins_as : ℕ → List ℕ → Bool
begins_as file_type bytes =
    word_in bytes 0 == 0x464C_457F && slice_index bytes 4 == 1 && slice_index bytes 5 == 1 && slice_index bytes 6 == 1 && half_in bytes 16 == file_type && half_in bytes 18 == 243

-- the header of a section: ten words
unfoldable pub header_of : List ℕ → ℕ → SectionHeader
header_of bytes i = let at = section_table bytes + 40 * i in record {
  name = word_in bytes at;
  kind = word_in bytes (at + 4);
  flags = word_in bytes (at + 8);
  address = word_in bytes (at + 12);
  offset = word_in bytes (at + 16);
  size = word_in bytes (at + 20);
  link = word_in bytes (at + 24);
  info = word_in bytes (at + 28);
  align = word_in bytes (at + 32);
  entry_size = word_in bytes (at + 36);
}

-- the headers of all sections, in order
abbrev pub headers_of : List ℕ → List SectionHeader
headers_of bytes = map (header_of bytes) (range_with_len 0 (section_count bytes))

-- the section with this index is the only one that passes a test; `None` if no section does
abbrev pub IsOnly : (SectionHeader → Bool) → List ℕ → Option ℕ → Type 0
IsOnly test bytes None = filter test (headers_of bytes) ≡ []
IsOnly test bytes (Some i) = (i < section_count bytes) × (filter test (headers_of bytes) ≡ header_of bytes i ∷ [])

-- a section without content in the file: NULL (0) or NOBITS (8)
abbrev pub is_empty_kind : ℕ → Bool
is_empty_kind kind = kind == 0 || kind == 8

-- the content of a section
abbrev pub content_of : List ℕ → SectionHeader → List ℕ
content_of bytes header = if is_empty_kind header.kind then [] else take header.size (drop header.offset bytes)

-- a program header: eight words
unfoldable pub program_header_of : List ℕ → ℕ → ProgramHeader
program_header_of bytes i = let at = program_table bytes + 32 * i in record {
  kind = word_in bytes at;
  offset = word_in bytes (at + 4);
  address = word_in bytes (at + 8);
  physical = word_in bytes (at + 12);
  file_size = word_in bytes (at + 16);
  memory_size = word_in bytes (at + 20);
  flags = word_in bytes (at + 24);
  align = word_in bytes (at + 28);
}
