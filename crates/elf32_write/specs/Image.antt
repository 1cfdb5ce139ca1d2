-- The bytes of an image: an executable file of class 32 (System V gABI, "ELF Header", "Sections" and
-- "Program Header"), its parts one after the other, each padded with zeros to a multiple of 4.
use Rattle.std.specs.Prelude.{ℕ, ◌+◌, ◌*◌, ◌-◌, ◌%◌, ◌^◌, ◌<◌, List, [], ◌∷◌, ◌++◌, length, codes, replicate}
use Rattle.std.specs.List.{flat_map}
use Rattle.zc_base.specs.Fields.{half_bytes, word_bytes}
use Rattle.zc_base.specs.declared.place.Place.{Place}
use Rattle.elf32_read.specs.declared.header.ProgramHeader.{ProgramHeader}
use Rattle.elf32_read.specs.declared.header.SectionHeader.{SectionHeader}
use Rattle.elf32_write.specs.Parts.{Parts}

-- the number of zeros that make a length a multiple of 4
abbrev pub pad : ℕ → ℕ
pad n = (4 - n % 4) % 4

-- bytes, and zeros up to a multiple of 4
abbrev pub padded : List ℕ → List ℕ
padded bytes = bytes ++ replicate (pad (length bytes)) 0

-- the length of what is padded
abbrev pub padded_length : ℕ → ℕ
padded_length n = n + pad n

-- where the text begins in the file: after the file's header and two program headers
abbrev pub text_offset : ℕ
text_offset = 116

-- where the data begins in the file
abbrev pub data_offset : Parts → ℕ
data_offset parts = text_offset + padded_length (length parts.text)

-- where the places begin in the file
abbrev pub places_offset : Parts → ℕ
places_offset parts = data_offset parts + padded_length (length parts.data_bytes)

-- where the names of the sections begin in the file
abbrev pub names_offset : Parts → ℕ
names_offset parts = places_offset parts + 12 * length parts.places

-- where the section headers begin in the file
abbrev pub sections_offset : Parts → ℕ
sections_offset parts = names_offset parts + 44

-- every number of the file has room in its word
pub record NumbersFit (parts : Parts) : Type 0 where
  pub file : sections_offset parts < 2 ^ 32
  pub data_memory : length parts.data_bytes + parts.zero < 2 ^ 32
  pub data_end : parts.data_at + length parts.data_bytes < 2 ^ 32

-- e_ident: 7F "ELF", class 1 (32-bit), data 1 (little-endian), version 1, and nine zeros
abbrev pub identification : List ℕ
identification = 127 ∷ 69 ∷ 76 ∷ 70 ∷ 1 ∷ 1 ∷ 1 ∷ 0 ∷ 0 ∷ 0 ∷ 0 ∷ 0 ∷ 0 ∷ 0 ∷ 0 ∷ 0 ∷ []

-- the file's header: e_ident; e_type 2 (executable), e_machine 243 (RISC-V), e_version 1, e_entry,
-- e_phoff, e_shoff, e_flags, e_ehsize, e_phentsize, e_phnum, e_shentsize, e_shnum, e_shstrndx
unfoldable pub file_header : Parts → List ℕ
file_header parts =
    identification ++ flat_map half_bytes (2 ∷ 243 ∷ [])
    ++ flat_map word_bytes (1 ∷ parts.entry ∷ 52 ∷ sections_offset parts ∷ parts.flags ∷ [])
    ++ flat_map half_bytes (52 ∷ 32 ∷ 2 ∷ 40 ∷ 6 ∷ 5 ∷ [])

-- the segment of the text: PT_LOAD (1), with flags 5 (read and execute)
abbrev pub text_segment : Parts → ProgramHeader
text_segment parts = record { kind = 1; offset = text_offset; address = parts.text_at; physical = parts.text_at; file_size = length parts.text; memory_size = length parts.text; flags = 5; align = 4 }

-- the segment of the data: PT_LOAD, with flags 6 (read and write); the zeros are in memory alone
abbrev pub data_segment : Parts → ProgramHeader
data_segment parts = record { kind = 1; offset = data_offset parts; address = parts.data_at; physical = parts.data_at; file_size = length parts.data_bytes; memory_size = length parts.data_bytes + parts.zero; flags = 6; align = 4 }

-- the eight words of a program header
abbrev pub segment_bytes : ProgramHeader → List ℕ
segment_bytes header =
    flat_map word_bytes (header.kind ∷ header.offset ∷ header.address ∷ header.physical ∷ header.file_size ∷ header.memory_size ∷ header.flags ∷ header.align ∷ [])

-- the program headers
unfoldable pub program_headers : Parts → List ℕ
program_headers parts = segment_bytes (text_segment parts) ++ segment_bytes (data_segment parts)

-- a place and its address: object, section, offset, address
abbrev pub place_bytes : Place × ℕ → List ℕ
place_bytes entry =
    half_bytes entry.0.object ++ half_bytes entry.0.section ++ word_bytes entry.0.offset ++ word_bytes entry.1

-- the names of the sections, each ended by a zero, after the empty name
abbrev pub shstrtab_content : List ℕ
shstrtab_content =
    0 ∷ [] ++ codes ".text" ++ 0 ∷ [] ++ codes ".data" ++ 0 ∷ [] ++ codes ".bss" ++ 0 ∷ [] ++ codes ".zcld.places" ++ 0 ∷ [] ++ codes ".shstrtab" ++ 0 ∷ []

-- section 0: NULL
abbrev pub null_section : SectionHeader
null_section = record { name = 0; kind = 0; flags = 0; address = 0; offset = 0; size = 0; link = 0; info = 0; align = 0; entry_size = 0 }

-- section 1, .text: PROGBITS, with ALLOC and EXECINSTR
abbrev pub text_section : Parts → SectionHeader
text_section parts = record { name = 1; kind = 1; flags = 6; address = parts.text_at; offset = text_offset; size = length parts.text; link = 0; info = 0; align = 4; entry_size = 0 }

-- section 2, .data: PROGBITS, with WRITE and ALLOC
abbrev pub data_section : Parts → SectionHeader
data_section parts = record { name = 7; kind = 1; flags = 3; address = parts.data_at; offset = data_offset parts; size = length parts.data_bytes; link = 0; info = 0; align = 4; entry_size = 0 }

-- section 3, .bss: NOBITS, with WRITE and ALLOC, where the data's file bytes end
abbrev pub bss_section : Parts → SectionHeader
bss_section parts = record { name = 13; kind = 8; flags = 3; address = parts.data_at + length parts.data_bytes; offset = data_offset parts + length parts.data_bytes; size = parts.zero; link = 0; info = 0; align = 4; entry_size = 0 }

-- section 4, .zcld.places: PROGBITS, no part of the program's memory
abbrev pub places_section : Parts → SectionHeader
places_section parts = record { name = 18; kind = 1; flags = 0; address = 0; offset = places_offset parts; size = 12 * length parts.places; link = 0; info = 0; align = 4; entry_size = 0 }

-- section 5, .shstrtab: STRTAB, the names
abbrev pub shstrtab_header : Parts → SectionHeader
shstrtab_header parts = record { name = 31; kind = 3; flags = 0; address = 0; offset = names_offset parts; size = length shstrtab_content; link = 0; info = 0; align = 1; entry_size = 0 }

-- the ten words of a section header
abbrev pub section_bytes : SectionHeader → List ℕ
section_bytes header =
    flat_map word_bytes (header.name ∷ header.kind ∷ header.flags ∷ header.address ∷ header.offset ∷ header.size ∷ header.link ∷ header.info ∷ header.align ∷ header.entry_size ∷ [])

-- the sections, in order
abbrev pub sections_of : Parts → List SectionHeader
sections_of parts =
    null_section ∷ text_section parts ∷ data_section parts ∷ bss_section parts ∷ places_section parts ∷ shstrtab_header parts ∷ []

-- the section headers
unfoldable pub section_headers : Parts → List ℕ
section_headers parts = flat_map section_bytes (sections_of parts)

-- the file
unfoldable pub image_bytes : Parts → List ℕ
image_bytes parts =
    file_header parts ++ program_headers parts ++ padded parts.text ++ padded parts.data_bytes ++ flat_map place_bytes parts.places ++ padded shstrtab_content ++ section_headers parts
