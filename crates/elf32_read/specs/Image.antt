-- Images by their bytes (System V gABI, "ELF Header", "Sections" and "Program Header"): each fault by
-- its test.
use Rattle.std.specs.Prelude.{◌≡◌, ◌≤◌, None, ℕ, ◌+◌, ◌*◌, ◌%◌, Bool, false, not, ◌&&◌, ◌||◌, ◌==◌, nat_lt, List, [], ◌∷◌, length, bit_and, Option}
use Rattle.std.specs.List.{list_any}
use Rattle.zc_base.specs.Fields.{half_in}
use Rattle.zc_base.specs.declared.mem_map.MemMap.{MemMap}
use Rattle.elf32_read.specs.Header.{are_known_flags, begins_as, content_of, entry_address, file_flags, has_other_section_headers, headers_of, is_empty_kind, name_section, program_count, program_table, section_count}
use Rattle.elf32_read.specs.declared.header.ProgramHeader.{ProgramHeader}
use Rattle.elf32_read.specs.declared.header.SectionHeader.{SectionHeader}
use Rattle.elf32_read.specs.Names.{is_unnamed_section, lacks_strings}
use Rattle.elf32_read.specs.Object.{truncated}
use Rattle.elf32_read.specs.Places.{places_sections, place_list, entries_of, is_ascending, is_outside}
use Rattle.elf32_read.specs.Rows.{first_of}
use Rattle.elf32_read.specs.Segments.{is_code, is_entry_of, is_in_place, loads_of, overlap_in_memory}
use Rattle.elf32_read.specs.declared.image_fault.ImageFault.{ImageFault}
use Rattle.elf32_read.specs.declared.image_fault.ImageFault.TheVariants.{NotElf, Truncated, BadSegment, BadPlaces, TooLarge}

-- the file is shorter than its header, isn't an executable RISC-V file (type 2) with known flags, or has program
-- headers whose size isn't 32 bytes (e_phentsize), or section headers whose size isn't 40
abbrev pub not_image : List ℕ → Bool
not_image bytes =
    nat_lt (length bytes) 52 || not (begins_as 2 bytes) || not (are_known_flags (file_flags bytes))
    || (not (program_count bytes == 0) && not (half_in bytes 42 == 32)) || has_other_section_headers bytes

-- the program headers, the section headers, the content of a section or the bytes of a segment pass the end of the file
abbrev pub image_truncated : List ℕ → Bool
image_truncated bytes =
    nat_lt (length bytes) (program_table bytes + 32 * program_count bytes) || truncated bytes
    || list_any (λ header. nat_lt (length bytes) (header.offset + header.file_size)) (loads_of bytes)

-- a segment that is longer in the file than in memory, has writable code, PF_W (2), or lies outside the region for its
-- kind
abbrev pub is_bad_load : MemMap → ProgramHeader → Bool
is_bad_load memory header =
    nat_lt header.memory_size header.file_size || (is_code header && bit_and header.flags 2 == 2) || not (is_in_place memory header)

-- two of these segments overlap
abbrev pub some_overlap : List ProgramHeader → Bool
some_overlap [] = false
some_overlap (header ∷ headers) = list_any (overlap_in_memory header) headers || some_overlap headers

-- there are more than 16 segments, a bad one, or two that overlap; or the entry address is odd, or neither inside the
-- bytes of a code segment nor at their end
abbrev pub bad_segments : List ℕ → MemMap → Bool
bad_segments bytes memory =
    nat_lt 16 (length (loads_of bytes)) || list_any (is_bad_load memory) (loads_of bytes) || some_overlap (loads_of bytes)
    || entry_address bytes % 2 == 1 || not (list_any (is_entry_of (entry_address bytes)) (loads_of bytes))

-- a section of places that has no content in the file, ends inside an entry, is out of order, or has an address below text or
-- above where data begins
abbrev pub is_bad_section : List ℕ → MemMap → SectionHeader → Bool
is_bad_section bytes memory header =
    let entries = entries_of (content_of bytes header) in
    is_empty_kind header.kind || not (header.size % 12 == 0) || not (is_ascending entries) || list_any (is_outside memory) entries

-- there are sections, but no table of their names, or a name in it has no end, or there are two lists of places or a
-- bad one
abbrev pub bad_places : List ℕ → MemMap → Bool
bad_places bytes memory =
    not (section_count bytes == 0)
    && (lacks_strings bytes (name_section bytes) || list_any (is_unnamed_section bytes) (headers_of bytes)
    || nat_lt 1 (length (places_sections bytes)) || list_any (is_bad_section bytes memory) (places_sections bytes))

-- the first fault of an image's bytes under a memory map, if there is one; an image has at most 8 MiB
unfoldable pub image_fault : List ℕ → MemMap → Option ImageFault
image_fault bytes memory = first_of (
    (nat_lt 0x80_0000 (length bytes), TooLarge) ∷ (not_image bytes, NotElf) ∷ (image_truncated bytes, Truncated)
    ∷ (bad_segments bytes memory, BadSegment) ∷ (bad_places bytes memory, BadPlaces) ∷ [])

-- an image without a fault, with the program headers that load its segments and the entries of its
-- list of places
pub record IsReadImage (bytes : List ℕ) (memory : MemMap) (loads : List ProgramHeader) (entries : List ℕ) : Type 0 where
  pub faultless : image_fault bytes memory ≡ None
  pub loads_read : loads ≡ loads_of bytes
  pub entries_within : length entries ≤ length bytes
  pub places_read : entries_of entries ≡ place_list bytes
