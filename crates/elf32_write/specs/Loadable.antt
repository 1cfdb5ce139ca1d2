-- Parts whose file a loader takes as it was meant.
use Rattle.std.specs.Prelude.{◌≡◌, ℕ, ◌+◌, ◌%◌, ◌^◌, ◌<◌, ◌≤◌, true, false, List, [], ◌∷◌, length, All, None}
use Rattle.std.specs.List.{list_any}
use Rattle.zc_base.specs.MemMap.{data_limit}
use Rattle.zc_base.specs.declared.mem_map.MemMap.{MemMap}
use Rattle.zc_base.specs.declared.place.Place.{Place}
use Rattle.elf32_read.specs.Header.{are_known_flags, entry_address, file_flags}
use Rattle.elf32_read.specs.Image.{image_fault}
use Rattle.elf32_read.specs.Places.{is_ascending, is_outside, place_list}
use Rattle.elf32_read.specs.Segments.{SegmentData, segments_of}
use Rattle.elf32_write.specs.Image.{sections_offset}
use Rattle.elf32_write.specs.Parts.{Parts}

-- the numbers of a place and its address have room in their halves and words
pub record IsPlaceEntry (entry : Place × ℕ) : Type 0 where
  pub object : entry.0.object < 2 ^ 16
  pub section : entry.0.section < 2 ^ 16
  pub offset : entry.0.offset < 2 ^ 32
  pub address : entry.1 < 2 ^ 32

-- under this memory map the text, the data, the entry and the places lie where they may, and the
-- file with its section headers has at most 8 MiB
pub record IsLoadable (parts : Parts) (memory : MemMap) : Type 0 where
  pub text_at : parts.text_at ≡ memory.text
  pub data_at : parts.data_at ≡ memory.data_low
  pub words : parts.data_at < 2 ^ 32
  pub file : sections_offset parts + 240 ≤ 0x80_0000
  pub flags : are_known_flags parts.flags ≡ true
  pub text : parts.text_at + length parts.text ≤ parts.data_at
  pub data_memory : length parts.data_bytes + parts.zero ≤ data_limit memory
  pub entry_even : parts.entry % 2 ≡ 0
  pub entry_low : parts.text_at ≤ parts.entry
  pub entry_high : parts.entry ≤ parts.text_at + length parts.text
  pub entries : All IsPlaceEntry parts.places
  pub ascending : is_ascending parts.places ≡ true
  pub inside : list_any (is_outside memory) parts.places ≡ false

-- the text, and the data with its zeros
abbrev pub segments : Parts → List SegmentData
segments parts =
    record { at = parts.text_at; size = length parts.text; code = true; bytes = parts.text }
    ∷ record { at = parts.data_at; size = length parts.data_bytes + parts.zero; code = false; bytes = parts.data_bytes }
    ∷ []

-- under this memory map the file is an image without a fault, of these parts
pub record ReadsBack (parts : Parts) (memory : MemMap) (file : List ℕ) : Type 0 where
  pub faultless : image_fault file memory ≡ None
  pub entry : entry_address file ≡ parts.entry
  pub flags : file_flags file ≡ parts.flags
  pub segments_back : segments_of file ≡ segments parts
  pub places : place_list file ≡ parts.places
