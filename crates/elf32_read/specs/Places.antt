-- The places that an image lists: its section .zcld.places, of entries of twelve bytes.
use Rattle.std.specs.Prelude.{ℕ, ◌+◌, ◌*◌, ◌/◌, Bool, true, ◌&&◌, ◌||◌, nat_lt, List, [], ◌∷◌, length, map, filter, codes}
use Rattle.std.specs.List.{flat_map, range_with_len}
use Rattle.zc_base.specs.Fields.{half_in, word_in}
use Rattle.zc_base.specs.declared.mem_map.MemMap.{MemMap}
use Rattle.zc_base.specs.declared.place.Place.{Place}
use Rattle.zc_base.specs.Places.{is_before}
use Rattle.elf32_read.specs.Header.{content_of, headers_of}
use Rattle.elf32_read.specs.Names.{is_name_at, section_names}
use Rattle.elf32_read.specs.declared.header.SectionHeader.{SectionHeader}

-- the sections named .zcld.places, in order
unfoldable pub places_sections : List ℕ → List SectionHeader
places_sections bytes = filter (λ header. is_name_at (codes ".zcld.places") (section_names bytes) header.name) (headers_of bytes)

-- an entry: a half for the object, a half for the section, a word for the offset, and a word for
-- the address
unfoldable pub place_entry_at : List ℕ → ℕ → Place × ℕ
place_entry_at content i =
    (record { object = half_in content (12 * i); section = half_in content (12 * i + 2); offset = word_in content (12 * i + 4) }, word_in content (12 * i + 8))

-- the entries of a section
abbrev pub entries_of : List ℕ → List (Place × ℕ)
entries_of content = map (place_entry_at content) (range_with_len 0 (length content / 12))

-- the places that the image lists, each with its address; an empty list if it has no such section
abbrev pub place_list : List ℕ → List (Place × ℕ)
place_list bytes = flat_map (λ header. entries_of (content_of bytes header)) (places_sections bytes)

-- each place comes before the next
abbrev pub is_ascending : List (Place × ℕ) → Bool
is_ascending [] = true
is_ascending (entry ∷ []) = true
is_ascending (entry ∷ next ∷ entries) = is_before entry.0 next.0 && is_ascending (next ∷ entries)

-- the address is outside the region for code, whose end is allowed
abbrev pub is_outside : MemMap → Place × ℕ → Bool
is_outside memory entry = nat_lt entry.1 memory.text || nat_lt memory.data_low entry.1
