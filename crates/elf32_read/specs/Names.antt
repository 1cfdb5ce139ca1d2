-- Names in tables of strings (System V gABI, "String Table"): each begins at an offset, and the next zero ends it.
use Rattle.std.specs.Prelude.{ℕ, Bool, not, ◌||◌, ◌==◌, nat_eq, nat_le, if◌then◌else◌, List, [], ◌∷◌, ◌++◌, drop}
use Rattle.std.specs.List.{list_any, starts_with, take_while}
use Rattle.elf32_read.specs.Header.{content_of, header_of, name_section, section_count}
use Rattle.elf32_read.specs.declared.header.SectionHeader.{SectionHeader}

-- from this offset on, the table has a zero
abbrev pub has_end : List ℕ → ℕ → Bool
has_end table at = list_any (λ byte. byte == 0) (drop at table)

-- the name that begins at this offset
abbrev pub name_at : List ℕ → ℕ → List ℕ
name_at table at = take_while (λ byte. not (byte == 0)) (drop at table)

-- at this offset begins exactly this name
abbrev pub is_name_at : List ℕ → List ℕ → ℕ → Bool
is_name_at name table at = starts_with nat_eq (drop at table) (name ++ 0 ∷ [])

-- there is no section with this index, or it is no STRTAB (3)
abbrev pub lacks_strings : List ℕ → ℕ → Bool
lacks_strings bytes i = nat_le (section_count bytes) i || not ((header_of bytes i).kind == 3)

-- the string table with this section index; empty if that section is no string table
abbrev pub strings_of : List ℕ → ℕ → List ℕ
strings_of bytes i = if lacks_strings bytes i then [] else content_of bytes (header_of bytes i)

-- the names of the sections: e_shstrndx is the index of their table
abbrev pub section_names : List ℕ → List ℕ
section_names bytes = strings_of bytes (name_section bytes)

-- the section's name has no end
abbrev pub is_unnamed_section : List ℕ → SectionHeader → Bool
is_unnamed_section bytes h = not (has_end (section_names bytes) h.name)
