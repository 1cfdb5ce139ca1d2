-- Short names for tests of headers that the definitions write out.
use Rattle.std.specs.Prelude.{ℕ, ◌+◌, Bool, ◌&&◌, ◌==◌, nat_lt, List, length, codes}
use Rattle.elf32_read.specs.Names.{is_name_at, section_names}
use Rattle.elf32_read.specs.declared.header.ProgramHeader.{ProgramHeader}
use Rattle.elf32_read.specs.declared.header.SectionHeader.{SectionHeader}

-- a segment's bytes pass the end of the file
abbrev pub load_passes_end : List ℕ → ProgramHeader → Bool
load_passes_end bytes header = nat_lt (length bytes) (header.offset + header.file_size)

-- the section is named .zcld.places
abbrev pub holds_places : List ℕ → SectionHeader → Bool
holds_places bytes header = is_name_at (codes ".zcld.places") (section_names bytes) header.name

-- the section has relocations of the section with this index
abbrev pub changes : ℕ → SectionHeader → Bool
changes i h = h.kind == 4 && h.info == i

-- the section has symbols
abbrev pub has_symbols : SectionHeader → Bool
has_symbols h = h.kind == 2
