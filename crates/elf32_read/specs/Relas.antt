-- The section that holds the relocations for a given section.
use Rattle.std.specs.Prelude.{◌≡◌, ◌<◌, ℕ, List, [], Option, MatchOption}
use Rattle.elf32_read.specs.Header.{header_of, section_count}
use Rattle.elf32_read.specs.Parts.{relocs_held, relocs_of}

-- the section with index `rela` holds all relocations of a section; `None` if the section has no relocations
abbrev pub IsRelaOf : List ℕ → ℕ → Option ℕ → Type 0
IsRelaOf file section rela =
    MatchOption rela (relocs_of file section ≡ []) (λ r. (r < section_count file) × (relocs_of file section ≡ relocs_held file (header_of file r)))
