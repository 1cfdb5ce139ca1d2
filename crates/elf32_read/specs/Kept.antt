-- Sections that a program keeps in memory: all others are dropped (System V gABI, "Sections").
use Rattle.std.specs.Prelude.{ℕ, Bool, not, ◌&&◌, ◌==◌, List, bit_and, codes}
use Rattle.elf32_read.specs.Names.{is_name_at, section_names}
use Rattle.elf32_read.specs.declared.header.SectionHeader.{SectionHeader}

-- all of these bits are among the flags
abbrev pub has_flags : ℕ → ℕ → Bool
has_flags bits flags = bit_and flags bits == bits

-- the section has ALLOC (2), and isn't .eh_frame, the table for unwinding the stack
abbrev pub is_kept : List ℕ → SectionHeader → Bool
is_kept bytes h = has_flags 2 h.flags && not (is_name_at (codes ".eh_frame") (section_names bytes) h.name)

-- a kept section with EXECINSTR (4)
abbrev pub is_kept_code : List ℕ → SectionHeader → Bool
is_kept_code bytes h = is_kept bytes h && has_flags 4 h.flags
