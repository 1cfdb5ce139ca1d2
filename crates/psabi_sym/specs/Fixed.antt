-- Sections of code that stay as they were compiled: the ones that a link is given names of.
use Rattle.std.specs.Prelude.{ℕ, Bool, false, ◌&&◌, List}
use Rattle.std.specs.List.{list_any}
use Rattle.std.specs.Option.{option_map_or}
use Rattle.elf32_read.specs.Parts.{SectionParts, is_code_section}
use Rattle.psabi_sym.specs.Data.{is_of_kin}
use Rattle.psabi_sym.specs.Indexed.{section_at}
use Rattle.psabi_sym.specs.Inputs.{ParsedInputs}

-- a section of code is fixed: it has one of these names, or one that begins with it and a dot
abbrev pub is_fixed : List (List ℕ) → SectionParts → Bool
is_fixed names s = is_code_section s && list_any (λ name. is_of_kin name s.name) names

-- the same of a section by its object's index and its own
abbrev pub is_fixed_at : ParsedInputs → ℕ → ℕ → Bool
is_fixed_at inputs o i = option_map_or (is_fixed inputs.fixed) (section_at inputs.objects o i) false
