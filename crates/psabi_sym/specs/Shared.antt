-- Sections of data that bear the name `.shared`, and where they lie in memory.
use Rattle.std.specs.Prelude.{ℕ, Bool, if◌then◌else◌, codes, List, Option, None}
use Rattle.std.specs.List.{filter_map}
use Rattle.std.specs.Option.{option_map}
use Rattle.elf32_read.specs.Parts.{SectionParts}
use Rattle.psabi_sym.specs.Data.{data_address}
use Rattle.psabi_sym.specs.Indexed.{IndexedSection, all_sections}
use Rattle.psabi_sym.specs.Inputs.{ParsedInputs}
use Rattle.psabi_sym.specs.Names.{same_name}

-- the name of a section is exactly this
abbrev pub is_named_shared : SectionParts → Bool
is_named_shared s = same_name s.name (codes ".shared")

-- the address and size of a section of this name; none if it has no address, so code and what is dropped aren't shared
abbrev pub shared_range : ParsedInputs → IndexedSection → Option (ℕ × ℕ)
shared_range inputs l =
    if is_named_shared l.section then option_map (λ at. (at, l.section.size)) (data_address inputs l.object l.index) else None

-- the address and size of each shared section, by object and section
abbrev pub shared_ranges : ParsedInputs → List (ℕ × ℕ)
shared_ranges inputs = filter_map (shared_range inputs) (all_sections inputs.objects)
