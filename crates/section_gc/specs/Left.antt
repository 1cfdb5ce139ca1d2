-- How much is left of each section.
use Rattle.std.specs.Prelude.{ℕ, Bool, if◌then◌else◌, List, map}
use Rattle.elf32_read.specs.Parts.{is_kept_section}
use Rattle.psabi_sym.specs.Indexed.{IndexedSection, all_sections}
use Rattle.psabi_sym.specs.Inputs.{ParsedInputs}
use Rattle.object_passes.specs.Rooms.{counts_of}
use Rattle.object_passes.specs.declared.section_room.LeftSection.{LeftSection}
use Rattle.section_gc.specs.Cleaned.{cleaned_section}

-- how many bytes and relocations are left of a section: none of one that is dropped
abbrev pub cleaned_left : (ℕ → ℕ → Bool) → IndexedSection → LeftSection
cleaned_left needed l =
    if is_kept_section l.section then counts_of (cleaned_section (needed l.object l.index) l.section)
    else record { bytes = 0; relocs = 0 }

-- the same of all sections
abbrev pub all_left : (ℕ → ℕ → Bool) → ParsedInputs → List LeftSection
all_left needed inputs = map (cleaned_left needed) (all_sections inputs.objects)
