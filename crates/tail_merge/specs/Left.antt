-- How much is left of each section.
use Rattle.std.specs.Prelude.{if◌then◌else◌, List, map}
use Rattle.elf32_read.specs.Parts.{is_kept_section}
use Rattle.psabi_sym.specs.Indexed.{IndexedSection, all_sections}
use Rattle.psabi_sym.specs.Inputs.{ParsedInputs}
use Rattle.object_passes.specs.Rooms.{counts_of}
use Rattle.object_passes.specs.declared.section_room.LeftSection.{LeftSection}
use Rattle.tail_merge.specs.Merged.{merged_section}

-- how many bytes and relocations are left of a section: none of one that is dropped
abbrev pub merged_left : ParsedInputs → IndexedSection → LeftSection
merged_left inputs l =
    if is_kept_section l.section then counts_of (merged_section inputs l.object l.index l.section)
    else record { bytes = 0; relocs = 0 }

-- the same of all sections
abbrev pub all_merged_left : ParsedInputs → List LeftSection
all_merged_left inputs = map (merged_left inputs) (all_sections inputs.objects)
