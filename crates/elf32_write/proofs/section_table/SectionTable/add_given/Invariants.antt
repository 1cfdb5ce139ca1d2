use Rattle.std.proofs.Common.{All, map, take}
use Rattle.elf32_write.specs.FileSections.{given_section}
use Rattle.elf32_write.specs.Ranges.{IsSectionSized}
use Rattle.elf32_write.specs.SectionTable.{HoldsSections}
use Rattle.elf32_write.proofs.section_table.SectionTable.add_given.Given as goal

abbrev pub invariant-loop-section : goal.invariant-loop-section
invariant-loop-section l =
    HoldsSections (map given_section (take l.section-index l.sections)) l.self × All IsSectionSized (take l.section-index l.sections)
