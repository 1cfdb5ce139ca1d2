use Rattle.std.proofs.Common.{◌++◌, All, map, take}
use Rattle.elf32_write.specs.FileSections.{given_section, rela_section, relocated}
use Rattle.elf32_write.specs.Ranges.{IsRelocSized}
use Rattle.elf32_write.specs.SectionTable.{HoldsSections}
use Rattle.elf32_write.proofs.section_table.SectionTable.add_relas.Given as goal

abbrev pub invariant-loop-i : goal.invariant-loop-i
invariant-loop-i l =
    HoldsSections (map given_section l.sections ++ map (rela_section l.symtab) (relocated (take l.i l.sections))) l.self
    × All (λ s. All IsRelocSized s.relocs) (take l.i l.sections)
