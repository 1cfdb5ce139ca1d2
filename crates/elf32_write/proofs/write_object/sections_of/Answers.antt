-- The last section is added to those before it.
use Rattle.std.proofs.Common.{◌++◌, [], ◌∷◌, List, codes, ap, ◌∙◌, subst}
use Rattle.elf32_read.specs.Parts.{SectionParts, SymbolParts}
use Rattle.elf32_write.specs.FileSections.{file_sections, strtab_section}
use Rattle.elf32_write.specs.SectionTable.{HoldsSections, last_section, with_names}
use Rattle.elf32_write.specs.declared.section_table.SectionTable.{SectionTable}
use Rattle.elf32_write.proofs.Stages.{names_so_far, room_last_section, stages}
use Rattle.elf32_write.proofs.write_object.sections_of.Goals as goal

-- the names of the sections, with which all are there
all_held : (xs : List SectionParts) (ys : List SymbolParts) (table : SectionTable) → HoldsSections (with_names xs ys ++ last_section (with_names xs ys) ∷ []) table → HoldsSections (file_sections xs ys) table
all_held xs ys table held =
    subst (λ l. HoldsSections l table) (ap (λ names. with_names xs ys ++ strtab_section (codes ".shstrtab") names ∷ []) (names_so_far xs ys) ∙ stages xs ys) held

pub add_names-requires : goal.add_names-requires
add_names-requires c = room_last_section c.args.sections.now c.args.symbols.now _ c.in_ok-table.ensures.held c.requires.room

pub returns-clause-held : goal.returns-clause-held
returns-clause-held c =
    let xs = c.args.sections.now in
    let ys = c.args.symbols.now in
    all_held xs ys _ (c.in_ok-add_names.ensures (with_names xs ys) c.in_ok-table.ensures.held)
