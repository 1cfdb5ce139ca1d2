-- What the code keeps of all sections, by their numbers.
use Rattle.std.specs.Prelude.{◌≡◌, List, length, map}
use Rattle.std.specs.List.{flat_map}
use Rattle.psabi_sym.specs.Inputs.{ParsedInputs}
use Rattle.psabi_sym.specs.Indexed.{IndexedSection, all_sections}
use Rattle.block_cut.specs.Items.{items_in}
use Rattle.block_cut.specs.PlainLayout.{plain_end_of}
use Rattle.block_cut.specs.Invariants.SectionItems.{section_tables}
use Rattle.block_cut.specs.declared.code_span.CodeSpan.{CodeSpan}
use Rattle.block_cut.specs.declared.code_tables.CodeTables.{CodeTables}

-- these sections' code ends here, and has this number of items
pub record IsCodeSpan (inputs : ParsedInputs) (sections : List IndexedSection) (span : CodeSpan) : Type 0 where
  pub end_is : span.end ≡ plain_end_of inputs sections
  pub count_is : span.count ≡ length (flat_map (items_in inputs) sections)

-- the tables are those of all sections
pub record AreCodeTables (inputs : ParsedInputs) (tables : CodeTables) : Type 0 where
  pub sections : tables.sections.items ≡ map (section_tables inputs) (all_sections inputs.objects)
  pub span : IsCodeSpan inputs (all_sections inputs.objects) tables.span
