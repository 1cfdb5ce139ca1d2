-- What the code keeps of a section: the numbers of its places by halfwords, and these places.
use Rattle.std.specs.Prelude.{ℕ, List, []}
use Rattle.psabi_sym.specs.Inputs.{ParsedInputs}
use Rattle.psabi_sym.specs.Indexed.{IndexedSection}
use Rattle.block_cut.specs.Places.{code_places}
use Rattle.block_cut.specs.Invariants.HalfwordTables.{numbers_of_section}
use Rattle.block_cut.specs.declared.code_place.CodePlace.{CodePlace}

-- what is kept of a section
pub record SectionTables : Type 0 where
  pub numbers : List ℕ
  pub places : List CodePlace

-- what stands for those of a section that isn't there
abbrev pub no_tables : SectionTables
no_tables = record { numbers = []; places = [] }

-- the numbers of its places, and these
unfoldable pub section_tables : ParsedInputs → IndexedSection → SectionTables
section_tables inputs l = record { numbers = numbers_of_section l.section; places = code_places inputs l }
