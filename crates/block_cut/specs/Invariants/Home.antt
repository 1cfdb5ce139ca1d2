-- Sections whose items are walked over.
use Rattle.std.specs.Prelude.{◌≡◌, Some, None}
use Rattle.psabi_sym.specs.Faults.{gather_fault}
use Rattle.psabi_sym.specs.Fixed.{is_fixed_at}
use Rattle.psabi_sym.specs.Inputs.{ParsedInputs, parsed}
use Rattle.psabi_sym.specs.Indexed.{section_at}
use Rattle.block_cut.specs.Items.{place_of}
use Rattle.block_cut.specs.Invariants.Led.{section_number}
use Rattle.block_cut.specs.declared.item_leads.Home.{Home}
use Rattle.psabi_sym.specs.declared.section_row.SectionRow.{SectionRow}
use Rattle.zc_base.specs.declared.place.Place.{Place}

-- `home` is a section of objects without a fault between them, with its number among all
pub record IsHome (home : Home) : Type 0 where
  pub gathered : gather_fault home.objects.now ≡ None
  pub found : section_at (parsed home.objects.now).objects home.section.now.object home.section.now.index ≡ Some home.section.now.section
  pub number_is : section_number (parsed home.objects.now).objects (place_of home.section.now 0) ≡ Some home.number

-- the row is that of the section in which a place lies
pub record IsRowOf (inputs : ParsedInputs) (q : Place) (row : SectionRow) : Type 0 where
  pub object : row.object ≡ q.object
  pub index : row.index ≡ q.section
  pub fixed : row.fixed ≡ is_fixed_at inputs q.object q.section
