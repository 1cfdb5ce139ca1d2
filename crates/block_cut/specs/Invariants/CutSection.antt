-- A section whose code is cut.
use Rattle.std.specs.Prelude.{◌≡◌, ℕ, Some, None}
use Rattle.zc_base.specs.MemMap.{IsMap}
use Rattle.psabi_sym.specs.Faults.{gather_fault}
use Rattle.psabi_sym.specs.Inputs.{Inputs, ParsedInputs, parsed}
use Rattle.psabi_sym.specs.Indexed.{IndexedSection, section_at, sections_before}
use Rattle.block_cut.specs.PlainLayout.{plain_end_of}
use Rattle.block_cut.specs.Resolved.{code_relocs}
use Rattle.block_cut.specs.Invariants.SectionItems.{section_tables}
use Rattle.block_cut.specs.declared.section_items.CutSection.{CutSection}

-- a section of inputs without a fault between them, where the code before it ends at an address
pub record IsSectionAfter (inputs : Inputs) (l : IndexedSection) (address : ℕ) : Type 0 where
  pub faultless : gather_fault inputs ≡ None
  pub is_map : IsMap inputs.map
  pub section : section_at (parsed inputs).objects l.object l.index ≡ Some l.section
  pub end : address ≡ plain_end_of (parsed inputs) (sections_before (parsed inputs).objects l.object l.index)

-- `cut` is this section, with its relocations if it is code
pub record IsCutSection (inputs : ParsedInputs) (l : IndexedSection) (cut : CutSection) : Type 0 where
  pub text_is : cut.text ≡ section_tables inputs l
  pub relocs_are : cut.relocs.items ≡ code_relocs inputs l
