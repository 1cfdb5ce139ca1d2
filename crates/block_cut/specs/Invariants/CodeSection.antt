-- Sections of code whose relocations are resolved and whose places are numbered.
use Rattle.std.specs.Prelude.{◌≡◌, ℕ, ◌+◌, ◌/◌, List, None, Some, length, true}
use Rattle.std.specs.List.{find}
use Rattle.elf32_read.specs.Parts.{is_code_section}
use Rattle.psabi_sym.specs.Faults.{gather_fault}
use Rattle.psabi_sym.specs.Inputs.{Inputs, ParsedInputs, parsed}
use Rattle.psabi_sym.specs.Indexed.{IndexedSection, section_at}
use Rattle.block_cut.specs.Instrs.{CodeBytes}
use Rattle.block_cut.specs.Items.{starts_on}
use Rattle.block_cut.specs.Invariants.HalfwordTables.{HasRoom, IsRelocTable, by_halfword, number_on}
use Rattle.block_cut.specs.Resolved.{is_right_at, resolved_relocs}
use Rattle.block_cut.specs.Whole.{IsWhole}
use Rattle.block_cut.specs.declared.resolved_reloc.ResolvedReloc.{ResolvedReloc}

-- a section of code of inputs without a fault between them
pub record IsCodeOf (inputs : Inputs) (l : IndexedSection) : Type 0 where
  pub faultless : gather_fault inputs ≡ None
  pub found : section_at (parsed inputs).objects l.object l.index ≡ Some l.section
  pub is_code : is_code_section l.section ≡ true

-- a section with its relocations that ask for something, resolved
pub record ResolvedSection : Type 0 where
  pub section : IndexedSection
  pub relocs : List ResolvedReloc

-- this section, with what its relocations resolve to in these inputs
abbrev pub resolved_section : ParsedInputs → IndexedSection → ResolvedSection
resolved_section inputs l = record { section = l; relocs = resolved_relocs inputs l }

-- the content of a resolved section of code, and for each halfword the numbers of the relocation and of the place there
pub record IsNumberedCode (resolved : ResolvedSection) (content : CodeBytes) (reloc_numbers place_numbers : List ℕ) : Type 0 where
  pub is_code : is_code_section resolved.section.section ≡ true
  pub whole : IsWhole resolved.section.section
  pub bytes_are : content.bytes ≡ resolved.section.section.bytes
  pub compressed_is : content.compressed ≡ resolved.section.section.compressed
  pub relocs_are : IsRelocTable resolved.relocs (length resolved.section.section.bytes / 2 + 1) reloc_numbers
  pub places_are : place_numbers ≡ by_halfword (number_on resolved.section.section) resolved.section.section
  -- the section has the bytes that say which item starts at an offset
  pub rooms : (n : ℕ) → starts_on resolved.section.section n ≡ true → HasRoom content n (find (is_right_at n) resolved.relocs)
