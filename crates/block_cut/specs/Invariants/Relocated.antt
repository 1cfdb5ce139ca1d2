-- A section with what its relocations change, as the code holds it.
use Rattle.std.specs.Prelude.{◌≡◌, List, true, false, length}
use Rattle.elf32_read.specs.Parts.{is_code_section}
use Rattle.elf32_read.specs.declared.reloc.Reloc.{Reloc}
use Rattle.psabi_sym.specs.Indexed.{IndexedSection}
use Rattle.block_cut.specs.Invariants.Fields.{AreFields}
use Rattle.block_cut.specs.Instrs.{instrs_in}
use Rattle.block_cut.specs.declared.relocated.Relocated.{Relocated}

-- `relocated` holds this section; of code the file has all bytes, and the words are decoded unless the object is compressed
pub record IsRelocated (l : IndexedSection) (relocated : Relocated) : Type 0 where
  pub object : relocated.object ≡ l.object
  pub index : relocated.index ≡ l.index
  pub code : relocated.is_code ≡ is_code_section l.section
  pub size : relocated.size ≡ l.section.size
  pub bytes : relocated.bytes.now ≡ l.section.bytes
  pub compressed : relocated.is_compressed ≡ l.section.compressed
  pub words : relocated.is_code ≡ true → relocated.is_compressed ≡ false → relocated.words.now ≡ instrs_in l.section.bytes
  pub fields : AreFields l.section.relocs relocated.fields
  pub whole : relocated.is_code ≡ true → length l.section.bytes ≡ l.section.size

-- a section with these relocations in place of its own
abbrev pub with_relocs : List Reloc → IndexedSection → IndexedSection
with_relocs relocs l = record l { section = record l.section { relocs = relocs } }
