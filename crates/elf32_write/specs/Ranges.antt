-- Numbers of an object's parts that have room in their fields.
use Rattle.std.specs.Prelude.{◌^◌, ◌<◌, List, All, FitsSigned}
use Rattle.std.specs.Int.{w32}
use Rattle.elf32_read.specs.Parts.{SectionParts, SymbolParts}
use Rattle.elf32_read.specs.declared.header.SectionHeader.{SectionHeader}
use Rattle.elf32_read.specs.declared.reloc.Reloc.{Reloc}
use Rattle.elf32_read.specs.declared.symbol_entry.SymbolEntry.{SymbolEntry}

-- a header's numbers that are given have room in words
pub record IsHeaderSized (h : SectionHeader) : Type 0 where
  pub kind : h.kind < 2 ^ 32
  pub flags : h.flags < 2 ^ 32
  pub align : h.align < 2 ^ 32
  pub size : h.size < 2 ^ 32

-- a section's numbers have room in words
pub record IsSectionSized (s : SectionParts) : Type 0 where
  pub kind : s.kind < 2 ^ 32
  pub flags : s.flags < 2 ^ 32
  pub align : s.align < 2 ^ 32
  pub size : s.size < 2 ^ 32

-- a relocation's offset and addend have room in words, and its type in a byte
pub record IsRelocSized (r : Reloc) : Type 0 where
  pub offset : r.offset < 2 ^ 32
  pub kind : r.kind < 2 ^ 8
  pub addend : FitsSigned w32 r.addend

-- an entry's value and size have room in words, and its home in a half
pub record IsEntrySized (e : SymbolEntry) : Type 0 where
  pub value : e.value < 2 ^ 32
  pub size : e.size < 2 ^ 32
  pub home : e.home < 2 ^ 16

-- a symbol's value and size have room in words, and its home in a half
pub record IsSymbolSized (s : SymbolParts) : Type 0 where
  pub value : s.value < 2 ^ 32
  pub size : s.size < 2 ^ 32
  pub home : s.home < 2 ^ 16

-- the numbers of all parts have room in their fields
pub record IsPartsSized (sections : List SectionParts) (symbols : List SymbolParts) : Type 0 where
  pub sections_sized : All IsSectionSized sections
  pub relocs_sized : All (λ s. All IsRelocSized s.relocs) sections
  pub symbols_sized : All IsSymbolSized symbols
