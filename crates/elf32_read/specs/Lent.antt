-- Sections and symbols, as the code returns them with borrowed bytes.
use Rattle.std.specs.Prelude.{◌≡◌, not, true, ◌==◌}
use Rattle.std.specs.List.{list_any, take_while}
use Rattle.elf32_read.specs.Parts.{SectionParts, SymbolParts}
use Rattle.elf32_read.specs.declared.section.Section.{Section}
use Rattle.elf32_read.specs.declared.section_entry.SectionEntry.{SectionEntry}
use Rattle.elf32_read.specs.declared.symbol.Symbol.{Symbol}

-- a borrowed section is this one; its relocations are read one by one
pub record IsSection (section : Section) (parts : SectionParts) : Type 0 where
  pub name : section.name.now ≡ parts.name
  pub kind : section.kind ≡ parts.kind
  pub flags : section.flags.bits ≡ parts.flags
  pub size : section.size ≡ parts.size
  pub align : section.align ≡ parts.align
  pub bytes : section.bytes.now ≡ parts.bytes

-- a borrowed section is this one; instead of its name it has the table of names from its name on
pub record IsSectionEntry (entry : SectionEntry) (parts : SectionParts) : Type 0 where
  pub ends : list_any (λ byte. byte == 0) entry.names.now ≡ true
  pub name : take_while (λ byte. not (byte == 0)) entry.names.now ≡ parts.name
  pub kind : entry.kind ≡ parts.kind
  pub flags : entry.flags.bits ≡ parts.flags
  pub size : entry.size ≡ parts.size
  pub align : entry.align ≡ parts.align
  pub bytes : entry.bytes.now ≡ parts.bytes

-- a borrowed symbol is this one
pub record IsSymbol (symbol : Symbol) (parts : SymbolParts) : Type 0 where
  pub name : symbol.name.now ≡ parts.name
  pub value : symbol.value ≡ parts.value
  pub size : symbol.size ≡ parts.size
  pub bind : symbol.bind ≡ parts.bind
  pub kind : symbol.kind ≡ parts.kind
  pub home : symbol.home ≡ parts.home
