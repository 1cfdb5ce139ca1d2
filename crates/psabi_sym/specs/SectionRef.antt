-- Sections as values.
use Rattle.std.specs.Prelude.{◌≡◌, Bool, List, not, true, ◌==◌}
use Rattle.std.specs.List.{list_any, take_while}
use Rattle.elf32_read.specs.Parts.{SectionParts}
use Rattle.elf32_read.specs.declared.reloc.Reloc.{Reloc}
use Rattle.elf32_read.specs.declared.section_entry.SectionEntry.{SectionEntry}
use Rattle.psabi_sym.specs.Data.{role_of}
use Rattle.psabi_sym.specs.declared.section_row.SectionRole.{SectionRole}

-- a section by what its object lends of it, its relocations, and whether its object is compressed
abbrev pub lent_section : SectionEntry → List Reloc → Bool → SectionParts
lent_section entry relocs compressed = record {
  name = take_while (λ byte. not (byte == 0)) entry.names.now;
  kind = entry.kind;
  flags = entry.flags.bits;
  align = entry.align;
  size = entry.size;
  bytes = entry.bytes.now;
  relocs = relocs;
  compressed = compressed;
}

-- its name ends in what is lent, and this is what it is to a link
pub record IsLent (role : SectionRole) (entry : SectionEntry) (relocs : List Reloc) (compressed : Bool) : Type 0 where
  pub ends : list_any (λ byte. byte == 0) entry.names.now ≡ true
  pub role_is : role ≡ role_of (lent_section entry relocs compressed)
