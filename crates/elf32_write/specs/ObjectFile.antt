-- The bytes of an object: a relocatable file of class 32 (System V gABI, "ELF Header" and "Sections"). After the file's header
-- stand the contents of the sections, each padded with zeros to a multiple of 4, and then the section headers.
use Rattle.std.specs.Prelude.{ℕ, ◌+◌, ◌*◌, ◌-◌, List, [], ◌∷◌, ◌++◌, length}
use Rattle.std.specs.List.{flat_map}
use Rattle.zc_base.specs.Fields.{half_bytes, word_bytes}
use Rattle.elf32_read.specs.Parts.{ObjectParts}
use Rattle.elf32_read.specs.declared.header.SectionHeader.{SectionHeader}
use Rattle.elf32_write.specs.EachAfter.{each_after}
use Rattle.elf32_write.specs.FileSections.{FileSection, file_sections, names_of_sections}
use Rattle.elf32_write.specs.Image.{identification, null_section, padded, section_bytes}
use Rattle.elf32_write.specs.NameTable.{name_start, name_table}

-- the contents of sections, in order
abbrev pub contents : List FileSection → List ℕ
contents sections = flat_map (λ s. padded s.content) sections

-- the header of a section, by the sections before it
abbrev pub written_header : List FileSection → FileSection → SectionHeader
written_header before s = record {
  name = name_start (length (name_table (names_of_sections before))) s.name;
  kind = s.kind;
  flags = s.flags;
  address = 0;
  offset = 52 + length (contents before);
  size = s.size;
  link = s.link;
  info = s.info;
  align = s.align;
  entry_size = s.entry_size;
}

-- the headers of section 0 and of these
abbrev pub headers_for : List FileSection → List SectionHeader
headers_for sections = null_section ∷ each_after written_header [] sections

-- the file's header: e_ident; e_type 1 (relocatable), e_machine 243 (RISC-V), e_version 1, e_entry, e_phoff, e_shoff,
-- e_flags, e_ehsize, e_phentsize, e_phnum, e_shentsize, e_shnum, e_shstrndx
unfoldable pub object_header : ℕ → ℕ → ℕ → List ℕ
object_header table flags count =
    identification ++ flat_map half_bytes (1 ∷ 243 ∷ []) ++ flat_map word_bytes (1 ∷ 0 ∷ 0 ∷ table ∷ flags ∷ [])
    ++ flat_map half_bytes (52 ∷ 0 ∷ 0 ∷ 40 ∷ count ∷ (count - 1) ∷ [])

-- the number of sections, with section 0
abbrev pub section_total : ObjectParts → ℕ
section_total parts = 1 + length (file_sections parts.sections parts.symbols)

-- where the section headers begin
abbrev pub headers_offset : ObjectParts → ℕ
headers_offset parts = 52 + length (contents (file_sections parts.sections parts.symbols))

-- the length of the file
abbrev pub object_size : ObjectParts → ℕ
object_size parts = headers_offset parts + 40 * section_total parts

-- the file
unfoldable pub object_bytes : ObjectParts → List ℕ
object_bytes parts =
    object_header (headers_offset parts) parts.flags (section_total parts)
    ++ (contents (file_sections parts.sections parts.symbols) ++ flat_map section_bytes (headers_for (file_sections parts.sections parts.symbols)))
