-- A table of sections, as the code fills it, and in which order.
use Rattle.std.specs.Prelude.{◌≡◌, ℕ, ◌+◌, ◌^◌, ◌<◌, List, [], ◌∷◌, ◌++◌, length, codes, All}
use Rattle.elf32_read.specs.Parts.{SectionParts, SymbolParts}
use Rattle.elf32_read.specs.declared.header.SectionHeader.{SectionHeader}
use Rattle.elf32_write.specs.NameTable.{name_table}
use Rattle.elf32_write.specs.Entries.{HasInfo, strtab_names}
use Rattle.elf32_write.specs.FileSections.{FileSection, file_sections, given_sections, names_of_sections, rela_sections, strtab_section, symtab_index, symtab_section}
use Rattle.elf32_write.specs.ObjectFile.{contents, headers_for}
use Rattle.elf32_write.specs.declared.section_table.SectionTable.{SectionTable}

-- .shstrtab after these sections: their names, and its own
abbrev pub last_section : List FileSection → FileSection
last_section sections = strtab_section (codes ".shstrtab") (names_of_sections sections ++ codes ".shstrtab" ∷ [])

-- a section with this name and content, and the rest by its header
abbrev pub file_section : List ℕ → SectionHeader → List ℕ → FileSection
file_section name h content = record { name = name; kind = h.kind; flags = h.flags; size = h.size; link = h.link; info = h.info; align = h.align; entry_size = h.entry_size; content = content }

-- the offset where one more section's content begins fits in a word, and so does the offset `more` bytes after the names
pub record HasOffsets (more : ℕ) (table : SectionTable) : Type 0 where
  pub contents_end : 52 + length table.contents.items < 2 ^ 32
  pub names_end : length table.names.items + more < 2 ^ 32

-- the table has section 0 and these, in order
pub record HoldsSections (sections : List FileSection) (table : SectionTable) : Type 0 where
  pub contents_held : table.contents.items ≡ contents sections
  pub names_held : table.names.items ≡ name_table (names_of_sections sections)
  pub headers_held : table.headers.items ≡ headers_for sections

-- the offsets of these sections' contents and names have room in a word
pub record ContentsFit (sections : List FileSection) : Type 0 where
  pub contents_fit : 52 + length (contents sections) < 2 ^ 32
  pub names_fit : length (name_table (names_of_sections sections)) < 2 ^ 32

-- ---- all sections, as they are added

-- the sections that are given, and those of their relocations
unfoldable pub with_relas : List SectionParts → List FileSection
with_relas xs = given_sections xs ++ rela_sections xs

-- these, and the section of the symbols
unfoldable pub with_symbols : List SectionParts → List SymbolParts → List FileSection
with_symbols xs ys = with_relas xs ++ symtab_section (symtab_index xs) ys ∷ []

-- these, and the section of the symbols' names: all sections but the last
unfoldable pub with_names : List SectionParts → List SymbolParts → List FileSection
with_names xs ys = with_symbols xs ys ++ strtab_section (codes ".strtab") (strtab_names ys) ∷ []

-- what is counted and written of these has room in its fields
pub record PartsFit (sections : List SectionParts) (symbols : List SymbolParts) : Type 0 where
  pub count : length (file_sections sections symbols) < 4096
  pub room : ContentsFit (file_sections sections symbols)
  pub relocs : All (λ s. All (λ r. r.symbol < 2 ^ 24) s.relocs) sections
  pub info : All HasInfo symbols
