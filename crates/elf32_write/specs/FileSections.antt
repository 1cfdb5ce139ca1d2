-- The sections of an object's file: those that are given, and those that are added (System V gABI, "Sections").
use Rattle.std.specs.Prelude.{ℕ, ◌+◌, nat_lt, List, [], ◌∷◌, ◌++◌, length, map, filter, codes}
use Rattle.std.specs.List.{enumerate_from, flat_map}
use Rattle.elf32_read.specs.Parts.{SectionParts, SymbolParts}
use Rattle.elf32_write.specs.Entries.{after_locals, reloc_bytes, strtab_names, symbol_bytes, written_entries}
use Rattle.elf32_write.specs.NameTable.{name_table}

-- a section of the file: its name, its content, and what its header has beside where these lie
pub record FileSection : Type 0 where
  pub name : List ℕ
  pub kind : ℕ
  pub flags : ℕ
  pub size : ℕ
  pub link : ℕ
  pub info : ℕ
  pub align : ℕ
  pub entry_size : ℕ
  pub content : List ℕ

-- a given section
abbrev pub given_section : SectionParts → FileSection
given_section s = record { name = s.name; kind = s.kind; flags = s.flags; size = s.size; link = 0; info = 0; align = s.align; entry_size = 0; content = s.bytes }

-- the given sections that have relocations, each with its index
abbrev pub relocated : List SectionParts → List (ℕ × SectionParts)
relocated sections = filter (λ e. nat_lt 0 (length e.1.relocs)) (enumerate_from 1 sections)

-- the index of .symtab: after section 0, the given sections and their relocations
abbrev pub symtab_index : List SectionParts → ℕ
symtab_index sections = 1 + length sections + length (relocated sections)

-- the relocations of a section with this index, .rela and its name, over the symbols of the section .symtab: RELA (4), whose
-- flag INFO_LINK (0x40) says that sh_info is an index
abbrev pub rela_section : ℕ → ℕ × SectionParts → FileSection
rela_section symtab e = let content = flat_map reloc_bytes e.1.relocs in record { name = codes ".rela" ++ e.1.name; kind = 4; flags = 0x40; size = length content; link = symtab; info = e.0; align = 4; entry_size = 12; content = content }

-- .symtab, with its index: SYMTAB (2), whose sh_link is the index of .strtab, the next
abbrev pub symtab_section : ℕ → List SymbolParts → FileSection
symtab_section symtab symbols = let content = flat_map symbol_bytes (written_entries symbols) in record { name = codes ".symtab"; kind = 2; flags = 0; size = length content; link = symtab + 1; info = after_locals symbols; align = 4; entry_size = 16; content = content }

-- a table of names: STRTAB (3)
abbrev pub strtab_section : List ℕ → List (List ℕ) → FileSection
strtab_section name names = let content = name_table names in record { name = name; kind = 3; flags = 0; size = length content; link = 0; info = 0; align = 1; entry_size = 0; content = content }

-- the names of these sections
abbrev pub names_of_sections : List FileSection → List (List ℕ)
names_of_sections sections = map (λ s. s.name) sections

-- the given sections, in order
abbrev pub given_sections : List SectionParts → List FileSection
given_sections sections = map given_section sections

-- the sections of relocations, for those sections that have some
abbrev pub rela_sections : List SectionParts → List FileSection
rela_sections sections = map (rela_section (symtab_index sections)) (relocated sections)

-- the names of all sections, in order
abbrev pub shstrtab_names : List SectionParts → List (List ℕ)
shstrtab_names sections =
    names_of_sections (given_sections sections ++ rela_sections sections) ++ codes ".symtab" ∷ codes ".strtab" ∷ codes ".shstrtab" ∷ []

-- the sections that are added: relocations, symbols, and names
unfoldable pub added_sections : List SectionParts → List SymbolParts → List FileSection
added_sections sections symbols =
    rela_sections sections
    ++ symtab_section (symtab_index sections) symbols
    ∷ strtab_section (codes ".strtab") (strtab_names symbols)
    ∷ strtab_section (codes ".shstrtab") (shstrtab_names sections) ∷ []

-- all sections but section 0, in order
unfoldable pub file_sections : List SectionParts → List SymbolParts → List FileSection
file_sections sections symbols = given_sections sections ++ added_sections sections symbols
