-- What an object is made of, as plain data: what a file without a fault reads as (System V gABI, "Sections", "Symbol Table"
-- and "Relocation").
use Rattle.std.specs.Prelude.{ℕ, Bool, not, ◌&&◌, nat_eq, if◌then◌else◌, List, [], map, codes}
use Rattle.std.specs.Cmp.Lexicographic.{pointwise}
use Rattle.std.specs.List.{flat_map, range_with_len}
use Rattle.elf32_read.specs.Compressed.{has_rvc}
use Rattle.elf32_read.specs.Header.{content_of, file_flags, header_of, section_count}
use Rattle.elf32_read.specs.Kept.{has_flags, is_kept}
use Rattle.elf32_read.specs.Names.{name_at, section_names}
use Rattle.elf32_read.specs.Relocs.{relas_for, relocs_in}
use Rattle.elf32_read.specs.Symbols.{symbol_entries, symbol_names}
use Rattle.elf32_read.specs.declared.header.SectionHeader.{SectionHeader}
use Rattle.elf32_read.specs.declared.reloc.Reloc.{Reloc}
use Rattle.elf32_read.specs.declared.symbol_entry.SymbolEntry.{SymbolEntry}

-- a section: its name, type, flags and alignment, its size in memory, its content, its relocations, and whether its
-- object is compressed
pub record SectionParts : Type 0 where
  pub name : List ℕ
  pub kind : ℕ
  pub flags : ℕ
  pub align : ℕ
  pub size : ℕ
  pub bytes : List ℕ
  pub relocs : List Reloc
  pub compressed : Bool

-- a symbol: its name, value and size, its binding and type, and st_shndx: a section's index, or UNDEF, ABS or COMMON
pub record SymbolParts : Type 0 where
  pub name : List ℕ
  pub value : ℕ
  pub size : ℕ
  pub bind : ℕ
  pub kind : ℕ
  pub home : ℕ

-- an object: e_flags, and its sections and symbols by index, with section 0 and symbol 0
pub record ObjectParts : Type 0 where
  pub flags : ℕ
  pub sections : List SectionParts
  pub symbols : List SymbolParts

-- ---- sections and names, as parts

-- a section that is kept: it has ALLOC (2), and isn't .eh_frame, the table for unwinding the stack
abbrev pub is_kept_section : SectionParts → Bool
is_kept_section s = has_flags 2 s.flags && not (pointwise nat_eq s.name (codes ".eh_frame"))

-- a kept section with EXECINSTR (4)
abbrev pub is_code_section : SectionParts → Bool
is_code_section s = is_kept_section s && has_flags 4 s.flags

-- ---- what a file reads as

-- the relocations that are the content of a section
abbrev pub relocs_held : List ℕ → SectionHeader → List Reloc
relocs_held file h = relocs_in (content_of file h)

-- the relocations that apply to a section; a section that is dropped has none
abbrev pub relocs_of : List ℕ → ℕ → List Reloc
relocs_of file i = if is_kept file (header_of file i) then flat_map (relocs_held file) (relas_for file i) else []

-- a section by its index
abbrev pub section_parts : List ℕ → ℕ → SectionParts
section_parts file i = let h = header_of file i in record {
  name = name_at (section_names file) h.name;
  kind = h.kind;
  flags = h.flags;
  align = h.align;
  size = h.size;
  bytes = content_of file h;
  relocs = relocs_of file i;
  compressed = has_rvc (file_flags file);
}

-- the symbol of an entry
abbrev pub symbol_parts : List ℕ → SymbolEntry → SymbolParts
symbol_parts file e = record {
  name = name_at (symbol_names file) e.name;
  value = e.value;
  size = e.size;
  bind = e.bind;
  kind = e.kind;
  home = e.home;
}

-- the object that a file is
unfoldable pub object_parts : List ℕ → ObjectParts
object_parts file = record {
  flags = file_flags file;
  sections = map (section_parts file) (range_with_len 0 (section_count file));
  symbols = map (symbol_parts file) (symbol_entries file);
}
