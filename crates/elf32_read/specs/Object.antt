-- Objects by their bytes: each fault by its test, in the order in which they are looked for (System V gABI, "ELF Header",
-- "Sections", "Symbol Table" and "Relocation"; RISC-V ELF psABI, "File Header").
use Rattle.std.specs.Prelude.{◌≡◌, ◌≤◌, ◌<◌, ◌+◌, ◌*◌, ◌%◌, Bool, false, not, ◌&&◌, ◌||◌, ◌==◌, nat_lt, nat_le, if◌then◌else◌, List, ℕ, [], ◌∷◌, length, drop, Option, None}
use Rattle.std.specs.Int.{is_power_of_two}
use Rattle.std.specs.List.{list_any, range_with_len}
use Rattle.elf32_read.specs.Compressed.{code_step, has_rvc}
use Rattle.elf32_read.specs.Header.{are_known_flags, begins_as, content_of, file_flags, has_other_section_headers, header_of, headers_of, is_empty_kind, name_section, section_count, section_table}
use Rattle.elf32_read.specs.Kept.{has_flags, is_kept, is_kept_code}
use Rattle.elf32_read.specs.Names.{has_end, is_unnamed_section, lacks_strings}
use Rattle.elf32_read.specs.Relocs.{relas_for, relocs_in}
use Rattle.elf32_read.specs.Rows.{first_of}
use Rattle.elf32_read.specs.Symbols.{IsSymbolSection, symbol_content, symbol_count, symbol_entries, symbol_names, symbol_tables}
use Rattle.elf32_read.specs.declared.fault.Fault.{Fault}
use Rattle.elf32_read.specs.declared.fault.Fault.TheVariants.{NotElf, Truncated, Flags, SectionKind, Alignment, CodeSize, BadName, BadSymbol, TooLarge}
use Rattle.elf32_read.specs.declared.header.SectionHeader.{SectionHeader}
use Rattle.elf32_read.specs.declared.reloc.Reloc.{Reloc}
use Rattle.elf32_read.specs.declared.symbol_entry.SymbolEntry.{SymbolEntry}

-- ---- the file as a whole

-- the file is longer than 4 MiB
abbrev pub is_too_long : List ℕ → Bool
is_too_long bytes = nat_lt 0x40_0000 (length bytes)

-- the file is shorter than its header, isn't a relocatable RISC-V file (type 1), or has section headers whose size
-- isn't 40 bytes
abbrev pub not_elf : List ℕ → Bool
not_elf bytes = nat_lt (length bytes) 52 || not (begins_as 1 bytes) || has_other_section_headers bytes

-- the file has more than 4,096 sections
abbrev pub has_too_many_sections : List ℕ → Bool
has_too_many_sections bytes = nat_lt 4096 (section_count bytes)

-- a section's content passes the end of the file
abbrev pub passes_end : List ℕ → SectionHeader → Bool
passes_end bytes header = not (is_empty_kind header.kind) && nat_lt (length bytes) (header.offset + header.size)

-- the section headers, or the content of a section, pass the end of the file
abbrev pub truncated : List ℕ → Bool
truncated bytes = nat_lt (length bytes) (section_table bytes + 40 * section_count bytes) || list_any (passes_end bytes) (headers_of bytes)

-- the headers and the contents lie in the file
pub record IsWholeFile (bytes : List ℕ) : Type 0 where
  pub long : 52 ≤ length bytes
  pub headers : section_table bytes + 40 * section_count bytes ≤ length bytes
  pub contents : (i : ℕ) → i < section_count bytes → passes_end bytes (header_of bytes i) ≡ false

-- e_flags has another bit than RVC (0x1) and TSO (0x10)
abbrev pub has_other_flags : List ℕ → Bool
has_other_flags bytes = not (are_known_flags (file_flags bytes))

-- ---- sections that are never linked

-- e_shnum is 0, but e_shoff isn't: how a file says that it has too many sections for e_shnum
abbrev pub counts_elsewhere : List ℕ → Bool
counts_elsewhere bytes = section_count bytes == 0 && not (section_table bytes == 0)

-- the type is REL (9), GROUP (17), or SYMTAB_SHNDX (18)
abbrev pub is_foreign_kind : SectionHeader → Bool
is_foreign_kind h = h.kind == 9 || h.kind == 17 || h.kind == 18

-- the flags have COMPRESSED (0x800)
abbrev pub is_compressed : SectionHeader → Bool
is_compressed h = has_flags 0x800 h.flags

-- there is a second SYMTAB (2)
abbrev pub has_second_symbol_table : List ℕ → Bool
has_second_symbol_table bytes = nat_lt 1 (length (symbol_tables bytes))

-- a SYMTAB whose entries don't have 16 bytes, or whose last entry is incomplete
abbrev pub is_odd_symbol_table : SectionHeader → Bool
is_odd_symbol_table h = h.kind == 2 && (not (h.entry_size == 16) || not (h.size % 16 == 0))

-- a kept section of thread-local data: TLS (0x400)
abbrev pub is_kept_by_thread : List ℕ → SectionHeader → Bool
is_kept_by_thread bytes h = is_kept bytes h && has_flags 0x400 h.flags

-- a kept section of another type than PROGBITS (1), NOBITS (8), INIT_ARRAY (14), FINI_ARRAY (15) and PREINIT_ARRAY (16)
abbrev pub is_kept_unknown : List ℕ → SectionHeader → Bool
is_kept_unknown bytes h =
    is_kept bytes h && not (h.kind == 1 || h.kind == 8 || h.kind == 14 || h.kind == 15 || h.kind == 16)

-- kept code that is writable, WRITE (1), or isn't PROGBITS
abbrev pub is_odd_code : List ℕ → SectionHeader → Bool
is_odd_code bytes h = is_kept_code bytes h && (has_flags 1 h.flags || not (h.kind == 1))

-- a RELA (4) for a section that is kept
abbrev pub is_kept_rela : List ℕ → SectionHeader → Bool
is_kept_rela bytes h = h.kind == 4 && nat_lt h.info (section_count bytes) && is_kept bytes (header_of bytes h.info)

-- a RELA for a kept section, whose entries don't have 12 bytes or whose last entry is incomplete
abbrev pub is_odd_rela : List ℕ → SectionHeader → Bool
is_odd_rela bytes h = is_kept_rela bytes h && (not (h.entry_size == 12) || not (h.size % 12 == 0))

-- there is no section with this index, or it is no SYMTAB
abbrev pub lacks_symbols : List ℕ → ℕ → Bool
lacks_symbols bytes i = nat_le (section_count bytes) i || not ((header_of bytes i).kind == 2)

-- a RELA for a kept section, whose sh_link doesn't name the SYMTAB
abbrev pub has_other_symbols : List ℕ → SectionHeader → Bool
has_other_symbols bytes h = is_kept_rela bytes h && lacks_symbols bytes h.link

-- a kept section with two RELA sections
abbrev pub is_changed_twice : List ℕ → ℕ → Bool
is_changed_twice bytes i = is_kept bytes (header_of bytes i) && nat_lt 1 (length (relas_for bytes i))

-- some kept section has two RELA sections
abbrev pub has_two_relas : List ℕ → Bool
has_two_relas bytes = list_any (is_changed_twice bytes) (range_with_len 0 (section_count bytes))

-- a RELA for a section that doesn't exist
abbrev pub is_rela_of_none : List ℕ → SectionHeader → Bool
is_rela_of_none bytes h = h.kind == 4 && nat_le (section_count bytes) h.info

-- a section that is never linked, for one of the causes that can be seen from its own header
abbrev pub is_unlinked : List ℕ → SectionHeader → Bool
is_unlinked bytes h =
    is_foreign_kind h || is_compressed h || is_odd_symbol_table h || is_kept_by_thread bytes h || is_kept_unknown bytes h
    || is_odd_code bytes h || is_odd_rela bytes h || has_other_symbols bytes h || is_rela_of_none bytes h

-- the object has sections that are never linked
abbrev pub has_unlinked_sections : List ℕ → Bool
has_unlinked_sections bytes =
    counts_elsewhere bytes || has_second_symbol_table bytes || list_any (is_unlinked bytes) (headers_of bytes) || has_two_relas bytes

-- ---- alignments and sizes

-- an alignment that is neither 0 nor a power of two, or is above the maximum
abbrev pub is_bad_alignment : ℕ → ℕ → Bool
is_bad_alignment most align = not (align == 0) && (not (is_power_of_two align) || nat_lt most align)

-- a kept section with a bad alignment: at most 256 bytes are allowed for code, and 4,096 for data
abbrev pub is_badly_aligned : List ℕ → SectionHeader → Bool
is_badly_aligned bytes h = is_kept bytes h && is_bad_alignment (if has_flags 4 h.flags then 256 else 4096) h.align

-- a common symbol (SHN_COMMON, 0xFFF2) with a bad alignment, which its value holds
abbrev pub is_bad_common : SymbolEntry → Bool
is_bad_common e = e.home == 0xFFF2 && is_bad_alignment 4096 e.value

-- some section or symbol is badly aligned
abbrev pub has_bad_alignment : List ℕ → Bool
has_bad_alignment bytes =
    list_any (is_badly_aligned bytes) (headers_of bytes) || list_any is_bad_common (drop 1 (symbol_entries bytes))

-- kept code that ends inside a word, or in a compressed object inside a halfword
abbrev pub is_cut_code : List ℕ → SectionHeader → Bool
is_cut_code bytes h = is_kept_code bytes h && not (h.size % code_step (has_rvc (file_flags bytes)) == 0)

-- some section is code that ends inside a word, or in a compressed object inside a halfword
abbrev pub has_cut_code : List ℕ → Bool
has_cut_code bytes = list_any (is_cut_code bytes) (headers_of bytes)

-- ---- names

-- there are sections, but no table of their names
abbrev pub lacks_section_names : List ℕ → Bool
lacks_section_names bytes = not (section_count bytes == 0) && lacks_strings bytes (name_section bytes)

-- a symbol's name has no end
abbrev pub is_unnamed_symbol : List ℕ → SymbolEntry → Bool
is_unnamed_symbol bytes e = not (has_end (symbol_names bytes) e.name)

-- a SYMTAB without a table of its symbols' names
abbrev pub lacks_symbol_names : List ℕ → SectionHeader → Bool
lacks_symbol_names bytes h = lacks_strings bytes h.link

-- there are sections or symbols without a table of their names, or one whose name has no end
abbrev pub has_bad_name : List ℕ → Bool
has_bad_name bytes =
    lacks_section_names bytes
    || list_any (lacks_symbol_names bytes) (symbol_tables bytes)
    || list_any (is_unnamed_section bytes) (headers_of bytes)
    || list_any (is_unnamed_symbol bytes) (symbol_entries bytes)

-- ---- symbols

-- a binding other than local (0), global (1) and weak (2)
abbrev pub has_other_binding : SymbolEntry → Bool
has_other_binding e = nat_lt 2 e.bind

-- a type for threads (6, TLS) or for indirect functions (10, GNU_IFUNC)
abbrev pub has_other_kind : SymbolEntry → Bool
has_other_kind e = e.kind == 6 || e.kind == 10

-- a symbol that is local and undefined (SHN_UNDEF, 0)
abbrev pub is_undefined_local : SymbolEntry → Bool
is_undefined_local e = e.bind == 0 && e.home == 0

-- st_shndx is neither the index of a section (UNDEF, 0, is one) nor ABS (0xFFF1) nor COMMON (0xFFF2)
abbrev pub is_homeless : List ℕ → SymbolEntry → Bool
is_homeless bytes e = nat_le (section_count bytes) e.home && not (e.home == 0xFFF1) && not (e.home == 0xFFF2)

-- a symbol past the end of the kept section that it is defined in
abbrev pub passes_section : List ℕ → SymbolEntry → Bool
passes_section bytes e =
    not (e.home == 0) && nat_lt e.home (section_count bytes) && is_kept bytes (header_of bytes e.home)
    && nat_lt (header_of bytes e.home).size e.value

-- a symbol that isn't accepted, for one of the causes above
abbrev pub is_bad_symbol : List ℕ → SymbolEntry → Bool
is_bad_symbol bytes e =
    has_other_binding e || has_other_kind e || is_undefined_local e || is_homeless bytes e || passes_section bytes e

-- a relocation whose symbol index is past the end of the symbol table
abbrev pub names_no_symbol : List ℕ → Reloc → Bool
names_no_symbol bytes r = nat_le (symbol_count bytes) r.symbol

-- a RELA for a kept section with a relocation whose symbol doesn't exist
abbrev pub is_of_no_symbol : List ℕ → SectionHeader → Bool
is_of_no_symbol bytes h = is_kept_rela bytes h && list_any (names_no_symbol bytes) (relocs_in (content_of bytes h))

-- a symbol other than 0 is bad, or a relocation of a kept section names no symbol
abbrev pub has_bad_symbol : List ℕ → Bool
has_bad_symbol bytes =
    list_any (is_bad_symbol bytes) (drop 1 (symbol_entries bytes)) || list_any (is_of_no_symbol bytes) (headers_of bytes)

-- ---- the first fault

-- the first fault of an object's bytes, if there is one
unfoldable pub object_fault : List ℕ → Option Fault
object_fault bytes = first_of (
    (is_too_long bytes, TooLarge) ∷ (not_elf bytes, NotElf) ∷ (has_too_many_sections bytes, TooLarge) ∷ (truncated bytes, Truncated)
    ∷ (has_other_flags bytes, Flags) ∷ (has_unlinked_sections bytes, SectionKind) ∷ (has_bad_alignment bytes, Alignment)
    ∷ (has_cut_code bytes, CodeSize) ∷ (has_bad_name bytes, BadName) ∷ (has_bad_symbol bytes, BadSymbol) ∷ [])

-- an object without a fault, with the section of its symbols, their entries and their names
pub record IsReadObject (bytes : List ℕ) (section : Option ℕ) (entries names : List ℕ) : Type 0 where
  pub faultless : object_fault bytes ≡ None
  pub section_read : IsSymbolSection bytes section
  pub entries_read : entries ≡ symbol_content bytes
  pub names_read : names ≡ symbol_names bytes
