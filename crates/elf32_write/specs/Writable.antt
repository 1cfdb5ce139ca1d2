-- Parts of an object that can be written, and what their file reads as.
use Rattle.std.specs.Prelude.{◌≡◌, ℕ, ◌^◌, ◌<◌, Bool, false, true, not, ◌==◌, if◌then◌else◌, List, [], ◌∷◌, ◌++◌, length, map, All, None}
use Rattle.std.specs.List.{list_any}
use Rattle.elf32_read.specs.Compressed.{has_rvc}
use Rattle.elf32_read.specs.Header.{is_empty_kind}
use Rattle.elf32_read.specs.Object.{object_fault}
use Rattle.elf32_read.specs.Parts.{ObjectParts, SectionParts, SymbolParts, is_kept_section, object_parts}
use Rattle.elf32_write.specs.Entries.{HasInfo}
use Rattle.elf32_write.specs.FileSections.{FileSection, added_sections}
use Rattle.elf32_write.specs.ObjectFile.{object_bytes, section_total}

-- a name has no zero
abbrev pub is_name : List ℕ → Bool
is_name name = not (list_any (λ byte. byte == 0) name)

-- ---- what can be written

-- a section has as many bytes as its size, or none if it is NULL or NOBITS; only if it is kept has it relocations, and their
-- symbols have room in r_info
pub record IsWritableSection (s : SectionParts) : Type 0 where
  pub name : is_name s.name ≡ true
  pub bytes : length s.bytes ≡ (if is_empty_kind s.kind then 0 else s.size)
  pub dropped : is_kept_section s ≡ false → s.relocs ≡ []
  pub relocs : All (λ r. r.symbol < 2 ^ 24) s.relocs

-- a symbol's binding and type have room in st_info
pub record IsWritableSymbol (s : SymbolParts) : Type 0 where
  pub name : is_name s.name ≡ true
  pub info : HasInfo s

-- the file of these parts has no fault, and its number of sections has room in e_shnum
pub record IsWritable (parts : ObjectParts) : Type 0 where
  pub faultless : object_fault (object_bytes parts) ≡ None
  pub count : section_total parts < 2 ^ 16
  pub sections : All IsWritableSection parts.sections
  pub symbols : All IsWritableSymbol parts.symbols

-- ---- the file

-- section 0
abbrev pub null_part : SectionParts
null_part = record { name = []; kind = 0; flags = 0; align = 0; size = 0; bytes = []; relocs = []; compressed = false }

-- a section that is added, as it is read
abbrev pub added_part : FileSection → SectionParts
added_part s = record { name = s.name; kind = s.kind; flags = s.flags; align = s.align; size = s.size; bytes = s.content; relocs = []; compressed = false }

-- all sections that are added
abbrev pub added_parts : ObjectParts → List SectionParts
added_parts parts = map added_part (added_sections parts.sections parts.symbols)

-- a section in an object with these e_flags, which say whether it is compressed
abbrev pub in_object : ℕ → SectionParts → SectionParts
in_object flags s = record s { compressed = has_rvc flags }

-- symbol 0
abbrev pub null_symbol_part : SymbolParts
null_symbol_part = record { name = []; value = 0; size = 0; bind = 0; kind = 0; home = 0 }

-- the file is an object without a fault, of these parts, and of sections that are added after the given ones and dropped
pub record IsObjectOf (parts : ObjectParts) (file : List ℕ) : Type 0 where
  pub faultless : object_fault file ≡ None
  pub flags : (object_parts file).flags ≡ parts.flags
  pub sections : (object_parts file).sections ≡ map (in_object parts.flags) (null_part ∷ parts.sections ++ added_parts parts)
  pub dropped : list_any is_kept_section (added_parts parts) ≡ false
  pub symbols : (object_parts file).symbols ≡ null_symbol_part ∷ parts.symbols
