-- Relocations and symbols of an object, as they are written (System V gABI, "Relocation" and "Symbol Table").
use Rattle.std.specs.Prelude.{ℕ, ◌+◌, ◌*◌, ◌-◌, ◌<◌, not, ◌==◌, List, [], ◌∷◌, ◌++◌, length, map}
use Rattle.std.specs.Int.{w32, cast_unsigned}
use Rattle.std.specs.List.{flat_map, suffix_len}
use Rattle.zc_base.specs.Fields.{half_bytes, word_bytes}
use Rattle.elf32_read.specs.Parts.{SymbolParts}
use Rattle.elf32_read.specs.declared.reloc.Reloc.{Reloc}
use Rattle.elf32_read.specs.declared.symbol_entry.SymbolEntry.{SymbolEntry}
use Rattle.elf32_write.specs.EachAfter.{each_after}
use Rattle.elf32_write.specs.NameTable.{name_start, name_table}

-- a relocation, Elf32_Rela: the words r_offset, r_info (the symbol, and the type in the lowest byte) and r_addend
abbrev pub reloc_bytes : Reloc → List ℕ
reloc_bytes r = flat_map word_bytes (r.offset ∷ (256 * r.symbol + r.kind) ∷ cast_unsigned w32 r.addend ∷ [])

-- the names of symbols
abbrev pub strtab_names : List SymbolParts → List (List ℕ)
strtab_names symbols = map (λ s. s.name) symbols

-- the entry of a symbol, by the symbols before it
abbrev pub written_entry : List SymbolParts → SymbolParts → SymbolEntry
written_entry before s = record {
  name = name_start (length (name_table (strtab_names before))) s.name;
  value = s.value;
  size = s.size;
  bind = s.bind;
  kind = s.kind;
  home = s.home;
}

-- an entry, Elf32_Sym: the words st_name, st_value and st_size, st_info (the binding, and the type in the lower half),
-- st_other, which is 0, and the half st_shndx
abbrev pub symbol_bytes : SymbolEntry → List ℕ
symbol_bytes e = flat_map word_bytes (e.name ∷ e.value ∷ e.size ∷ []) ++ (16 * e.bind + e.kind) ∷ 0 ∷ half_bytes e.home

-- the binding and the type have room in their halves of a byte
pub record HasInfo (s : SymbolParts) : Type 0 where
  pub bind : s.bind < 16
  pub kind : s.kind < 16

-- symbol 0
abbrev pub null_symbol : SymbolEntry
null_symbol = record { name = 0; value = 0; size = 0; bind = 0; kind = 0; home = 0 }

-- all entries: symbol 0, and then the given symbols
abbrev pub written_entries : List SymbolParts → List SymbolEntry
written_entries symbols = null_symbol ∷ each_after written_entry [] symbols

-- the index after the last local symbol, STB_LOCAL (0), which symbol 0 counts as
abbrev pub after_locals : List SymbolParts → ℕ
after_locals symbols = 1 + length symbols - suffix_len (λ s. not (s.bind == 0)) symbols
