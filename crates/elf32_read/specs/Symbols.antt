-- The symbols of an object (System V gABI, "Symbol Table").
use Rattle.std.specs.Prelude.{ℕ, ◌+◌, ◌*◌, ◌/◌, ◌%◌, ◌==◌, List, [], length, map, filter, slice_index, slice_get, Option}
use Rattle.std.specs.List.{range_with_len}
use Rattle.std.specs.Option.{option_map_or}
use Rattle.zc_base.specs.Fields.{half_in, word_in}
use Rattle.elf32_read.specs.Header.{IsOnly, content_of, headers_of}
use Rattle.elf32_read.specs.Names.{strings_of}
use Rattle.elf32_read.specs.declared.header.SectionHeader.{SectionHeader}
use Rattle.elf32_read.specs.declared.symbol_entry.SymbolEntry.{SymbolEntry}

-- the sections with symbols, SYMTAB (2), in order
abbrev pub symbol_tables : List ℕ → List SectionHeader
symbol_tables bytes = filter (λ h. h.kind == 2) (headers_of bytes)

-- the SYMTAB that is read: the first one
abbrev pub symbol_table : List ℕ → Option SectionHeader
symbol_table bytes = slice_get (symbol_tables bytes) 0

-- the index of the SYMTAB, if there is one
abbrev pub IsSymbolSection : List ℕ → Option ℕ → Type 0
IsSymbolSection bytes i = IsOnly (λ h. h.kind == 2) bytes i

-- the entries of the SYMTAB, as they are in the file
abbrev pub symbol_content : List ℕ → List ℕ
symbol_content bytes = option_map_or (content_of bytes) (symbol_table bytes) []

-- the names of the symbols: sh_link is the index of their table
abbrev pub symbol_names : List ℕ → List ℕ
symbol_names bytes = option_map_or (λ h. strings_of bytes h.link) (symbol_table bytes) []

-- an entry of 16 bytes: the words st_name, st_value and st_size, a byte with the binding and the type, a byte that isn't
-- read, and the half st_shndx
unfoldable pub symbol_entry_at : List ℕ → ℕ → SymbolEntry
symbol_entry_at content i = let at = 16 * i in record {
  name = word_in content at;
  value = word_in content (at + 4);
  size = word_in content (at + 8);
  bind = slice_index content (at + 12) / 16;
  kind = slice_index content (at + 12) % 16;
  home = half_in content (at + 14);
}

-- all entries of a table, in order
abbrev pub entries_in : List ℕ → List SymbolEntry
entries_in content = map (symbol_entry_at content) (range_with_len 0 (length content / 16))

-- all entries of an object
abbrev pub symbol_entries : List ℕ → List SymbolEntry
symbol_entries bytes = entries_in (symbol_content bytes)

-- the entry with this index
abbrev pub symbol_entry_of : List ℕ → ℕ → SymbolEntry
symbol_entry_of bytes i = symbol_entry_at (symbol_content bytes) i

-- the number of symbols, with symbol 0
abbrev pub symbol_count : List ℕ → ℕ
symbol_count bytes = length (symbol_content bytes) / 16
