-- Sections and symbols as a link keeps them: what it asks of them later, with a number for each name.
use Rattle.std.specs.Prelude.{◌≡◌, ◌≤◌, false, slice_get, slice_index, ℕ, Bool, not, ◌&&◌, ◌||◌, ◌==◌, max, List, [], ◌∷◌, ◌++◌, filter, length, map, take, if◌then◌else◌, is_none, ◌+◌, Option, Some, None}
use Rattle.std.specs.List.{find, fold, list_any, position_or_len, sum_by}
use Rattle.std.specs.Option.{option_map, option_map_or, option_or}
use Rattle.elf32_read.specs.Parts.{ObjectParts, SymbolParts}
use Rattle.psabi_sym.specs.Blocks.{aligned_up, end_from, room_of}
use Rattle.psabi_sym.specs.Classes.{classes_before, same_class}
use Rattle.psabi_sym.specs.Data.{has_class, role_of}
use Rattle.psabi_sym.specs.Fixed.{is_fixed}
use Rattle.psabi_sym.specs.Indexed.{IndexedSection, IndexedSymbol, all_sections, all_symbols}
use Rattle.psabi_sym.specs.Names.{goes_by_name, same_name}
use Rattle.psabi_sym.specs.declared.block.Block.{Block}
use Rattle.psabi_sym.specs.declared.data_class.DataClass.{DataClass}
use Rattle.psabi_sym.specs.declared.data_class.DataClass.TheVariants.{SmallData, SmallZero, Zero, Common}
use Rattle.psabi_sym.specs.declared.layout.ClassEnds.{ClassEnds}
use Rattle.psabi_sym.specs.declared.section_row.SectionRole.{SectionRole}
use Rattle.psabi_sym.specs.declared.section_row.SectionRole.TheVariants.{Code, InClass, Dropped}
use Rattle.psabi_sym.specs.declared.section_row.SectionRow.{SectionRow}
use Rattle.psabi_sym.specs.declared.symbol_row.SymbolRow.{SymbolRow}

-- ---- sections

-- the row of a section; a section of code may be fixed by these names
abbrev pub section_row : List (List ℕ) → IndexedSection → SectionRow
section_row names l = record {
  object = l.object;
  index = l.index;
  role = role_of l.section;
  align = l.section.align;
  size = l.section.size;
  fixed = is_fixed names l.section;
}

-- where the sections of an object begin among all
abbrev pub section_starts : List ObjectParts → ℕ → ℕ
section_starts objects o = length (all_sections (take o objects))

-- where the symbols of an object begin among all
abbrev pub symbol_starts : List ObjectParts → ℕ → ℕ
symbol_starts objects o = length (all_symbols (take o objects))

-- the room of a section by its row
abbrev pub row_block : SectionRow → Block
row_block r = record { align = r.align; size = r.size }

-- what the sections of a class take, by rows
abbrev pub row_blocks : DataClass → List SectionRow → List Block
row_blocks class rows = map row_block (filter (λ r. has_class class r.role) rows)

-- where a section of a class begins, by its place among the rows, if the class begins at an address
abbrev pub row_address : DataClass → ℕ → List SectionRow → ℕ → SectionRow → ℕ
row_address class start rows k r = aligned_up r.align (end_from start (row_blocks class (take k rows)))

-- where a class ends that is placed from an address on, by rows
abbrev pub row_end : List SectionRow → ℕ → DataClass → ℕ
row_end rows at class = end_from (aligned_up 16 at) (row_blocks class rows)

-- where a class begins, by rows, if data begins at an address
abbrev pub row_start : List SectionRow → ℕ → DataClass → ℕ
row_start rows low class = aligned_up 16 (fold (row_end rows) low (classes_before class))

-- the table has the address of each section of data
abbrev pub AreAddressed : List SectionRow → ℕ → List ℕ → Type 0
AreAddressed rows low addresses =
    (k : ℕ) (r : SectionRow) (class : DataClass) → slice_get rows k ≡ Some r → r.role ≡ InClass class → same_class class Common ≡ false
    → slice_index addresses k ≡ row_address class (row_start rows low class) rows k r

-- the room that a section may take in data, by its row
abbrev pub role_room : SectionRole → ℕ → ℕ
role_room Code room = 0
role_room (InClass class) room = room
role_room Dropped room = 0

abbrev pub row_data_room : SectionRow → ℕ
row_data_room r = role_room r.role (room_of (row_block r))

-- where classes begin and end, by rows, if data begins at an address, and how far that is at most
pub record AreClassEnds (rows : List SectionRow) (low : ℕ) (ends : ClassEnds) : Type 0 where
  pub small_data : ends.small_data ≡ row_start rows low SmallData
  pub file_end : ends.file_end ≡ end_from (row_start rows low SmallData) (row_blocks SmallData rows)
  pub small_zero : ends.small_zero ≡ row_start rows low SmallZero
  pub end : ends.end ≡ end_from (row_start rows low Zero) (row_blocks Zero rows)
  pub most : ends.end ≤ low + 80 + sum_by row_data_room rows
  pub small_data_most : ends.small_data ≤ low + 96 + sum_by row_data_room rows

-- ---- symbols

-- the number of a name among names: the place where it was first seen, or their count
abbrev pub name_number : List (List ℕ) → List ℕ → ℕ
name_number names name = position_or_len (same_name name) names

-- names with one more, which goes last if it is new
abbrev pub with_name : List (List ℕ) → List ℕ → List (List ℕ)
with_name names name = if list_any (same_name name) names then names else names ++ name ∷ []

-- names with that of one more symbol, if it goes by it
abbrev pub with_symbol : List (List ℕ) → SymbolParts → List (List ℕ)
with_symbol names s = if goes_by_name s then with_name names s.name else names

-- the number of a symbol's name; 0, which says nothing, if it doesn't go by it
abbrev pub symbol_number : List (List ℕ) → SymbolParts → ℕ
symbol_number names s = if goes_by_name s then name_number names s.name else 0

-- the row of a symbol
abbrev pub symbol_row : List (List ℕ) → IndexedSymbol → SymbolRow
symbol_row names l = record {
  object = l.object;
  home = l.symbol.home;
  index = l.index;
  name = symbol_number names l.symbol;
  value = l.symbol.value;
  size = l.symbol.size;
  bind = l.symbol.bind;
}

-- a common symbol, by its row
abbrev pub row_is_common : SymbolRow → Bool
row_is_common r = r.home == 0xFFF2

-- a symbol that goes by its name, by its row
abbrev pub row_goes_by_name : SymbolRow → Bool
row_goes_by_name r = row_is_common r || not (r.bind == 0)

-- a definition with this binding, by its row
abbrev pub row_defines : ℕ → SymbolRow → Bool
row_defines bind r = r.bind == bind && not (r.home == 0) && not (row_is_common r)

-- the first definition with this binding of the name with this number
abbrev pub first_row : ℕ → List SymbolRow → ℕ → Option SymbolRow
first_row bind rows name = find (λ r. row_defines bind r && r.name == name) rows

-- a definition that was found, or else this symbol, if it is one
abbrev pub first_of_both : ℕ → Option SymbolRow → SymbolRow → Option SymbolRow
first_of_both bind found r = option_or found (if row_defines bind r then Some r else None)

-- the common symbols of the name with this number
abbrev pub common_rows : List SymbolRow → ℕ → List SymbolRow
common_rows rows name = filter (λ r. row_is_common r && r.name == name) rows

-- the room of the name with this number
abbrev pub row_common_block : List SymbolRow → ℕ → Block
row_common_block rows name = let same = common_rows rows name in record {
  align = fold max 0 (map (λ r. max 1 r.value) same);
  size = fold max 0 (map (λ r. r.size) same);
}

-- the room of no common symbol, and of one more symbol
abbrev pub no_block : Block
no_block = record { align = 0; size = 0 }

abbrev pub grown_block : Block → SymbolRow → Block
grown_block b r = if row_is_common r then record { align = max b.align (max 1 r.value); size = max b.size r.size } else b

-- the first row of each name, in order
abbrev pub first_rows : List SymbolRow → List SymbolRow
first_rows [] = []
first_rows (r ∷ rs) = r ∷ filter (λ s. not (s.name == r.name)) (first_rows rs)

-- common, of a name without a strong definition
abbrev pub row_takes_room : List SymbolRow → SymbolRow → Bool
row_takes_room rows r = row_is_common r && is_none (first_row 1 rows r.name)

-- the rows that take room among the first of all rows, the first of each name in order
unfoldable pub placed_rows : List SymbolRow → List SymbolRow → List SymbolRow
placed_rows all rows = first_rows (filter (row_takes_room all) rows)

-- the room of a row's name
abbrev pub row_room : List SymbolRow → SymbolRow → Block
row_room all r = row_common_block all r.name

-- the address of a name, by its number, among rows with addresses
abbrev pub row_address_of : List (SymbolRow × ℕ) → ℕ → Option ℕ
row_address_of placed name = option_map (λ e. e.1) (find (λ e. e.0.name == name) placed)

-- the room that a symbol may take in data, by its row
abbrev pub row_common_room : SymbolRow → ℕ
row_common_room r = if row_is_common r then r.size + max 1 r.value else 0

-- a strong definition of a name whose first is another symbol, by rows
abbrev pub row_is_second : List SymbolRow → SymbolRow → Bool
row_is_second rows r =
    row_defines 1 r && option_map_or (λ first. not (first.object == r.object && first.index == r.index)) (first_row 1 rows r.name) false
