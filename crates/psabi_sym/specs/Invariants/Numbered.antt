-- Symbols as rows, with their names by number.
use Rattle.std.specs.Prelude.{◌≡◌, ◌<◌, ◌≤◌, ℕ, true, List, length, map, All}
use Rattle.psabi_sym.specs.Indexed.{IndexedSymbol}
use Rattle.psabi_sym.specs.Names.{goes_by_name}
use Rattle.psabi_sym.specs.Invariants.Rows.{name_number, symbol_row}
use Rattle.psabi_sym.specs.declared.symbol_row.SymbolRow.{SymbolRow}

-- the name of each symbol that goes by it has a number among names
abbrev pub HaveNumbers : List (List ℕ) → List IndexedSymbol → Type 0
HaveNumbers names listed = All (λ l. goes_by_name l.symbol ≡ true → name_number names l.symbol.name < length names) listed

-- the rows are those of the symbols, with the numbers that names have among names; these are no more than the symbols
pub record IsNumbered (names : List (List ℕ)) (listed : List IndexedSymbol) (rows : List SymbolRow) : Type 0 where
  pub rows_are : rows ≡ map (symbol_row names) listed
  pub numbered : HaveNumbers names listed
  pub few : length names ≤ length listed
