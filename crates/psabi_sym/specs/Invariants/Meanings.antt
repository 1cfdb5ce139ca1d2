-- What names stand for, by tables with an entry for each name.
use Rattle.std.specs.Prelude.{ℕ, Bool, true, false, ◌&&◌, ◌==◌, List, [], slice_index_or, Option, Some, None}
use Rattle.psabi_sym.specs.Resolve.{Definition, linker_number}
use Rattle.psabi_sym.specs.Resolve.Definition.{InObject, AtNumber}
use Rattle.psabi_sym.specs.Invariants.Rows.{symbol_row}
use Rattle.psabi_sym.specs.declared.meaning.LinkerNumbers.{LinkerNumbers}
use Rattle.psabi_sym.specs.declared.meaning.Meaning.{Meaning}
use Rattle.psabi_sym.specs.declared.meaning.Meaning.TheVariants.{Symbol, Number, Nothing}
use Rattle.psabi_sym.specs.declared.symbol_row.SymbolRow.{SymbolRow}

-- a strong definition, else common, else a weak definition, else the linker's number
abbrev pub meaning_of : Option SymbolRow → Option ℕ → Option SymbolRow → Option ℕ → Meaning
meaning_of (Some r) common weak linker = Symbol r
meaning_of None (Some n) weak linker = Number n
meaning_of None None (Some r) linker = Symbol r
meaning_of None None None (Some n) = Number n
meaning_of None None None None = Nothing

-- a definition, or nothing
abbrev pub row_meaning : Option SymbolRow → Meaning
row_meaning None = Nothing
row_meaning (Some r) = Symbol r

-- what was found before, or else a row
abbrev pub first_found : Meaning → SymbolRow → Meaning
first_found Nothing row = Symbol row
first_found (Symbol r) row = Symbol r
first_found (Number n) row = Number n

-- the name with a number, by the tables
abbrev pub meaning_at : List (List ℕ) → List (Option SymbolRow) → List (Option ℕ) → List (Option SymbolRow) → LinkerNumbers → ℕ → Meaning
meaning_at names strong commons weak numbers k =
    meaning_of (slice_index_or strong k None) (slice_index_or commons k None) (slice_index_or weak k None) (linker_number numbers (slice_index_or names k []))

-- the meaning of what defines a name
abbrev pub meaning_row : List (List ℕ) → Option Definition → Meaning
meaning_row names None = Nothing
meaning_row names (Some (InObject l)) = Symbol (symbol_row names l)
meaning_row names (Some (AtNumber n)) = Number n

-- nothing
abbrev pub is_nothing : Meaning → Bool
is_nothing (Symbol r) = false
is_nothing (Number n) = false
is_nothing Nothing = true

-- a global symbol that is undefined, is used, and that nothing defines, by its row and whether it is used
abbrev pub row_is_missing : List Meaning → SymbolRow × Bool → Bool
row_is_missing meanings e = e.0.bind == 1 && e.0.home == 0 && e.1 && is_nothing (slice_index_or meanings e.0.name Nothing)
