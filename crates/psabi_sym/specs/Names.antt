-- Which symbols define a name (System V gABI, "Symbol Table": symbol bindings and special section indexes).
use Rattle.std.specs.Prelude.{ℕ, Bool, not, ◌&&◌, ◌||◌, ◌==◌, nat_eq, List, [], ◌∷◌, filter, Option}
use Rattle.std.specs.Cmp.Lexicographic.{pointwise}
use Rattle.std.specs.List.{find}
use Rattle.elf32_read.specs.Parts.{ObjectParts, SymbolParts}
use Rattle.psabi_sym.specs.Indexed.{IndexedSymbol, all_symbols}

-- two names are the same bytes
abbrev pub same_name : List ℕ → List ℕ → Bool
same_name first second = pointwise nat_eq first second

-- a common symbol (SHN_COMMON, 0xFFF2), whatever its binding
abbrev pub is_common : SymbolParts → Bool
is_common s = s.home == 0xFFF2

-- a symbol goes by its name if it is common or not local (0); any other is its own definition
abbrev pub goes_by_name : SymbolParts → Bool
goes_by_name s = is_common s || not (s.bind == 0)

-- a symbol with this binding that is defined: it is neither undefined (SHN_UNDEF, 0) nor common
abbrev pub is_definition : ℕ → SymbolParts → Bool
is_definition bind s = s.bind == bind && not (s.home == 0) && not (is_common s)

-- a global (1) definition
abbrev pub is_strong : SymbolParts → Bool
is_strong s = is_definition 1 s

-- the first definition of a name with this binding
abbrev pub first_definition : ℕ → List ObjectParts → List ℕ → Option IndexedSymbol
first_definition bind objects name = find (λ l. is_definition bind l.symbol && same_name l.symbol.name name) (all_symbols objects)

-- the first strong definition of a name
abbrev pub strong_definition : List ObjectParts → List ℕ → Option IndexedSymbol
strong_definition objects name = first_definition 1 objects name

-- the first weak (2) definition of a name
abbrev pub weak_definition : List ObjectParts → List ℕ → Option IndexedSymbol
weak_definition objects name = first_definition 2 objects name

-- the first symbol of each name, in order
abbrev pub firsts : List IndexedSymbol → List IndexedSymbol
firsts [] = []
firsts (l ∷ ls) = l ∷ filter (λ m. not (same_name m.symbol.name l.symbol.name)) (firsts ls)
