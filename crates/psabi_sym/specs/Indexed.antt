-- The sections and symbols of all objects, each with its object's index and its own.
use Rattle.std.specs.Prelude.{◌≡◌, ℕ, List, [], ◌++◌, drop, map, slice_get, take, Option, Some, None, MatchOption}
use Rattle.std.specs.List.{enumerate_from, flat_map}
use Rattle.std.specs.Option.{option_and_then, option_map_or}
use Rattle.elf32_read.specs.Parts.{ObjectParts, SectionParts, SymbolParts}

-- a section of one of the objects
pub record IndexedSection : Type 0 where
  pub object : ℕ
  pub index : ℕ
  pub section : SectionParts

-- a symbol of one of the objects
pub record IndexedSymbol : Type 0 where
  pub object : ℕ
  pub index : ℕ
  pub symbol : SymbolParts

-- an object's sections, in order
abbrev pub sections_in : ℕ × ObjectParts → List IndexedSection
sections_in o = map (λ s. record { object = o.0; index = s.0; section = s.1 }) (enumerate_from 0 o.1.sections)

-- an object's symbols, in order; symbol 0 stands for none
abbrev pub symbols_in : ℕ × ObjectParts → List IndexedSymbol
symbols_in o = map (λ s. record { object = o.0; index = s.0; symbol = s.1 }) (drop 1 (enumerate_from 0 o.1.symbols))

-- all sections, by object and index
unfoldable pub all_sections : List ObjectParts → List IndexedSection
all_sections objects = flat_map sections_in (enumerate_from 0 objects)

-- all symbols, by object and index
unfoldable pub all_symbols : List ObjectParts → List IndexedSymbol
all_symbols objects = flat_map symbols_in (enumerate_from 0 objects)

-- a section, by its object's index and its own
abbrev pub section_at : List ObjectParts → ℕ → ℕ → Option SectionParts
section_at objects o i = option_and_then (λ object. slice_get object.sections i) (slice_get objects o)

-- a symbol, by its object's index and its own
abbrev pub symbol_at : List ObjectParts → ℕ → ℕ → Option SymbolParts
symbol_at objects o s = option_and_then (λ object. slice_get object.symbols s) (slice_get objects o)

-- the number of a section among all, by its object's index and its own; none if there is no such section
abbrev pub IsSectionNumber : List ObjectParts → ℕ → ℕ → Option ℕ → Type 0
IsSectionNumber objects o i number =
    MatchOption number (section_at objects o i ≡ None)
    (λ k. (s : SectionParts) × (section_at objects o i ≡ Some s) × (slice_get (all_sections objects) k ≡ Some (record { object = o; index = i; section = s })))

-- the sections before one: all of the objects before its own, and then those before it in its own
unfoldable pub sections_before : List ObjectParts → ℕ → ℕ → List IndexedSection
sections_before objects o i =
    all_sections (take o objects) ++ option_map_or (λ object. take i (sections_in (o, object))) (slice_get objects o) []
