-- Passes that write objects: what the result keeps of the given objects. The kept sections stay in their order and in their roles,
-- all data stay as they are, and symbols stay under their numbers, with their names and bindings. What becomes of code, of
-- relocations and of a symbol's place is the pass's own.
use Rattle.std.specs.Prelude.{◌≡◌, ◌≤◌, ◌<◌, ◌⊎◌, ◌+◌, ℕ, true, false, ◌&&◌, ◌==◌, if◌then◌else◌, List, [], ◌∷◌, ◌++◌, length, take, drop, filter, map, slice_get, All, Option, None}
use Rattle.std.specs.List.{enumerate_from, list_any}
use Rattle.std.specs.Option.{option_map_or}
use Rattle.elf32_read.specs.Parts.{ObjectParts, SectionParts, SymbolParts, is_code_section, is_kept_section}
use Rattle.psabi_sym.specs.Inputs.{Inputs, ParsedInputs}

-- ---- what stays of sections and symbols

-- a section keeps what says what it is, and one of data its alignment, size and content as well
pub record KeepsSection (s t : SectionParts) : Type 0 where
  pub name : t.name ≡ s.name
  pub kind : t.kind ≡ s.kind
  pub flags : t.flags ≡ s.flags
  pub align : is_code_section s ≡ false → t.align ≡ s.align
  pub size : is_code_section s ≡ false → t.size ≡ s.size
  pub bytes : is_code_section s ≡ false → t.bytes ≡ s.bytes

-- a symbol keeps its name and its binding; whether it is common (0xFFF2) or undefined (0); and if it is common, all else
pub record KeepsSymbol (s t : SymbolParts) : Type 0 where
  pub name : t.name ≡ s.name
  pub bind : t.bind ≡ s.bind
  pub common : (t.home == 0xFFF2) ≡ (s.home == 0xFFF2)
  pub undefined : (t.home == 0) ≡ (s.home == 0)
  pub whole : (s.home == 0xFFF2) ≡ true → t ≡ s

-- the section that a symbol is in, if it is in one
abbrev pub home_of : ObjectParts → SymbolParts → Option SectionParts
home_of object s = if s.home == 0 then None else slice_get object.sections s.home

-- ---- the given objects

-- the inputs with other files
abbrev pub with_files : Inputs → List (List ℕ) → Inputs
with_files inputs files = record { files = files; map = inputs.map; fixed = inputs.fixed }

-- a symbol is in a section of its object, a number by itself (ABS, 0xFFF1), or common; a local one isn't undefined
pub record IsHomed (object : ObjectParts) (s : SymbolParts) : Type 0 where
  pub home : (s.home < length object.sections) ⊎ ((s.home ≡ 0xFFF1) ⊎ (s.home ≡ 0xFFF2))
  pub somewhere : (s.bind == 0 && s.home == 0) ≡ false

-- what each object without a fault has: few sections, and symbols that are somewhere
pub record IsOrderly (object : ObjectParts) : Type 0 where
  pub few : length object.sections ≤ 4096
  pub homes : All (IsHomed object) (drop 1 object.symbols)

-- ---- the pass

-- what becomes of a section and of a symbol, and a section's new number: by the object's index, and a section by its own index too
pub record Pass : Type 0 where
  pub section : ℕ → ℕ → SectionParts → SectionParts
  pub symbol : ℕ → ObjectParts → SymbolParts → SymbolParts
  pub number : ℕ → ℕ → ℕ
  pub keeps_sections : (o i : ℕ) (s : SectionParts) → KeepsSection s (section o i s)
  pub keeps_symbols : (o : ℕ) (object : ObjectParts) (s : SymbolParts) → IsOrderly object → KeepsSymbol s (symbol o object s)

-- ---- the result

-- the number of a kept section among the kept ones of its object, from 1 on
abbrev pub new_number : List SectionParts → ℕ → ℕ
new_number sections i = 1 + length (filter is_kept_section (take i sections))

-- the new number of a section, by its object's index and its own
abbrev pub renumbered : List ObjectParts → ℕ → ℕ → ℕ
renumbered objects o i = option_map_or (λ object. new_number object.sections i) (slice_get objects o) 0

-- what becomes of the kept ones of these sections, the first of which has this index
abbrev pub passed_from : (ℕ → SectionParts → SectionParts) → ℕ → List SectionParts → List SectionParts
passed_from section i sections = map (λ e. section e.0 e.1) (filter (λ e. is_kept_section e.1) (enumerate_from i sections))

-- what is written of an object, with the same e_flags: its kept sections in order, and its symbols but symbol 0, which is no part
abbrev pub passed_object : Pass → ℕ → ObjectParts → ObjectParts
passed_object pass o object = record {
  flags = object.flags;
  sections = passed_from (pass.section o) 0 object.sections;
  symbols = map (pass.symbol o object) (drop 1 object.symbols);
}

-- the same of all objects
abbrev pub passed_objects : Pass → List ObjectParts → List ObjectParts
passed_objects pass objects = map (λ e. passed_object pass e.0 e.1) (enumerate_from 0 objects)

-- an object of the result, of the given object with this index. Before the kept sections stands a section 0, behind them may stand
-- others: all these are dropped
pub record IsPassOf (pass : Pass) (n : ℕ) (given result : ObjectParts) : Type 0 where
  pub orderly : IsOrderly given
  pub numbers : (i : ℕ) → pass.number n i ≡ new_number given.sections i
  pub null : SectionParts
  pub null_dropped : is_kept_section null ≡ false
  pub added : List SectionParts
  pub added_dropped : list_any is_kept_section added ≡ false
  pub sections : result.sections ≡ null ∷ passed_from (pass.section n) 0 given.sections ++ added
  pub null_symbol : SymbolParts
  pub symbols : result.symbols ≡ null_symbol ∷ map (pass.symbol n given) (drop 1 given.symbols)

-- the same of objects in order, the first of which has this index
abbrev pub ArePassesFrom : Pass → ℕ → List ObjectParts → List ObjectParts → Type 0
ArePassesFrom pass n [] [] = Unit {0}
ArePassesFrom pass n [] (r ∷ rs) = ⊥
ArePassesFrom pass n (g ∷ gs) [] = ⊥
ArePassesFrom pass n (g ∷ gs) (r ∷ rs) = IsPassOf pass n g r × ArePassesFrom pass (n + 1) gs rs

-- and of all, with the same map of memory and the same names of sections that stay as they were compiled
pub record ArePassed (pass : Pass) (given result : ParsedInputs) : Type 0 where
  pub objects : ArePassesFrom pass 0 given.objects result.objects
  pub map : result.map ≡ given.map
  pub fixed : result.fixed ≡ given.fixed
