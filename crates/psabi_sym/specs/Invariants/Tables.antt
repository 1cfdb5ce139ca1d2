-- The tables of a link: what stands beside the files for look-ups in constant time.
use Rattle.std.specs.Prelude.{◌≡◌, ◌+◌, ℕ, None, true, List, length, map, slice_index_or, All}
use Rattle.std.specs.List.{range_with_len}
use Rattle.psabi_sym.specs.Data.{class_end}
use Rattle.psabi_sym.specs.Faults.{name_fault}
use Rattle.psabi_sym.specs.Inputs.{ParsedInputs}
use Rattle.psabi_sym.specs.Indexed.{all_sections, all_symbols}
use Rattle.psabi_sym.specs.Invariants.Meanings.{meaning_row}
use Rattle.psabi_sym.specs.Names.{goes_by_name}
use Rattle.psabi_sym.specs.Invariants.Numbered.{IsNumbered}
use Rattle.psabi_sym.specs.Resolve.{name_definition}
use Rattle.psabi_sym.specs.Start.{IsStart}
use Rattle.psabi_sym.specs.Invariants.Rows.{AreAddressed, name_number, section_row, section_starts, symbol_starts}
use Rattle.psabi_sym.specs.declared.data_class.DataClass.TheVariants.{SmallData, Common}
use Rattle.psabi_sym.specs.declared.meaning.Meaning.{Meaning}
use Rattle.psabi_sym.specs.declared.meaning.Meaning.TheVariants.{Nothing}
use Rattle.psabi_sym.specs.declared.named.Named.{Named}
use Rattle.psabi_sym.specs.declared.section_row.SectionRow.{SectionRow}
use Rattle.psabi_sym.specs.declared.symbol_row.SymbolRow.{SymbolRow}

-- the rows are those of all symbols by names with numbers, and the meanings are what the names stand for
pub record AreNamed (inputs : ParsedInputs) (symbols : List SymbolRow) (meanings : List Meaning) : Type 0 where
  pub names : List (List ℕ)
  pub numbered : IsNumbered names (all_symbols inputs.objects) symbols
  pub count : length meanings ≡ length names
  pub meant : All (λ l. goes_by_name l.symbol ≡ true
      → slice_index_or meanings (name_number names l.symbol.name) Nothing ≡ meaning_row names (name_definition inputs l.symbol.name)) (all_symbols inputs.objects)

-- the addresses of sections, what names stand for, and where data ends
pub record AreDefined (inputs : ParsedInputs) (sections : List SectionRow) (addresses : List ℕ) (symbols : List SymbolRow) (meanings : List Meaning) (file_end end : ℕ) : Type 0 where
  pub placed : AreAddressed sections inputs.map.data_low addresses
  pub count : length addresses ≡ length sections
  pub named : AreNamed inputs symbols meanings
  pub file_end_is : file_end ≡ class_end inputs SmallData
  pub end_is : end ≡ class_end inputs Common

-- symbols and definitions are those of inputs whose names have no fault
pub record HasNameNumber (inputs : ParsedInputs) (sections : List SectionRow) (named : Named) : Type 0 where
  pub defined : AreDefined inputs sections named.definitions.addresses.items named.symbols.rows.items named.definitions.meanings.items named.definitions.file_end named.definitions.end
  pub start : IsStart inputs named.definitions.start
  pub starts : named.symbols.starts.items ≡ map (symbol_starts inputs.objects) (range_with_len 0 (length inputs.objects + 1))
  pub faultless : name_fault inputs ≡ None

-- the rows of all sections and symbols, with where each object's begin
pub record AreIndexed (inputs : ParsedInputs) (sections : List SectionRow) (section_places symbol_places : List ℕ) : Type 0 where
  pub sections_are : sections ≡ map (section_row inputs.fixed) (all_sections inputs.objects)
  pub sections_begin : section_places ≡ map (section_starts inputs.objects) (range_with_len 0 (length inputs.objects + 1))
  pub symbols_begin : symbol_places ≡ map (symbol_starts inputs.objects) (range_with_len 0 (length inputs.objects + 1))
