-- An object in memory.
use Rattle.std.specs.Prelude.{◌≡◌, ◌<◌, ℕ, List, length, None, Option, slice_index_or}
use Rattle.elf32_read.specs.Header.{section_count}
use Rattle.elf32_read.specs.Object.{object_fault}
use Rattle.elf32_read.specs.Relas.{IsRelaOf}
use Rattle.elf32_read.specs.Symbols.{IsSymbolSection}

-- an object without a fault, with the section of its symbols, and the section with the relocations of each section
pub record IsLoaded (file : List ℕ) (symbol_section : Option ℕ) (relas : List (Option ℕ)) : Type 0 where
  pub faultless : object_fault file ≡ None
  pub symbols : IsSymbolSection file symbol_section
  pub count : length relas ≡ section_count file
  pub relas_are : (s : ℕ) → s < section_count file → IsRelaOf file s (slice_index_or relas s None)
