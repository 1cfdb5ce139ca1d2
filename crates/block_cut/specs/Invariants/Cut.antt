-- A cut: inputs without a fault, with what the code keeps of them.
use Rattle.std.specs.Prelude.{◌≡◌, ℕ, List, None}
use Rattle.zc_base.specs.MemMap.{IsMap}
use Rattle.zc_base.specs.declared.place.Place.{Place}
use Rattle.psabi_sym.specs.Inputs.{Inputs, parsed}
use Rattle.block_cut.specs.DataWords.{data_words}
use Rattle.block_cut.specs.Faults.{first_fault}
use Rattle.block_cut.specs.Items.{entry_of}
use Rattle.block_cut.specs.Invariants.Led.{has_place}
use Rattle.block_cut.specs.Leaders.{is_led_to}
use Rattle.block_cut.specs.Invariants.CodeTables.{AreCodeTables}
use Rattle.block_cut.specs.declared.data_word.DataWord.{DataWord}
use Rattle.block_cut.specs.declared.leaders.Leaders.{Leaders}
use Rattle.block_cut.specs.declared.code_tables.CodeTables.{CodeTables}

-- the place at an offset of a section, by its object's index and its own
abbrev pub place_at : ℕ → ℕ → ℕ → Place
place_at o i n = record { object = o; section = i; offset = n }

-- what the code keeps: all sections, the words of data, where the program starts, and where relocations, items and symbols lead
pub record IsCut (inputs : Inputs) (tables : CodeTables) (words : List DataWord) (entry : Place) (leaders : Leaders) : Type 0 where
  pub faultless : first_fault inputs ≡ None
  pub is_map : IsMap inputs.map
  pub tables_are : AreCodeTables (parsed inputs) tables
  pub words_are : words ≡ data_words (parsed inputs)
  pub entry_is : entry ≡ entry_of (parsed inputs)
  pub leaders_are : (q : Place) → has_place (parsed inputs).objects leaders q ≡ is_led_to (parsed inputs) q
