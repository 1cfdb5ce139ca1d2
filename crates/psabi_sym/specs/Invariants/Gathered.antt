-- Objects in memory, with all that is kept beside their files.
use Rattle.std.specs.Prelude.{◌≡◌, None}
use Rattle.zc_base.specs.MemMap.{IsMap}
use Rattle.psabi_sym.specs.Faults.{gather_fault}
use Rattle.psabi_sym.specs.Inputs.{Inputs, parsed}
use Rattle.psabi_sym.specs.Start.{IsStart}
use Rattle.psabi_sym.specs.Invariants.Tables.{AreDefined, AreIndexed}
use Rattle.psabi_sym.specs.declared.definitions.Definitions.{Definitions}
use Rattle.psabi_sym.specs.declared.sections.SectionRows.{SectionRows}
use Rattle.psabi_sym.specs.declared.symbols.Symbols.{Symbols}

-- inputs without a fault, and the tables over their sections and symbols
pub record IsGathered (inputs : Inputs) (sections : SectionRows) (symbols : Symbols) (definitions : Definitions) : Type 0 where
  pub faultless : gather_fault inputs ≡ None
  pub is_map : IsMap inputs.map
  pub indexed : AreIndexed (parsed inputs) sections.rows.items sections.starts.items symbols.starts.items
  pub defined : AreDefined (parsed inputs) sections.rows.items definitions.addresses.items symbols.rows.items definitions.meanings.items definitions.file_end definitions.end
  pub start : IsStart (parsed inputs) definitions.start
