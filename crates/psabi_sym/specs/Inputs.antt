-- What a link is given: the files of the objects, where memory lies, and the names of sections of code that stay as they were
-- compiled.
use Rattle.std.specs.Prelude.{ℕ, List, map}
use Rattle.zc_base.specs.Options.{Options}
use Rattle.zc_base.specs.declared.mem_map.MemMap.{MemMap}
use Rattle.elf32_read.specs.Parts.{ObjectParts, object_parts}

-- the objects' files in their order, the map, and the names
pub record Inputs : Type 0 where
  pub files : List (List ℕ)
  pub map : MemMap
  pub fixed : List (List ℕ)

-- the inputs of these files with these options
abbrev pub inputs_in : Options → List (List ℕ) → Inputs
inputs_in options files = record { files = files; map = options.map; fixed = options.fixed }

-- inputs that are read: each object as what its file reads as, the map, and the names
pub record ParsedInputs : Type 0 where
  pub objects : List ObjectParts
  pub map : MemMap
  pub fixed : List (List ℕ)

-- what inputs without a fault read as; from here on their bytes play no part
abbrev pub parsed : Inputs → ParsedInputs
parsed inputs = record { objects = map object_parts inputs.files; map = inputs.map; fixed = inputs.fixed }

-- what these files read as with these options
abbrev pub read_from : List (List ℕ) → Options → ParsedInputs
read_from files options = parsed (inputs_in options files)
