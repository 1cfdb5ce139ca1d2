-- The files of parts, and what it takes for them to have none of the faults, said of the parts.
use Rattle.std.specs.Prelude.{◌≡◌, ◌≤◌, ◌<◌, ◌+◌, ◌^◌, ℕ, List, [], ◌∷◌, ◌++◌, length, map, All, Some, None}
use Rattle.std.specs.List.{sum_by}
use Rattle.zc_base.specs.Options.{options_in}
use Rattle.zc_base.specs.declared.mem_map.MemMap.{MemMap}
use Rattle.zc_base.specs.declared.place.Place.{Place}
use Rattle.elf32_read.specs.Parts.{ObjectParts}
use Rattle.elf32_write.specs.ObjectFile.{object_bytes, object_size}
use Rattle.elf32_write.specs.Ranges.{IsPartsSized}
use Rattle.elf32_write.specs.Writable.{IsWritable, added_parts, in_object, null_part, null_symbol_part}
use Rattle.psabi_sym.specs.Data.{data_end}
use Rattle.psabi_sym.specs.Faults.{code_room, common_room, data_room, gather_fault, most_objects}
use Rattle.psabi_sym.specs.Inputs.{Inputs, ParsedInputs, inputs_in}
use Rattle.psabi_sym.specs.declared.sums.Sums.{Sums}
use Rattle.block_cut.specs.Items.{entry_in}
use Rattle.sound_objects.specs.WellFormed.{AllBranchesReach, AllRelocsAreRight, HaveDefinitions, AreSingle, AreSmall}

-- ---- files

-- parts that can be written, whose numbers have room in their fields
pub record CanBeWritten (p : ObjectParts) : Type 0 where
  pub writable : IsWritable p
  pub flags : p.flags < 2 ^ 32
  pub sized : IsPartsSized p.sections p.symbols

-- the files of parts, in order, and a map alone
abbrev pub inputs_of_parts : MemMap → List ObjectParts → Inputs
inputs_of_parts memory parts = inputs_in (options_in memory) (map object_bytes parts)

-- what a file of parts reads as: section 0 and symbol 0 come first, and the sections that are added last
abbrev pub read_of : ObjectParts → ObjectParts
read_of p = record {
  flags = p.flags;
  sections = map (in_object p.flags) (null_part ∷ p.sections ++ added_parts p);
  symbols = null_symbol_part ∷ p.symbols;
}

-- what the files read as
abbrev pub objects_of : MemMap → List ObjectParts → ParsedInputs
objects_of memory parts = record { objects = map read_of parts; map = memory; fixed = [] }

-- ---- sums

-- the room of parts in code, and in data: what is added has none
abbrev pub parts_code : ObjectParts → ℕ
parts_code p = sum_by code_room (map (in_object p.flags) p.sections)

abbrev pub parts_data : ObjectParts → ℕ
parts_data p = sum_by data_room (map (in_object p.flags) p.sections) + sum_by common_room p.symbols

-- the sums over files
abbrev pub parts_sums : List ObjectParts → Sums
parts_sums parts = record {
  file_bytes = sum_by object_size parts;
  code_room = sum_by parts_code parts;
  data_room = sum_by parts_data parts;
}

-- ---- the whole

-- parts whose files have no fault: they can be written, and then it is what `IsWellFormed` says
pub record AreWellFormed (memory : MemMap) (parts : List ObjectParts) : Type 0 where
  pub written : All CanBeWritten parts
  pub few : length parts ≤ most_objects
  pub small : AreSmall (parts_sums parts)
  pub single : AreSingle (map read_of parts)
  pub defined : HaveDefinitions (objects_of memory parts)
  pub room : data_end (objects_of memory parts) ≤ memory.stack_low
  pub relocs : AllRelocsAreRight (objects_of memory parts)
  pub entry : Place
  pub entry_found : entry_in (objects_of memory parts) ≡ Some entry
  pub near : gather_fault (inputs_of_parts memory parts) ≡ None → AllBranchesReach (objects_of memory parts)
