-- Objects whose code shares equal tails: what stands in their files, that these run as the given ones do, in at most twice the steps,
-- and how much was removed.
use Rattle.std.specs.Prelude.{◌≡◌, ℕ, ◌+◌, ◌⊎◌, true, List, filter, map, Some, None}
use Rattle.std.specs.List.{sum_by}
use Rattle.std.specs.Option.{option_map}
use Rattle.zc_base.specs.declared.place.Place.{Place}
use Rattle.elf32_read.specs.Parts.{ObjectParts, is_code_section}
use Rattle.elf32_read.specs.declared.fault.Fault.{Fault}
use Rattle.elf32_write.specs.ObjectFile.{object_bytes}
use Rattle.rv_decode.specs.declared.instr.Instr.{Instr}
use Rattle.psabi_sym.specs.Indexed.{all_sections}
use Rattle.psabi_sym.specs.Inputs.{Inputs, ParsedInputs, parsed}
use Rattle.psabi_sym.specs.declared.target.Target.{Target}
use Rattle.block_cut.specs.Faults.{first_fault}
use Rattle.block_cut.specs.Items.{is_end_at, is_start_at, item_at}
use Rattle.block_cut.specs.Leaders.{is_leader_at}
use Rattle.block_cut.specs.declared.item.Item.TheVariants.{PcHi}
use Rattle.sym_machine.specs.AddressParts.{pc_target}
use Rattle.sym_machine.specs.Objects.{program_of}
use Rattle.sym_machine.specs.Program.{Program}
use Rattle.moved_runs.specs.Moved.{moved_target}
use Rattle.moved_runs.specs.Moves.{KeepsRuns, MovesSharing}
use Rattle.moved_runs.specs.Passes.{with_files}
use Rattle.tail_merge.specs.Merged.{byte_count, merged, merged_place, tail_count}
use Rattle.tail_merge.specs.declared.merge_fault.MergeFault.{MergeFault}
use Rattle.tail_merge.specs.declared.merge_fault.MergeFault.TheVariants.{Object, Broken, OutOfMemory}

-- ---- files

-- the files of the given objects with equal tails shared
abbrev pub merged_files : Inputs → List (List ℕ)
merged_files inputs = map object_bytes (merged (parsed inputs))

-- the bytes of all code
abbrev pub bytes_of_code : List ObjectParts → ℕ
bytes_of_code objects = sum_by (λ l. l.section.size) (filter (λ l. is_code_section l.section) (all_sections objects))

-- ---- runs

-- a place whose address a program may hold: where a basic block begins, where a section of code ends, and where an `auipc` with a
-- relocation stands
abbrev pub IsHeld : ParsedInputs → Place → Type 0
IsHeld inputs q =
    ((is_start_at inputs.objects q ≡ true) × (is_leader_at inputs q ≡ true))
    ⊎ ((is_end_at inputs.objects q ≡ true) ⊎ ((i : Instr) × (t : Target) × (item_at inputs q ≡ Some (PcHi i t))))

-- a program may come to any place
abbrev pub IsAnywhere : Place → Type 0
IsAnywhere q = Unit {0}

-- the `auipc` items at places that a program may hold have the same targets, moved
abbrev pub MovesUppers : (Place → Type 0) → (Place → Place) → Program → Program → Type 0
MovesUppers K M p p' = (q : Place) → K q → pc_target (p'.item (M q)) ≡ option_map (moved_target M) (pc_target (p.item q))

-- the files hold the given objects with equal tails shared. Neither the given ones nor these have a fault. At each place stands the
-- same item, a jump to the same operation, or one at which the machine is stuck; and what the one program comes to in some steps, the
-- other does in at most twice as many
pub record AreMerged (inputs : Inputs) (files : List (List ℕ)) : Type 0 where
  pub given_faultless : first_fault inputs ≡ None
  pub files_are : files ≡ merged_files inputs
  pub faultless : first_fault (with_files inputs files) ≡ None
  pub shares :
      MovesSharing (IsHeld (parsed inputs)) IsAnywhere (merged_place (parsed inputs)) (program_of (parsed inputs))
      (program_of (parsed (with_files inputs files)))
  pub uppers :
      MovesUppers (IsHeld (parsed inputs)) (merged_place (parsed inputs)) (program_of (parsed inputs))
      (program_of (parsed (with_files inputs files)))
  pub runs : KeepsRuns (merged_place (parsed inputs)) (program_of (parsed inputs)) (program_of (parsed (with_files inputs files)))

-- ---- the answer

-- files, how many tails were removed, and how many bytes of code fewer there are
pub record Merging : Type 0 where
  pub files : List (List ℕ)
  pub tails : ℕ
  pub bytes : ℕ

-- these are the files with equal tails shared, and the numbers are those of the removed tails and of the bytes that went with them
pub record IsMerging (inputs : Inputs) (m : Merging) : Type 0 where
  pub merged : AreMerged inputs m.files
  pub tails : m.tails ≡ tail_count (parsed inputs)
  pub bytes : m.bytes ≡ byte_count (parsed inputs)
  pub fewer : bytes_of_code (parsed (with_files inputs m.files)).objects + m.bytes ≡ bytes_of_code (parsed inputs).objects

-- the given objects have no fault, but with equal tails shared they do, and this is the first
pub record BreaksMerged (inputs : Inputs) (i : ℕ) (fault : Fault) : Type 0 where
  pub given_faultless : first_fault inputs ≡ None
  pub broken : first_fault (with_files inputs (merged_files inputs)) ≡ Some (i, fault)

-- the first fault of the given objects, or of the result if they have none; when memory ran out nothing is said
abbrev pub IsMergeFault : Inputs → MergeFault → Type 0
IsMergeFault inputs (Object i fault) = first_fault inputs ≡ Some (i, fault)
IsMergeFault inputs (Broken i fault) = BreaksMerged inputs i fault
IsMergeFault inputs OutOfMemory = Unit {0}
