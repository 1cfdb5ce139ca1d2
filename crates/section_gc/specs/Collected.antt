-- Objects without the code that nothing reaches: what stands in their files, that these run as the given ones do, and how much code
-- is left.
use Rattle.std.specs.Prelude.{◌≡◌, ℕ, ⊤, Bool, true, List, length, map, None, Some}
use Rattle.elf32_read.specs.declared.fault.Fault.{Fault}
use Rattle.elf32_read.specs.declared.fault.Fault.TheVariants.{Range, TooLarge}
use Rattle.elf32_write.specs.ObjectFile.{object_bytes}
use Rattle.psabi_sym.specs.Inputs.{Inputs, parsed}
use Rattle.block_cut.specs.Faults.{first_fault}
use Rattle.sym_machine.specs.Objects.{program_of}
use Rattle.zc_base.specs.declared.place.Place.{Place}
use Rattle.section_gc.specs.Cleaned.{cleaned, moved_by}
use Rattle.section_gc.specs.Counts.{all_code, listed_bytes, needed_code}
use Rattle.section_gc.specs.Kept.{AreNeeded}
use Rattle.section_gc.specs.declared.gc_fault.GcFault.{GcFault}
use Rattle.section_gc.specs.declared.gc_fault.GcFault.TheVariants.{Object, Broken, OutOfMemory}
use Rattle.moved_runs.specs.Moves.{MovesExactly, SameRuns}
use Rattle.moved_runs.specs.Passes.{renumbered, with_files}

-- the files of the given objects without the code that isn't needed
abbrev pub collected_files : Inputs → (ℕ → ℕ → Bool) → List (List ℕ)
collected_files inputs needed = map object_bytes (cleaned needed (parsed inputs).objects)

-- where a place of the given objects is in the result: at the same offset, in its section under the new number
abbrev pub collected_place : Inputs → Place → Place
collected_place inputs = moved_by (renumbered (parsed inputs).objects)

-- a place in a section that is needed
abbrev pub IsInNeeded : (ℕ → ℕ → Bool) → Place → Type 0
IsInNeeded needed q = needed q.object q.section ≡ true

-- the files hold the given objects without the code that isn't needed. Neither the given ones nor these have a fault. The program
-- comes only to places in what is needed, where both have the same items; and the runs are the same, step by step, with sections under
-- their new numbers
pub record IsCollected (inputs : Inputs) (needed : ℕ → ℕ → Bool) (files : List (List ℕ)) : Type 0 where
  pub given_faultless : first_fault inputs ≡ None
  pub are_needed : AreNeeded (parsed inputs) needed
  pub files_are : files ≡ collected_files inputs needed
  pub faultless : first_fault (with_files inputs files) ≡ None
  pub moves :
      MovesExactly (IsInNeeded needed) (IsInNeeded needed) (collected_place inputs) (program_of (parsed inputs))
      (program_of (parsed (with_files inputs files)))
  pub runs : SameRuns (collected_place inputs) (program_of (parsed inputs)) (program_of (parsed (with_files inputs files)))

-- files, how many sections of code are kept of how many, and how many bytes these have of how many
pub record Collection : Type 0 where
  pub files : List (List ℕ)
  pub kept : ℕ
  pub all : ℕ
  pub bytes : ℕ
  pub from : ℕ

-- these are the files without the code that isn't needed, and the numbers are those of their code and of all
pub record IsCollection (inputs : Inputs) (c : Collection) : Type 0 where
  pub needed : ℕ → ℕ → Bool
  pub collected : IsCollected inputs needed c.files
  pub kept : c.kept ≡ length (needed_code needed (parsed inputs).objects)
  pub all : c.all ≡ length (all_code (parsed inputs).objects)
  pub bytes : c.bytes ≡ listed_bytes (needed_code needed (parsed inputs).objects)
  pub from : c.from ≡ listed_bytes (all_code (parsed inputs).objects)

-- the faults that objects without a fault may come to have when code is left out: a branch or jump may no longer reach, and files may
-- be too large
abbrev pub IsBreakage : Fault → Type 0
IsBreakage (Range section offset) = ⊤
IsBreakage TooLarge = ⊤
IsBreakage other = ⊥

-- the given objects have no fault, but those without the code that isn't needed do, and this is the first
pub record IsBroken (inputs : Inputs) (i : ℕ) (fault : Fault) : Type 0 where
  pub given_faultless : first_fault inputs ≡ None
  pub needed : ℕ → ℕ → Bool
  pub are_needed : AreNeeded (parsed inputs) needed
  pub broken : first_fault (with_files inputs (collected_files inputs needed)) ≡ Some (i, fault)
  pub is_breakage : IsBreakage fault

-- the first fault of the given objects, or of the result if they have none; when memory ran out nothing is said
abbrev pub IsGcFault : Inputs → GcFault → Type 0
IsGcFault inputs (Object i fault) = first_fault inputs ≡ Some (i, fault)
IsGcFault inputs (Broken i fault) = IsBroken inputs i fault
IsGcFault inputs OutOfMemory = Unit {0}
