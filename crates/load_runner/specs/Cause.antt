-- Why a load of objects has no result.
use Rattle.std.specs.Prelude.{◌⊎◌, ℕ, [], List, ⊤}
use Rattle.interrupt_plan.specs.Made.{made_plan}
use Rattle.interrupt_plan.specs.Plan.{Entry}
use Rattle.psabi_sym.specs.Inputs.{Inputs}
use Rattle.zc_outside.specs.Course.{IsSpent, StopsWith}
use Rattle.load_runner.specs.Load.{BothLinks}
use Rattle.load_runner.specs.Runs.{Exits, image_run, trace_run}
use Rattle.load_runner.specs.declared.load_end.LoadEnd.{LoadEnd}
use Rattle.load_runner.specs.declared.load_end.LoadEnd.TheVariants.{Stuck, Spent, OutOfMemory}
use Rattle.load_runner.specs.declared.run_load.TheConstants.{LOAD_CUTS}

-- ---- one run

-- the program's run is stuck at this place, or makes all its steps without an exit; memory may run out in any run
abbrev pub TraceCause : Inputs → LoadEnd → Type 0
TraceCause inputs (Stuck place why) = StopsWith (trace_run inputs) (place, why)
TraceCause inputs Spent = IsSpent (trace_run inputs)
TraceCause inputs OutOfMemory = ⊤

-- an image's run makes all its commits without an exit; memory may run out in any run
abbrev pub ImageCause : List ℕ → List Entry → LoadEnd → Type 0
ImageCause elf plan (Stuck place why) = ⊥
ImageCause elf plan Spent = IsSpent (image_run elf plan)
ImageCause elf plan OutOfMemory = ⊤

-- one of two runs of an image makes all its commits without an exit: the run without interrupts, or, if that exits,
-- the run under a plan
abbrev pub BothCause : List ℕ → List Entry → LoadEnd → Type 0
BothCause elf plan (Stuck place why) = ⊥
BothCause elf plan Spent = IsSpent (image_run elf []) ⊎ (Exits (image_run elf []) × IsSpent (image_run elf plan))
BothCause elf plan OutOfMemory = ⊤

-- ---- all runs

-- one of the runs makes all its steps or commits without an exit, and the runs before it exit
pub data IsOneSpent (inputs : Inputs) (number : ℕ) : Type 0 where
  in_trace : IsSpent (trace_run inputs) → IsOneSpent inputs number
  in_plain :
      Exits (trace_run inputs) → (links : BothLinks inputs) → IsSpent (image_run links.plain.elf [])
      → IsOneSpent inputs number
  in_zc :
      Exits (trace_run inputs) → (links : BothLinks inputs) → Exits (image_run links.plain.elf [])
      → IsSpent (image_run links.zc.elf []) → IsOneSpent inputs number
  in_cuts :
      Exits (trace_run inputs) → (links : BothLinks inputs) → Exits (image_run links.plain.elf [])
      → Exits (image_run links.zc.elf []) → IsSpent (image_run links.zc.elf (made_plan number LOAD_CUTS))
      → IsOneSpent inputs number

-- the program's run is stuck at this place, or a run makes all its steps or commits without an exit; memory may run
-- out in any run
abbrev pub LoadCause : Inputs → ℕ → LoadEnd → Type 0
LoadCause inputs number (Stuck place why) = StopsWith (trace_run inputs) (place, why)
LoadCause inputs number Spent = IsOneSpent inputs number
LoadCause inputs number OutOfMemory = ⊤
