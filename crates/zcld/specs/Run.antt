-- What `run` does: it reads an image, a text of devices and a plan of interrupts, takes the console's whole input, unless the devices
-- answer without it, and makes commits of the Zc machine with the devices and under the plan.
use Rattle.std.specs.Prelude.{◌≡◌, ℕ, if◌then◌else◌, List, [], ◌∷◌, ◌++◌, slice_get, Option, Some, None, Result, Ok, Err}
use Rattle.std.specs.Option.{option_map, option_map_or, option_or}
use Rattle.zc_base.specs.declared.mem_map.MemMap.{MemMap}
use Rattle.devices.specs.Environment.{Environment}
use Rattle.devices.specs.Lines.{DevicesLine, starts_reset}
use Rattle.elf32_read.specs.Image.{image_fault}
use Rattle.interrupt_plan.specs.Plan.{Entry}
use Rattle.interrupt_plan.specs.Text.{plan_in}
use Rattle.interrupt_plan.specs.declared.fault.PlanFault.{PlanFault}
use Rattle.interrupt_plan.specs.declared.read_plan.TheConstants.{PLAN_LIMIT}
use Rattle.rv_decode.specs.State.{ZcCore}
use Rattle.zc_outside.specs.Desk.{Desk}
use Rattle.zc_outside.specs.Wanted.{Wanted}
use Rattle.zc_outside.specs.World.{World}
use Rattle.zc_machine.specs.Load.{first_core_of, reset_core}
use Rattle.zc_machine.specs.Run.{interrupts_by}
use Rattle.zc_machine.specs.RunEnd.{Ran, course_of}
use Rattle.zc_machine.specs.declared.run.RunEnd.{RunEnd}
use Rattle.zcld.specs.declared.limits.TheConstants.{IMAGE_LIMIT}
use Rattle.zcld.specs.declared.outcome.FileFault.TheVariants.{Image, Plan}
use Rattle.zcld.specs.declared.outcome.Outcome.{Outcome}
use Rattle.zcld.specs.declared.outcome.Outcome.TheVariants.{Exited, WriteFault, OutOfMemory, BadFile, Stopped, Spent}
use Rattle.zcld.specs.declared.run.RunFiles.{RunFiles}
use Rattle.zcld.specs.Given.{devices_refusal, devices_wanted, lines_given, text_file, text_held, text_wanted}
use Rattle.zcld.specs.Machines.{AnswersOrTakes, Executes}
use Rattle.zcld.specs.Task.{first_file}
use Rattle.zc_outside.specs.declared.console.ConsoleFault.TheVariants as console
use Rattle.zc_machine.specs.declared.run.RunEnd.TheVariants as end

-- ---- the files

-- a plan, if there is one, is read up to its limit
abbrev pub plan_wanted : Option (List ℕ) → List Wanted
plan_wanted plan = text_wanted PLAN_LIMIT plan

-- the image, and then the devices and the plan, if there are any, each up to its limit
abbrev pub run_wanted : Option (List ℕ) → Option (List ℕ) → List ℕ → List Wanted
run_wanted devices plan image = record { name = image; limit = IMAGE_LIMIT } ∷ (devices_wanted devices ++ plan_wanted plan)

-- what the files of `run` are
pub record RunTexts : Type 0 where
  pub image : List ℕ
  pub devices : Option (List ℕ)
  pub plan : Option (List ℕ)

-- which file is which, by the names that were given of devices and of a plan
abbrev pub run_texts : Option (List ℕ) → Option (List ℕ) → List (List ℕ) → RunTexts
run_texts None None files = record { image = first_file files; devices = None; plan = None }
run_texts None (Some plan) files = record { image = first_file files; devices = None; plan = slice_get files 1 }
run_texts (Some devices) None files = record { image = first_file files; devices = slice_get files 1; plan = None }
run_texts (Some devices) (Some plan) files =
    record { image = first_file files; devices = slice_get files 1; plan = slice_get files 2 }

-- the files of `run` as the program holds them
abbrev pub texts_held : RunFiles → RunTexts
texts_held files = record {
  image = files.image.items;
  devices = text_held files.devices;
  plan = text_held files.plan;
}

-- the files in their order
abbrev pub files_in_order : RunTexts → List (List ℕ)
files_in_order texts = texts.image ∷ (text_file texts.devices ++ text_file texts.plan)

-- the plan that a text spells; without a text there are no interrupts
abbrev pub plan_given : Option (List ℕ) → Result (List Entry) PlanFault
plan_given text = option_map_or plan_in text (Ok [])

-- ---- why they are refused

-- the first fault in an image
abbrev pub image_refusal : MemMap → List ℕ → Option Outcome
image_refusal map image = option_map (λ fault. BadFile (Image fault)) (image_fault image map)

-- the first fault in a plan
abbrev pub plan_refusal : {A : Type 0} → Result A PlanFault → Option Outcome
plan_refusal (Ok plan) = None
plan_refusal (Err fault) = Some (BadFile (Plan fault))

-- the first fault in the devices, and the plan's only if they have none
abbrev pub texts_refusal : MemMap → RunTexts → Option Outcome
texts_refusal map texts =
    option_or (devices_refusal (lines_given map texts.devices)) (plan_refusal (plan_given texts.plan))

-- the image's fault is named, the devices' only if the image has none, and the plan's only if neither has one
abbrev pub run_refusal : MemMap → RunTexts → Option Outcome
run_refusal map texts = option_or (image_refusal map texts.image) (texts_refusal map texts)

-- ---- the run

-- the outcome of each end; a stop names the program counter there
abbrev pub run_outcome : RunEnd → ℕ → Outcome
run_outcome (end.Exit code) pc = Exited code
run_outcome (end.Stopped reason) pc = Stopped reason pc
run_outcome end.Spent pc = Spent
run_outcome (end.Console console.Failed) pc = WriteFault
run_outcome (end.Console console.OutOfMemory) pc = OutOfMemory

-- a run from a first state in an environment, of at most `steps` commits, with what happens before each of them, came to an end
abbrev pub EndsRun : ZcCore → (ℕ → ZcCore → ZcCore) → ℕ → Environment → RunEnd × ZcCore → Desk → Desk → Type 0
EndsRun first happens steps environment end = Ran happens (course_of first environment happens steps) end.0 end.1

-- the outcome of an end, with the machine as it is left
abbrev pub end_outcome : RunEnd × ZcCore → Outcome
end_outcome end = run_outcome end.0 end.1.pc

-- the state that a run starts from: after a reset, if the devices' lines say so
abbrev pub started_core : List DevicesLine → ZcCore → ZcCore
started_core lines z = if starts_reset lines then reset_core z else z

-- the run of an image from its first state in an environment, under a plan, of at most `steps` commits
abbrev pub Runs : ZcCore → List Entry → ℕ → Environment → Outcome → World → World → Type 0
Runs first plan steps environment = Executes (EndsRun first (interrupts_by plan) steps environment) end_outcome

-- the work of `run`: the image in the map, with the devices and under the plan
pub record RunWork
    (map : MemMap) (steps : ℕ) (texts : RunTexts) (outcome : Outcome) (before after : World) : Type 0 where
  pub lines : List DevicesLine
  pub named : lines_given map texts.devices ≡ Ok lines
  pub plan : List Entry
  pub spelled : plan_given texts.plan ≡ Ok plan
  pub run : AnswersOrTakes lines steps (Runs (started_core lines (first_core_of texts.image map)) plan steps) outcome before after
