-- What `trace` does: it reads objects and a text of devices, takes the console's whole input, unless the devices answer without it, and
-- makes steps of the symbolic machine with the devices.
use Rattle.std.specs.Prelude.{◌≡◌, ℕ, Bool, not, ◌++◌, List, Option, Some, None, Ok}
use Rattle.std.specs.Option.{option_or}
use Rattle.devices.specs.Environment.{Environment}
use Rattle.devices.specs.Lines.{DevicesLine, starts_reset}
use Rattle.psabi_sym.specs.Inputs.{inputs_in, parsed}
use Rattle.sym_machine.specs.Objects.{program_of}
use Rattle.sym_machine.specs.Program.{Program}
use Rattle.sym_machine.specs.RunEnd.{Traced, plain_course}
use Rattle.sym_machine.specs.State.{start_plain}
use Rattle.sym_machine.specs.declared.run.TraceEnd.{TraceEnd}
use Rattle.sym_machine.specs.declared.run.TraceEnd.TheVariants as end
use Rattle.zc_base.specs.Options.{Options}
use Rattle.zc_outside.specs.Wanted.{Wanted}
use Rattle.zc_outside.specs.World.{World}
use Rattle.zc_outside.specs.declared.console.ConsoleFault.TheVariants as console
use Rattle.zcld.specs.declared.outcome.Outcome.{Outcome}
use Rattle.zcld.specs.declared.outcome.Outcome.TheVariants.{Exited, WriteFault, OutOfMemory, Stuck, Spent}
use Rattle.zcld.specs.Given.{devices_refusal, devices_wanted, lines_given}
use Rattle.zcld.specs.Machines.{AnswersOrTakes, Executes}
use Rattle.zcld.specs.Objects.{last_file, objects_before, objects_refusal, objects_wanted}

-- ---- the files

-- the objects, and then the devices if there are any, each up to its limit
abbrev pub trace_wanted : Option (List ℕ) → List (List ℕ) → List Wanted
trace_wanted devices objects = objects_wanted objects ++ devices_wanted devices

-- what the files of `trace` are
pub record TraceTexts : Type 0 where
  pub objects : List (List ℕ)
  pub devices : Option (List ℕ)

-- which file is which, by the name that was given of devices
abbrev pub trace_texts : Option (List ℕ) → List (List ℕ) → TraceTexts
trace_texts None files = record { objects = files; devices = None }
trace_texts (Some devices) files = record { objects = objects_before files; devices = Some (last_file files) }

-- the first fault in the objects is named, and the devices' only if the objects have none
abbrev pub trace_refusal : Options → TraceTexts → Option Outcome
trace_refusal options texts =
    option_or (objects_refusal options texts.objects) (devices_refusal (lines_given options.map texts.devices))

-- ---- the run

-- the outcome of each end
abbrev pub trace_outcome : TraceEnd → Outcome
trace_outcome (end.Exited code) = Exited code
trace_outcome (end.Stuck place why) = Stuck place why
trace_outcome end.Spent = Spent
trace_outcome (end.Console console.Failed) = WriteFault
trace_outcome (end.Console console.OutOfMemory) = OutOfMemory
trace_outcome end.OutOfMemory = OutOfMemory

-- the run of a program in an environment, from a start where sp is set or not, of at most `steps` steps
abbrev pub Traces : Bool → Program → ℕ → Environment → Outcome → World → World → Type 0
Traces sp_set p steps environment =
    Executes (Traced (plain_course p (start_plain sp_set p environment.input) environment.devices steps)) trace_outcome

-- the work of `trace`, under the options and with the devices
pub record TraceWork
    (options : Options) (steps : ℕ) (texts : TraceTexts) (outcome : Outcome) (before after : World) : Type 0 where
  pub lines : List DevicesLine
  pub named : lines_given options.map texts.devices ≡ Ok lines
  pub run :
      AnswersOrTakes lines steps (Traces (not (starts_reset lines)) (program_of (parsed (inputs_in options texts.objects))) steps)
      outcome before after
