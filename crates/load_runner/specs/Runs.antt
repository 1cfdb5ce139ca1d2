-- The runs of a load, each without input: the run of the objects' program, and the runs of images.
use Rattle.std.specs.Prelude.{◌≡◌, ℕ, List, [], ◌∷◌, ◌++◌, Some, Ok}
use Rattle.zc_base.specs.MemMap.{standard_map}
use Rattle.zc_base.specs.Options.{options_in}
use Rattle.zc_base.specs.declared.place.Place.{Place}
use Rattle.devices.specs.Environment.{no_devices}
use Rattle.interrupt_plan.specs.Plan.{Entry}
use Rattle.psabi_sym.specs.Inputs.{Inputs, inputs_in, parsed}
use Rattle.rv_decode.specs.State as event
use Rattle.rv_decode.specs.State.{ZcCore, ZcState}
use Rattle.sym_machine.specs.Events.{SymEvent, Numeric}
use Rattle.sym_machine.specs.Objects.{program_of}
use Rattle.sym_machine.specs.Program.{Program}
use Rattle.sym_machine.specs.RunEnd.{plain_course}
use Rattle.sym_machine.specs.State.{PlainState, first_plain}
use Rattle.sym_machine.specs.declared.why.Why.{Why}
use Rattle.zc_machine.specs.Load.{first_core_of}
use Rattle.zc_machine.specs.RunEnd.{zc_course}
use Rattle.zc_machine.specs.declared.reason.Reason.{Reason}
use Rattle.zc_outside.specs.Course.{Course, Exit, ExitsAt}
use Rattle.load_runner.specs.declared.run_load.TheConstants.{LOAD_STEPS}

-- objects with the map that the linker uses if it is given no other, and no names
abbrev pub standard_inputs : List (List ℕ) → Inputs
standard_inputs files = inputs_in (options_in standard_map) files

-- the run of the objects' program
abbrev pub trace_run : Inputs → Course PlainState (Place × Why)
trace_run inputs = let p : Program = program_of (parsed inputs) in plain_course p (first_plain p []) no_devices LOAD_STEPS

-- the run of an image under a plan
abbrev pub image_run : List ℕ → List Entry → Course ZcState Reason
image_run elf plan = zc_course (first_core_of elf standard_map) [] plan LOAD_STEPS

-- a run comes to this exit
abbrev pub ExitsWith : {State Stop : Type 0} → Course State Stop → Exit → Type 0
ExitsWith run exit = (count : ℕ) × ExitsAt run count exit

-- a run comes to some exit
abbrev pub Exits : {State Stop : Type 0} → Course State Stop → Type 0
Exits run = (exit : Exit) × ExitsWith run exit

-- ---- what the runs rest on

-- the program's run ends with this exit, which is its last event
pub record IsTraced (inputs : Inputs) (count : ℕ) (exit : Exit) : Type 0 where
  pub exits : ExitsAt (trace_run inputs) count exit
  pub events : List SymEvent
  pub event : exits.last.events ≡ events ++ Numeric (event.Exit exit.status) ∷ []

-- under a plan an image exits at some commit, however many it takes
pub record EventuallyExits (elf : List ℕ) (plan : List Entry) : Type 0 where
  pub count : ℕ
  pub last : ZcState
  pub state : (image_run elf plan).after count ≡ Ok last
  pub status : ℕ
  pub exit : last.core.exit ≡ Some status

-- a machine is in the initial state of an image that exits under a plan
pub record BeginsImage (z : ZcCore) (plan : List Entry) : Type 0 where
  pub elf : List ℕ
  pub first : z ≡ first_core_of elf standard_map
  pub exits : EventuallyExits elf plan
