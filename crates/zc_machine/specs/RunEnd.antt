-- How a run ends, and what it has then written.
use Rattle.std.specs.Prelude.{◌≡◌, ℕ, List}
use Rattle.devices.specs.Environment.{Environment, only_input}
use Rattle.interrupt_plan.specs.Plan.{Entry}
use Rattle.rv_decode.specs.EventBytes.{written_to}
use Rattle.rv_decode.specs.State.{ZcCore, ZcState}
use Rattle.zc_outside.specs.Course.{Course, EndsAfter, EndsWithExit, EndsWithRefusal, EndsWithStop}
use Rattle.zc_outside.specs.Desk.{Desk}
use Rattle.zc_machine.specs.declared.reason.Reason.{Reason}
use Rattle.zc_machine.specs.declared.run.RunEnd.{RunEnd}
use Rattle.zc_machine.specs.declared.run.RunEnd.TheVariants as end
use Rattle.zc_machine.specs.Run.{interrupts_by, machine_after_with}

-- the run from this core in this environment, of at most `steps` commits, with what happens before each of them
abbrev pub course_of : ZcCore → Environment → (ℕ → ZcCore → ZcCore) → ℕ → Course ZcState Reason
course_of first e happens steps = record {
  after = machine_after_with first e.devices.all e.input happens;
  exit = λ s. s.core.exit;
  written = λ s stream. written_to e.devices.outputs stream s.events;
  steps = steps;
}

-- the run from this core over this input, without devices, of at most `steps` commits, under a plan
abbrev pub zc_course : ZcCore → List ℕ → List Entry → ℕ → Course ZcState Reason
zc_course first input plan steps = course_of first (only_input input) (interrupts_by plan) steps

-- a run came to this end and left the machine like this, and what it wrote up to there stands: the program exited; the machine
-- stopped, and is left as it is after what happens before the commit that doesn't come; all commits were made, and what happens
-- after them isn't; or the console refused a write, and the machine may be in any state
abbrev pub Ran : (ℕ → ZcCore → ZcCore) → Course ZcState Reason → RunEnd → ZcCore → Desk → Desk → Type 0
Ran happens run (end.Exit status) now before after = (ended : EndsWithExit run status before after) × (now ≡ ended.last.core)
Ran happens run (end.Stopped reason) now before after =
    (ended : EndsWithStop run reason before after) × (now ≡ happens ended.early.count ended.early.made.last.core)
Ran happens run end.Spent now before after = (ended : EndsAfter run run.steps before after) × (now ≡ ended.last.core)
Ran happens run (end.Console fault) now before after = EndsWithRefusal run fault before after
