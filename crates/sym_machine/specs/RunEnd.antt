-- How a run of the symbolic machine ends, and what it has then written.
use Rattle.std.specs.Prelude.{◌≡◌, ℕ, List, [], ◌∷◌, ◌++◌, ⊤}
use Rattle.zc_base.specs.declared.place.Place.{Place}
use Rattle.devices.specs.Environment.{DeviceMap}
use Rattle.rv_decode.specs.State.{Exit}
use Rattle.zc_outside.specs.Course.{Course, EndsAfter, EndsEarly, EndsWithExit, EndsWithRefusal, EndsWithStop, ExitsAt}
use Rattle.zc_outside.specs.Desk.{Desk}
use Rattle.zc_outside.specs.Streams.{Adds}
use Rattle.sym_machine.specs.declared.run.TraceEnd.{TraceEnd}
use Rattle.sym_machine.specs.declared.run.TraceEnd.TheVariants as end
use Rattle.sym_machine.specs.declared.why.Why.{Why}
use Rattle.sym_machine.specs.Events.{SymEvent, Numeric, sym_written_to}
use Rattle.sym_machine.specs.Program.{Program}
use Rattle.sym_machine.specs.Run.{program_after_with}
use Rattle.sym_machine.specs.State.{PlainCore, PlainState}

-- the run of a program from a first state with devices, of at most `steps` steps; what stops it is that it is stuck at a place
abbrev pub plain_course : Program → PlainCore → DeviceMap → ℕ → Course PlainState (Place × Why)
plain_course p first devices steps = record {
  after = program_after_with p first devices.all;
  exit = λ s. s.core.exit;
  written = λ s stream. sym_written_to devices.outputs stream s.events;
  steps = steps;
}

-- the run came to this end, and to what it wrote up to there: it exited, is stuck, or made all steps, or the console refused a
-- write, or there was no memory for a step
abbrev pub Traced : Course PlainState (Place × Why) → TraceEnd → Desk → Desk → Type 0
Traced run (end.Exited status) before after = EndsWithExit run status before after
Traced run (end.Stuck place why) before after = EndsWithStop run (place, why) before after
Traced run end.Spent before after = EndsAfter run run.steps before after
Traced run (end.Console fault) before after = EndsWithRefusal run fault before after
Traced run end.OutOfMemory before after = EndsEarly run before after

-- the exit came at step `count` and no earlier: it is the last event, and what the program wrote up to it is in the output
pub record IsCounted (run : Course PlainState (Place × Why)) (count status : ℕ) (before after : Desk) : Type 0 where
  pub bytes : List ℕ
  pub exits : ExitsAt run count (record { bytes = bytes; status = status })
  pub events : List SymEvent
  pub event : exits.last.events ≡ events ++ Numeric (Exit status) ∷ []
  pub wrote : Adds before.out after.out bytes

-- if the run exited, `count` is the number of its steps; for other ends the count says nothing
abbrev pub CountsSteps : Course PlainState (Place × Why) → TraceEnd → ℕ → Desk → Desk → Type 0
CountsSteps run (end.Exited status) count before after = IsCounted run count status before after
CountsSteps run (end.Stuck place why) count before after = ⊤
CountsSteps run end.Spent count before after = ⊤
CountsSteps run (end.Console fault) count before after = ⊤
CountsSteps run end.OutOfMemory count before after = ⊤
