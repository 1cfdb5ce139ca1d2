-- Runs of the symbolic machine.
use Rattle.std.specs.Prelude.{ℕ, List, [], ◌++◌, Result, Ok, Err}
use Rattle.zc_base.specs.declared.place.Place.{Place}
use Rattle.rv_decode.specs.Devices.{Device}
use Rattle.rv_decode.specs.Run.{iterate}
use Rattle.sym_machine.specs.declared.why.Why.{Why}
use Rattle.sym_machine.specs.Program.{Program}
use Rattle.sym_machine.specs.State.{PlainCore, PlainState, first_plain}
use Rattle.sym_machine.specs.Step.{PlainStep, Went, Stuck, step_with}

-- the events of a step come after those before it; a program that is stuck is stuck at its place
abbrev pub recorded : PlainStep → PlainState → Result PlainState (Place × Why)
recorded (Went s events) r = Ok (record r { core = s; events = r.events ++ events })
recorded (Stuck why) r = Err (r.core.place, why)

-- one step, with the events so far
unfoldable pub plain_turn : Program → PlainState → Result PlainState (Place × Why)
plain_turn p r = recorded (step_with r.devices p r.core) r

-- the state after n steps from a first state with these devices, or where and why the machine is stuck before
unfoldable pub program_after_with : Program → PlainCore → List Device → ℕ → Result PlainState (Place × Why)
program_after_with p first devices n = iterate (plain_turn p) n (record { core = first; events = []; devices = devices })

-- without devices, from the start where sp is set
abbrev pub program_after : Program → List ℕ → ℕ → Result PlainState (Place × Why)
program_after p input n = program_after_with p (first_plain p input) [] n
