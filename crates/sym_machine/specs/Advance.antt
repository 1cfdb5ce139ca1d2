-- How far the machine comes by steps without an event.
use Rattle.std.specs.Prelude.{◌≡◌, ℕ, ◌+◌, List, Result, Ok}
use Rattle.std.specs.declared.alloc.AllocError.{AllocError}
use Rattle.rv_decode.specs.Devices.{Device}
use Rattle.sym_machine.specs.declared.answer.SymStep.{SymStep}
use Rattle.sym_machine.specs.Answer.{Makes}
use Rattle.sym_machine.specs.Events.{SymEvent}
use Rattle.sym_machine.specs.Kept.{IsOf}
use Rattle.sym_machine.specs.Program.{Program}
use Rattle.sym_machine.specs.Run.{program_after_with}
use Rattle.sym_machine.specs.State.{PlainCore}
use Rattle.sym_machine.specs.Step.{plain_step}

-- whenever a run with whatever devices has come to state s, k steps more take it to state s2, and none of them is an event
pub record RunsTo (p : Program) (s s2 : PlainCore) (k : ℕ) : Type 0 where
  pub exit : s2.exit ≡ s.exit
  pub of : IsOf p s2
  pub runs : (first : PlainCore) (devices : List Device) (count : ℕ) (events : List SymEvent)
      → program_after_with p first devices count ≡ Ok (record { core = s; events = events; devices = devices })
      → program_after_with p first devices (count + k) ≡ Ok (record { core = s2; events = events; devices = devices })

-- the machine made k steps without an event from state s, and then a step with this answer, which left state s2
pub record Advanced (p : Program) (s s2 : PlainCore) (k : ℕ) (step : Result SymStep AllocError) : Type 0 where
  pub last : PlainCore
  pub runs : RunsTo p s last k
  pub makes : Makes step (plain_step p last) last s2
