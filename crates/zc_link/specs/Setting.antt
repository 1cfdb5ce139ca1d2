-- What a run starts with, beside its program or image.
use Rattle.std.specs.Prelude.{ℕ, Bool, List, Result}
use Rattle.zc_base.specs.declared.place.Place.{Place}
use Rattle.rv_decode.specs.Devices.{Device}
use Rattle.sym_machine.specs.declared.why.Why.{Why}
use Rattle.sym_machine.specs.Program.{Program}
use Rattle.sym_machine.specs.Run.{program_after_with}
use Rattle.sym_machine.specs.State.{PlainState, start_plain}

-- whether sp is set; the devices; and the input, from which reads take and devices answer
pub record Setting : Type 0 where
  pub sp_set : Bool
  pub devices : List Device
  pub input : List ℕ

-- the program's state after n steps in a setting, or where and why it is stuck before
abbrev pub program_in : Setting → Program → ℕ → Result PlainState (Place × Why)
program_in w p n = program_after_with p (start_plain w.sp_set p w.input) w.devices n
