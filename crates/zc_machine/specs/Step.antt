-- One step of the machine.
use Rattle.std.specs.Prelude.{ℕ, ◌%◌, ◌==◌, ◌&&◌, ◌||◌, if◌then◌else◌}
use Rattle.std.specs.Option.{option_map_or}
use Rattle.rv_decode.specs.Formats.{rs1_of}
use Rattle.rv_decode.specs.Memory.{extents_of, is_data, is_text, lies_in}
use Rattle.rv_decode.specs.System.{is_system, system_operand}
use Rattle.rv_decode.specs.declared.device_access.DeviceAccess.{DeviceAccess}
use Rattle.rv_decode.specs.declared.device_access.DeviceAccess.TheVariants as access
use Rattle.rv_decode.specs.State.{ZcCore, reg_in, word_at}
use Rattle.rv_decode.specs.Effect as act
use Rattle.rv_decode.specs.Effect.{Effect}
use Rattle.zc_decode.specs.Effect.{short_effect}
use Rattle.zc_machine.specs.declared.reason.Reason.{Reason}
use Rattle.zc_machine.specs.declared.reason.Reason.TheVariants.{Illegal, BadAccess, Misaligned, Break, UnknownCall}
use Rattle.zc_machine.specs.declared.answer.EnvCall.{EnvCall}
use Rattle.zc_machine.specs.declared.answer.EnvCall.TheVariants as call
use Rattle.zc_machine.specs.Fetch.{Fetched, Found, Missing, fetched_at}

-- what a step comes to: an instruction commits and leaves this state, or nothing changes; an access outside memory, or an
-- instruction of the system, asks a device
pub data ZcStep : Type 0 where
  Committed : ZcCore → ZcStep
  Wants : EnvCall → ZcStep
  Ended : (status : ℕ) → ZcStep
  Stopped : Reason → ZcStep
  Asks : DeviceAccess → ZcStep

-- a call with the a2 bytes at a1, which must lie in memory for data; of no bytes a1 isn't looked at
abbrev pub buffered : ZcCore → EnvCall → ZcStep
buffered z c =
    if reg_in z 12 == 0 || lies_in is_data (extents_of z.memory) (reg_in z 11) (reg_in z 12) then Wants c else Stopped BadAccess

-- an environment call, by a7: 93 is the exit, with the low byte of a0; 63 reads from stream 0, and 64 writes to stream 1 or 2, by
-- a0
abbrev pub called : ZcCore → ZcStep
called z =
    if reg_in z 17 == 93 then Wants (call.Exit (reg_in z 10 % 256)) else
    (if reg_in z 17 == 63 && reg_in z 10 == 0 then buffered z (call.Read (reg_in z 11) (reg_in z 12)) else
    (if reg_in z 17 == 64 && (reg_in z 10 == 1 || reg_in z 10 == 2) then buffered z (call.Write (reg_in z 10) (reg_in z 11) (reg_in z 12)) else
    Stopped UnknownCall))

-- what the effect of an instruction comes to
abbrev pub effect_step : Effect → ZcCore → ZcStep
effect_step (act.Commits z') z = Committed z'
effect_step act.Misaligned z = Stopped Misaligned
effect_step act.BadAccess z = Stopped BadAccess
effect_step (act.Outside x) z = Asks x
effect_step act.Break z = Stopped Break
effect_step act.Call z = called z

-- where the tables have no instruction, a word of code may be one of the system
abbrev pub unread : ZcCore → ZcStep
unread z =
    let word = word_at z z.pc in
    if lies_in is_text (extents_of z.memory) z.pc 4 && is_system word
    then Asks (access.System word (system_operand word (reg_in z (rs1_of word)))) else Stopped Illegal

-- what was fetched is executed
abbrev pub made : Fetched → ZcCore → ZcStep
made (Found s size) z = effect_step (short_effect s size z) z
made (Missing Illegal) z = unread z
made (Missing reason) z = Stopped reason

-- one step; after the exit nothing changes
unfoldable pub zc_step : ZcCore → ZcStep
zc_step z = option_map_or Ended z.exit (made (fetched_at z z.pc) z)
