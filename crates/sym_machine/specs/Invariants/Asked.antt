-- What is known where devices are asked.
use Rattle.std.specs.Prelude.{◌≡◌, ℕ, ◌%◌, ◌⊎◌, ◌&&◌, if◌then◌else◌, List, Option, Some, None}
use Rattle.std.specs.Option.{option_map_or}
use Rattle.zc_base.specs.declared.place.Place.{Place}
use Rattle.rv_decode.specs.Devices.{Device, has_registers}
use Rattle.rv_decode.specs.Formats.{rs1_of}
use Rattle.rv_decode.specs.System.{is_system, takes_register}
use Rattle.sym_machine.specs.declared.known.Known.{Known}
use Rattle.sym_machine.specs.declared.known.Known.TheVariants.{Number}
use Rattle.sym_machine.specs.declared.why.Why.TheVariants.{BadAddress}
use Rattle.sym_machine.specs.Change.{Does, Goes, Stops, accessing}
use Rattle.sym_machine.specs.Conditions.{known_of}
use Rattle.sym_machine.specs.Devices.{device_address, system_does}
use Rattle.sym_machine.specs.State.{PlainCore, reg_of}

-- where the machine itself goes on, it does what it does there, and else it does this, if there is something
abbrev pub where_stuck : Option Does → Does → Does
where_stuck other (Goes c) = Goes c
where_stuck other (Stops why) = option_map_or (λ does. does) other (Stops why)

-- what devices do with a word that no table has
abbrev pub device_system : List Device → ℕ → PlainCore → Place → Option Does
device_system devices word s next = if has_registers devices && is_system word then Some (system_does word s next) else None

-- what the operand of an instruction of the system is known to be
abbrev pub operand_of : ℕ → PlainCore → Known
operand_of word s = if takes_register word then known_of (reg_of s (rs1_of word)) else Number (rs1_of word)

-- an access lies in memory
abbrev pub IsReachedAt : ℕ → Option ℕ → PlainCore → Type 0
IsReachedAt n address s = (a : ℕ) × ((go : ℕ → Does) → accessing n address s go ≡ go a)

-- the device's address that an access of n bytes reaches, where memory has no bytes; or there is none, or memory has them
abbrev pub FindsDevice : List Device → ℕ → ℕ → Option ℕ → PlainCore → Option ℕ → Type 0
FindsDevice devices base n address s None = (device_address devices base n address ≡ None) ⊎ IsReachedAt n address s
FindsDevice devices base n address s (Some a) =
    (device_address devices base n address ≡ Some a) × (a % n ≡ 0) × ((go : ℕ → Does) → accessing n address s go ≡ Stops BadAddress)
