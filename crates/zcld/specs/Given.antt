-- Texts that a command may be given beside its image or its objects: which devices one names, why it is refused, and whether its
-- answers stand in the place of the console's input.
use Rattle.std.specs.Prelude.{◌≡◌, ℕ, Bool, false, not, List, [], ◌∷◌, Option, Some, None, Result, Ok, Err}
use Rattle.std.specs.Global.{Vec}
use Rattle.std.specs.Option.{option_map, option_map_or}
use Rattle.devices.specs.Lines.{DevicesLine, has_answers}
use Rattle.devices.specs.Text.{devices_in}
use Rattle.devices.specs.declared.fault.DevicesFault.{DevicesFault}
use Rattle.devices.specs.declared.read_devices.TheConstants.{DEVICES_LIMIT}
use Rattle.zc_base.specs.declared.mem_map.MemMap.{MemMap}
use Rattle.zc_outside.specs.Wanted.{Wanted}
use Rattle.zcld.specs.declared.outcome.FileFault.TheVariants.{Devices}
use Rattle.zcld.specs.declared.outcome.Outcome.{Outcome}
use Rattle.zcld.specs.declared.outcome.Outcome.TheVariants.{BadFile}

-- ---- a text

-- a text, if there is one, is read up to this limit
abbrev pub text_wanted : ℕ → Option (List ℕ) → List Wanted
text_wanted limit None = []
text_wanted limit (Some name) = record { name = name; limit = limit } ∷ []

-- a text as the program holds it
abbrev pub text_held : Option (Vec ℕ) → Option (List ℕ)
text_held text = option_map (λ (bytes : Vec ℕ). bytes.items) text

-- the file of a text, if there is one
abbrev pub text_file : Option (List ℕ) → List (List ℕ)
text_file text = option_map_or (λ bytes. bytes ∷ []) text []

-- there is a text if a name is given, and none if not
abbrev pub IsGiven : Option (List ℕ) → Option (List ℕ) → Type 0
IsGiven None text = text ≡ None
IsGiven (Some name) text = (bytes : List ℕ) × (text ≡ Some bytes)

-- ---- devices

abbrev pub devices_wanted : Option (List ℕ) → List Wanted
devices_wanted devices = text_wanted DEVICES_LIMIT devices

-- the lines of devices that a text names in a map; without a text there are none
abbrev pub lines_given : MemMap → Option (List ℕ) → Result (List DevicesLine) DevicesFault
lines_given map text = option_map_or (devices_in map) text (Ok [])

-- the first fault in a text of devices
abbrev pub devices_refusal : {A : Type 0} → Result A DevicesFault → Option Outcome
devices_refusal (Ok lines) = None
devices_refusal (Err fault) = Some (BadFile (Devices fault))

-- whether the console's input is taken where a text of devices is read like this: not where the devices have answers, which stand in its
-- place, nor where the text is refused
abbrev pub wants_input : Result (List DevicesLine) DevicesFault → Bool
wants_input (Ok lines) = not (has_answers lines)
wants_input (Err fault) = false
