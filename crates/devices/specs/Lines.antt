-- What the lines of a text of devices say.
use Rattle.std.specs.Prelude.{ℕ, zero, suc, ◌*◌, ◌^◌, Bool, true, false, if◌then◌else◌, List, [], ◌∷◌, ◌++◌}
use Rattle.std.specs.List.{flat_map, list_any}
use Rattle.rv_decode.specs.Devices.{Device, DeviceRange}
use Rattle.rv_decode.specs.Devices as device

-- a line: a device's range of addresses; the control and status registers; sp isn't set at the start; an address whose stored bytes
-- appear on standard output; bytes that devices answer; or, at last, the bytes that they answer from there on, again and again
pub data DevicesLine : Type 0 where
  Range : DeviceRange → DevicesLine
  Registers : DevicesLine
  Reset : DevicesLine
  Output : (at : ℕ) → DevicesLine
  Answer : (bytes : List ℕ) → DevicesLine
  Then : (bytes : List ℕ) → DevicesLine

-- ---- what one line says

abbrev pub device_in : DevicesLine → List Device
device_in (Range d) = device.Range d ∷ []
device_in Registers = device.Registers ∷ []
device_in other = []

abbrev pub range_in : DevicesLine → List DeviceRange
range_in (Range d) = d ∷ []
range_in other = []

abbrev pub output_in : DevicesLine → List ℕ
output_in (Output a) = a ∷ []
output_in other = []

abbrev pub answer_in : DevicesLine → List ℕ
answer_in (Answer bytes) = bytes
answer_in other = []

abbrev pub then_in : DevicesLine → List ℕ
then_in (Then bytes) = bytes
then_in other = []

abbrev pub is_registers : DevicesLine → Bool
is_registers Registers = true
is_registers other = false

abbrev pub is_reset : DevicesLine → Bool
is_reset Reset = true
is_reset other = false

abbrev pub is_then : DevicesLine → Bool
is_then (Then bytes) = true
is_then other = false

abbrev pub is_answer : DevicesLine → Bool
is_answer (Answer bytes) = true
is_answer (Then bytes) = true
is_answer other = false

-- ---- what all lines say

-- the devices
abbrev pub devices_of : List DevicesLine → List Device
devices_of lines = flat_map device_in lines

-- the ranges of those that have one
abbrev pub ranges_of : List DevicesLine → List DeviceRange
ranges_of lines = flat_map range_in lines

-- whether the control and status registers are among them
abbrev pub names_registers : List DevicesLine → Bool
names_registers lines = list_any is_registers lines

-- whether runs start with sp not set
abbrev pub starts_reset : List DevicesLine → Bool
starts_reset lines = list_any is_reset lines

-- the addresses whose stored bytes appear on standard output
abbrev pub outputs_of : List DevicesLine → List ℕ
outputs_of lines = flat_map output_in lines

-- the bytes that devices answer first
abbrev pub answers_of : List DevicesLine → List ℕ
answers_of lines = flat_map answer_in lines

-- the bytes that they answer from there on
abbrev pub then_of : List DevicesLine → List ℕ
then_of lines = flat_map then_in lines

-- whether devices answer these bytes, so that standard input isn't taken
abbrev pub has_answers : List DevicesLine → Bool
has_answers lines = list_any is_answer lines

-- n copies of these bytes
abbrev pub repeated : ℕ → List ℕ → List ℕ
repeated zero bytes = []
repeated (suc n) bytes = bytes ++ repeated n bytes

-- what devices answer, and reads read, in a run of at most `steps` steps: standard input, or the lines' bytes; `then` stands for more
-- copies than the run can take
abbrev pub answers_over : List DevicesLine → ℕ → List ℕ → List ℕ
answers_over lines steps input =
    if has_answers lines then answers_of lines ++ repeated (2 ^ 32 * steps) (then_of lines) else input
