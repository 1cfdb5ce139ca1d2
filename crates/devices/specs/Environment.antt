-- What a run meets outside its machine.
use Rattle.std.specs.Prelude.{ℕ, List, []}
use Rattle.rv_decode.specs.Devices.{Device}
use Rattle.devices.specs.Lines.{DevicesLine, answers_over, devices_of, outputs_of}

-- devices, and those of their addresses whose stored bytes appear on standard output
pub record DeviceMap : Type 0 where
  pub all : List Device
  pub outputs : List ℕ

-- devices, and the bytes that reads and loads from devices take, from the front
pub record Environment : Type 0 where
  pub devices : DeviceMap
  pub input : List ℕ

-- ---- without devices

abbrev pub no_devices : DeviceMap
no_devices = record { all = []; outputs = [] }

abbrev pub only_input : List ℕ → Environment
only_input input = record { devices = no_devices; input = input }

-- ---- by the lines of a text

abbrev pub device_map : List DevicesLine → DeviceMap
device_map lines = record { all = devices_of lines; outputs = outputs_of lines }

-- in a run of at most `steps` steps, whose standard input has these bytes
abbrev pub environment_of : List DevicesLine → ℕ → List ℕ → Environment
environment_of lines steps input = record { devices = device_map lines; input = answers_over lines steps input }
