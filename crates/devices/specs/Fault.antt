-- What each fault of a text of devices means.
use Rattle.std.specs.Prelude.{◌≡◌, ◌≢◌, ℕ, ◌+◌, ◌<◌, true, List, [], ◌∷◌, ◌++◌, length, All}
use Rattle.zc_base.specs.declared.mem_map.MemMap.{MemMap}
use Rattle.devices.specs.Lines.{DevicesLine}
use Rattle.devices.specs.Text.{FitsLine, Follow, devices_line, devices_text, devices_title, may_follow}
use Rattle.devices.specs.declared.fault.DevicesFault.{DevicesFault}
use Rattle.devices.specs.declared.read_devices.TheConstants.{DEVICES_LIMIT}
use Rattle.devices.specs.declared.fault.DevicesFault.TheVariants.{Line, OutOfMemory, Size}

-- the text begins with these lines, each of which may stand where it is, and `rest` follows them
pub record BeginsWith (map : MemMap) (text : List ℕ) (before : List DevicesLine) (rest : List ℕ) : Type 0 where
  pub spells : text ≡ devices_text before ++ rest
  pub fits : All FitsLine before
  pub follow : Follow map [] before

-- the text begins with no line that may follow these
abbrev pub IsNoLine : MemMap → List DevicesLine → List ℕ → Type 0
IsNoLine map before rest =
    (l : DevicesLine) (more : List ℕ) → FitsLine l → may_follow map before l ≡ true → rest ≢ devices_line l ++ 10 ∷ more

-- a bad line is the first one, or it comes after lines that may stand where they are, and may not follow them; memory may run out at
-- any text
pub data IsDevicesFault (map : MemMap) (text : List ℕ) : DevicesFault → Type 0 where
  first_bad : ((rest : List ℕ) → text ≢ devices_title ++ 10 ∷ rest) → IsDevicesFault map text (Line 1)
  later_bad : (before : List DevicesLine) (rest : List ℕ) → BeginsWith map text before rest → rest ≢ [] → IsNoLine map before rest → IsDevicesFault map text (Line (length before + 2))
  too_long : DEVICES_LIMIT < length text → IsDevicesFault map text Size
  no_memory : IsDevicesFault map text OutOfMemory
