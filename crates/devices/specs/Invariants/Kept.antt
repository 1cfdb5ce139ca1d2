-- Lines as they are kept, and the tables in which their ranges and outputs are found.
use Rattle.std.specs.Prelude.{◌≡◌, ◌⊎◌, ℕ, ◌+◌, ◌<◌, ◌==◌, Bool, true, false, List, [], ◌∷◌, Option, Some, None}
use Rattle.std.specs.List.{list_any}
use Rattle.zc_base.specs.declared.mem_map.MemMap.{MemMap}
use Rattle.rv_decode.specs.Devices.{DeviceRange}
use Rattle.devices.specs.Lines.{DevicesLine, Range, Registers, Reset, Output, Answer, Then}
use Rattle.devices.specs.Text.{have_common, may_follow}
use Rattle.devices.specs.declared.kept_line.KeptLine.{KeptLine}
use Rattle.devices.specs.declared.kept_line.KeptLine.TheVariants as kept

-- the line that is kept
abbrev pub shown : KeptLine → DevicesLine
shown (kept.Range at size) = Range (record { at = at; size = size })
shown kept.Registers = Registers
shown kept.Reset = Reset
shown (kept.Output at) = Output at
shown (kept.Answer bytes) = Answer bytes.items
shown (kept.Then bytes) = Then bytes.items

-- a range is one of these
abbrev pub IsOne : DeviceRange → List DeviceRange → Type 0
IsOne e [] = ⊥
IsOne e (d ∷ ds) = (e ≡ d) ⊎ IsOne e ds

-- one of these begins at an address, and ends before another
abbrev pub IsBegun : List DeviceRange → ℕ → ℕ → Type 0
IsBegun ds a end = (e : DeviceRange) × IsOne e ds × (e.at ≡ a) × (e.at + e.size ≡ end)

-- a table has the end of each of these at its first address, and nothing else; none is empty, and no two have an address in common
pub record IsTable (ends : ℕ → Option ℕ) (ds : List DeviceRange) : Type 0 where
  pub each : (e : DeviceRange) → IsOne e ds → ends e.at ≡ Some (e.at + e.size)
  pub only : (a end : ℕ) → ends a ≡ Some end → IsBegun ds a end
  pub some : (e : DeviceRange) → IsOne e ds → 0 < e.size
  pub apart : (e f : DeviceRange) → IsOne e ds → IsOne f ds → (e ≡ f) ⊎ (have_common e f ≡ false)

-- a set has these addresses, and nothing else
abbrev pub IsSet : (ℕ → Bool) → List ℕ → Type 0
IsSet has addresses = (a : ℕ) → has a ≡ list_any (λ x. x == a) addresses

-- the last entry of a table below an address
abbrev pub IsLastBegun : (ℕ → Option ℕ) → ℕ → Option (ℕ × ℕ) → Type 0
IsLastBegun ends below None = (a : ℕ) → a < below → ends a ≡ None
IsLastBegun ends below (Some (at, end)) =
    (at < below) × (ends at ≡ Some end) × ((a : ℕ) → at < a → a < below → ends a ≡ None)

-- a line may follow these, whatever the map
abbrev pub CanFollow : List DevicesLine → DevicesLine → Type 0
CanFollow before l = (map : MemMap) × (may_follow map before l ≡ true)
