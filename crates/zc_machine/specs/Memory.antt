-- Where the regions of the machine's memory lie, and what an access reaches at once.
use Rattle.std.specs.Prelude.{◌≡◌, ℕ, ◌+◌, ◌-◌, ◌%◌, ◌^◌, ◌<◌, ◌≤◌, min, max, nat_le, List, [], ◌∷◌, length, All, slice_index}
use Rattle.rv_decode.specs.Memory.{Extent, Region, cell_at, extents_of, lies_in}
use Rattle.zc_machine.specs.Cells.{instruction}
use Rattle.zc_machine.specs.Fetch.{Fetched}
use Rattle.zc_machine.specs.Region.{allowed}
use Rattle.zc_machine.specs.declared.region.AccessKind.{AccessKind}
use Rattle.zc_machine.specs.declared.region.AccessKind.TheVariants as access

-- two regions have no address in common
abbrev pub Apart : Extent → Extent → Type 0
Apart e f = min (e.at + e.size) (f.at + f.size) ≤ max e.at f.at

-- no two of these have one, and each ends at 2^32 or before
abbrev pub AreApart : List Extent → Type 0
AreApart [] = Unit {0}
AreApart (e ∷ es) = (e.at + e.size ≤ 2 ^ 32) × All (Apart e) es × AreApart es

-- the number of cells from an address on that an access may reach at once: of code all, and of data those up to the next multiple
-- of 4,096
abbrev pub most_at_once : AccessKind → ℕ → ℕ
most_at_once access.Fetch a = 2 ^ 32
most_at_once access.Data a = 4096 - a % 4096
most_at_once access.Interrupt a = 4096 - a % 4096
most_at_once access.Poke a = 4096 - a % 4096

-- these are the cells from an address on that such an access reaches at once: as many as lie in one region, and no more than
-- that
pub record Reaches (way : AccessKind) (memory : List (Region ℕ)) (a : ℕ) (cells : List ℕ) : Type 0 where
  pub lies : (n : ℕ) → 0 < n → n ≤ most_at_once way a → lies_in (allowed way) (extents_of memory) a n ≡ nat_le n (length cells)
  pub within : length cells ≤ most_at_once way a
  pub holds : (i : ℕ) → i < length cells → cell_at 0 memory (a + i) ≡ slice_index cells i
  pub below : a + length cells ≤ 2 ^ 32

-- a fetch at an address finds the instruction that the cells there begin with
abbrev pub Fetches : List (Region ℕ) → ℕ → Fetched → Type 0
Fetches memory a found = (cells : List ℕ) × Reaches access.Fetch memory a cells × (found ≡ instruction cells)
