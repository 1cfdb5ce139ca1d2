-- What is kept of code is the instructions that are there.
use Rattle.std.specs.Prelude.{◌≡◌, ℕ, ◌*◌, ◌+◌, ◌-◌, ◌/◌, ◌≤◌, ◌++◌, List, drop, length, replicate, slice_index_or, true}
use Rattle.rv_decode.specs.Memory.{Region}
use Rattle.zc_machine.specs.Cells.{instruction}
use Rattle.zc_machine.specs.Fetch.{Found}
use Rattle.zc_machine.specs.Region.{has_code}
use Rattle.zc_machine.specs.declared.code.Kept.{Kept}
use Rattle.zc_machine.specs.declared.code.Kept.TheVariants.{Known, Unknown}

-- the entries, and as many empty ones after them as it takes to have an entry with this index
abbrev pub extended_to_index : List Kept → ℕ → List Kept
extended_to_index kept index = kept ++ replicate (index + 1 - length kept) Unknown

-- what an entry says is what the bytes from its halfword on begin with
abbrev pub IsDecodedFrom : Kept → List ℕ → Type 0
IsDecodedFrom Unknown bytes = Unit {0}
IsDecodedFrom (Known size short) bytes = instruction bytes ≡ Found short size

-- each entry is right in this sense; and there is room for an entry of each halfword
pub record IsCodeCache (bytes : List ℕ) (kept : List Kept) (capacity : ℕ) : Type 0 where
  pub right : (k : ℕ) → IsDecodedFrom (slice_index_or kept k Unknown) (drop (2 * k) bytes)
  pub room : length bytes / 2 ≤ capacity

-- an entry of an address is empty, or the instruction that is there, in code
abbrev pub IsEntry : Region ℕ → ℕ → Kept → Type 0
IsEntry r a Unknown = Unit {0}
IsEntry r a (Known size short) = (has_code r a ≡ true) × (instruction (drop (a - r.at) r.cells) ≡ Found short size)
