-- A binary indexed tree over a list of sizes (P. M. Fenwick, "A new data structure for cumulative frequency tables", 1994).
use Rattle.std.specs.Prelude.{◌≡◌, ℕ, ◌+◌, ◌-◌, ◌*◌, ◌^◌, ◌<◌, ◌≤◌, List, length, take, slice_index}
use Rattle.std.specs.List.{sum}

-- the greatest power of two that divides a number: the number is an odd multiple of it
pub record IsLowPower (i b : ℕ) : Type 0 where
  pub exponent : ℕ
  pub half : ℕ
  pub power : b ≡ 2 ^ exponent
  pub odd : i ≡ (2 * half + 1) * b

-- node i, counted from 1, is the sum of the last b of the first i sizes, where b is the greatest power of two that divides i
abbrev pub IsNode : List ℕ → List ℕ → ℕ → Type 0
IsNode sizes nodes i =
    (b : ℕ) → IsLowPower i b → slice_index nodes (i - 1) + sum (take (i - b) sizes) ≡ sum (take i sizes)

-- a tree of sizes has one node for each size
pub record IsTree (sizes nodes : List ℕ) : Type 0 where
  pub same : length nodes ≡ length sizes
  pub node : (i : ℕ) → 0 < i → i ≤ length sizes → IsNode sizes nodes i
