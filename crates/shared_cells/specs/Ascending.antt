-- Ranges of addresses in ascending order.
use Rattle.std.specs.Prelude.{ℕ, ◌+◌, ◌≤◌, List, [], ◌∷◌}

-- each range begins where the one before it ends, or after that; the first one begins at this address, or after it
abbrev pub AscendFrom : ℕ → List (ℕ × ℕ) → Type 0
AscendFrom end [] = Unit {0}
AscendFrom end (r ∷ rs) = (end ≤ r.0) × AscendFrom (r.0 + r.1) rs
