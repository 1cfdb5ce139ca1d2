-- What happens to a machine before commits of its run, entry by entry.
use Rattle.std.specs.Prelude.{ℕ, ◌-◌, ◌^◌, ◌==◌, if◌then◌else◌, List, [], ◌∷◌}
use Rattle.rv_decode.specs.State.{ZcCore}

-- an entry: what happens before the commit with this number
pub record Timed : Type 0 where
  pub at : ℕ
  pub makes : ZcCore → ZcCore

-- the state after all entries before the commit with this number, in order
abbrev pub made_at : List Timed → ℕ → ZcCore → ZcCore
made_at [] k z = z
made_at (e ∷ es) k z = made_at es k (if e.at == k then e.makes z else z)

-- the commit before which the first entry comes; the last number of 64 bits if there is none
abbrev pub first_commit : List Timed → ℕ
first_commit [] = 2 ^ 64 - 1
first_commit (e ∷ es) = e.at
