-- The order in which targets get slots of a part of the table.
use Rattle.std.specs.Prelude.{ℕ, ◌+◌, Bool, ◌&&◌, nat_le, nat_lt, if◌then◌else◌, List, [], ◌∷◌}
use Rattle.pick_check.specs.declared.saving.Saving.{Saving}
use Rattle.pick_check.specs.declared.part.Part.{Part}
use Rattle.pick_check.specs.Saved.{saved_by}
use Rattle.jumptable_pick.specs.declared.ranking.Rank.{Rank}

-- there are at most 2 ^ 30 sites of each kind, so what a slot saves fits in 32 bits
abbrev pub is_small : Saving → Bool
is_small s = nat_le s.jump_sites 1073741824 && nat_le s.call_sites 1073741824

-- the bytes that a slot for this rank's target saves
abbrev pub rank_saving : Rank → ℕ
rank_saving rank = rank.saved.0

-- a saving's rank: the bytes that it saves in this part, and its number
abbrev pub rank_of : Part → ℕ → Saving → Rank
rank_of part n s = record { saved = record { 0 = saved_by part s }; number = n }

-- the ranks of savings that are numbered from n + 1 on
abbrev pub ranks_from : Part → ℕ → List Saving → List Rank
ranks_from part n [] = []
ranks_from part n (s ∷ rest) = rank_of part (n + 1) s ∷ ranks_from part (n + 1) rest

-- insertion into a sorted list: after the ranks that save more, and before all others
abbrev pub put_in : Rank → List Rank → List Rank
put_in r [] = r ∷ []
put_in r (q ∷ rest) = if nat_lt (rank_saving r) (rank_saving q) then q ∷ put_in r rest else r ∷ q ∷ rest

-- ranks by decreasing savings; equal ones keep their order
abbrev pub sorted : List Rank → List Rank
sorted [] = []
sorted (r ∷ rest) = put_in r (sorted rest)

-- the targets in the order in which they get slots of this part: by decreasing savings, and equal ones by index
abbrev pub ranking : Part → List Saving → List Rank
ranking part savings = sorted (ranks_from part 0 savings)
