-- The candidates for the jump table, and the prices of their slots.
use Rattle.std.specs.Prelude.{ℕ, ◌-◌, nat_lt, if◌then◌else◌, List, [], ◌∷◌, ◌++◌, length, map, take, drop, replicate}
use Rattle.std.specs.List.{filter}
use Rattle.pick_check.specs.declared.saving.Saving.{Saving}
use Rattle.pick_check.specs.Saved.{saved_of, cost_of}
use Rattle.jumptable_pick.specs.declared.ranking.Rank.{Rank}
use Rattle.jumptable_pick.specs.Ranking.{rank_saving}

-- ---- slots

-- slots for those of the first `most` targets that save more than `above` bytes
abbrev pub chosen : ℕ → ℕ → List Rank → List ℕ
chosen above most ranks = map (λ r. r.number) (filter (λ r. nat_lt above (rank_saving r)) (take most ranks))

-- the slots of a table for jumps alone: targets that save more than the four bytes of a slot
abbrev pub jump_table : List Rank → List ℕ
jump_table jumps = chosen 4 32 jumps

-- the slots of both parts: those for jumps and, if there are any for calls, holes up to slot 32 and those for calls
abbrev pub joined : List ℕ → List ℕ → List ℕ
joined low [] = low
joined low (slot ∷ high) = low ++ replicate (32 - length low) 0 ++ (slot ∷ high)

-- the slots of a table for jumps and calls: a slot for a jump costs nothing, since the slots below 32 exist anyway
abbrev pub call_table : List Rank → List Rank → List ℕ
call_table jumps calls = joined (chosen 0 32 jumps) (chosen 4 224 calls)

-- ---- nets

-- what slots save, less the bytes of the table itself; 0 if these are more
abbrev pub net_of : List Saving → List ℕ → ℕ
net_of savings slots = saved_of savings slots - cost_of slots

-- a table: its slots and their net
pub record SlotTable : Type 0 where
  pub slots : List ℕ
  pub net : ℕ

abbrev pub table_of : List Saving → List ℕ → SlotTable
table_of savings slots = record { slots = slots; net = net_of savings slots }

-- the second of two tables if its net is greater, otherwise the first
abbrev pub better : SlotTable → SlotTable → SlotTable
better first second = if nat_lt first.net second.net then second else first

-- the table with the greatest net, the first if equal: without slots, for jumps alone, or for jumps and calls
abbrev pub best_table : List Saving → List Rank → List Rank → SlotTable
best_table savings jumps calls =
    better (better (table_of savings []) (table_of savings (jump_table jumps))) (table_of savings (call_table jumps calls))

-- ---- prices

-- what the first target saves; 0 if there is no target
abbrev pub first_saved : List Rank → ℕ
first_saved [] = 0
first_saved (r ∷ rest) = rank_saving r

-- what the target after the first n saves; 0 if there is no such target
abbrev pub saved_at : ℕ → List Rank → ℕ
saved_at n ranks = first_saved (drop n ranks)

-- three prices of a slot: in a table for jumps alone, and for jumps and for calls in a table for both. Each is what
-- the first target without a slot saves, less the slot's own four bytes; those aren't subtracted for jumps in a table
-- for both
abbrev pub prices_of : List Rank → List Rank → List ℕ
prices_of jumps calls = (saved_at 32 jumps - 4) ∷ saved_at 32 jumps ∷ (saved_at 224 calls - 4) ∷ []
