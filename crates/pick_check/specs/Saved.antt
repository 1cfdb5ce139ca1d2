-- What an assignment saves: a list of slots, the first 32 for jumps and the others for calls.
use Rattle.std.specs.Prelude.{ℕ, ◌+◌, ◌*◌, Bool, ◌==◌, if◌then◌else◌, List, [], ◌∷◌, length, take, drop}
use Rattle.std.specs.List.{list_any}
use Rattle.pick_check.specs.declared.saving.Saving.{Saving}
use Rattle.pick_check.specs.declared.part.Part.{Part}
use Rattle.pick_check.specs.declared.part.Part.TheVariants.{Jumps, Calls}

-- the bytes that a slot in this part saves at the sites of one target: two at each site
abbrev pub saved_by : Part → Saving → ℕ
saved_by Jumps s = 2 * s.jump_sites
saved_by Calls s = 2 * s.call_sites

-- whether some slot names this saving, counted from 1
abbrev pub has_slot : List ℕ → ℕ → Bool
has_slot slots n = list_any (λ slot. slot == n) slots

-- what the slots of one part save at the savings from number i on: a target counts once
abbrev pub saved_from : (Saving → ℕ) → List ℕ → ℕ → List Saving → ℕ
saved_from f slots i [] = 0
saved_from f slots i (s ∷ rest) = (if has_slot slots (i + 1) then f s else 0) + saved_from f slots (i + 1) rest

-- what the slots of one part save
abbrev pub saved_in : Part → List Saving → List ℕ → ℕ
saved_in part savings slots = saved_from (saved_by part) slots 0 savings

-- what the slots save before the bytes of the table itself
abbrev pub saved_of : List Saving → List ℕ → ℕ
saved_of savings slots = saved_in Jumps savings (take 32 slots) + saved_in Calls savings (drop 32 slots)

-- the bytes of the table and of the stub that sets it up, if there is a table
abbrev pub cost_of : List ℕ → ℕ
cost_of [] = 0
cost_of (slot ∷ slots) = 4 * length (slot ∷ slots) + 12
