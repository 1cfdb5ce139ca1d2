-- The bound by three prices of a slot. A difference below 0 counts as 0.
use Rattle.std.specs.Prelude.{ℕ, ◌+◌, ◌-◌, ◌*◌, List, max, slice_index}
use Rattle.std.specs.List.{sum_by}
use Rattle.pick_check.specs.declared.saving.Saving.{Saving}
use Rattle.pick_check.specs.declared.part.Part.{Part}
use Rattle.pick_check.specs.declared.part.Part.TheVariants.{Jumps, Calls}
use Rattle.pick_check.specs.Saved.{saved_by}

-- the sum, over all targets, of what each saves in this part above the price
abbrev pub excess : Part → ℕ → List Saving → ℕ
excess part price savings = sum_by (λ s. saved_by part s - price) savings

-- the bound for tables with jumps alone, before the 12 bytes of the stub are subtracted
abbrev pub jump_bound : List Saving → ℕ → ℕ
jump_bound savings price = excess Jumps (4 + price) savings + 32 * price

-- the bound for tables with calls, before the 140 bytes of the stub and of 32 slots are subtracted
abbrev pub call_bound : List Saving → ℕ → ℕ → ℕ
call_bound savings low high = excess Jumps low savings + 32 * low + excess Calls (4 + high) savings + 224 * high

-- the bound by three prices: for jumps in a table without calls, and for jumps and for calls in one with both
abbrev pub bound_of : List Saving → List ℕ → ℕ
bound_of savings prices =
    max (jump_bound savings (slice_index prices 0) - 12)
    (call_bound savings (slice_index prices 1) (slice_index prices 2) - 140)
