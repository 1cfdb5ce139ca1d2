-- Runs under plans whose interrupts also write shared data.
use Rattle.std.specs.Prelude.{ℕ, ◌+◌, Bool, ◌&&◌, nat_le, nat_lt, if◌then◌else◌, List, [], ◌∷◌}
use Rattle.std.specs.List.{list_any}
use Rattle.interrupt_plan.specs.SharedPlan.{SharedEntry, shared_at}
use Rattle.rv_decode.specs.State.{ZcCore}
use Rattle.zc_machine.specs.Interrupt.{interrupted}
use Rattle.zc_machine.specs.Poked.{poked_core}

-- an address lies in this range, a first address and a size
abbrev pub in_range : ℕ × ℕ → ℕ → Bool
in_range r a = nat_le r.0 a && nat_lt a (r.0 + r.1)

-- an address lies in one of these ranges
abbrev pub in_ranges : List (ℕ × ℕ) → ℕ → Bool
in_ranges ranges a = list_any (λ r. in_range r a) ranges

-- the state after a cell was written if it lies in one of the ranges; otherwise it is passed over
abbrev pub cell_written : List (ℕ × ℕ) → ℕ × ℕ → ZcCore → ZcCore
cell_written ranges c z = if in_ranges ranges c.0 then poked_core c z else z

-- cells, one after another
abbrev pub cells_written : List (ℕ × ℕ) → List (ℕ × ℕ) → ZcCore → ZcCore
cells_written ranges [] z = z
cells_written ranges (c ∷ cs) z = cells_written ranges cs (cell_written ranges c z)

-- entries, one after another: each interrupt is followed by its cells
abbrev pub all_shared : List (ℕ × ℕ) → List SharedEntry → ZcCore → ZcCore
all_shared ranges [] z = z
all_shared ranges (e ∷ es) z = all_shared ranges es (cells_written ranges e.cells (interrupted e.entry.cut z))

-- what happens by such a plan before the commit with this number
abbrev pub shared_by : List (ℕ × ℕ) → List SharedEntry → ℕ → ZcCore → ZcCore
shared_by ranges plan k = all_shared ranges (shared_at plan k)
