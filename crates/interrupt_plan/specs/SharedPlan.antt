-- Plans whose interrupts also write data that the program reads: each interrupt is followed by its cells, bytes with their addresses.
use Rattle.std.specs.Prelude.{ℕ, ◌<◌, ◌==◌, List, [], filter, All}
use Rattle.interrupt_plan.specs.Plan.{Entry, IsInterrupt}

-- an interrupt before a commit, and the cells that it then writes
pub record SharedEntry : Type 0 where
  pub entry : Entry
  pub cells : List (ℕ × ℕ)

-- an interrupt that writes no cells
abbrev pub without_cells : Entry → SharedEntry
without_cells e = record { entry = e; cells = [] }

-- the entries before the commit with this number, in order
abbrev pub shared_at : List SharedEntry → ℕ → List SharedEntry
shared_at plan k = filter (λ e. e.entry.at == k) plan

-- all values that are written fit in a byte
abbrev pub IsSharedPlan : List SharedEntry → Type 0
IsSharedPlan plan = All (λ e. IsInterrupt e.entry.cut × All (λ c. c.1 < 256) e.cells) plan
