-- Interrupts, and plans of them.
use Rattle.std.specs.Prelude.{ℕ, ◌<◌, ◌==◌, if◌then◌else◌, List, [], ◌∷◌, All}

-- what a program can see of an interrupt: which accesses of the push or pop at pc were completed, by their numbers,
-- and which bytes were then written, by address
pub record Interrupt : Type 0 where
  pub done : List ℕ
  pub dirt : List (ℕ × ℕ)

-- a plan's entry: an interrupt before the commit with this number
pub record Entry : Type 0 where
  pub at : ℕ
  pub cut : Interrupt

-- the interrupts before the commit with this number, in order
abbrev pub interrupts_at : List Entry → ℕ → List Interrupt
interrupts_at [] k = []
interrupts_at (e ∷ es) k = if e.at == k then e.cut ∷ interrupts_at es k else interrupts_at es k

-- all values that an interrupt writes fit in a byte
abbrev pub IsInterrupt : Interrupt → Type 0
IsInterrupt c = All (λ d. d.1 < 256) c.dirt

-- all values that the interrupts before a commit write fit in a byte
abbrev pub AreInterrupts : (ℕ → List Interrupt) → Type 0
AreInterrupts cuts = (k : ℕ) → All IsInterrupt (cuts k)

-- all values that the interrupts of a plan write fit in a byte
abbrev pub IsPlan : List Entry → Type 0
IsPlan plan = All (λ e. IsInterrupt e.cut) plan
