-- What a loop that takes a console's input has taken so far.
use Rattle.std.specs.Prelude.{◌≡◌, ℕ, ◌++◌, List, Option, Some, None, ⊤}

-- if the input was told: these bytes went from its front, and the rest is left
abbrev pub TakesFront : Option (List ℕ) → Option (List ℕ) → List ℕ → Type 0
TakesFront None after input = ⊤
TakesFront (Some xs) None input = ⊥
TakesFront (Some xs) (Some ys) input = input ++ ys ≡ xs
