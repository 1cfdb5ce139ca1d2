-- Streams of bytes, as a console tells them.
use Rattle.std.specs.Prelude.{◌≡◌, ℕ, ◌<◌, ◌≤◌, ◌↔◌, ◌++◌, List, [], length, take, drop, Option, Some, None, ⊤}

-- if the bytes were told, they still are, and are the same
abbrev pub KeepsBytes : Option (List ℕ) → Option (List ℕ) → Type 0
KeepsBytes None after = ⊤
KeepsBytes (Some xs) None = ⊥
KeepsBytes (Some xs) (Some ys) = ys ≡ xs

-- if the input was told: its first n bytes moved to the start of a buffer, and a buffer that isn't empty gets no byte
-- exactly if no input was left
abbrev pub Takes : Option (List ℕ) → Option (List ℕ) → List ℕ → List ℕ → ℕ → Type 0
Takes None after buf buf' n = ⊤
Takes (Some xs) None buf buf' n = ⊥
Takes (Some xs) (Some ys) buf buf' n =
    (n ≤ length xs) × (buf' ≡ take n xs ++ drop n buf) × (ys ≡ drop n xs) × (0 < length buf → (n ≡ 0) ↔ (xs ≡ []))

-- if the bytes were told, the whole piece was added to them
abbrev pub Adds : Option (List ℕ) → Option (List ℕ) → List ℕ → Type 0
Adds None after piece = ⊤
Adds (Some xs) None piece = ⊥
Adds (Some xs) (Some ys) piece = ys ≡ xs ++ piece

-- if the bytes were told, a part of the piece was added to them, and not the whole
abbrev pub AddsPart : Option (List ℕ) → Option (List ℕ) → List ℕ → Type 0
AddsPart None after piece = ⊤
AddsPart (Some xs) None piece = ⊥
AddsPart (Some xs) (Some ys) piece = (n : ℕ) × (n < length piece) × (ys ≡ xs ++ take n piece)
