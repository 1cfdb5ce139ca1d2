-- Files by name, as a store tells them, and counts that rise.
use Rattle.std.specs.Prelude.{◌≡◌, ◌≢◌, ℕ, ◌+◌, ◌-◌, ◌^◌, ◌<◌, ◌≤◌, min, List, length, Option, Some, None, ⊤}

-- the bytes under each name that is held
abbrev pub Files : Type 0
Files = List ℕ → Option (List ℕ)

-- a 64-bit count that rose, or is at its largest value
abbrev pub Rose : ℕ → ℕ → Type 0
Rose before now = min (before + 1) (2 ^ 64 - 1) ≤ now

-- if the files were told, they still are, and are the same
abbrev pub KeepsFiles : Option Files → Option Files → Type 0
KeepsFiles None after = ⊤
KeepsFiles (Some f) None = ⊥
KeepsFiles (Some f) (Some g) = (q : List ℕ) → g q ≡ f q

-- if the files were told, they still are: the name has these bytes, and no other name changed
abbrev pub PutsFile : Option Files → Option Files → List ℕ → List ℕ → Type 0
PutsFile None after name bytes = ⊤
PutsFile (Some f) None name bytes = ⊥
PutsFile (Some f) (Some g) name bytes = (g name ≡ Some bytes) × ((q : List ℕ) → q ≢ name → g q ≡ f q)

-- if the files are told, the name has these bytes
abbrev pub HasFile : Option Files → List ℕ → List ℕ → Type 0
HasFile None name bytes = ⊤
HasFile (Some f) name bytes = f name ≡ Some bytes

-- if the files are told, the name has more bytes than this
abbrev pub IsLong : Option Files → List ℕ → ℕ → Type 0
IsLong None name limit = ⊤
IsLong (Some f) name limit = (bytes : List ℕ) × (f name ≡ Some bytes) × (limit < length bytes)

-- the files are told, and the name is held
abbrev pub Holds : Option Files → List ℕ → Type 0
Holds None name = ⊥
Holds (Some f) name = (bytes : List ℕ) × (f name ≡ Some bytes)
