-- Tables of names as they are written (System V gABI, "String Table"): a zero, then each name with a zero after it.
use Rattle.std.specs.Prelude.{ℕ, List, [], ◌∷◌, ◌++◌}
use Rattle.std.specs.List.{flat_map}

-- the bytes of a name: an empty one has none of its own
abbrev pub name_bytes : List ℕ → List ℕ
name_bytes [] = []
name_bytes (byte ∷ bytes) = byte ∷ bytes ++ 0 ∷ []

-- the table of these names
abbrev pub name_table : List (List ℕ) → List ℕ
name_table names = 0 ∷ flat_map name_bytes names

-- where a name begins that is added at this end of a table: an empty one is at its first zero
abbrev pub name_start : ℕ → List ℕ → ℕ
name_start end [] = 0
name_start end (byte ∷ bytes) = end
