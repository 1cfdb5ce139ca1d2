-- Objects under names that have a prefix and the object's number.
use Rattle.std.specs.Prelude.{ℕ, zero, suc, ◌++◌, List, [], ◌∷◌, codes, decimal}

-- the name of the object with this number
abbrev pub object_name : List ℕ → ℕ → List ℕ
object_name prefix i = prefix ++ decimal i ++ codes ".o"

-- the names of `count` objects, from number i on
abbrev pub names_from : List ℕ → ℕ → ℕ → List (List ℕ)
names_from prefix i zero = []
names_from prefix i (suc count) = object_name prefix i ∷ names_from prefix (suc i) count

-- objects under their names, from a number on
abbrev pub named_from : List ℕ → ℕ → List (List ℕ) → List (List ℕ × List ℕ)
named_from prefix i [] = []
named_from prefix i (object ∷ objects) = (object_name prefix i, object) ∷ named_from prefix (suc i) objects
