-- Tables of tests and answers: the first test that holds decides.
use Rattle.std.specs.Prelude.{Bool, if◌then◌else◌, List, [], ◌∷◌, Option, Some, None}

-- the answer of the first row whose test holds; `None` if no test holds
abbrev pub first_of : {F : Type 0} → List (Bool × F) → Option F
first_of [] = None
first_of (row ∷ rows) = if row.0 then Some row.1 else first_of rows
