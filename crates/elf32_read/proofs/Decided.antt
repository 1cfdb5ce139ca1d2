-- What follows if no test of a table holds.
use Rattle.std.proofs.Common.{◌≡◌, Bool, true, false, cond, Option, Some, None, refl}

-- if the first test doesn't decide, it doesn't hold, and none of the rest does
pub first_no : {F : Type 0} (test : Bool) (fault : F) (rest : Option F) → cond test (Some fault) rest ≡ None → (test ≡ false) × (rest ≡ None)
first_no true fault rest h = absurd cc
first_no false fault rest h = (refl, h)
