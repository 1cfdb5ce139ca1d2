-- Several writes to a store in sequence.
use Rattle.std.proofs.Common.{arith}
use Rattle.zc_outside.specs.Shelf.{OnlyPuts, Shelf}

-- no write
pub OnlyPuts-refl : (s : Shelf) → OnlyPuts s s
OnlyPuts-refl s = grind arith

-- one write after another
pub OnlyPuts-trans : {a b c : Shelf} → OnlyPuts a b → OnlyPuts b c → OnlyPuts a c
OnlyPuts-trans first second = grind arith
