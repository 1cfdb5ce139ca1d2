-- Numbers in two's complement: what is read fits, and what fits is read back.
use Rattle.std.proofs.Common.{◌≡◌, ℕ, ◌-◌, ◌*◌, ◌%◌, ◌^◌, ◌<◌, Bool, true, false, cond, refl, arith, ltb, pos, negsuc}
use Rattle.std.proofs.lemmas.Bool.{ltb-true, ltb-false}
use Rattle.rv_decode.specs.Bits.{FitsIn, IsEven, signed}

-- what is read fits
pub signed-fits : (bits n : ℕ) → 2 ^ bits ≡ 2 * 2 ^ (bits - 1) → n < 2 ^ bits → FitsIn bits (signed bits n)
signed-fits bits n twice lt = either (ltb n (2 ^ (bits - 1))) refl
  where
    either : (b : Bool) → ltb n (2 ^ (bits - 1)) ≡ b → FitsIn bits (cond b (pos n) (negsuc (2 ^ bits - n - 1)))
    either true below = ltb-true n (2 ^ (bits - 1)) below
    either false above = let high = ltb-false n (2 ^ (bits - 1)) above in omega (arith, high, twice, lt)

-- and is even if the number is
pub signed-even : (bits n : ℕ) → 2 ^ bits % 2 ≡ 0 → n < 2 ^ bits → n % 2 ≡ 0 → IsEven (signed bits n)
signed-even bits n whole lt even = either (ltb n (2 ^ (bits - 1)))
  where
    either : (b : Bool) → IsEven (cond b (pos n) (negsuc (2 ^ bits - n - 1)))
    either true = even
    either false = omega (arith, whole, lt, even)
