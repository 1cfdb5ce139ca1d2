use Rattle.std.proofs.Common.{◌≡◌, ◌*◌, ◌%◌, ◌^◌, ◌<◌, sym, ap, ◌∙◌, subst, w64}
use Rattle.std.specs.Int.{trailing_zeros}
use Rattle.std.proofs.Math.Nat.{mod-eq_of_lt, one-mul}
use Rattle.std.proofs.Math.Pow.{pow-lt}
use Rattle.shrink_layout.specs.Sums.{IsLowPower}
use Rattle.shrink_layout.proofs.LowPowers.{low_is, low_within}
use Rattle.shrink_layout.proofs.sums.low_power.Goals as goal

pub returns-clause-power : goal.returns-clause-power
returns-clause-power c =
    let i = c.args.i in
    let t = trailing_zeros w64 i in
    let low = low_is i c.requires c.ranges.i.fits in
    let fits : 2 ^ t < 2 ^ 64 = pow-lt low.0 in
    let is : 1 * 2 ^ t % 2 ^ 64 ≡ 2 ^ t = ap (λ x. x % 2 ^ 64) (one-mul (2 ^ t)) ∙ mod-eq_of_lt fits in
    subst (IsLowPower i) (sym is) low.1

pub returns-clause-within : goal.returns-clause-within
returns-clause-within c = low_within _ _ (returns-clause-power c)
