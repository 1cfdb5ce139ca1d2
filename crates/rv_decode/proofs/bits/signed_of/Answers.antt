use Rattle.std.proofs.Common.{◌<◌, arith}
use Rattle.std.proofs.lemmas.Nat.{one_shl, pow_below}
use Rattle.std.proofs.lemmas.Int.{ints}
use Rattle.rv_decode.proofs.bits.signed_of.Goals as goal

pub overflow_sub-result : goal.overflow_sub-result
overflow_sub-result c =
    let small : c.args.bits < 31 = omega arith in
    let fits : c.args.bits < 32 = omega arith in
    rw (one_shl c.args.bits 32 fits) (omega (arith, ints, pow_below c.args.bits 31 small))
