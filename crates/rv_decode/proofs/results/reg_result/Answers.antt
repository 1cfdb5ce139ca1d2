use Rattle.std.proofs.Common.{ℤ, sym, ap, ◌∙◌}
use Rattle.std.specs.Int.{w32, cast_signed, cast_unsigned, int_shr}
use Rattle.rv_decode.specs.Bits.{as_word}
use Rattle.rv_decode.specs.Results.{reg_result}
use Rattle.rv_decode.proofs.ResultLaws.{product_is}
use Rattle.rv_decode.proofs.results.reg_result.Goals as goal

pub returns-in-Mulh : goal.returns-in-Mulh
returns-in-Mulh c =
    let again = λ (z : ℤ). cast_signed w32 (cast_unsigned w32 z) in
    c.upper_half.ensures
    ∙ ap (λ z. as_word (int_shr z 32)) (product_is c.args.a c.args.b c.from-in-Mulh.result c.from-in-Mulh-2.result c.ranges.a.fits c.ranges.b.fits (c.from-in-Mulh.ensures ∙ ap again c.cast_signed-in-Mulh.ensures) (c.from-in-Mulh-2.ensures ∙ ap again c.cast_signed-in-Mulh-2.ensures))
    ∙ ap (λ op. reg_result op c.args.a c.args.b) (sym c.in-Mulh.is)
