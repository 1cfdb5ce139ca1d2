use Rattle.std.proofs.Common.{◌/◌, ◌^◌, ap, ◌∙◌}
use Rattle.rv_decode.proofs.ResultLaws.{upper_half-bits}
use Rattle.rv_decode.proofs.results.upper_half.Goals as goal

pub returns : goal.returns
returns c = ap (λ n. n / 2 ^ 32) c.cast_unsigned.ensures ∙ upper_half-bits c.args.product c.ranges.product.sfits
