use Rattle.std.proofs.Common.{◌≡◌, ◌-◌, ◌≤◌, ◌++◌, ap, ap₂, ◌∙◌, arith, length, replicate, take, vec_len}
use Rattle.std.proofs.lemmas.List.{take_all}
use Rattle.rv_decode.specs.Memory.{blank}
use Rattle.zc_machine.proofs.load.padded.Goals as goal

pub returns : goal.returns
unfolding blank
returns c =
    let bytes = c.args.bytes.now in
    let given = c.in_ok-extend_from_slice.ensures in
    let filled : c.extend_from_slice.new.self.items ≡ bytes = given.items ∙ ap (λ xs. xs ++ bytes) c.in_ok-cells.ensures.items in
    let fits : length bytes ≤ c.max-size.result = omega arith in
    let whole : take c.max-size.result c.extend_from_slice.new.self.items ≡ bytes = ap (take c.max-size.result) filled ∙ take_all c.max-size.result bytes fits in
    let rest : c.max-size.result - vec_len c.extend_from_slice.new.self ≡ c.args.size - length bytes = omega (arith, given.len, c.in_ok-cells.ensures.len) in
    c.in_ok-resize.ensures.items ∙ ap₂ (λ xs n. xs ++ replicate n 0) whole rest
