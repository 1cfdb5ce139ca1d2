use Rattle.std.proofs.Common.{◌≡◌, ◌+◌, drop, get_or, arith, get_or-drop, ◌∙◌}
use Rattle.std.proofs.lemmas.List.{take_rest}
use Rattle.zc_base.specs.Fields.{half_in}
use Rattle.zc_base.proofs.fields.u16_at.Goals as goal

pub returns : goal.returns
unfolding half_in
returns c =
    let b = c.args.bytes.now in
    let at = c.args.at in
    let read = rw (take_rest b at) at c.read_u16.ensures in
    let e0 : get_or (drop at b) 0 0 ≡ get_or b at 0 = get_or-drop at b 0 0 ∙ (let z : get_or b (at + 0) 0 ≡ get_or b at 0 = grind arith in z) in
    let e1 : get_or (drop at b) 1 0 ≡ get_or b (at + 1) 0 = get_or-drop at b 1 0 in
    omega (arith, read, e0, e1)
