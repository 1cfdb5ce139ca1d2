use Rattle.std.proofs.Common.{◌≡◌, ◌+◌, drop, get_or, arith, get_or-drop, ◌∙◌}
use Rattle.std.proofs.lemmas.List.{take_rest}
use Rattle.zc_base.specs.Fields.{word_in}
use Rattle.zc_base.proofs.fields.u32_at.Goals as goal

pub returns : goal.returns
unfolding word_in
returns c =
    let b = c.args.bytes.now in
    let at = c.args.at in
    let read = rw (take_rest b at) at c.read_u32.ensures in
    let e0 : get_or (drop at b) 0 0 ≡ get_or b at 0 = get_or-drop at b 0 0 ∙ (let z : get_or b (at + 0) 0 ≡ get_or b at 0 = grind arith in z) in
    let e1 : get_or (drop at b) 1 0 ≡ get_or b (at + 1) 0 = get_or-drop at b 1 0 in
    let e2 : get_or (drop at b) 2 0 ≡ get_or b (at + 2) 0 = get_or-drop at b 2 0 in
    let e3 : get_or (drop at b) 3 0 ≡ get_or b (at + 3) 0 = get_or-drop at b 3 0 in
    omega (arith, read, e0, e1, e2, e3)
