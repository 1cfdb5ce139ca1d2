use Rattle.std.proofs.Common.{◌≡◌, ◌+◌, ◌-◌, ◌++◌, [], drop, take, length, arith, ap, ◌∙◌}
use Rattle.std.proofs.lemmas.List.{take_rest, drop-drop, drop_all, append-nil, length-drop}
use Rattle.zc_base.specs.Fields.{with_half, half_bytes}
use Rattle.zc_base.proofs.fields.put_u16.Goals as goal

pub returns : goal.returns
unfolding with_half
returns c =
    let b = c.args.bytes.now in
    let at = c.args.at in
    let written : c.write_u16.new.buf ≡ half_bytes c.args.v ++ drop (at + 2) b =
    c.write_u16.ensures ∙ ap (λ l. half_bytes c.args.v ++ drop 2 l) (take_rest b at) ∙ ap (λ l. half_bytes c.args.v ++ l) (drop-drop 2 at b) in
    let past : drop (length b - at) (drop at b) ≡ [] = drop_all (length b - at) (drop at b) (omega (arith, length-drop at b)) in
    rw (written, past) (ap (λ l. take at b ++ l) (append-nil (half_bytes c.args.v ++ drop (at + 2) b)))
