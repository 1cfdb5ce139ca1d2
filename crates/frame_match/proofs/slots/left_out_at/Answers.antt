use Rattle.std.proofs.Common.{ap, arith}
use Rattle.frame_match.proofs.slots.left_out_at.Goals as goal

pub returns-in_err-j-clause-each : goal.returns-in_err-j-clause-each
returns-in_err-j-clause-each c left_out j known small room is =
    let o = ap (λ d. d.offset) is in
    let h = c.in_err-j.ensures.each j (omega (arith, o)) in
    absurd cc
