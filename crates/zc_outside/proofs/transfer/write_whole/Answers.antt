-- Each write adds the next part of the piece, and an interrupted one adds nothing.
use Rattle.std.proofs.Common.{◌≤◌, arith, length}
use Rattle.std.proofs.lemmas.List.{take_rest, length-drop}
use Rattle.zc_outside.proofs.Transfers.{Adds-Keeps, Adds-Appends}
use Rattle.zc_outside.proofs.transfer.write_whole.Goals as goal
use Rattle.zc_outside.proofs.transfer.write_whole.Goals.{in-Ok, in-Err}

pub loop-preserved : goal.loop-preserved
loop-preserved g c =
    let initial = g.S.Write.contents c.args.sink.now in
    let before = g.S.Write.contents c.loop.sink in
    let after = g.S.Write.contents c.write.new.self in
    let piece = c.args.piece.now in
    let done = c.loop.done in
    elim c.match-write.branch [
      | in-Ok w ↦
          let bound = rw (take_rest piece done) at w.in-Ok.ensures.bound in
          let bytes = rw (take_rest piece done) at w.in-Ok.ensures.bytes in
          let within : c.match-write.done ≤ length piece = omega (arith, bound, length-drop done piece) in
          (within, rw w.done-is (Adds-Appends initial before after piece done w.in-Ok.count c.loop.invariant.1 bytes))
      | in-Err w ↦
          (omega arith, rw w.done-is (Adds-Keeps initial before after _ c.loop.invariant.1 w.in-Err.ensures.bytes))
    ]
