-- The first `count` bytes of the piece are written.
use Rattle.std.proofs.Common.{◌≤◌, length, take}
use Rattle.zc_outside.specs.Streams.{Adds}
use Rattle.zc_outside.proofs.transfer.write_whole.Given as goal

abbrev pub invariant-loop : goal.invariant-loop
invariant-loop g l =
    (l.done ≤ length l.piece) × Adds (g.S.Write.contents l.initial.sink) (g.S.Write.contents l.sink) (take l.done l.piece)
