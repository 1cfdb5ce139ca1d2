use Rattle.std.proofs.Common.{take}
use Rattle.std.specs.List.{flat_map}
use Rattle.zc_outside.specs.Desk.{OnlyWrites}
use Rattle.zc_outside.specs.Streams.{Adds, KeepsBytes}
use Rattle.zcld.proofs.err_line.write_pieces.Given as goal

abbrev pub invariant-loop-piece : goal.invariant-loop-piece
invariant-loop-piece g l = record {
  written : Adds (g.C.Console.shown l.initial.console).err (g.C.Console.shown l.console).err (flat_map (λ piece. piece.now) (take l.piece-index l.pieces));
  out : KeepsBytes (g.C.Console.shown l.initial.console).out (g.C.Console.shown l.console).out;
  only : OnlyWrites (g.C.Console.shown l.initial.console) (g.C.Console.shown l.console);
}
