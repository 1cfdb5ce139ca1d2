use Rattle.std.proofs.Common.{◌∙◌, sym}
use Rattle.zcld.proofs.Pieces.{refused_line}
use Rattle.zcld.proofs.err_line.write_pieces.Goals as goal

pub returns-then-is_err-clause-line : goal.returns-then-is_err-clause-line
returns-then-is_err-clause-line g c =
    let before = c.loop-piece.invariant in
    let shown = g.C.Console.shown in
    refused_line (λ piece. piece.now) c.args.pieces.now c.loop-piece.piece-index _ c.loop-piece-test.true c.err.result (shown c.args.console.now) (shown c.loop-piece.console) (shown c.err.new.self) (sym c.is_err.ensures.value ∙ c.if-is_err.true) before.only before.written c.err.ensures.err c.err.ensures.cause
