use Rattle.std.proofs.Common.{◌≡◌, ℕ, ◌+◌, ◌-◌, ◌<◌, ◌≤◌, List, true, length, subst, ◌∙◌, arith}
use Rattle.std.proofs.lemmas.Result.{err_from_is_err_and}
use Rattle.rv_decode.specs.Memory.{extents_of, is_data, lies_in}
use Rattle.rv_decode.proofs.MemoryLaws.{lies_inside}
use Rattle.rv_decode.specs.State.{ZcCore}
use Rattle.zc_machine.specs.Buffer.{InMemory, IsPiece, bytes_at}
use Rattle.zc_outside.specs.Course.{WrotePart, WroteTo}
use Rattle.zc_machine.proofs.BufferLaws.{bytes_at-piece, bytes_at-rest}
use Rattle.zc_outside.proofs.Course.{WrotePart-append, WroteTo-WrotePart, WroteTo-append}
use Rattle.zc_machine.proofs.output.write.Goals as goal
use Rattle.zc_outside.specs.Desk.{Desk}
use Rattle.zc_outside.proofs.Desk.{OnlyWrites-trans}

-- the rest of a buffer lies in memory
rest_lies : (z : ZcCore) (at len done : ℕ) → InMemory z at len → done < len → lies_in is_data (extents_of z.memory) (at + done) (len - done) ≡ true
rest_lies z at len done memory more = lies_inside is_data (extents_of z.memory) at len (at + done) (len - done) (memory (omega arith)) (omega arith) (omega arith)

-- a piece of it was written after what stands, or a part of the piece
module _ (z : ZcCore) (fd at len done : ℕ) (piece : List ℕ) (is : IsPiece z (at + done) (len - done) piece) (before now after : Desk) (stands : WroteTo fd (bytes_at z at done) before now) where
  more : WroteTo fd piece now after → WroteTo fd (bytes_at z at (done + length piece)) before after
  more wrote = subst (λ xs. WroteTo fd xs before after) (bytes_at-piece z at done piece is.bytes) (WroteTo-append fd (bytes_at z at done) piece before now after stands wrote)

  part : done < len → WrotePart fd piece now after → WrotePart fd (bytes_at z at len) before after
  part less wrote =
      let done' = done + length piece in
      let within : done' ≤ len = omega (arith, is.within) in
      let first = subst (λ xs. WrotePart fd xs before after) (bytes_at-piece z at done piece is.bytes) (WroteTo-WrotePart fd (bytes_at z at done) piece before now after stands wrote) in
      subst (λ xs. WrotePart fd xs before after) (bytes_at-rest z at done' len within) (WrotePart-append fd (bytes_at z at done') (bytes_at z (at + done') (len - done')) before after first)

pub unwrap-piece-requires : goal.unwrap-piece-requires
unwrap-piece-requires g c = c.piece.ensures.within ∙ rest_lies c.args.machine.now c.args.at c.args.len c.loop-done.done c.requires.memory c.loop-done-test.true

pub returns-in_err-put-clause-err : goal.returns-in_err-put-clause-err
returns-in_err-put-clause-err g c =
    let is = rw c.unwrap-piece.ensures at c.piece.ensures.some in
    let p = err_from_is_err_and c.from_residual.result c.from_residual.ensures.1 in
    rw p.1 (part c.args.machine.now c.args.fd c.args.at c.args.len c.loop-done.done c.unwrap-piece.result.now is _ _ _ c.loop-done.invariant.wrote c.loop-done-test.true c.in_err-put.ensures.err)

pub loop-done-preserved : goal.loop-done-preserved
loop-done-preserved g c =
    let is = rw c.unwrap-piece.ensures at c.piece.ensures.some in
    let fits = rw c.unwrap-piece.ensures at c.piece.ensures.below in
    let kept = c.loop-done.invariant in
    let within = is.within in
    record {
      within = omega arith;
      below = λ more. omega arith;
      wrote = more c.args.machine.now c.args.fd c.args.at c.args.len c.loop-done.done c.unwrap-piece.result.now is _ _ _ kept.wrote c.in_ok-put.ensures.ok;
      only = OnlyWrites-trans kept.only c.in_ok-put.ensures.writes;
    }
