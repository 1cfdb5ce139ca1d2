-- Each piece is written behind the ones before it.
use Rattle.std.proofs.Common.{◌≡◌, ℕ, ◌+◌, length, map, subst, arith}
use Rattle.rv_decode.specs.Memory.{written}
use Rattle.sym_machine.specs.declared.word.SymByte.TheVariants.{Num}
use Rattle.sym_machine.specs.Kept.{IsChanged, IsKept}
use Rattle.sym_machine.proofs.FillLaws.{filled_bytes, filled_more, filled_none, given_by}
use Rattle.sym_machine.proofs.memory.SymMemory.fill.Goals as goal

pub loop-done-init : goal.loop-done-init
loop-done-init c = record {
  most = omega arith;
  filled = filled_none c.args.a c.args.answers.now c.args.self.now (subst IsKept c.self.view_is c.self.invariant);
}

pub loop-done-preserved : goal.loop-done-preserved
loop-done-preserved c =
    let piece = c.take_piece-piece.result.now in
    let done = c.loop-done.done in
    let at : c.from.result + c.from-in-loop-done.result ≡ c.args.a + done = (λ j. c.from.ensures j + c.from-in-loop-done.ensures j) in
    let new = subst (λ (m : ℕ). IsChanged (written m (length (map Num piece)) (given_by piece)) c.loop-done.self c.write_piece.new.self) at c.write_piece.ensures in record {
      most = omega (arith, c.take_piece-piece.ensures.within, c.loop-done-test.true);
      filled = filled_more c.args.a c.args.answers.now done c.loop-done.answers piece c.take_piece-piece.new.self c.args.self.now c.loop-done.self c.write_piece.new.self c.loop-done.invariant.filled
          c.take_piece-piece.ensures.taken new;
    }

pub returns-after-loop-done-clause-filled : goal.returns-after-loop-done-clause-filled
returns-after-loop-done-clause-filled c =
    filled_bytes c.args.a c.args.answers.now c.loop-done.done c.loop-done.answers c.args.self.now c.loop-done.self (subst IsKept c.self.view_is c.self.invariant) c.loop-done.invariant.filled
