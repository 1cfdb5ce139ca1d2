use Rattle.std.proofs.Common.{◌≡◌, ℕ, ◌+◌, ◌-◌, refl, ap, sym, ◌∙◌, arith}
use Rattle.rv_decode.specs.Memory.{written}
use Rattle.sym_machine.specs.declared.word.SymByte.TheVariants.{Undef}
use Rattle.sym_machine.proofs.PageLaws.{made_after}
use Rattle.sym_machine.proofs.WrittenLaws.{written_further}
use Rattle.sym_machine.proofs.pool.Pool.clear.Goals as goal

pub loop-at-preserved : goal.loop-at-preserved
loop-at-preserved c =
    let from = c.args.from in
    let at = c.loop-at.at in
    let end = c.min-end.result in
    let done = c.loop-at.invariant in
    let start : from + (at - from) ≡ at = omega (arith, done.after) in
    let all : at - from + (end - at) ≡ end - from = omega (arith, done.after, c.min-end.ensures, c.loop-at-test.true) in
    record {
      after = omega (arith, done.after, c.min-end.ensures, c.loop-at-test.true);
      before = omega (arith, c.min-end.ensures);
      made = made_after (written from (at - from) (λ _. Undef)) (written at (end - at) (λ _. Undef)) (written from (end - from) (λ _. Undef))
          (λ x c. ap (λ (a : ℕ). written a (end - at) (λ _. Undef) x (written from (at - from) (λ _. Undef) x c)) (sym start)
          ∙ written_further from (at - from) (end - at) (λ _. Undef) (λ _. Undef) (λ k lt. refl) x c
          ∙ ap (λ (n : ℕ). written from n (λ _. Undef) x c) all)
          c.args.self.now c.loop-at.self c.clear_page.new.self done.made c.clear_page.ensures;
    }
