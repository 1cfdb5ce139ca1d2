-- Each word that is written is the next one's turn.
use Rattle.std.proofs.Common.{◌≡◌, ℕ, ◌+◌, ◌-◌, ◌*◌, ◌%◌, ◌^◌, [], Option, IfSome, sym, ◌∙◌, arith, get_or, subst}
use Rattle.sym_machine.specs.AddressParts.{bytes_of}
use Rattle.sym_machine.specs.Change.{Goes, puts}
use Rattle.sym_machine.specs.Invariants.Frames.{word_address}
use Rattle.sym_machine.specs.State.{reg_of}
use Rattle.sym_machine.specs.Step.{Went, applied}
use Rattle.sym_machine.proofs.FrameLaws.{saving_more}
use Rattle.sym_machine.proofs.state.State.save_all.Goals as goal

pub loop-k-preserved : goal.loop-k-preserved
loop-k-preserved c =
    let inv = c.loop-k.invariant in
    let q = c.requires in
    let first = c.args.self.now in
    let s = c.loop-k.self.core in
    let s' = c.save.new.self.core in
    let k = c.loop-k.k in
    let few = c.loop-k-test.true in
    let r : ℕ = get_or c.args.registers.now k 0 in
    let r_is : c.unwrap-r.result ≡ r = subst (λ (o : Option ℕ). IfSome o (λ n. n ≡ r)) c.unwrap-r.ensures c.new.ensures.some in
    let at : (c.args.sp + (c.args.top - 4 * (k + 1))) % 2 ^ 32 ≡ word_address c.args.sp c.args.top k = omega arith in
    let own : applied first.map s (Goes (puts (word_address c.args.sp c.args.top k) (bytes_of (reg_of s r)) c.args.next)) ≡ Went s' [] =
    (λ j. applied (sym inv.map j) s (Goes (puts (sym at j) (bytes_of (reg_of s (sym r_is j))) c.args.next))) ∙ c.save.ensures.made.2 in
    record {
      running = c.save.ensures.made.1;
      map = c.save.ensures.map ∙ inv.map;
      saving = saving_more first.map c.args.sp c.args.top c.args.registers.now c.args.next first.core c.ranges.sp.fits q.sp k s s' few (q.reached.each k few) inv.saving own;
    }
