-- Each word that is loaded is the next one's turn.
use Rattle.std.proofs.Common.{◌≡◌, ℕ, ◌+◌, ◌-◌, ◌*◌, ◌%◌, ◌^◌, ◌<◌, [], length, Option, IfSome, sym, ◌∙◌, arith, get_or, subst}
use Rattle.rv_decode.specs.declared.instr.LoadOp.TheVariants.{Lw}
use Rattle.sym_machine.specs.Change.{Goes, load_word, sets}
use Rattle.sym_machine.specs.Invariants.Frames.{word_address}
use Rattle.sym_machine.specs.Step.{Went, applied}
use Rattle.sym_machine.proofs.FrameLaws.{loading_more}
use Rattle.sym_machine.proofs.state.State.restore_all.Goals as goal

pub loop-k-preserved : goal.loop-k-preserved
loop-k-preserved c =
    let inv = c.loop-k.invariant in
    let q = c.requires in
    let first = c.args.self.now in
    let s = c.loop-k.self.core in
    let s' = c.restore.new.self.core in
    let k = c.loop-k.k in
    let few : k < length c.args.registers.now = omega (arith, c.loop-k-test.true) in
    let r : ℕ = get_or c.args.registers.now k 0 in
    let r_is : c.unwrap-r.result ≡ r = subst (λ (o : Option ℕ). IfSome o (λ n. n ≡ r)) c.unwrap-r.ensures c.new.ensures.some in
    let at : (c.args.sp + (c.args.top - 4 * (k + 1))) % 2 ^ 32 ≡ word_address c.args.sp c.args.top k = omega arith in
    let own : applied first.map s (Goes (sets r (load_word Lw s (word_address c.args.sp c.args.top k)) c.args.next)) ≡ Went s' [] =
    (λ j. applied (sym inv.map j) s (Goes (sets (sym r_is j) (load_word Lw s (sym at j)) c.args.next))) ∙ c.restore.ensures.made.2 in
    record {
      running = c.restore.ensures.made.1;
      map = c.restore.ensures.map ∙ inv.map;
      loading = loading_more first.map c.args.sp c.args.top c.args.registers.now c.args.next first.core c.ranges.sp.fits q.known k s s' few (q.reached.each k few) inv.loading own;
    }
