use Rattle.std.proofs.Common.{◌∙◌, ℕ, ap, arith, cond, sym}
use Rattle.block_cut.specs.Resolved.{asks}
use Rattle.object_passes.proofs.ListLaws.{count-next}
use Rattle.object_passes.proofs.relocs.asking_count.Goals as goal
use Rattle.object_passes.proofs.relocs.asking_count.Goals.{then-asks, else-asks}

pub loop-k-preserved : goal.loop-k-preserved
loop-k-preserved c =
    let more = count-next asks c.args.section.now.section.relocs c.loop-k.k c.reloc.result c.reloc.ensures in
    let so_far = c.loop-k.invariant in
    elim c.if-asks.branch [
      | then-asks w ↦
          let one = ap {B = ℕ} (λ b. cond b 1 0) (sym c.asks.ensures ∙ w.if-asks.true) in
          (omega (arith, more, one, so_far.0, w.count-is), omega (arith, so_far.1, w.count-is))
      | else-asks w ↦
          let none = ap {B = ℕ} (λ b. cond b 1 0) (sym c.asks.ensures ∙ w.if-asks.false) in
          (omega (arith, more, none, so_far.0, w.count-is), omega (arith, so_far.1, w.count-is))
    ]
