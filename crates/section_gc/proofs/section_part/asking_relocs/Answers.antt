use Rattle.std.proofs.Common.{[], ◌∷◌, ◌++◌, ◌∙◌, append-nil, ap, cond, sym}
use Rattle.block_cut.specs.Resolved.{asks}
use Rattle.object_passes.proofs.ListLaws.{kept-more}
use Rattle.section_gc.proofs.section_part.asking_relocs.Goals as goal
use Rattle.section_gc.proofs.section_part.asking_relocs.Goals.{then-asks+in_ok-push, else-asks}

pub loop-k-preserved : goal.loop-k-preserved
loop-k-preserved c =
    let r = c.reloc-reloc.result in
    let old = c.loop-k.relocs.items in
    let more = kept-more asks c.args.section.now.section.relocs c.loop-k.k r old c.reloc-reloc.ensures c.loop-k.invariant in
    elim c.if-asks.branch [
      | then-asks+in_ok-push w ↦
          ap (λ v. v.items) w.relocs-is ∙ w.in_ok-push.ensures.items ∙ ap (λ b. old ++ cond b (r ∷ []) []) (sym (sym c.asks.ensures ∙ w.if-asks.true)) ∙ more
      | else-asks w ↦
          ap (λ v. v.items) w.relocs-is ∙ sym (append-nil old) ∙ ap (λ b. old ++ cond b (r ∷ []) []) (sym (sym c.asks.ensures ∙ w.if-asks.false)) ∙ more
    ]
