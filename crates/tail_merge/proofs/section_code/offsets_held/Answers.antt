use Rattle.std.proofs.Common.{◌∙◌, [], ◌∷◌, ◌++◌, ap, append-nil, cond, sym}
use Rattle.elf32_read.specs.declared.reloc.Reloc.{Reloc}
use Rattle.block_cut.specs.Resolved.{asks}
use Rattle.object_passes.proofs.ListLaws.{picked-more}
use Rattle.tail_merge.proofs.section_code.offsets_held.Goals as goal
use Rattle.tail_merge.proofs.section_code.offsets_held.Goals.{then-asks+in_ok-push, else-asks}

pub loop-k-preserved : goal.loop-k-preserved
loop-k-preserved c =
    let r = c.reloc-reloc.result in
    let old = c.loop-k.offsets.items in
    let more = picked-more (λ (r : Reloc). r.offset) asks c.args.section.now.section.relocs c.loop-k.k r old c.reloc-reloc.ensures c.loop-k.invariant in
    elim c.if-asks.branch [
      | then-asks+in_ok-push w ↦
          ap (λ v. v.items) w.offsets-is ∙ w.in_ok-push.ensures.items
          ∙ ap (λ b. old ++ cond b (r.offset ∷ []) []) (sym (sym c.asks.ensures ∙ w.if-asks.true)) ∙ more
      | else-asks w ↦
          ap (λ v. v.items) w.offsets-is ∙ sym (append-nil old) ∙ ap (λ b. old ++ cond b (r.offset ∷ []) []) (sym (sym c.asks.ensures ∙ w.if-asks.false)) ∙ more
    ]
