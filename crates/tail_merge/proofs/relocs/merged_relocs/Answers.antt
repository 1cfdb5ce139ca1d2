use Rattle.std.proofs.Common.{◌≡◌, ℕ, [], ◌∷◌, ◌++◌, ◌∙◌, ap, append-nil, cond, of_z, rules, subst, sym, to_z, w32}
use Rattle.psabi_sym.specs.Inputs.{Inputs, parsed}
use Rattle.block_cut.specs.Resolved.{asks}
use Rattle.object_passes.proofs.ListLaws.{picked-more}
use Rattle.tail_merge.specs.Merged.{merged_reloc, removed_at}
use Rattle.tail_merge.specs.MovedTails.{AreMovedAt}
use Rattle.tail_merge.proofs.relocs.merged_relocs.Goals as goal
use Rattle.tail_merge.proofs.relocs.merged_relocs.Goals.{then-asks+in_ok-push, else-asks}

pub loop-k-preserved : goal.loop-k-preserved
loop-k-preserved c =
    let inputs = parsed c.args.cut.now in
    let l = c.args.section.now in
    let removed = removed_at inputs l.object l.index in
    let f = merged_reloc inputs l.object removed in
    let r = c.reloc-reloc.result in
    let old = c.loop-k.relocs.items in
    let tails = c.table_at-tails.result.now in
    let at = subst (λ (e : Inputs × (ℕ × ℕ)). AreMovedAt (parsed e.0) e.1.0 e.1.1 tails) (λ i. (c.objects.ensures.same i, (c.object.ensures i, c.index.ensures i))) c.table_at-tails.ensures in
    let more = picked-more f asks l.section.relocs c.loop-k.k r old c.reloc-reloc.ensures c.loop-k.invariant in
    elim c.if-asks.branch [
      | then-asks+in_ok-push w ↦
          let down = w.moved_down.ensures inputs l.object l.index at in
          let back : to_z w32 (of_z w32 w.merged_addend.result) ≡ w.merged_addend.result = search rules in
          ap (λ v. v.items) w.relocs-is ∙ w.in_ok-push.ensures.items
          ∙ (λ i. old ++ (record { offset = down i; symbol = r.symbol; kind = r.kind; addend = (back ∙ w.merged_addend.ensures ∙ ap (λ o. (merged_reloc inputs o removed r).addend) w.object-then-asks.ensures) i }) ∷ [])
          ∙ ap (λ b. old ++ cond b (f r ∷ []) []) (sym (sym c.asks.ensures ∙ w.if-asks.true)) ∙ more
      | else-asks w ↦
          ap (λ v. v.items) w.relocs-is ∙ sym (append-nil old) ∙ ap (λ b. old ++ cond b (f r ∷ []) []) (sym (sym c.asks.ensures ∙ w.if-asks.false)) ∙ more
    ]
