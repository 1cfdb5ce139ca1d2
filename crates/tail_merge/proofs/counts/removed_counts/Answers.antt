use Rattle.std.proofs.Common.{◌≡◌, ◌+◌, ap, arith, length, subst, sym, ℕ}
use Rattle.psabi_sym.specs.Indexed.{all_sections}
use Rattle.psabi_sym.specs.Inputs.{Inputs, parsed}
use Rattle.tail_merge.specs.MovedTails.{AreMovedTails}
use Rattle.tail_merge.proofs.CountTurns.{AreCountsUpto, counts-low, one-counted}
use Rattle.tail_merge.proofs.counts.removed_counts.Goals as goal

pub overflow_cast-counts : goal.overflow_cast-counts
overflow_cast-counts c =
    let counted = one-counted c.args.cut.now c.recall_invariant.ensures.gathered c.args.tables.now c.requires c.loop-k.k (omega (arith, c.loop-k-test.true, c.section_count-k-end.ensures.count, ap (λ (it : Inputs). length (all_sections (parsed it).objects)) c.objects.ensures.same)) c.index-tables-k.result c.index-tables-k.is c.loop-k.counts.tails c.loop-k.counts.bytes c.loop-k.invariant in
    let low = counts-low c.args.cut.now c.recall_invariant.ensures.gathered (c.loop-k.k + 1) _ _ counted.next in
    omega (arith, c.len.ensures, low.0)

pub overflow_add-counts : goal.overflow_add-counts
overflow_add-counts c =
    let counted = one-counted c.args.cut.now c.recall_invariant.ensures.gathered c.args.tables.now c.requires c.loop-k.k (omega (arith, c.loop-k-test.true, c.section_count-k-end.ensures.count, ap (λ (it : Inputs). length (all_sections (parsed it).objects)) c.objects.ensures.same)) c.index-tables-k.result c.index-tables-k.is c.loop-k.counts.tails c.loop-k.counts.bytes c.loop-k.invariant in
    let low = counts-low c.args.cut.now c.recall_invariant.ensures.gathered (c.loop-k.k + 1) _ _ counted.next in
    omega (arith, c.len.ensures, low.0)

pub overflow_add-counts-in-loop-k : goal.overflow_add-counts-in-loop-k
overflow_add-counts-in-loop-k c =
    let counted = one-counted c.args.cut.now c.recall_invariant.ensures.gathered c.args.tables.now c.requires c.loop-k.k (omega (arith, c.loop-k-test.true, c.section_count-k-end.ensures.count, ap (λ (it : Inputs). length (all_sections (parsed it).objects)) c.objects.ensures.same)) c.index-tables-k.result c.index-tables-k.is c.loop-k.counts.tails c.loop-k.counts.bytes c.loop-k.invariant in
    let low = counts-low c.args.cut.now c.recall_invariant.ensures.gathered (c.loop-k.k + 1) _ _ counted.next in
    let saved = c.saved_by_all.ensures (parsed c.args.cut.now) counted.section (subst (AreMovedTails (parsed c.args.cut.now) counted.section) (sym c.deref.ensures.value) counted.are) in
    omega (arith, saved, low.1)

pub loop-k-preserved : goal.loop-k-preserved
loop-k-preserved c =
    let counted = one-counted c.args.cut.now c.recall_invariant.ensures.gathered c.args.tables.now c.requires c.loop-k.k (omega (arith, c.loop-k-test.true, c.section_count-k-end.ensures.count, ap (λ (it : Inputs). length (all_sections (parsed it).objects)) c.objects.ensures.same)) c.index-tables-k.result c.index-tables-k.is c.loop-k.counts.tails c.loop-k.counts.bytes c.loop-k.invariant in
    let saved = c.saved_by_all.ensures (parsed c.args.cut.now) counted.section (subst (AreMovedTails (parsed c.args.cut.now) counted.section) (sym c.deref.ensures.value) counted.are) in
    let count : c.len.result ≡ length c.index-tables-k.result.items = omega (arith, c.len.ensures) in
    subst (λ (e : ℕ × ℕ). AreCountsUpto (parsed c.args.cut.now) (c.loop-k.k + 1) (c.loop-k.counts.tails + e.0) (c.loop-k.counts.bytes + e.1)) (λ i. (sym count i, sym saved i)) counted.next
