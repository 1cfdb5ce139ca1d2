use Rattle.std.proofs.Common.{◌≡◌, ℕ, ◌+◌, ◌*◌, ◌%◌, ◌<◌, ◌≤◌, ◌⊎◌, length, min, set, refl, ap, ◌∙◌, subst, arith, inl, inr}
use Rattle.std.specs.Prelude.{slice_index}
use Rattle.shrink_layout.specs.Invariants.Blocks.{block_size}
use Rattle.shrink_layout.proofs.AddressLaws.{form_at}
use Rattle.shrink_layout.proofs.AnewLaws.{IsLaidTo, all_laid, at_room, laid_more, set_room}
use Rattle.shrink_layout.proofs.ChangeLaws.{index_is}
use Rattle.shrink_layout.proofs.RoundLaws.{length_forms}
use Rattle.shrink_layout.proofs.moves.lay_anew.Goals as goal
use Rattle.shrink_layout.proofs.moves.lay_anew.Goals.{then-change, else-change, then-span-ne0, else-span-ne0}

pub bounds-sizes-k : goal.bounds-sizes-k
bounds-sizes-k c = omega (arith, length_forms c.args.pieces.now c.args.sizes.now c.requires.can.forms)

pub width-width-requires-clause-form : goal.width-width-requires-clause-form
width-width-requires-clause-form c = form_at c.args.pieces.now c.args.sizes.now c.loop-k.k _ (omega arith) c.requires.can.forms

pub change-requires-clause-room : goal.change-requires-clause-room
change-requires-clause-room c =
    set_room c.args.pieces.now c.args.sizes.now c.args.widths.now c.args.block c.requires.within c.requires.can c.loop-k.widths (c.args.block * block_size) c.loop-k.k c.loop-k.at c.loop-k.changed
    c.loop-k.invariant (omega arith) (omega arith) c.width-width.result c.width-width.ensures.value

pub overflow_add-at : goal.overflow_add-at
overflow_add-at c = omega (
  arith,
  at_room c.args.pieces.now c.args.sizes.now c.args.widths.now c.args.block c.requires.within c.requires.can c.loop-k.at c.loop-k.k c.width-width.result
      c.loop-k.invariant.at_is (omega arith) c.width-width.ensures.value,
)

pub loop-k-preserved : goal.loop-k-preserved
loop-k-preserved c =
    let k = c.loop-k.k in
    let changed = c.loop-k.changed in
    let changed' = c.if-change.changed in
    let counted : (changed ≤ changed') × (changed' ≤ changed + 1) × (changed ≡ changed' → slice_index c.loop-k.widths.sums k ≡ c.width-width.result) = elim c.if-change.branch [
      | then-change v ↦ (omega (arith, v.changed-is), omega (arith, v.changed-is), λ e. absurd (omega (arith, v.changed-is, e)))
      | else-change v ↦ (omega (arith, v.changed-is), omega (arith, v.changed-is), λ e. c.change.ensures.same v.if-change.false)
    ] in
    laid_more c.args.pieces.now c.args.sizes.now c.args.widths.now c.args.block c.requires.within c.requires.can c.loop-k.widths (c.args.block * block_size) k c.loop-k.at changed
    c.loop-k.invariant (omega arith) (omega arith) c.width-width.result c.width-width.ensures.value
    _ changed' refl refl c.change.ensures.sums refl counted.0 counted.1 counted.2

pub returns : goal.returns
returns c =
    let pieces = c.args.pieces.now in
    let sizes = c.args.sizes.now in
    let old = c.args.widths.now in
    let block = c.args.block in
    let w = c.loop-k.widths in
    let w' = c.if-span-ne0.widths in
    let changed = c.loop-k.changed in
    let k = c.loop-k.k in
    let now = c.loop-k.invariant in
    let first : ℕ = block * block_size in
    let end : ℕ = min (length pieces) (first + block_size) in
    let span = c.of_block-span in
    let ended : k ≡ end = omega (arith, c.loop-k-test.false, span.ensures.first, span.ensures.end) in
    let end_same : span.result.end ≡ k = omega (arith, ended, span.ensures.end) in
    let at_end = subst (λ m. IsLaidTo (slice_index old.starts.items 0) pieces sizes old w first m c.loop-k.at changed) ended now in
    let is : (w'.sums ≡ w.sums) × (w'.starts.items ≡ w.starts.items) × (w'.changes.items ≡ w.changes.items)
    × (((end % block_size ≡ 0) × (w'.within.items ≡ w.within.items)) ⊎ ((end % block_size ≡ 0 → ⊥) × (w'.within.items ≡ set w.within.items end changed))) = elim c.if-span-ne0.branch [
      | then-span-ne0 v ↦ (
        ap (λ x. x.sums) v.widths-is,
        ap (λ x. x.starts.items) v.widths-is,
        ap (λ x. x.changes.items) v.widths-is,
        inr (λ e. v.if-span-ne0.true (omega (arith, e, span.ensures.end)), ap (λ x. x.within.items) v.widths-is ∙ ap (λ m. set w.within.items m changed) (end_same ∙ ended)),
      )
      | else-span-ne0 v ↦ (
        ap (λ x. x.sums) v.widths-is,
        ap (λ x. x.starts.items) v.widths-is,
        ap (λ x. x.changes.items) v.widths-is,
        inl (omega (arith, v.if-span-ne0.false, span.ensures.end), ap (λ x. x.within.items) v.widths-is),
      )
    ] in
    let in_changes : block < length w'.changes.items = omega (arith, ap length is.2, ap length now.changes, c.requires.can.changes_count, c.requires.within) in
    let read : c.index.result.now ≡ slice_index w.changes.items block =
    index_is w'.changes.items block _ c.index.result.now in_changes c.index.ensures ∙ ap (λ l. slice_index l block) is.2 in
    all_laid pieces sizes old block c.requires.within c.requires.can w _ first end c.loop-k.at changed refl refl at_end is.0
    (ap (λ l. set l (block + 1) c.loop-k.at) is.1)
    (λ i. set (is.2 i) (block + 1) ((read i) + (c.from.ensures i)))
    is.3
