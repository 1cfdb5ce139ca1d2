use Rattle.std.proofs.Common.{◌≡◌, ℕ, ◌+◌, ◌*◌, ◌<◌, ◌≤◌, true, List, length, max, min, set, sym, ap, ◌∙◌, subst, arith, inl, inr}
use Rattle.std.specs.Prelude.{slice_index}
use Rattle.shrink_layout.specs.declared.piece.Piece.{Piece}
use Rattle.shrink_layout.specs.declared.piece.Piece.TheVariants.{Fixed}
use Rattle.shrink_layout.specs.declared.widths.Widths.{Widths}
use Rattle.shrink_layout.specs.Invariants.Blocks.{HaveGrownIn, IsSpanned, ReachesAll, block_size, nth_piece}
use Rattle.shrink_layout.specs.Invariants.Widths.{AreStarts, CanBeTested, IsUntouched, addresses_in, changed_before}
use Rattle.shrink_layout.specs.Forms.{form_reaches, near_limit, target}
use Rattle.shrink_layout.specs.Layout.{form_reaches_at}
use Rattle.shrink_layout.proofs.ChangeLaws.{by_long, by_next, by_top}
use Rattle.shrink_layout.proofs.TestLaws.{IsTested, test_fits, test_grows, tested_more}
use Rattle.shrink_layout.proofs.round.grow_block.Goals as goal
use Rattle.shrink_layout.proofs.round.grow_block.Goals.{then-can_grow, then-changed+then-not-reaches, else-changed, else-changed-via-then-changed+else-not-reaches, else-changed-via-else-changed, else-can_grow}

-- any two pieces are near
near_two : (pieces : List Piece) (w : Widths) (i j : ℕ) → CanBeTested pieces w → i ≤ length pieces → j ≤ length pieces
    → slice_index (addresses_in w) i < slice_index (addresses_in w) j + near_limit
near_two pieces w i j can in_i in_j =
    let long = by_long (slice_index w.starts.items 0) w.sums in
    can.near i 0 (omega (arith, long, can.long, in_i)) j 0 (omega (arith, long, can.long, in_j))

pub reaches-requires-clause-starts : goal.reaches-requires-clause-starts
reaches-requires-clause-starts c =
    let w = c.args.widths.now in
    subst (λ n. AreStarts (addresses_in w) n w.starts.items) (sym c.requires.testable.long) c.requires.testable.starts

pub reaches-requires-clause-near : goal.reaches-requires-clause-near
reaches-requires-clause-near c =
    let pieces = c.args.pieces.now in
    let k = c.loop-k.k in
    omega (arith, c.loop-k.invariant.at_is, near_two pieces c.args.widths.now k (target (nth_piece pieces k)) c.requires.testable (omega arith) (c.requires.testable.targets k (Fixed 0) (omega arith)))

pub reaches-requires-clause-near_back : goal.reaches-requires-clause-near_back
reaches-requires-clause-near_back c =
    let pieces = c.args.pieces.now in
    let k = c.loop-k.k in
    omega (arith, c.loop-k.invariant.at_is, near_two pieces c.args.widths.now (target (nth_piece pieces k)) k c.requires.testable (c.requires.testable.targets k (Fixed 0) (omega arith)) (omega arith))

pub overflow_add-at : goal.overflow_add-at
overflow_add-at c =
    let w = c.args.widths.now in
    let k = c.loop-k.k in
    let text = slice_index w.starts.items 0 in
    let in_sums : k < length w.sums = omega (arith, c.requires.testable.long) in
    omega (arith, c.loop-k.invariant.at_is, c.size-at.ensures, by_next text w.sums k in_sums, by_top text w.sums (k + 1) (omega (arith, in_sums)), c.requires.testable.room)

-- one more piece of a block, with the bytes that it takes
next_at : (pieces : List Piece) (w : Widths) (k at taken : ℕ) → CanBeTested pieces w → k < length pieces → at ≡ slice_index (addresses_in w) k → taken ≡ slice_index w.sums k
    → at + taken ≡ slice_index (addresses_in w) (k + 1)
next_at pieces w k at taken can lt at_is taken_is = omega (arith, at_is, taken_is, by_next (slice_index w.starts.items 0) w.sums k (omega (arith, lt, can.long)))

pub loop-k-preserved : goal.loop-k-preserved
loop-k-preserved c =
    let w = c.args.widths.now in
    let a = addresses_in w in
    let pieces = c.args.pieces.now in
    let old = c.args.sizes.now in
    let sizes = c.loop-k.sizes in
    let k = c.loop-k.k in
    let p = nth_piece pieces k in
    let at_is = c.loop-k.invariant.at_is in
    let now = c.loop-k.invariant.grown in
    let in_pieces : k < length pieces = omega arith in
    let first : ℕ = c.args.block * block_size in
    let from_first : first ≤ k = omega arith in
    let kept = now.after k (omega arith) in
    let all = c.if-can_grow.sizes in
    let fitted' = c.if-can_grow.fitted in
    let low' : ℕ = c.if-can_grow.low in
    let high' : ℕ = c.if-can_grow.high in
    let test : IsTested a pieces old sizes all k c.loop-k.fitted fitted' = elim c.if-can_grow.branch [
      | then-can_grow v ↦ elim v.if-changed.branch [
        | then-changed+then-not-reaches u ↦
            let reached = sym u.reaches.ensures ∙ u.if-not-reaches.true in
            test_grows a pieces old sizes all k c.loop-k.fitted fitted' (omega (arith, now.same, c.requires.sized, in_pieces)) kept
            (ap (λ x. form_reaches p (slice_index sizes k) x (slice_index a (target p))) (sym at_is) ∙ reached)
            (v.sizes-is ∙ u.sizes-is ∙ ap (set sizes k) u.longer.ensures) (v.fitted-is ∙ u.fitted-is)
        | else-changed u ↦
            let fits : form_reaches_at a k p (slice_index sizes k) ≡ true = elim u.else-changed.branch [
              | else-changed-via-then-changed+else-not-reaches x ↦
                  ap (λ y. form_reaches p (slice_index sizes k) y (slice_index a (target p))) (sym at_is) ∙ sym x.reaches.ensures ∙ x.if-not-reaches.false
              | else-changed-via-else-changed x ↦
                  let low : v.min.result ≡ min (target p) k = omega (arith, v.min.ensures, v.target-to.ensures) in
                  let high : v.max.result ≡ max (target p) (k + 1) = omega (arith, v.max.ensures, v.target-to.ensures) in
                  let untouched : IsUntouched w p k = ap (changed_before w) (sym low) ∙ v.changed.ensures x.if-changed.false ∙ ap (changed_before w) high in
                  ap (form_reaches_at a k p) kept ∙ c.requires.others k from_first in_pieces untouched
            ] in
            test_fits a pieces old sizes all k c.loop-k.fitted fitted' kept fits (v.sizes-is ∙ u.sizes-is) (v.fitted-is ∙ u.fitted-is)
      ]
      | else-can_grow v ↦ test_fits a pieces old sizes all k c.loop-k.fitted fitted' kept (c.can_grow.ensures v.if-can_grow.false _ _) v.sizes-is v.fitted-is
    ] in
    let in_targets : target p ≤ length pieces = c.requires.testable.targets k (Fixed 0) in_pieces in
    let span : IsSpanned p (slice_index all k) low' high' × (low' ≤ c.loop-k.low) × (c.loop-k.high ≤ high') × (high' ≤ length pieces) = elim c.if-can_grow.branch [
      | then-can_grow v ↦ (
        inr (omega (arith, v.low-is, v.min-low.ensures, v.target-to.ensures), omega (arith, v.high-is, v.max-high.ensures, v.target-to.ensures)),
        omega (arith, v.low-is, v.min-low.ensures),
        omega (arith, v.high-is, v.max-high.ensures),
        omega (arith, v.high-is, v.max-high.ensures, v.target-to.ensures, in_targets, now.high_most),
      )
      | else-can_grow v ↦ (
        inl (subst (ReachesAll p) (ap (λ l. slice_index l k) (sym v.sizes-is)) (c.can_grow.ensures v.if-can_grow.false)),
        omega (arith, v.low-is),
        omega (arith, v.high-is),
        omega (arith, v.high-is, now.high_most),
      )
    ] in
    record {
      at_is = next_at pieces w k c.loop-k.at c.size-at.result c.requires.testable in_pieces at_is c.size-at.ensures;
      grown = tested_more a pieces old sizes all first k c.loop-k.fitted fitted' c.loop-k.low c.loop-k.high low' high' from_first now test span.0 span.1 span.2 span.3;
    }

pub returns : goal.returns
returns c =
    let end : ℕ = min (length c.args.pieces.now) (c.args.block * block_size + block_size) in
    let ended : c.loop-k.k ≡ end = omega (arith, c.loop-k-test.false, c.of_block-span.ensures.end) in
    subst (λ m. HaveGrownIn (addresses_in c.args.widths.now) c.args.pieces.now c.args.sizes.now c.loop-k.sizes (c.args.block * block_size) m c.loop-k.fitted c.loop-k.low c.loop-k.high)
    ended c.loop-k.invariant.grown
