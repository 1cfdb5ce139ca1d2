use Rattle.std.proofs.Common.{◌≡◌, ℕ, ◌+◌, ◌*◌, ◌<◌, ◌⊎◌, Bool, true, false, not, ◌&&◌, get_or, get_or-set_same, get_or-set_other, length, length-set, min, set, refl, sym, ap, ◌∙◌, subst, arith, inl, inr}
use Rattle.std.specs.Prelude.{slice_index}
use Rattle.std.proofs.lemmas.Bool.{and_parts, not-false}
use Rattle.shrink_layout.specs.declared.blocks.Blocks.{Blocks}
use Rattle.shrink_layout.specs.Invariants.Blocks.{HaveGrownIn, IsStill, block_size, nth_piece}
use Rattle.shrink_layout.specs.Invariants.Widths.{addresses_in}
use Rattle.shrink_layout.specs.Layout.{form_reaches_at}
use Rattle.shrink_layout.proofs.ChangeLaws.{index_is, placed_long}
use Rattle.shrink_layout.proofs.LaidLaws.{are_next, have_grown, laid_others, placed_testable, were_fit}
use Rattle.shrink_layout.proofs.RoundLaws.{length_forms}
use Rattle.shrink_layout.proofs.TestLaws.{AreGrown, block_grows, block_stays}
use Rattle.shrink_layout.proofs.round.grow.Goals as goal
use Rattle.shrink_layout.proofs.round.grow.Goals.{then-index, else-index}

-- two aren't both true if one is false
one_false : (b c : Bool) → (b && c) ≡ false → (b ≡ false) ⊎ (c ≡ false)
one_false true c e = inr e
one_false false c e = inl refl

pub index-requires-in-loop-block : goal.index-requires-in-loop-block
index-requires-in-loop-block c =
    let lows = c.loop-block.blocks.lows.items in
    let now = c.loop-block.invariant.grown in
    let placed = c.requires.laid.placed in
    let in_lows : c.loop-block.block < length lows = omega (arith, now.lows_blocks) in
    omega (
      arith,
      index_is lows c.loop-block.block _ c.index.result.now in_lows c.index.ensures,
      now.low c.loop-block.block 0 in_lows,
      now.blocks,
      placed.counted.changes_count,
      placed_long c.args.pieces.now c.args.sizes.now c.args.widths.now placed,
    )

pub index-requires-in-loop-block-3 : goal.index-requires-in-loop-block-3
index-requires-in-loop-block-3 c =
    let highs = c.loop-block.blocks.highs.items in
    let now = c.loop-block.invariant.grown in
    let placed = c.requires.laid.placed in
    let in_highs : c.loop-block.block < length highs = omega (arith, now.highs_blocks) in
    omega (
      arith,
      index_is highs c.loop-block.block _ c.index-in-loop-block-2.result.now in_highs c.index-in-loop-block-2.ensures,
      now.high c.loop-block.block 0 in_highs,
      now.blocks,
      placed.counted.changes_count,
      placed_long c.args.pieces.now c.args.sizes.now c.args.widths.now placed,
    )

pub grow_block-tested-requires-clause-sized : goal.grow_block-tested-requires-clause-sized
grow_block-tested-requires-clause-sized c = c.loop-block.invariant.grown.same ∙ length_forms c.args.pieces.now c.args.sizes.now c.requires.laid.placed.forms

pub grow_block-tested-requires-clause-testable : goal.grow_block-tested-requires-clause-testable
grow_block-tested-requires-clause-testable c = placed_testable c.args.pieces.now c.args.sizes.now c.args.widths.now c.requires.laid.placed

pub grow_block-tested-requires-clause-others : goal.grow_block-tested-requires-clause-others
grow_block-tested-requires-clause-others c k ge lt same =
    let a = addresses_in c.args.widths.now in
    let kept = c.loop-block.invariant.grown.rest k (omega (arith, ge)) in
    ap (form_reaches_at a k (nth_piece c.args.pieces.now k)) kept ∙ c.requires.laid.others k (omega arith) lt same

pub loop-block-preserved : goal.loop-block-preserved
loop-block-preserved c =
    let w = c.args.widths.now in
    let a = addresses_in w in
    let pieces = c.args.pieces.now in
    let old = c.args.sizes.now in
    let sizes = c.loop-block.sizes in
    let before = c.args.blocks.now in
    let lows = c.loop-block.blocks.lows.items in
    let highs = c.loop-block.blocks.highs.items in
    let grown = c.loop-block.blocks.grown.items in
    let changes = w.changes.items in
    let new = c.if-index.blocks in
    let block = c.loop-block.block in
    let fitted = c.loop-block.fitted in
    let is = c.loop-block.invariant in
    let laid = c.requires.laid in
    let n : ℕ = block * block_size in
    let n' : ℕ = min (length pieces) (block_size * (block + 1)) in
    let in_grown : block < length grown = omega (arith, c.loop-block-test.true, c.len-block-end.ensures, is.grown.blocks, laid.blocks_are.grown_count) in
    let n_is : min (length pieces) (block_size * block) ≡ n = omega (arith, is.grown.blocks, in_grown) in
    let now = subst (λ m. AreGrown a pieces old sizes before.lows.items lows before.highs.items highs grown block m fitted) n_is is.grown in
    elim c.if-index.branch [
      | then-index v ↦
          let tested = v.grow_block-tested in
          let end : ℕ = min (length pieces) (block * block_size + block_size) in
          let end_of : end ≡ n' = omega arith in
          let part : HaveGrownIn a pieces sizes tested.new.sizes n end tested.result.fitted tested.result.low tested.result.high = tested.ensures in
          let marked = set grown block false in
          let in_marked : block < length marked = omega (arith, in_grown, length-set grown block false) in
          let mark = not tested.result.fitted in
          let grown_is : new.grown.items ≡ set marked block mark = ap (λ b. b.grown.items) v.blocks-is in
          let here : get_or new.grown.items block false ≡ mark = ap (λ g. get_or g block false) grown_is ∙ get_or-set_same marked block mark false in_marked in
          let all = block_grows a pieces old sizes tested.new.sizes before.lows.items lows new.lows.items before.highs.items highs new.highs.items grown new.grown.items block n end
          tested.result.low tested.result.high fitted c.if-index.fitted tested.result.fitted laid.placed.can.targets in_grown (omega arith) (omega arith) (omega (arith, now.blocks, in_grown)) (omega arith)
          now part (λ b ne. ap (λ g. get_or g b false) grown_is ∙ get_or-set_other marked block b mark false ne ∙ get_or-set_other grown block b false false ne)
          (λ kept. not-false tested.result.fitted (sym here ∙ kept)) (ap length grown_is ∙ length-set marked block mark ∙ length-set grown block false)
          (ap (λ b. b.lows.items) v.blocks-is) (ap (λ b. b.highs.items) v.blocks-is) (λ y. and_parts fitted tested.result.fitted (sym v.fitted-is ∙ y)) (λ y. one_false fitted tested.result.fitted (sym v.fitted-is ∙ y)) in
          let ended = subst (λ m. AreGrown a pieces old tested.new.sizes before.lows.items new.lows.items before.highs.items new.highs.items new.grown.items (block + 1) m c.if-index.fitted) end_of all in
          record {
            multiples_same = ap (λ b. b.multiples.items) v.blocks-is ∙ is.multiples_same;
            grown = subst (λ s. AreGrown a pieces old s before.lows.items new.lows.items before.highs.items new.highs.items new.grown.items (block + 1) n' c.if-index.fitted) (sym v.sizes-is) ended;
          }
      | else-index v ↦
          let in_lows : block < length lows = omega (arith, in_grown, now.lows_blocks) in
          let in_highs : block < length highs = omega (arith, in_grown, now.highs_blocks) in
          let low = index_is lows block _ c.index.result.now in_lows c.index.ensures in
          let high = index_is highs block _ c.index-in-loop-block-2.result.now in_highs c.index-in-loop-block-2.ensures in
          let long : length changes ≡ length grown + 1 = omega (arith, laid.placed.counted.changes_count, placed_long pieces old w laid.placed, now.blocks) in
          let first = index_is changes c.index.result.now _ c.index-in-loop-block.result.now (omega (arith, low, long, now.low block 0 in_lows)) c.index-in-loop-block.ensures in
          let last = index_is changes (c.index-in-loop-block-2.result.now + 1) _ c.index-in-loop-block-3.result.now (omega (arith, high, long, now.high block 0 in_highs)) c.index-in-loop-block-3.ensures in
          let still : IsStill changes (slice_index lows block) (slice_index highs block) =
          ap (slice_index changes) (sym low) ∙ sym first ∙ v.if-index.false ∙ last ∙ ap (λ h. slice_index changes (h + 1)) high in
          let others = laid_others pieces old w before laid in
          let all = block_stays a pieces old sizes before.lows.items lows before.highs.items highs changes grown (set grown block false) block n n' fitted
          in_grown (omega arith) (omega arith) (omega (arith, now.blocks, in_grown)) (omega arith) now others still refl in
          let with_sizes = subst (λ s. AreGrown a pieces old s before.lows.items lows before.highs.items highs (set grown block false) (block + 1) n' fitted) (sym v.sizes-is) all in
          let with_blocks : AreGrown a pieces old c.if-index.sizes before.lows.items new.lows.items before.highs.items new.highs.items new.grown.items (block + 1) n' fitted =
          subst (λ (b : Blocks). AreGrown a pieces old c.if-index.sizes before.lows.items b.lows.items before.highs.items b.highs.items b.grown.items (block + 1) n' fitted) (sym v.blocks-is) with_sizes in
          record {
            multiples_same = ap (λ b. b.multiples.items) v.blocks-is ∙ is.multiples_same;
            grown = subst (AreGrown a pieces old c.if-index.sizes before.lows.items new.lows.items before.highs.items new.highs.items new.grown.items (block + 1) n') (sym v.fitted-is) with_blocks;
          }
    ]

pub returns-clause-fitted : goal.returns-clause-fitted
returns-clause-fitted c =
    were_fit c.args.pieces.now c.args.sizes.now c.loop-block.sizes c.args.widths.now c.args.blocks.now c.loop-block.blocks _ _ c.loop-block.fitted c.requires.laid
    (omega (arith, c.requires.laid.blocks_are.grown_count, c.loop-block.invariant.grown.blocks, c.len-block-end.ensures, c.loop-block-test.false)) c.loop-block.invariant.grown

pub returns-clause-sizes : goal.returns-clause-sizes
returns-clause-sizes c =
    are_next c.args.pieces.now c.args.sizes.now c.loop-block.sizes c.args.widths.now c.args.blocks.now c.loop-block.blocks _ _ c.loop-block.fitted c.requires.laid
    (omega (arith, c.requires.laid.blocks_are.grown_count, c.loop-block.invariant.grown.blocks, c.len-block-end.ensures, c.loop-block-test.false)) c.loop-block.invariant.grown

pub returns-clause-grown : goal.returns-clause-grown
returns-clause-grown c =
    have_grown c.args.pieces.now c.args.sizes.now c.loop-block.sizes c.args.widths.now c.args.blocks.now c.loop-block.blocks _ _ c.loop-block.fitted c.requires.laid
    (omega (arith, c.requires.laid.blocks_are.grown_count, c.loop-block.invariant.grown.blocks, c.len-block-end.ensures, c.loop-block-test.false)) c.loop-block.invariant.grown
    c.loop-block.invariant.multiples_same
