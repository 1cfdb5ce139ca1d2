use Rattle.std.proofs.Common.{◌+◌, ◌-◌, ◌*◌, ◌/◌, ◌%◌, ◌<◌, length, min, refl, sym, ap, ◌∙◌, subst, arith}
use Rattle.std.specs.Prelude.{slice_index}
use Rattle.shrink_layout.specs.declared.widths.Widths.{Widths}
use Rattle.shrink_layout.specs.Invariants.Blocks.{block_size}
use Rattle.shrink_layout.specs.Invariants.Widths.{IsBlockMoved}
use Rattle.shrink_layout.proofs.AddressLaws.{first_address}
use Rattle.shrink_layout.proofs.ChangeLaws.{index_is, placed_long}
use Rattle.shrink_layout.proofs.LaidLaws.{moved_laid, moved_text}
use Rattle.shrink_layout.proofs.MoveLaws.{IsMovedOn, none_moved}
use Rattle.shrink_layout.proofs.TurnLaws.{anew, clears, lays_anew, moved_whole, order, room}
use Rattle.shrink_layout.proofs.moves.move_on.Goals as goal
use Rattle.shrink_layout.proofs.moves.move_on.Goals.{then-can_move, else-can_move}

pub loop-block-init : goal.loop-block-init
loop-block-init c =
    let old = c.args.widths.now in
    let grown = c.requires.grown in
    let pieces = c.args.pieces.now in
    let here = index_is old.starts.items 0 _ c.index-here.result.now (omega (arith, grown.placed.starts.long)) c.index-here.ensures in
    subst (IsMovedOn pieces c.args.sizes.now old old 0 (min (length pieces) 0)) (sym here)
    (none_moved pieces c.args.sizes.now grown.old old (min (length pieces) 0) grown.placed (placed_long pieces grown.old old grown.placed) (omega arith) (first_address _ pieces c.args.sizes.now))

pub overflow_sub-next : goal.overflow_sub-next
overflow_sub-next c =
    let pieces = c.args.pieces.now in
    let now = c.loop-block.invariant in
    let grown = c.requires.grown in
    let in_blocks : c.loop-block.block < length pieces / block_size + 1 = omega (arith, c.loop-block-test.true, c.len-block-end.ensures, grown.blocks_are.grown_count) in
    let next = index_is c.loop-block.widths.starts.items (c.loop-block.block + 1) _ c.index-next.result.now (omega (arith, now.starts_count, in_blocks)) c.index-next.ensures in
    omega (arith, next, order pieces c.args.sizes.now c.args.widths.now c.loop-block.widths c.args.blocks.now c.loop-block.block c.loop-block.here grown in_blocks now)

pub move_block-requires-clause-ascend : goal.move_block-requires-clause-ascend
move_block-requires-clause-ascend c =
    let grown = c.requires.grown in
    clears c.args.pieces.now c.args.sizes.now c.args.widths.now c.loop-block.widths c.args.blocks.now c.loop-block.block c.loop-block.here grown
    (omega (arith, c.loop-block-test.true, c.len-block-end.ensures, grown.blocks_are.grown_count)) c.loop-block.invariant

pub lay_anew-requires-clause-can : goal.lay_anew-requires-clause-can
lay_anew-requires-clause-can c =
    let grown = c.requires.grown in
    lays_anew c.args.pieces.now c.args.sizes.now c.args.widths.now c.loop-block.widths c.args.blocks.now c.loop-block.block c.loop-block.here grown
    (omega (arith, c.loop-block-test.true, c.len-block-end.ensures, grown.blocks_are.grown_count)) c.loop-block.invariant

pub move_block-requires-clause-room : goal.move_block-requires-clause-room
move_block-requires-clause-room c =
    let pieces = c.args.pieces.now in
    let blocks = c.args.blocks.now in
    let w = c.loop-block.widths in
    let block = c.loop-block.block in
    let now = c.loop-block.invariant in
    let grown = c.requires.grown in
    let can = c.if-can_move.ensures in
    let in_blocks : block < length pieces / block_size + 1 = omega (arith, c.loop-block-test.true, c.len-block-end.ensures, grown.blocks_are.grown_count) in
    let next = index_is w.starts.items (block + 1) _ c.index-next.result.now (omega (arith, now.starts_count, in_blocks)) c.index-next.ensures in
    let at = index_is w.starts.items block _ c.index.result.now (omega (arith, now.starts_count, in_blocks)) c.index.ensures in
    let multiple = slice_index blocks.multiples.items block in
    omega (
      arith,
      next,
      room pieces c.args.sizes.now c.args.widths.now w blocks block c.loop-block.here grown in_blocks now
          multiple (can.kept refl) refl (can.some refl) (can.alike refl ∙ ap (λ m. m % multiple) at),
    )

pub loop-block-preserved : goal.loop-block-preserved
loop-block-preserved c =
    let pieces = c.args.pieces.now in
    let sizes = c.args.sizes.now in
    let old = c.args.widths.now in
    let blocks = c.args.blocks.now in
    let w = c.loop-block.widths in
    let w' = c.if-can_move.widths in
    let block = c.loop-block.block in
    let here = c.loop-block.here in
    let now = c.loop-block.invariant in
    let grown = c.requires.grown in
    let in_blocks : block < length pieces / block_size + 1 = omega (arith, c.loop-block-test.true, c.len-block-end.ensures, grown.blocks_are.grown_count) in
    let next = index_is w.starts.items (block + 1) _ c.index-next.result.now (omega (arith, now.starts_count, in_blocks)) c.index-next.ensures in
    let at = index_is w.starts.items block _ c.index.result.now (omega (arith, now.starts_count, in_blocks)) c.index.ensures in
    let multiple = slice_index blocks.multiples.items block in
    let turned : IsMovedOn pieces sizes old w' (block + 1) (min (length pieces) ((block + 1) * block_size)) (slice_index w.starts.items (block + 1)) = elim c.if-can_move.branch [
      | then-can_move v ↦
          let can = v.if-can_move.ensures in
          let moved = subst (λ m. IsBlockMoved w v.move_block.new.widths block (m - here)) next v.move_block.ensures in
          subst (λ (x : Widths). IsMovedOn pieces sizes old x (block + 1) (min (length pieces) ((block + 1) * block_size)) (slice_index w.starts.items (block + 1))) (sym v.widths-is)
          (moved_whole pieces sizes old w blocks block here grown in_blocks now multiple (can.kept refl) refl (can.some refl) (can.alike refl ∙ ap (λ m. m % multiple) at) v.move_block.new.widths moved)
      | else-can_move v ↦
          subst (λ (x : Widths). IsMovedOn pieces sizes old x (block + 1) (min (length pieces) ((block + 1) * block_size)) (slice_index w.starts.items (block + 1))) (sym v.widths-is)
          (anew pieces sizes old w blocks block here grown in_blocks now v.lay_anew.new.widths v.lay_anew.ensures)
    ] in
    subst (IsMovedOn pieces sizes old w' (block + 1) (min (length pieces) ((block + 1) * block_size))) (sym next) turned

pub returns-clause-text : goal.returns-clause-text
returns-clause-text c =
    let pieces = c.args.pieces.now in
    let grown = c.requires.grown in
    moved_text pieces c.args.sizes.now c.args.widths.now c.loop-block.widths c.args.blocks.now c.loop-block.block _ c.loop-block.here grown
    (omega (arith, c.loop-block-test.false, c.len-block-end.ensures, grown.blocks_are.grown_count)) (omega (arith, c.loop-block-test.false, c.len-block-end.ensures, grown.blocks_are.grown_count)) c.loop-block.invariant

pub returns-clause-laid : goal.returns-clause-laid
returns-clause-laid c =
    let pieces = c.args.pieces.now in
    let grown = c.requires.grown in
    moved_laid pieces c.args.sizes.now c.args.widths.now c.loop-block.widths c.args.blocks.now c.loop-block.block _ c.loop-block.here grown
    (omega (arith, c.loop-block-test.false, c.len-block-end.ensures, grown.blocks_are.grown_count)) (omega (arith, c.loop-block-test.false, c.len-block-end.ensures, grown.blocks_are.grown_count)) c.loop-block.invariant
