use Rattle.std.proofs.Common.{◌≡◌, ◌/◌, ◌<◌, length, length-set, sym, ap, ◌∙◌, subst, arith, inl, inr}
use Rattle.std.specs.Prelude.{slice_index}
use Rattle.shrink_layout.specs.Invariants.Blocks.{IsMovedBy}
use Rattle.shrink_layout.proofs.BlockLaws.{moved_more, moved_still}
use Rattle.shrink_layout.proofs.ChangeLaws.{index_is}
use Rattle.shrink_layout.proofs.shortest.find_multiples.Goals as goal
use Rattle.shrink_layout.proofs.shortest.find_multiples.Goals.{in-Align, in-Fixed}

pub loop-k-preserved : goal.loop-k-preserved
loop-k-preserved c =
    let pieces = c.args.pieces.now in
    let now = c.loop-k.invariant in
    let k = c.loop-k.k in
    let old = c.loop-k.multiples.items in
    let new = c.match-pieces-k.multiples.items in
    let in_pieces : k < length pieces = c.loop-k-test.true in
    let in_blocks : k / 64 < length old = omega (arith, now.blocks, in_pieces) in
    elim c.match-pieces-k.branch [
      | in-Align v ↦
          let read : v.index.result.now ≡ slice_index old (k / 64) = index_is old (k / 64) _ v.index.result.now in_blocks v.index.ensures in
          let made = v.multiple_with.ensures in
          record {
            blocks = ap (λ l. length l.items) v.multiples-is ∙ length-set old (k / 64) v.multiple_with.result ∙ now.blocks;
            moved = moved_more pieces old new k v.multiple_with.result in_blocks (ap (λ l. l.items) v.multiples-is)
                (λ some. (omega (arith, read, made.some some), subst (IsMovedBy v.multiple_with.result) (sym v.in-Align.is) (made.piece some)))
                (λ some q moves. made.before some q (subst (λ n. IsMovedBy n q) (sym read) moves)) now.moved;
          }
      | in-Fixed v ↦ record {
        blocks = ap (λ l. length l.items) v.multiples-is ∙ now.blocks;
        moved = moved_still pieces old new k (ap (λ l. l.items) v.multiples-is) (λ n. elim v.in-Fixed.is [
          | inl f ↦ subst (IsMovedBy n) (sym f.1) tt
          | inr (inl f) ↦ subst (IsMovedBy n) (sym f.1) tt
          | inr (inr (inl f)) ↦ subst (IsMovedBy n) (sym f.2) tt
          | inr (inr (inr f)) ↦ subst (IsMovedBy n) (sym f.1) tt
        ]) now.moved;
      }
    ]
