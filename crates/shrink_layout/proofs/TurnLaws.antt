-- One turn of the loop over blocks after a round.
use Rattle.std.proofs.Common.{◌≡◌, ℕ, ◌+◌, ◌-◌, ◌%◌, ◌/◌, ◌<◌, ◌≤◌, ◌*◌, ◌^◌, List, length, min, refl, sym, ap, ◌∙◌, subst, arith}
use Rattle.std.specs.Prelude.{slice_index}
use Rattle.shrink_layout.specs.declared.blocks.Blocks.{Blocks}
use Rattle.shrink_layout.specs.declared.piece.Piece.{Piece}
use Rattle.shrink_layout.specs.declared.widths.Widths.{Widths}
use Rattle.shrink_layout.specs.Invariants.Blocks.{IsMovedBy, IsUnchanged, block_size, nth_piece}
use Rattle.shrink_layout.specs.Invariants.Rounds.{HaveGrown}
use Rattle.shrink_layout.specs.Invariants.Widths.{CanBeLaidAnew, IsAscending, IsLaid, IsBlockMoved}
use Rattle.shrink_layout.specs.Layout.{addresses_of}
use Rattle.shrink_layout.proofs.AddressLaws.{address_most, ascending, first_address, length_addresses}
use Rattle.shrink_layout.proofs.MoveLaws.{IsMovedOn, block_more, can_clear, can_lay, moved_end, moved_laid_block}

module _ (pieces : List Piece) (sizes : List ℕ) (old w : Widths) (blocks : Blocks) (block here : ℕ) (grown : HaveGrown pieces sizes old blocks)
    (in_blocks : block < length pieces / block_size + 1) (so_far : IsMovedOn pieces sizes old w block (min (length pieces) (block * block_size)) here) where
  abbrev text : ℕ
  text = slice_index old.starts.items 0

  abbrev first : ℕ
  first = block * block_size

  abbrev end : ℕ
  end = min (length pieces) (block * block_size + block_size)

  abbrev next : ℕ
  next = slice_index w.starts.items (block + 1)

  now : IsMovedOn pieces sizes old w block first here
  now = let e : min (length pieces) (block * block_size) ≡ first = omega (arith, in_blocks) in subst (λ m. IsMovedOn pieces sizes old w block m here) e so_far

  first_same : slice_index w.starts.items 0 ≡ text
  first_same =
      let e : min (length pieces) (0 * block_size) ≡ 0 = omega arith in
      now.starts_done 0 (omega arith) ∙ ap (slice_index (addresses_of text pieces sizes)) e ∙ first_address text pieces sizes

  -- what the calls require
  pub lays_anew : CanBeLaidAnew pieces sizes w block
  lays_anew = can_lay pieces grown.old sizes old w block first here grown.placed grown.forms in_blocks refl now first_same

  pub clears : IsAscending w.within.items (block * block_size)
  clears = can_clear pieces grown.old sizes old w block first here grown.placed grown.forms in_blocks refl now first_same

  -- where the block started, where it starts, and where the next one started
  here_at : here ≡ slice_index (addresses_of text pieces grown.old) first
  here_at =
      let e : min (length pieces) (block * block_size) ≡ first = omega (arith, in_blocks) in
      now.here_is ∙ grown.placed.starts.each block (omega (arith, in_blocks)) ∙ ap (slice_index (addresses_of text pieces grown.old)) e

  starts_at : slice_index w.starts.items block ≡ slice_index (addresses_of text pieces sizes) first
  starts_at =
      let e : min (length pieces) (block * block_size) ≡ first = omega (arith, in_blocks) in
      now.starts_done block (omega arith) ∙ ap (slice_index (addresses_of text pieces sizes)) e

  next_at : next ≡ slice_index (addresses_of text pieces grown.old) end
  next_at =
      let e : min (length pieces) ((block + 1) * block_size) ≡ end = omega arith in
      now.starts_rest (block + 1) (omega arith) ∙ grown.placed.starts.each (block + 1) (omega (arith, in_blocks)) ∙ ap (slice_index (addresses_of text pieces grown.old)) e

  pub order : here ≤ next
  order = omega (arith, here_at, next_at, ascending text pieces grown.old grown.placed.forms first end (omega (arith, in_blocks)) (omega arith))

  -- one block more is laid
  laid_block : (w' : Widths) → IsLaid text pieces sizes w w' block first end → IsMovedOn pieces sizes old w' (block + 1) (min (length pieces) ((block + 1) * block_size)) next
  laid_block w' laid =
      let e : end ≡ min (length pieces) ((block + 1) * block_size) = omega arith in
      subst (λ m. IsMovedOn pieces sizes old w' (block + 1) m next) e
      (block_more pieces sizes old w w' block first end here next in_blocks refl refl now laid refl)

  pub anew : (w' : Widths) → IsLaid (slice_index w.starts.items 0) pieces sizes w w' block first end
      → IsMovedOn pieces sizes old w' (block + 1) (min (length pieces) ((block + 1) * block_size)) next
  anew w' laid = laid_block w' (subst (λ t. IsLaid t pieces sizes w w' block first end) first_same laid)

  -- one block more is moved as a whole
  module _ (multiple : ℕ) (kept : IsUnchanged blocks.grown.items block) (multiple_is : multiple ≡ slice_index blocks.multiples.items block) (some : 0 < multiple)
      (alike : here % multiple ≡ slice_index w.starts.items block % multiple) where
    same_sizes : (k : ℕ) → first ≤ k → k < end → slice_index sizes k ≡ slice_index grown.old k
    same_sizes k ge lt =
        let at : block ≡ k / block_size = omega (arith, ge, lt) in
        grown.kept k (omega (arith, lt)) (subst (IsUnchanged blocks.grown.items) at kept)

    movable : (k : ℕ) → first ≤ k → k < end → IsMovedBy multiple (nth_piece pieces k)
    movable k ge lt =
        let at : block ≡ k / block_size = omega (arith, ge, lt) in
        let is : multiple ≡ slice_index blocks.multiples.items (k / block_size) = multiple_is ∙ ap (slice_index blocks.multiples.items) at in
        subst (λ m. IsMovedBy m (nth_piece pieces k)) (sym is) (grown.blocks_are.multiples k (omega (arith, lt)) (omega (arith, is, some)))

    same_rest : slice_index (addresses_of text pieces grown.old) first % multiple ≡ slice_index (addresses_of text pieces sizes) first % multiple
    same_rest = ap (λ m. m % multiple) (sym here_at) ∙ alike ∙ ap (λ m. m % multiple) starts_at

    ends : slice_index w.starts.items block + (next - here) ≡ slice_index (addresses_of text pieces sizes) end
    ends =
        moved_end pieces grown.old sizes old block first end multiple grown.placed grown.forms in_blocks refl refl same_sizes movable same_rest
        (slice_index w.starts.items block) next here starts_at here_at next_at

    pub room : slice_index w.starts.items block + (next - here) < 2 ^ 32
    room =
        let most = address_most text pieces sizes grown.placed.can.alignments grown.forms end 0 (omega (arith, length_addresses text pieces sizes grown.forms)) in
        omega (arith, ends, most, grown.placed.can.room)

    pub moved_whole : (w' : Widths) → IsBlockMoved w w' block (next - here) → IsMovedOn pieces sizes old w' (block + 1) (min (length pieces) ((block + 1) * block_size)) next
    moved_whole w' moved =
        laid_block w'
        (moved_laid_block pieces grown.old sizes old block first end multiple grown.placed grown.forms in_blocks refl refl same_sizes movable same_rest w w' here (next - here) now moved ends)
