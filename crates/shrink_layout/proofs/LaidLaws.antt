-- What is kept from round to round: from the shortest forms to those that have grown, and on to the next round.
use Rattle.std.proofs.Common.{◌≡◌, ℕ, ◌+◌, ◌*◌, ◌/◌, ◌<◌, ◌≤◌, Bool, true, false, cond, List, ◌++◌, drop, length, map, max, min, take, refl, sym, ap, ◌∙◌, subst, arith, inl, inr}
use Rattle.std.specs.Prelude.{slice_index}
use Rattle.std.specs.List.{sum, sum_by}
use Rattle.std.proofs.Math.Seq.{take-append_seam}
use Rattle.std.proofs.lemmas.Bool.{cases_lt}
use Rattle.std.proofs.lemmas.List.{ext_get_or}
use Rattle.shrink_layout.specs.declared.blocks.Blocks.{Blocks}
use Rattle.shrink_layout.specs.declared.piece.Piece.{Piece}
use Rattle.shrink_layout.specs.declared.piece.Piece.TheVariants.{Fixed}
use Rattle.shrink_layout.specs.declared.widths.Widths.{Widths}
use Rattle.shrink_layout.specs.Invariants.Blocks.{AreMultiples, AreNear, block_count, block_fits, block_size, nth_piece}
use Rattle.shrink_layout.specs.Forms.{IsForm, form_reaches, longer, longest, shortest, target}
use Rattle.shrink_layout.specs.Layout.{addresses_of, all_fit, fit_from, grown_from, form_reaches_at, next_sizes, widths_of}
use Rattle.shrink_layout.specs.Least.{AreForms}
use Rattle.shrink_layout.specs.Invariants.Rounds.{AreBlocks, AreLaid, ArePlaced, CanBeLaid, HaveGrown}
use Rattle.shrink_layout.specs.Invariants.Widths.{AreCounted, AreStarts, CanBeTested, addresses_in, changed_before}
use Rattle.shrink_layout.proofs.AddressLaws.{first_address, fit_at, form_at, near_addresses}
use Rattle.shrink_layout.proofs.ChangeLaws.{count_block, placed_addresses, placed_long, still_fits, untouched}
use Rattle.shrink_layout.proofs.FormLaws.{slack, slack_falls}
use Rattle.shrink_layout.proofs.MoveLaws.{IsMovedOn}
use Rattle.shrink_layout.proofs.RoundLaws.{grown_forms, grown_same, length_forms, shortest_forms}
use Rattle.shrink_layout.proofs.TestLaws.{AreGrown, OthersFit, all_tested, fitted_all, grown_all, kept_sizes}
use Rattle.shrink_layout.proofs.WidthLaws.{widths_below, widths_count}

-- what is written over the whole of a list
pub written_is : (n : ℕ) (xs ys : List ℕ) → length xs ≡ n → take n (xs ++ drop (length xs) ys) ≡ xs
written_is n xs ys long =
    ap (λ m. take m (xs ++ drop (length xs) ys)) (sym long) ∙ take-append_seam xs (drop (length xs) ys)

-- ---- the first round

-- the text begins at the first block
pub starts_text : (text : ℕ) (pieces : List Piece) (sizes : List ℕ) (w : Widths) → AreStarts (addresses_of text pieces sizes) (length pieces) w.starts.items → slice_index w.starts.items 0 ≡ text
starts_text text pieces sizes w starts =
    let e : min (length pieces) (0 * block_size) ≡ 0 = omega arith in
    starts.each 0 (omega arith) ∙ ap (slice_index (addresses_of text pieces sizes)) e ∙ first_address text pieces sizes

module _ (text : ℕ) (pieces : List Piece) (sizes : List ℕ) (w : Widths) (blocks : Blocks) (can : CanBeLaid text pieces) (is : sizes ≡ map shortest pieces)
    (sums : w.sums ≡ widths_of text pieces sizes) (starts : AreStarts (addresses_of text pieces sizes) (length pieces) w.starts.items)
    (counted : AreCounted w) (changed : (k : ℕ) → k ≤ length w.sums → changed_before w k ≡ k) (blocks_are : AreBlocks pieces blocks)
    (lows : (k : ℕ) → slice_index blocks.lows.items k ≡ 0) (highs : (k : ℕ) → slice_index blocks.highs.items k ≡ 0) where
  shortest_text : slice_index w.starts.items 0 ≡ text
  shortest_text = starts_text text pieces sizes w starts

  shortest_placed : ArePlaced pieces sizes w
  shortest_placed = record {
    can = subst (λ t. CanBeLaid t pieces) (sym shortest_text) can;
    forms = subst (AreForms pieces) (sym is) (shortest_forms pieces);
    sums = sums ∙ ap (λ t. widths_of t pieces sizes) (sym shortest_text);
    starts = subst (λ t. AreStarts (addresses_of t pieces sizes) (length pieces) w.starts.items) (sym shortest_text) starts;
    counted = counted;
  }

  -- all pieces count as changed before the first block ends
  first_changed : (k : ℕ) → k < length pieces → slice_index w.changes.items 0 ≡ slice_index w.changes.items 1 → ⊥
  first_changed k lt still =
      let long = placed_long pieces sizes w shortest_placed in
      elim (cases_lt (length w.sums) block_size) [
        | inl few ↦
            let e : length w.sums / block_size + 1 ≡ 1 = omega (arith, few) in
            omega (arith, still, counted.none, counted.total, ap (slice_index w.changes.items) e, changed (length w.sums) (omega arith), long, lt)
        | inr more ↦ omega (arith, still, counted.none, count_block w counted 1 (omega (arith, more)), changed (1 * block_size) (omega (arith, more)))
      ]

  -- before the first round the pieces are laid, since each is tested
  pub shortest_laid : AreLaid pieces sizes w blocks
  shortest_laid = record {
    placed = shortest_placed;
    blocks_are = blocks_are;
    others = λ k ge lt same.
        let t : ℕ = target (nth_piece pieces k) in
        let long = placed_long pieces sizes w shortest_placed in
        let in_t : t ≤ length pieces = can.targets k (Fixed 0) lt in
        absurd (omega (arith, same, changed (min t k) (omega (arith, long, lt)), changed (max t (k + 1)) (omega (arith, long, lt, in_t))));
    near = λ k lt still.
        let e : slice_index w.changes.items (slice_index blocks.lows.items (k / block_size)) ≡ slice_index w.changes.items 0 = ap (slice_index w.changes.items) (lows (k / block_size)) in
        let e' : slice_index w.changes.items (slice_index blocks.highs.items (k / block_size) + 1) ≡ slice_index w.changes.items 1 = ap (λ h. slice_index w.changes.items (h + 1)) (highs (k / block_size)) in
        absurd (first_changed k lt (sym e ∙ still ∙ e'));
  }

-- ---- pieces that are tested

-- with this it can be tested which pieces fit
pub placed_testable : (pieces : List Piece) (sizes : List ℕ) (w : Widths) → ArePlaced pieces sizes w → CanBeTested pieces w
placed_testable pieces sizes w placed =
    let text = slice_index w.starts.items 0 in
    let are = placed_addresses pieces sizes w placed in
    record {
      long = placed_long pieces sizes w placed;
      starts = subst (λ l. AreStarts l (length pieces) w.starts.items) (sym are) placed.starts;
      counted = placed.counted;
      room = let below = subst (λ l. sum l ≤ sum_by longest pieces) (sym placed.sums) (widths_below text pieces sizes placed.can.alignments placed.forms) in omega (arith, below, placed.can.room);
      near = subst AreNear (sym are) (near_addresses text pieces sizes placed.can.alignments placed.forms placed.can.near);
      targets = placed.can.targets;
    }

-- if nothing changed near a block, its pieces fit
pub laid_others : (pieces : List Piece) (sizes : List ℕ) (w : Widths) (blocks : Blocks) → AreLaid pieces sizes w blocks
    → OthersFit (addresses_in w) pieces sizes w.changes.items blocks.lows.items blocks.highs.items
laid_others pieces sizes w blocks laid k lt still =
    let b : ℕ = k / block_size in
    let p = nth_piece pieces k in
    let a = addresses_in w in
    let near = laid.near k lt still in
    let long = placed_long pieces sizes w laid.placed in
    let in_high : slice_index blocks.highs.items b < block_count pieces = laid.blocks_are.high b 0 (omega (arith, laid.blocks_are.highs_count, lt)) in
    let fits : block_fits a pieces sizes k ≡ true = elim near.2 [
      | inl all ↦ all (slice_index a k) (slice_index a (target p))
      | inr between ↦
          laid.others k (omega arith) lt
          (untouched w laid.placed.counted p (slice_index blocks.lows.items b) (slice_index blocks.highs.items b) k (omega (arith, long, lt)) (omega (arith, long, laid.placed.can.targets k (Fixed 0) lt))
          (omega (arith, long, in_high)) near.0 near.1 between.0 between.1 still)
    ] in
    (fits, near)

-- ---- pieces that grow

-- a piece that kept its form fitted
kept_fitted : (b : Bool) (p : Piece) (size new f t : ℕ) → b ≡ form_reaches p size f t → IsForm p size → new ≡ cond b size (longer p size) → new ≡ size → b ≡ true
kept_fitted true p size new f t is form grown same = refl
kept_fitted false p size new f t is form grown same =
    let less = slack_falls p size f t form (sym is) in
    let e : slack p (longer p size) ≡ slack p size = ap (slack p) (sym grown ∙ same) in
    absurd (omega (arith, less, e))

module _ (pieces : List Piece) (old sizes : List ℕ) (w : Widths) (before after : Blocks) (block n : ℕ) (fitted : Bool) (laid : AreLaid pieces old w before) (all : n ≡ length pieces)
    (grown : AreGrown (addresses_in w) pieces old sizes before.lows.items after.lows.items before.highs.items after.highs.items after.grown.items block n fitted) where
  -- all blocks were tested, so the sizes are those of the round
  pub are_next : sizes ≡ next_sizes (slice_index w.starts.items 0) pieces old
  are_next =
      grown_all (addresses_in w) pieces old sizes before.lows.items after.lows.items before.highs.items after.highs.items after.grown.items block n fitted all (length_forms pieces old laid.placed.forms) grown
      ∙ ap (λ l. grown_from l 0 pieces old) (placed_addresses pieces old w laid.placed)

  -- the answer says whether all pieces fitted
  pub were_fit : fitted ≡ all_fit (slice_index w.starts.items 0) pieces old
  were_fit =
      fitted_all (addresses_in w) pieces old sizes before.lows.items after.lows.items before.highs.items after.highs.items after.grown.items block n fitted all (length_forms pieces old laid.placed.forms) grown
      ∙ ap (λ l. fit_from l 0 pieces old) (placed_addresses pieces old w laid.placed)

  -- what is kept of the blocks stays as long
  pub have_grown : after.multiples.items ≡ before.multiples.items → HaveGrown pieces sizes w after
  have_grown same_multiples = record {
    old = old;
    placed = laid.placed;
    forms = subst (AreForms pieces) (sym are_next) (grown_forms (addresses_of (slice_index w.starts.items 0) pieces old) 0 pieces old laid.placed.forms);
    blocks_are = record {
      multiples_count = ap length same_multiples ∙ laid.blocks_are.multiples_count;
      grown_count = grown.blocks;
      lows_count = grown.lows_blocks ∙ grown.blocks;
      highs_count = grown.highs_blocks ∙ grown.blocks;
      multiples = subst (AreMultiples pieces) (sym same_multiples) laid.blocks_are.multiples;
      low = λ k d lt. omega (arith, grown.low k d lt, grown.blocks);
      high = λ k d lt. omega (arith, grown.high k d lt, grown.blocks);
    };
    kept = kept_sizes (addresses_in w) pieces old sizes before.lows.items after.lows.items before.highs.items after.highs.items after.grown.items block n fitted all grown;
    fit = λ k lt same.
        let a = addresses_in w in
        let p = nth_piece pieces k in
        kept_fitted (form_reaches_at a k p (slice_index old k)) p (slice_index old k) (slice_index sizes k) (slice_index a k) (slice_index a (target p)) refl
        (form_at pieces old k (Fixed 0) lt laid.placed.forms) (grown.done k (omega (arith, all, lt))) same;
    near = λ k lt. (all_tested (addresses_in w) pieces old sizes before.lows.items after.lows.items before.highs.items after.highs.items after.grown.items block n fitted all grown k lt).1;
  }

-- ---- if all fitted

-- their sizes are the same, so they are laid as before
pub fit_laid : (pieces : List Piece) (old sizes : List ℕ) (w : Widths) (before after : Blocks) → AreLaid pieces old w before → HaveGrown pieces sizes w after
    → sizes ≡ next_sizes (slice_index w.starts.items 0) pieces old → all_fit (slice_index w.starts.items 0) pieces old ≡ true → AreLaid pieces sizes w after
fit_laid pieces old sizes w before after laid grown next fits =
    let text = slice_index w.starts.items 0 in
    let a = addresses_in w in
    let same : sizes ≡ old = next ∙ grown_same (addresses_of text pieces old) 0 pieces old laid.placed.forms fits in
    let fit : fit_from a 0 pieces sizes ≡ true =
    ap (λ l. fit_from l 0 pieces sizes) (placed_addresses pieces old w laid.placed) ∙ ap (fit_from (addresses_of text pieces old) 0 pieces) same ∙ fits in
    record {
      placed = subst (λ s. ArePlaced pieces s w) (sym same) laid.placed;
      blocks_are = grown.blocks_are;
      others = λ k ge lt still.
          let e : k ≡ 0 + k = omega arith in
          ap (λ n. form_reaches_at a n (nth_piece pieces k) (slice_index sizes k)) e ∙ fit_at a 0 pieces sizes k (Fixed 0) lt grown.forms fit;
      near = λ k lt still. grown.near k lt;
    }

-- ---- once all blocks are laid

module _ (pieces : List Piece) (sizes : List ℕ) (old w : Widths) (blocks : Blocks) (block n here : ℕ) (grown : HaveGrown pieces sizes old blocks)
    (all_blocks : block ≡ block_count pieces) (all : n ≡ length pieces) (moved : IsMovedOn pieces sizes old w block n here) where
  -- the text begins where it did
  pub moved_text : slice_index w.starts.items 0 ≡ slice_index old.starts.items 0
  moved_text =
      let text = slice_index old.starts.items 0 in
      let e : min (length pieces) (0 * block_size) ≡ 0 = omega arith in
      moved.starts_done 0 (omega arith) ∙ ap (slice_index (addresses_of text pieces sizes)) e ∙ first_address text pieces sizes

  moved_placed : ArePlaced pieces sizes w
  moved_placed =
      let text = slice_index old.starts.items 0 in
      let long = moved.sums_count in
      let count = widths_count text pieces sizes (length_forms pieces sizes grown.forms) in
      record {
        can = subst (λ t. CanBeLaid t pieces) (sym moved_text) grown.placed.can;
        forms = grown.forms;
        sums = ext_get_or 0 w.sums (widths_of text pieces sizes) (long ∙ sym count) (λ k lt. moved.done k (omega (arith, lt, long, all)))
            ∙ ap (λ t. widths_of t pieces sizes) (sym moved_text);
        starts = record {
          long = moved.starts_count;
          each = λ b le.
              moved.starts_done b (omega (arith, le, all_blocks))
              ∙ ap (λ t. slice_index (addresses_of t pieces sizes) (min (length pieces) (b * block_size))) (sym moved_text);
        };
        counted = record {
          changes_count = omega (arith, moved.changes_count, long);
          within_count = omega (arith, moved.within_count, long);
          none = moved.none;
          start = λ b le. moved.start b (omega (arith, le, long));
          rise = λ k lt. (moved.rise k (omega (arith, lt, long, all))).0;
          total =
              let e : length w.sums ≡ n = omega (arith, long, all) in
              let e' : block ≡ length w.sums / block_size + 1 = omega (arith, long, all_blocks) in
              omega (arith, ap (changed_before w) e ∙ moved.total ∙ ap (slice_index w.changes.items) e');
        };
      }

  -- after the blocks are moved the pieces are laid
  pub moved_laid : AreLaid pieces sizes w blocks
  moved_laid = record {
    placed = moved_placed;
    blocks_are = grown.blocks_are;
    others = λ k ge lt same.
        still_fits pieces grown.old sizes old w grown.placed.can.targets grown.placed moved_placed grown.fit (λ m in_m. (moved.rise m (omega (arith, in_m, all))).1) k lt same;
    near = λ k lt still. grown.near k lt;
  }
