-- A block that is laid anew, piece by piece.
use Rattle.std.proofs.Common.{◌≡◌, ℕ, ◌+◌, ◌%◌, ◌/◌, ◌<◌, ◌≤◌, ◌*◌, ◌^◌, ◌⊎◌, List, length, min, set, get_or-set_same, get_or-set_other, length-set, sym, ap, ◌∙◌, arith, inl, inr}
use Rattle.std.specs.Prelude.{slice_index}
use Rattle.std.specs.List.{sum}
use Rattle.std.proofs.lemmas.Bool.{cases_lt, cases_eq}
use Rattle.shrink_layout.specs.declared.piece.Piece.{Piece}
use Rattle.shrink_layout.specs.declared.piece.Piece.TheVariants.{Fixed}
use Rattle.shrink_layout.specs.declared.widths.Widths.{Widths}
use Rattle.shrink_layout.specs.Forms.{longest, width}
use Rattle.shrink_layout.specs.Invariants.Blocks.{block_size, nth_piece}
use Rattle.shrink_layout.specs.Invariants.Widths.{CanBeLaidAnew, IsLaid, IsRise, changed_before}
use Rattle.shrink_layout.specs.Layout.{addresses_of, widths_of}
use Rattle.shrink_layout.proofs.AddressLaws.{address_most, length_addresses, next_address}
use Rattle.shrink_layout.proofs.ChangeLaws.{sum_below}
use Rattle.shrink_layout.proofs.MoveLaws.{most_at}
use Rattle.shrink_layout.proofs.RoundLaws.{length_forms}
use Rattle.shrink_layout.proofs.WidthLaws.{width_at}

-- the number of changed pieces of the block before each of its pieces so far, and before the next one, which has number k
abbrev counts_with : Widths → ℕ → ℕ → List ℕ
counts_with w k changed = set w.within.items k changed

-- the pieces from number first on, before k, are laid, and the others are as before
pub record IsLaidTo (text : ℕ) (pieces : List Piece) (sizes : List ℕ) (old w : Widths) (first k at changed : ℕ) : Type 0 where
  pub starts : w.starts.items ≡ old.starts.items
  pub changes : w.changes.items ≡ old.changes.items
  pub sums_count : length w.sums ≡ length old.sums
  pub sums_before : (j : ℕ) → j < first → slice_index w.sums j ≡ slice_index old.sums j
  pub sums_after : (j : ℕ) → k ≤ j → slice_index w.sums j ≡ slice_index old.sums j
  pub laid : (j : ℕ) → first ≤ j → j < k → slice_index w.sums j ≡ slice_index (widths_of text pieces sizes) j
  pub at_is : at ≡ slice_index (addresses_of text pieces sizes) k
  pub few : changed + first ≤ k
  pub within_count : length w.within.items ≡ length old.within.items
  pub within_before : (j : ℕ) → j < first → slice_index w.within.items j ≡ slice_index old.within.items j
  pub within_after : (j : ℕ) → k ≤ j → slice_index w.within.items j ≡ slice_index old.within.items j
  pub start : slice_index (counts_with w k changed) first ≡ 0
  pub rise : (j : ℕ) → first ≤ j → j < k → IsRise (slice_index (counts_with w k changed) j) (slice_index (counts_with w k changed) (j + 1))
      × (slice_index (counts_with w k changed) j ≡ slice_index (counts_with w k changed) (j + 1) → slice_index w.sums j ≡ slice_index old.sums j)

module _ (pieces : List Piece) (sizes : List ℕ) (old : Widths) (block : ℕ) (in_blocks : block < length pieces / block_size + 1) (can : CanBeLaidAnew pieces sizes old block) where
  abbrev text : ℕ
  text = slice_index old.starts.items 0

  -- no sum passes what pieces take at most
  pub at_room : (at k w : ℕ) → at ≡ slice_index (addresses_of text pieces sizes) k → k < length pieces → w ≡ width (nth_piece pieces k) (slice_index sizes k) at → at + w < 2 ^ 32
  at_room at k w is lt width_is =
      let p = nth_piece pieces k in
      let most = address_most text pieces sizes can.alignments can.forms (k + 1) 0 (omega (arith, length_addresses text pieces sizes can.forms, lt)) in
      let same : width p (slice_index sizes k) at ≡ width p (slice_index sizes k) (slice_index (addresses_of text pieces sizes) k) = ap (width p (slice_index sizes k)) is in
      omega (arith, is, width_is, same, next_address text pieces sizes k (Fixed 0) lt can.forms, most, can.room)

  module _ (w : Widths) (first k at changed : ℕ) (now : IsLaidTo text pieces sizes old w first k at changed) (in_pieces : k < length pieces) (from_first : first ≤ k)
      (taken : ℕ) (taken_is : taken ≡ width (nth_piece pieces k) (slice_index sizes k) at) where
    taken_at : taken ≡ slice_index (widths_of text pieces sizes) k
    taken_at =
        taken_is ∙ ap (width (nth_piece pieces k) (slice_index sizes k)) now.at_is
        ∙ sym (width_at text pieces sizes k (length_forms pieces sizes can.forms) in_pieces)

    pub set_room : sum (set w.sums k taken) < 2 ^ 32
    set_room =
        let all = set w.sums k taken in
        let in_sums : k < length w.sums = omega (arith, in_pieces, now.sums_count, can.long) in
        let most : (j : ℕ) → j < length pieces → slice_index all j ≤ longest (nth_piece pieces j) = λ j lt. elim (cases_eq j k) [
          | inl here ↦
              omega (
                arith,
                ap (slice_index all) here,
                get_or-set_same w.sums k taken 0 in_sums,
                taken_at,
                ap (slice_index (widths_of text pieces sizes)) here,
                most_at text pieces sizes j can.alignments can.forms lt,
              )
          | inr other ↦ elim (cases_lt j k) [
            | inl before ↦ elim (cases_lt j first) [
              | inl early ↦ omega (arith, get_or-set_other w.sums k j taken 0 other, now.sums_before j early, can.most j lt)
              | inr late ↦ omega (arith, get_or-set_other w.sums k j taken 0 other, now.laid j late before, most_at text pieces sizes j can.alignments can.forms lt)
            ]
            | inr after ↦ omega (arith, get_or-set_other w.sums k j taken 0 other, now.sums_after j after, can.most j lt)
          ]
        ] in
        omega (arith, sum_below pieces all (length-set w.sums k taken ∙ now.sums_count ∙ can.long) most, can.room)

    -- one piece more is laid
    pub laid_more : (w' : Widths) (changed' : ℕ) → w'.starts.items ≡ w.starts.items → w'.changes.items ≡ w.changes.items
        → w'.sums ≡ set w.sums k taken → w'.within.items ≡ counts_with w k changed → changed ≤ changed' → changed' ≤ changed + 1
        → (changed ≡ changed' → slice_index w.sums k ≡ taken) → IsLaidTo text pieces sizes old w' first (k + 1) (at + taken) changed'
    laid_more w' changed' starts_same changes_same sums_is within_is least most same =
        let in_sums : k < length w.sums = omega (arith, in_pieces, now.sums_count, can.long) in
        let in_within : k + 1 < length w'.within.items = omega (arith, ap length within_is, length-set w.within.items k changed, now.within_count, can.within_count, in_pieces) in
        let in_within' : k < length w.within.items = omega (arith, now.within_count, can.within_count, in_pieces) in
        let sum_here : slice_index w'.sums k ≡ taken = ap (λ l. slice_index l k) sums_is ∙ get_or-set_same w.sums k taken 0 in_sums in
        let sum_other = λ (j : ℕ) (ne : j ≡ k → ⊥). ap (λ l. slice_index l j) sums_is ∙ get_or-set_other w.sums k j taken 0 ne in
        let count_next : slice_index (counts_with w' (k + 1) changed') (k + 1) ≡ changed' = get_or-set_same w'.within.items (k + 1) changed' 0 in_within in
        let count_other = λ (j : ℕ) (ne : j ≡ k + 1 → ⊥). get_or-set_other w'.within.items (k + 1) j changed' 0 ne ∙ ap (λ l. slice_index l j) within_is in
        let count_here : slice_index (counts_with w k changed) k ≡ changed = get_or-set_same w.within.items k changed 0 in_within' in
        record {
          starts = starts_same ∙ now.starts;
          changes = changes_same ∙ now.changes;
          sums_count = ap length sums_is ∙ length-set w.sums k taken ∙ now.sums_count;
          sums_before = λ j lt. sum_other j (λ e. omega (arith, e, lt, from_first)) ∙ now.sums_before j lt;
          sums_after = λ j le. sum_other j (λ e. omega (arith, e, le)) ∙ now.sums_after j (omega (arith, le));
          laid = λ j ge lt. elim (cases_lt j k) [
            | inl before ↦ sum_other j (λ e. omega (arith, e, before)) ∙ now.laid j ge before
            | inr here ↦
                let e : j ≡ k = omega (arith, here, lt) in
                ap (slice_index w'.sums) e ∙ sum_here ∙ taken_at ∙ ap (slice_index (widths_of text pieces sizes)) (sym e)
          ];
          at_is =
              let same_at : width (nth_piece pieces k) (slice_index sizes k) at ≡ width (nth_piece pieces k) (slice_index sizes k) (slice_index (addresses_of text pieces sizes) k) = ap (width (nth_piece pieces k) (slice_index sizes k)) now.at_is in
              omega (arith, now.at_is, taken_is, same_at, next_address text pieces sizes k (Fixed 0) in_pieces can.forms);
          few = omega (arith, now.few, most);
          within_count = ap length within_is ∙ length-set w.within.items k changed ∙ now.within_count;
          within_before = λ j lt. ap (λ l. slice_index l j) within_is ∙ get_or-set_other w.within.items k j changed 0 (λ e. omega (arith, e, lt, from_first)) ∙ now.within_before j lt;
          within_after = λ j le. ap (λ l. slice_index l j) within_is ∙ get_or-set_other w.within.items k j changed 0 (λ e. omega (arith, e, le)) ∙ now.within_after j (omega (arith, le));
          start = count_other first (λ e. omega (arith, e, from_first)) ∙ now.start;
          rise = λ j ge lt. elim (cases_lt j k) [
            | inl before ↦
                let was = now.rise j ge before in
                let here = count_other j (λ e. omega (arith, e, before)) in
                let next = count_other (j + 1) (λ e. omega (arith, e, before)) in (
                  (omega (arith, here, next, was.0.0), omega (arith, here, next, was.0.1)),
                  λ e. sum_other j (λ e'. omega (arith, e', before)) ∙ was.1 (sym here ∙ e ∙ next),
                )
            | inr last ↦
                let e : j ≡ k = omega (arith, last, lt) in
                let e' : j + 1 ≡ k + 1 = omega (arith, e) in
                let here : slice_index (counts_with w' (k + 1) changed') j ≡ changed = count_other j (λ e'. omega (arith, e', e)) ∙ ap (slice_index (counts_with w k changed)) e ∙ count_here in
                let next : slice_index (counts_with w' (k + 1) changed') (j + 1) ≡ changed' = ap (slice_index (counts_with w' (k + 1) changed')) e' ∙ count_next in (
                  (omega (arith, here, next, least), omega (arith, here, next, most)),
                  λ eq. ap (slice_index w'.sums) e ∙ sum_here ∙ sym (same (sym here ∙ eq ∙ next)) ∙ sym (ap (slice_index w.sums) e) ∙ now.sums_after j last,
                )
          ];
        }

  -- all are laid, and the counts behind them written
  module _ (w w' : Widths) (first end at changed : ℕ) (first_is : first ≡ block * block_size) (end_is : end ≡ min (length pieces) (block * block_size + block_size))
      (now : IsLaidTo text pieces sizes old w first end at changed) (sums_is : w'.sums ≡ w.sums) (starts_is : w'.starts.items ≡ set w.starts.items (block + 1) at)
      (changes_is : w'.changes.items ≡ set w.changes.items (block + 1) (slice_index w.changes.items block + changed))
      (within_is : ((end % block_size ≡ 0) × (w'.within.items ≡ w.within.items)) ⊎ ((end % block_size ≡ 0 → ⊥) × (w'.within.items ≡ counts_with w end changed))) where
    changes_before : (b : ℕ) → b ≤ block → slice_index w'.changes.items b ≡ slice_index old.changes.items b
    changes_before b le =
        ap (λ l. slice_index l b) changes_is ∙ get_or-set_other w.changes.items (block + 1) b (slice_index w.changes.items block + changed) 0 (λ e. omega (arith, e, le))
        ∙ ap (λ l. slice_index l b) now.changes

    changes_next : slice_index w'.changes.items (block + 1) ≡ slice_index old.changes.items block + changed
    changes_next =
        ap (λ l. slice_index l (block + 1)) changes_is
        ∙ get_or-set_same w.changes.items (block + 1) (slice_index w.changes.items block + changed) 0 (omega (arith, ap length now.changes, can.changes_count, in_blocks))
        ∙ ap (λ l. slice_index l block + changed) now.changes

    count_end : slice_index (counts_with w end changed) end ≡ changed
    count_end = get_or-set_same w.within.items end changed 0 (omega (arith, now.within_count, can.within_count, end_is))

    -- what is counted in the block
    count_inside : (k : ℕ) → k < end → slice_index w'.within.items k ≡ slice_index (counts_with w end changed) k
    count_inside k lt = elim within_is [
      | inl whole ↦ ap (λ l. slice_index l k) whole.1 ∙ sym (get_or-set_other w.within.items end k changed 0 (λ e. omega (arith, e, lt)))
      | inr part ↦ ap (λ l. slice_index l k) part.1
    ]

    -- where a block begins, nothing is counted in it
    count_start : (k b : ℕ) → k ≡ b * block_size → end ≤ k → k ≤ length pieces → w'.within.items ≡ w.within.items → slice_index w'.within.items k ≡ 0
    count_start k b e le within same =
        ap (λ l. slice_index l k) same ∙ now.within_after k le ∙ ap (slice_index old.within.items) e ∙ can.start b (omega (arith, e, within))

    count_is : (k : ℕ) → first ≤ k → k ≤ end → changed_before w' k ≡ slice_index old.changes.items block + slice_index (counts_with w end changed) k
    count_is k ge le = elim (cases_lt k end) [
      | inl before ↦
          let at_block : k / block_size ≡ block = omega (arith, first_is, end_is, ge, before) in
          omega (arith, ap (slice_index w'.changes.items) at_block, changes_before block (omega arith), count_inside k before)
      | inr last ↦
          let e : k ≡ end = omega (arith, le, last) in
          let counted : slice_index (counts_with w end changed) k ≡ changed = ap (slice_index (counts_with w end changed)) e ∙ count_end in
          elim within_is [
            | inr part ↦
                let at_block : k / block_size ≡ block = omega (arith, first_is, end_is, ge, le, e, part.0) in
                omega (arith, ap (slice_index w'.changes.items) at_block, changes_before block (omega arith), ap (λ l. slice_index l k) part.1)
            | inl whole ↦ elim (cases_eq end first) [
              | inl empty ↦
                  let at_block : k / block_size ≡ block = omega (arith, first_is, e, empty) in
                  omega (
                    arith,
                    ap (slice_index w'.changes.items) at_block,
                    changes_before block (omega arith),
                    count_start k block (omega (arith, e, empty, first_is)) last (omega (arith, e, end_is)) whole.1,
                    counted,
                    now.few,
                    empty,
                  )
              | inr some ↦
                  let full : end ≡ (block + 1) * block_size = omega (arith, first_is, end_is, whole.0, some, ge, le) in
                  let at_next : k / block_size ≡ block + 1 = omega (arith, e, full) in
                  omega (
                    arith,
                    ap (slice_index w'.changes.items) at_next,
                    changes_next,
                    count_start k (block + 1) (omega (arith, e, full)) last (omega (arith, e, end_is)) whole.1,
                    counted,
                  )
            ]
          ]
    ]

    pub all_laid : IsLaid text pieces sizes old w' block first end
    all_laid =
        let order : first ≤ end = omega (arith, first_is, end_is, in_blocks) in
        record {
          sums_count = ap length sums_is ∙ now.sums_count;
          sums_before = λ k lt. ap (λ l. slice_index l k) sums_is ∙ now.sums_before k lt;
          sums_after = λ k ge. ap (λ l. slice_index l k) sums_is ∙ now.sums_after k ge;
          laid = λ k ge lt. ap (λ l. slice_index l k) sums_is ∙ now.laid k ge lt;
          starts = starts_is ∙ (λ i. set (now.starts i) (block + 1) (now.at_is i));
          changes_count = ap length changes_is ∙ length-set w.changes.items (block + 1) (slice_index w.changes.items block + changed) ∙ ap length now.changes;
          changes = changes_before;
          few = omega (arith, changes_next, changes_before block (omega arith), now.few, first_is, end_is);
          within_count = elim within_is [
            | inl whole ↦ ap length whole.1 ∙ now.within_count
            | inr part ↦ ap length part.1 ∙ length-set w.within.items end changed ∙ now.within_count
          ];
          within_before = λ k lt. count_inside k (omega (arith, order, lt)) ∙ get_or-set_other w.within.items end k changed 0 (λ e. omega (arith, e, order, lt)) ∙ now.within_before k lt;
          within_after = λ k ge. elim within_is [
            | inl whole ↦ ap (λ l. slice_index l k) whole.1 ∙ now.within_after k (omega (arith, end_is, first_is, ge))
            | inr part ↦
                ap (λ l. slice_index l k) part.1
                ∙ get_or-set_other w.within.items end k changed 0 (λ e. part.0 (omega (arith, e, end_is, first_is, ge)))
                ∙ now.within_after k (omega (arith, end_is, first_is, ge))
          ];
          start = elim within_is [
            | inr part ↦ ap (λ l. slice_index l first) part.1 ∙ now.start
            | inl whole ↦ elim (cases_lt first end) [
              | inl some ↦ count_inside first some ∙ now.start
              | inr empty ↦ count_start first block first_is empty (omega (arith, first_is, in_blocks)) whole.1
            ]
          ];
          rise = λ k ge lt.
              let was = now.rise k ge lt in
              let here = count_is k ge (omega (arith, lt)) in
              let next = count_is (k + 1) (omega (arith, ge)) (omega (arith, lt)) in (
                (omega (arith, here, next, was.0.0), omega (arith, here, next, was.0.1)),
                λ e. ap (λ l. slice_index l k) sums_is ∙ was.1 (omega (arith, here, next, e)),
              );
          total = omega (arith, count_is end order (omega arith), count_end, changes_next);
        }
