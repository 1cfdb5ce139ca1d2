-- The loop over blocks, each of which is laid anew or moved as a whole.
use Rattle.std.proofs.Common.{◌≡◌, ℕ, zero, suc, ◌+◌, ◌-◌, ◌%◌, ◌/◌, ◌<◌, ◌≤◌, ◌*◌, List, All, length, min, set, get_or-set_same, get_or-set_other, length-set, refl, sym, ap, ◌∙◌, arith, inl, inr}
use Rattle.std.specs.Prelude.{slice_index}
use Rattle.std.proofs.lemmas.Bool.{cases_lt, cases_eq}
use Rattle.shrink_layout.specs.declared.piece.Piece.{Piece}
use Rattle.shrink_layout.specs.declared.piece.Piece.TheVariants.{Fixed}
use Rattle.shrink_layout.specs.declared.widths.Widths.{Widths}
use Rattle.shrink_layout.specs.Forms.{HasAlignment, longest, width}
use Rattle.shrink_layout.specs.Invariants.Blocks.{IsMovedBy, block_size, nth_piece}
use Rattle.shrink_layout.specs.Invariants.Rounds.{ArePlaced}
use Rattle.shrink_layout.specs.Invariants.Widths.{CanBeLaidAnew, IsAscending, IsLaid, IsBlockMoved, IsRise, changed_before}
use Rattle.shrink_layout.specs.Layout.{addresses_of, widths_of}
use Rattle.shrink_layout.specs.Least.{AreForms}
use Rattle.shrink_layout.proofs.AddressLaws.{ascending, form_at, next_address}
use Rattle.shrink_layout.proofs.BlockLaws.{alike_on, same_width}
use Rattle.shrink_layout.proofs.ChangeLaws.{placed_long, placed_width, rise_between}
use Rattle.shrink_layout.proofs.FormLaws.{width_most}
use Rattle.shrink_layout.proofs.RoundLaws.{length_forms}
use Rattle.shrink_layout.proofs.WidthLaws.{width_at}

-- the blocks before this one are laid, whose first piece has number n, and the others are as before; here is where it started
pub record IsMovedOn (pieces : List Piece) (sizes : List ℕ) (old w : Widths) (block n here : ℕ) : Type 0 where
  pub sums_count : length w.sums ≡ length pieces
  pub starts_count : length w.starts.items ≡ length pieces / block_size + 2
  pub changes_count : length w.changes.items ≡ length pieces / block_size + 2
  pub within_count : length w.within.items ≡ length pieces + 1
  pub done : (k : ℕ) → k < n → slice_index w.sums k ≡ slice_index (widths_of (slice_index old.starts.items 0) pieces sizes) k
  pub rest : (k : ℕ) → n ≤ k → slice_index w.sums k ≡ slice_index old.sums k
  pub starts_done : (b : ℕ) → b ≤ block
      → slice_index w.starts.items b ≡ slice_index (addresses_of (slice_index old.starts.items 0) pieces sizes) (min (length pieces) (b * block_size))
  pub starts_rest : (b : ℕ) → block < b → slice_index w.starts.items b ≡ slice_index old.starts.items b
  pub here_is : here ≡ slice_index old.starts.items block
  pub none : slice_index w.changes.items 0 ≡ 0
  pub few : slice_index w.changes.items block ≤ block * block_size
  pub start : (b : ℕ) → b * block_size ≤ length pieces → slice_index w.within.items (b * block_size) ≡ 0
  pub within_rest : (k : ℕ) → block * block_size ≤ k → slice_index w.within.items k ≡ slice_index old.within.items k
  pub rise : (k : ℕ) → k < n → IsRise (changed_before w k) (changed_before w (k + 1))
      × (changed_before w k ≡ changed_before w (k + 1) → slice_index w.sums k ≡ slice_index old.sums k)
  pub total : changed_before w n ≡ slice_index w.changes.items block

-- ---- before the first block

pub none_moved : (pieces : List Piece) (sizes old_sizes : List ℕ) (w : Widths) (n : ℕ) → ArePlaced pieces old_sizes w → length w.sums ≡ length pieces → n ≡ 0
    → slice_index (addresses_of (slice_index w.starts.items 0) pieces sizes) 0 ≡ slice_index w.starts.items 0
    → IsMovedOn pieces sizes w w 0 n (slice_index w.starts.items 0)
none_moved pieces sizes old_sizes w n placed long e first =
    let counted = placed.counted in
    record {
      sums_count = long;
      starts_count = placed.starts.long;
      changes_count = omega (arith, counted.changes_count, long);
      within_count = omega (arith, counted.within_count, long);
      done = λ k lt. absurd (omega (arith, e, lt));
      rest = λ k ge. refl;
      starts_done = λ b le.
          let none : b ≡ 0 = omega (arith, le) in
          let least : min (length pieces) (b * block_size) ≡ 0 = omega (arith, none) in
          ap (slice_index w.starts.items) none ∙ sym first ∙ ap (slice_index (addresses_of (slice_index w.starts.items 0) pieces sizes)) (sym least);
      starts_rest = λ b lt. refl;
      here_is = refl;
      none = counted.none;
      few = omega (arith, counted.none);
      start = λ b le. counted.start b (omega (arith, le, long));
      within_rest = λ k ge. refl;
      rise = λ k lt. absurd (omega (arith, e, lt));
      total = ap (changed_before w) e ∙ omega (arith, counted.start 0 (omega arith));
    }

-- ---- one block more

module _ (pieces : List Piece) (sizes : List ℕ) (old w w' : Widths) (block n end here next : ℕ) (in_blocks : block < length pieces / block_size + 1)
    (n_is : n ≡ block * block_size) (end_is : end ≡ min (length pieces) (block * block_size + block_size))
    (now : IsMovedOn pieces sizes old w block n here) (laid : IsLaid (slice_index old.starts.items 0) pieces sizes w w' block n end) (next_is : next ≡ slice_index w.starts.items (block + 1)) where
  -- the counts of the blocks before this one stay
  count_kept : (k : ℕ) → k ≤ n → changed_before w' k ≡ changed_before w k
  count_kept k le =
      let before = laid.changes (k / block_size) (omega (arith, n_is, le)) in
      elim (cases_lt k n) [
        | inl less ↦ omega (arith, before, laid.within_before k less)
        | inr least ↦
            let e : k ≡ n = omega (arith, le, least) in
            let e' : k ≡ block * block_size = omega (arith, e, n_is) in
            omega (arith, before, ap (slice_index w'.within.items) e, laid.start, ap (slice_index w.within.items) e', now.start block (omega (arith, in_blocks)))
      ]

  at_start : (b : ℕ) → b * block_size ≤ length pieces → slice_index w'.within.items (b * block_size) ≡ 0
  at_start b le = elim (cases_lt b block) [
    | inl before ↦ laid.within_before (b * block_size) (omega (arith, n_is, before)) ∙ now.start b le
    | inr from ↦ elim (cases_eq b block) [
      | inl this ↦ let e : b * block_size ≡ n = omega (arith, this, n_is) in ap (slice_index w'.within.items) e ∙ laid.start
      | inr other ↦ laid.within_after (b * block_size) (omega (arith, n_is, from, other)) ∙ now.start b le
    ]
  ]

  starts_at : (b : ℕ) → b ≤ block + 1
      → slice_index w'.starts.items b ≡ slice_index (addresses_of (slice_index old.starts.items 0) pieces sizes) (min (length pieces) (b * block_size))
  starts_at b le =
      let a = addresses_of (slice_index old.starts.items 0) pieces sizes in
      let written : slice_index w'.starts.items b ≡ slice_index (set w.starts.items (block + 1) (slice_index a end)) b = ap (λ l. slice_index l b) laid.starts in
      elim (cases_lt b (block + 1)) [
        | inl before ↦ written ∙ get_or-set_other w.starts.items (block + 1) b (slice_index a end) 0 (λ e. omega (arith, e, before)) ∙ now.starts_done b (omega (arith, before))
        | inr this ↦
            let e : b ≡ block + 1 = omega (arith, le, this) in
            let e' : end ≡ min (length pieces) (b * block_size) = omega (arith, end_is, e) in
            written ∙ ap (slice_index (set w.starts.items (block + 1) (slice_index a end))) e
            ∙ get_or-set_same w.starts.items (block + 1) (slice_index a end) 0 (omega (arith, now.starts_count, in_blocks)) ∙ ap (slice_index a) e'
      ]

  pub block_more : IsMovedOn pieces sizes old w' (block + 1) end next
  block_more =
      let a = addresses_of (slice_index old.starts.items 0) pieces sizes in
      record {
        sums_count = laid.sums_count ∙ now.sums_count;
        starts_count = ap length laid.starts ∙ length-set w.starts.items (block + 1) (slice_index a end) ∙ now.starts_count;
        changes_count = laid.changes_count ∙ now.changes_count;
        within_count = laid.within_count ∙ now.within_count;
        done = λ k lt. elim (cases_lt k n) [
          | inl before ↦ laid.sums_before k before ∙ now.done k before
          | inr here ↦ laid.laid k here lt
        ];
        rest = λ k ge. laid.sums_after k ge ∙ now.rest k (omega (arith, n_is, end_is, in_blocks, ge));
        starts_done = starts_at;
        starts_rest = λ b lt.
            ap (λ l. slice_index l b) laid.starts ∙ get_or-set_other w.starts.items (block + 1) b (slice_index a end) 0 (λ e. omega (arith, e, lt))
            ∙ now.starts_rest b (omega (arith, lt));
        here_is = next_is ∙ now.starts_rest (block + 1) (omega arith);
        none = laid.changes 0 (omega arith) ∙ now.none;
        few = omega (arith, laid.few, laid.changes block (omega arith), now.few);
        start = at_start;
        within_rest = λ k ge. laid.within_after k (omega (arith, n_is, ge)) ∙ now.within_rest k (omega (arith, ge));
        rise = λ k lt. elim (cases_lt k n) [
          | inl before ↦
              let here = count_kept k (omega (arith, before)) in
              let next = count_kept (k + 1) (omega (arith, before)) in
              let was = now.rise k before in
              ((omega (arith, here, next, was.0.0), omega (arith, here, next, was.0.1)), λ e. laid.sums_before k before ∙ was.1 (sym here ∙ e ∙ next))
          | inr from ↦ let is = laid.rise k from lt in (is.0, λ e. is.1 e ∙ now.rest k from)
        ];
        total = laid.total;
      }

-- ---- a block that is moved as a whole

module _ (pieces : List Piece) (old_sizes sizes : List ℕ) (old : Widths) (block n end multiple : ℕ) (before : ArePlaced pieces old_sizes old) (forms : AreForms pieces sizes)
    (in_blocks : block < length pieces / block_size + 1)
    (n_is : n ≡ block * block_size) (end_is : end ≡ min (length pieces) (block * block_size + block_size))
    (kept : (k : ℕ) → n ≤ k → k < end → slice_index sizes k ≡ slice_index old_sizes k)
    (movable : (k : ℕ) → n ≤ k → k < end → IsMovedBy multiple (nth_piece pieces k))
    (alike : slice_index (addresses_of (slice_index old.starts.items 0) pieces old_sizes) n % multiple ≡ slice_index (addresses_of (slice_index old.starts.items 0) pieces sizes) n % multiple) where
  abbrev a : List ℕ
  a = addresses_of (slice_index old.starts.items 0) pieces old_sizes

  abbrev a' : List ℕ
  a' = addresses_of (slice_index old.starts.items 0) pieces sizes

  -- a piece takes as many bytes if its address moved as the first one did
  bytes_same : (k : ℕ) → n ≤ k → k < end → slice_index a' k + slice_index a n ≡ slice_index a k + slice_index a' n
      → width (nth_piece pieces k) (slice_index sizes k) (slice_index a' k) ≡ width (nth_piece pieces k) (slice_index old_sizes k) (slice_index a k)
  bytes_same k ge lt moved =
      let p = nth_piece pieces k in
      let up : slice_index a n ≤ slice_index a k = ascending (slice_index old.starts.items 0) pieces old_sizes before.forms n k ge (omega (arith, end_is, lt)) in
      let d : ℕ = slice_index a k - slice_index a n in
      let rest : slice_index a k % multiple ≡ slice_index a' k % multiple =
      alike_on multiple (slice_index a n) (slice_index a' n) (slice_index a k) (slice_index a' k) d alike (omega (arith, up)) (omega (arith, up, moved)) in
      sym (same_width multiple p (slice_index sizes k) (slice_index a k) (slice_index a' k) (movable k ge lt) rest) ∙ ap (λ s. width p s (slice_index a k)) (kept k ge lt)

  -- all addresses of the block moved as the first one did
  all_moved : (d : ℕ) → n + d ≤ end → slice_index a' (n + d) + slice_index a n ≡ slice_index a (n + d) + slice_index a' n
  all_moved zero le = let e : n + 0 ≡ n = omega arith in omega (arith, ap (slice_index a) e, ap (slice_index a') e)
  all_moved (suc d) le =
      let k : ℕ = n + d in
      let e : n + suc d ≡ k + 1 = omega arith in
      let in_pieces : k < length pieces = omega (arith, end_is, le) in
      let so_far = all_moved d (omega (arith, le)) in
      omega (
        arith,
        so_far,
        ap (slice_index a) e,
        ap (slice_index a') e,
        next_address (slice_index old.starts.items 0) pieces old_sizes k (Fixed 0) in_pieces before.forms,
        next_address (slice_index old.starts.items 0) pieces sizes k (Fixed 0) in_pieces forms,
        bytes_same k (omega arith) (omega (arith, le)) so_far,
      )

  pub moved_at : (k : ℕ) → n ≤ k → k ≤ end → slice_index a' k + slice_index a n ≡ slice_index a k + slice_index a' n
  moved_at k ge le =
      let e : n + (k - n) ≡ k = omega (arith, ge) in
      omega (arith, all_moved (k - n) (omega (arith, ge, le)), ap (slice_index a) e, ap (slice_index a') e)

  -- each piece of the block takes as many bytes as before
  pub moved_bytes : (k : ℕ) → n ≤ k → k < end → slice_index old.sums k ≡ slice_index (widths_of (slice_index old.starts.items 0) pieces sizes) k
  moved_bytes k ge lt =
      let in_pieces : k < length pieces = omega (arith, end_is, lt) in
      placed_width pieces old_sizes old k before in_pieces ∙ sym (bytes_same k ge lt (moved_at k ge (omega (arith, lt))))
      ∙ sym (width_at (slice_index old.starts.items 0) pieces sizes k (length_forms pieces sizes forms) in_pieces)

  pub moved_end : (at next here : ℕ) → at ≡ slice_index a' n → here ≡ slice_index a n → next ≡ slice_index a end → at + (next - here) ≡ slice_index a' end
  moved_end at next here at_is here_is next_is =
      let up = ascending (slice_index old.starts.items 0) pieces old_sizes before.forms n end (omega (arith, n_is, end_is, in_blocks)) (omega (arith, end_is)) in
      omega (arith, at_is, here_is, next_is, up, moved_at end (omega (arith, n_is, end_is, in_blocks)) (omega arith))

  module _ (w w' : Widths) (here taken : ℕ) (now : IsMovedOn pieces sizes old w block n here) (moved : IsBlockMoved w w' block taken)
      (ends : slice_index w.starts.items block + taken ≡ slice_index a' end) where
    changes_before : (b : ℕ) → b ≤ block → slice_index w'.changes.items b ≡ slice_index w.changes.items b
    changes_before b le =
        ap (λ l. slice_index l b) moved.changes ∙ get_or-set_other w.changes.items (block + 1) b (slice_index w.changes.items block) 0 (λ e. omega (arith, e, le))

    changes_next : slice_index w'.changes.items (block + 1) ≡ slice_index w.changes.items block
    changes_next =
        ap (λ l. slice_index l (block + 1)) moved.changes
        ∙ get_or-set_same w.changes.items (block + 1) (slice_index w.changes.items block) 0 (omega (arith, now.changes_count, in_blocks))

    -- none of its pieces counts
    count_still : (k : ℕ) → n ≤ k → k ≤ end → changed_before w' k ≡ slice_index w.changes.items block
    count_still k ge le = elim (cases_lt k (n + block_size)) [
      | inl inside ↦
          let at : k / block_size ≡ block = omega (arith, n_is, ge, inside) in
          omega (
            arith,
            ap (slice_index w'.changes.items) at,
            changes_before block (omega arith),
            moved.within.none k (omega (arith, n_is, ge)) (omega (arith, n_is, inside)) (omega (arith, moved.within.same, now.within_count, end_is, le)),
          )
      | inr last ↦
          let at : k / block_size ≡ block + 1 = omega (arith, n_is, end_is, le, last) in
          let e : k ≡ (block + 1) * block_size = omega (arith, n_is, end_is, le, last) in
          omega (
            arith,
            ap (slice_index w'.changes.items) at,
            changes_next,
            moved.within.after k (omega (arith, n_is, last)),
            ap (slice_index w.within.items) e,
            now.start (block + 1) (omega (arith, e, end_is, le)),
          )
    ]

    pub moved_laid_block : IsLaid (slice_index old.starts.items 0) pieces sizes w w' block n end
    moved_laid_block = record {
      sums_count = ap length moved.sums;
      sums_before = λ k lt. ap (λ l. slice_index l k) moved.sums;
      sums_after = λ k ge. ap (λ l. slice_index l k) moved.sums;
      laid = λ k ge lt. ap (λ l. slice_index l k) moved.sums ∙ now.rest k ge ∙ moved_bytes k ge lt;
      starts = moved.starts ∙ ap (set w.starts.items (block + 1)) ends;
      changes_count = ap length moved.changes ∙ length-set w.changes.items (block + 1) (slice_index w.changes.items block);
      changes = changes_before;
      few = omega (arith, changes_next, changes_before block (omega arith));
      within_count = moved.within.same;
      within_before = λ k lt. moved.within.before k (omega (arith, n_is, lt));
      within_after = λ k ge. moved.within.after k (omega (arith, n_is, ge));
      start = moved.within.none n (omega (arith, n_is)) (omega (arith, n_is)) (omega (arith, moved.within.same, now.within_count, n_is, in_blocks));
      rise = λ k ge lt.
          let here = count_still k ge (omega (arith, lt)) in
          let next = count_still (k + 1) (omega (arith, ge)) (omega (arith, lt)) in
          ((omega (arith, here, next), omega (arith, here, next)), λ e. ap (λ l. slice_index l k) moved.sums);
      total = count_still end (omega (arith, n_is, end_is, in_blocks)) (omega arith) ∙ sym changes_next;
    }

-- ---- what the calls require

-- no piece takes more bytes than it may
pub most_at : (text : ℕ) (pieces : List Piece) (sizes : List ℕ) (k : ℕ) → All HasAlignment pieces → AreForms pieces sizes → k < length pieces
    → slice_index (widths_of text pieces sizes) k ≤ longest (nth_piece pieces k)
most_at text pieces sizes k some forms lt =
    let p = nth_piece pieces k in
    omega (
      arith,
      width_at text pieces sizes k (length_forms pieces sizes forms) lt,
      width_most p (slice_index sizes k) (slice_index (addresses_of text pieces sizes) k) (some k (Fixed 0) lt) (form_at pieces sizes k (Fixed 0) lt forms),
    )

module _ (pieces : List Piece) (old_sizes sizes : List ℕ) (old w : Widths) (block n here : ℕ) (before : ArePlaced pieces old_sizes old) (forms : AreForms pieces sizes)
    (in_blocks : block < length pieces / block_size + 1) (n_is : n ≡ block * block_size) (now : IsMovedOn pieces sizes old w block n here) (first : slice_index w.starts.items 0 ≡ slice_index old.starts.items 0) where
  pub can_lay : CanBeLaidAnew pieces sizes w block
  can_lay = record {
    alignments = before.can.alignments;
    forms = forms;
    long = now.sums_count;
    starts_count = now.starts_count;
    changes_count = now.changes_count;
    within_count = now.within_count;
    room = omega (arith, first, before.can.room);
    most = λ k lt. elim (cases_lt k n) [
      | inl done ↦ omega (arith, now.done k done, most_at (slice_index old.starts.items 0) pieces sizes k before.can.alignments forms lt)
      | inr rest ↦
          omega (
            arith,
            now.rest k rest,
            ap (λ l. slice_index l k) before.sums,
            most_at (slice_index old.starts.items 0) pieces old_sizes k before.can.alignments before.forms lt,
          )
    ];
    at =
        let e : min (length pieces) (block * block_size) ≡ block * block_size = omega (arith, in_blocks) in
        now.starts_done block (omega arith) ∙ (λ i. slice_index (addresses_of (sym first i) pieces sizes) (e i));
    start = now.start;
    few = now.few;
  }

  -- counts in the block rise, as before the round
  pub can_clear : IsAscending w.within.items (block * block_size)
  can_clear i j from le lt within =
      let at : i / block_size ≡ block = omega (arith, from, le, lt) in
      let at' : j / block_size ≡ block = omega (arith, from, le, lt) in
      let long : length old.sums ≡ length pieces = omega (arith, placed_long pieces old_sizes old before) in
      omega (
        arith,
        now.within_rest i from,
        now.within_rest j (omega (arith, from, le)),
        ap (slice_index old.changes.items) at,
        ap (slice_index old.changes.items) at',
        rise_between old before.counted i j le (omega (arith, within, now.within_count, long)),
      )
