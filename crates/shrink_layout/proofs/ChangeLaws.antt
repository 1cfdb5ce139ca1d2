-- Pieces that changed, that is, took other bytes than before: where none did between a piece and its target, the piece fits as before.
use Rattle.std.proofs.Common.{◌≡◌, ℕ, zero, suc, ◌+◌, ◌-◌, ◌*◌, ◌/◌, ◌<◌, ◌≤◌, true, All, List, [], ◌∷◌, get_or, length, max, min, take, refl, sym, ap, ◌∙◌, arith, inl, inr}
use Rattle.std.specs.Prelude.{slice_index}
use Rattle.std.specs.List.{sum, sum_by}
use Rattle.std.proofs.lemmas.Bool.{cases_lt}
use Rattle.std.proofs.lemmas.List.{get_or_default}
use Rattle.std.proofs.lemmas.List.Sums.{sum_by-cons, sum_by-take-le}
use Rattle.shrink_layout.specs.declared.piece.Piece.{Piece}
use Rattle.shrink_layout.specs.declared.piece.Piece.TheVariants.{Fixed, WithOthers, Align, Branch, Jump}
use Rattle.shrink_layout.specs.declared.widths.Widths.{Widths}
use Rattle.shrink_layout.specs.Forms.{IsForm, longest, target, width}
use Rattle.shrink_layout.specs.Invariants.Blocks.{IsStill, block_fits, block_size, nth_piece}
use Rattle.shrink_layout.specs.Invariants.Rounds.{ArePlaced}
use Rattle.shrink_layout.specs.Invariants.Widths.{AreCounted, AreStarts, IsUntouched, addresses_by, addresses_in, changed_before}
use Rattle.shrink_layout.specs.Layout.{addresses_of, form_reaches_at, widths_of}
use Rattle.shrink_layout.proofs.AddressLaws.{form_at}
use Rattle.shrink_layout.proofs.BlockLaws.{IsSameStep, still_holds, way_between}
use Rattle.shrink_layout.proofs.RoundLaws.{length_forms}
use Rattle.shrink_layout.proofs.WidthLaws.{width_at, widths_count}

-- an element of a list, whatever stands for one that isn't there
pub index_is : (xs : List ℕ) (k d x : ℕ) → k < length xs → x ≡ get_or xs k d → x ≡ slice_index xs k
index_is xs k d x lt is = is ∙ get_or_default xs k d 0 lt

-- ---- addresses

-- the addresses of pieces are those by the bytes that they take
pub by_widths : (at : ℕ) (pieces : List Piece) (sizes : List ℕ) → addresses_by at (widths_of at pieces sizes) ≡ addresses_of at pieces sizes
by_widths at [] sizes = refl
by_widths at (p ∷ pieces) [] = refl
by_widths at (p ∷ pieces) (size ∷ sizes) = ap (λ l. at ∷ l) (by_widths (at + width p size at) pieces sizes)

-- a piece's block begins at its start
pub block_start : (addresses : List ℕ) (count : ℕ) (starts : List ℕ) (k : ℕ) → AreStarts addresses count starts → k ≤ count
    → slice_index starts (k / block_size) ≡ slice_index addresses (k / block_size * block_size)
block_start addresses count starts k are within =
    let first : min count (k / block_size * block_size) ≡ k / block_size * block_size = omega (arith, within) in
    are.each (k / block_size) (omega (arith, within)) ∙ ap (slice_index addresses) first

-- the first is where all begin
pub by_first : (at : ℕ) (widths : List ℕ) → slice_index (addresses_by at widths) 0 ≡ at
by_first at [] = refl
by_first at (w ∷ widths) = refl

-- the next one is after the bytes between
pub by_next : (at : ℕ) (widths : List ℕ) (k : ℕ) → k < length widths
    → slice_index (addresses_by at widths) (k + 1) ≡ slice_index (addresses_by at widths) k + slice_index widths k
by_next at [] k lt = absurd (omega arith)
by_next at (w ∷ widths) zero lt = by_first (at + w) widths
by_next at (w ∷ widths) (suc k) lt =
    let next : suc k + 1 ≡ suc (k + 1) = omega arith in
    ap (slice_index (addresses_by at (w ∷ widths))) next ∙ by_next (at + w) widths k (omega arith)

-- each address comes after the bytes of all pieces before it
pub by_sum : (at : ℕ) (widths : List ℕ) (k : ℕ) → k ≤ length widths → slice_index (addresses_by at widths) k ≡ at + sum (take k widths)
by_sum at [] zero le = omega arith
by_sum at [] (suc k) le = absurd (omega arith)
by_sum at (w ∷ widths) zero le = omega arith
by_sum at (w ∷ widths) (suc k) le = omega (arith, by_sum (at + w) widths k (omega arith), sum_by-cons (λ (x : ℕ). x) w (take k widths))

-- none is after the bytes of all
pub by_top : (at : ℕ) (widths : List ℕ) (k : ℕ) → k ≤ length widths → slice_index (addresses_by at widths) k ≤ at + sum widths
by_top at widths k le = omega (arith, by_sum at widths k le, sum_by-take-le (λ (x : ℕ). x) widths k)

-- there is one address for each piece, and one for the end
pub by_long : (at : ℕ) (widths : List ℕ) → length (addresses_by at widths) ≡ length widths + 1
by_long at [] = refl
by_long at (w ∷ widths) = omega (arith, by_long (at + w) widths)

-- if each piece takes no more than it may, neither do all
pub sum_below : (pieces : List Piece) (widths : List ℕ) → length widths ≡ length pieces
    → ((k : ℕ) → k < length pieces → slice_index widths k ≤ longest (nth_piece pieces k)) → sum widths ≤ sum_by longest pieces
sum_below [] [] e most = omega arith
sum_below [] (w ∷ widths) e most = absurd (omega arith)
sum_below (p ∷ pieces) [] e most = absurd (omega arith)
sum_below (p ∷ pieces) (w ∷ widths) e most =
    omega (
      arith,
      most 0 (omega arith),
      sum_by-cons longest p pieces,
      sum_by-cons (λ (x : ℕ). x) w widths,
      sum_below pieces widths (omega arith) (λ k lt. most (suc k) (omega arith)),
    )

-- ---- counts

module _ (w : Widths) (counted : AreCounted w) where
  -- before the first piece there is none
  pub count_none : changed_before w 0 ≡ 0
  count_none = omega (arith, counted.none, counted.start 0 (omega arith))

  -- counts rise
  rises : (i d : ℕ) → i + d ≤ length w.sums → changed_before w i ≤ changed_before w (i + d)
  rises i zero within = let e : i + 0 ≡ i = omega arith in omega (arith, ap (changed_before w) e)
  rises i (suc d) within =
      let e : i + suc d ≡ i + d + 1 = omega arith in
      omega (arith, rises i d (omega arith), ap (changed_before w) e, (counted.rise (i + d) (omega arith)).0)

  pub rise_between : (i j : ℕ) → i ≤ j → j ≤ length w.sums → changed_before w i ≤ changed_before w j
  rise_between i j le within =
      let e : i + (j - i) ≡ j = omega arith in
      omega (arith, rises i (j - i) (omega arith), ap (changed_before w) e)

  -- by no more than one a piece
  pub count_most : (k : ℕ) → k ≤ length w.sums → changed_before w k ≤ k
  count_most zero le = omega (arith, count_none)
  count_most (suc k) le =
      let e : suc k ≡ k + 1 = omega arith in
      omega (arith, count_most k (omega arith), ap (changed_before w) e, (counted.rise k (omega arith)).1)

  -- where two are the same, so are all between
  pub same_between : (i j k : ℕ) → changed_before w i ≡ changed_before w j → i ≤ k → k < j → j ≤ length w.sums → changed_before w k ≡ changed_before w (k + 1)
  same_between i j k same ge lt within =
      omega (arith, same, rise_between i k ge (omega arith), (counted.rise k (omega arith)).0, rise_between (k + 1) j (omega arith) within)

  -- the count of a block is that of its first piece
  pub count_block : (b : ℕ) → b * block_size ≤ length w.sums → slice_index w.changes.items b ≡ changed_before w (b * block_size)
  count_block b le =
      let e : b * block_size / block_size ≡ b = omega arith in
      omega (arith, ap (slice_index w.changes.items) e, counted.start b le)

  -- up to the end of a block no more are counted than before the next one
  count_until : (b k : ℕ) → b ≤ length w.sums / block_size → k ≤ (b + 1) * block_size → k ≤ length w.sums → changed_before w k ≤ slice_index w.changes.items (b + 1)
  count_until b k in_blocks le within = elim (cases_lt b (length w.sums / block_size)) [
    | inl before ↦ omega (arith, count_block (b + 1) (omega arith), rise_between k ((b + 1) * block_size) le (omega arith))
    | inr last ↦
        let e : b + 1 ≡ length w.sums / block_size + 1 = omega arith in
        omega (arith, rise_between k (length w.sums) within (omega arith), counted.total, ap (slice_index w.changes.items) e)
  ]

  -- if no piece of blocks changed among which are those of a piece and of its target, the piece is untouched
  pub untouched : (p : Piece) (low high k : ℕ) → k < length w.sums → target p ≤ length w.sums → high ≤ length w.sums / block_size
      → low ≤ k / block_size → k / block_size ≤ high → low ≤ target p / block_size → target p / block_size ≤ high
      → IsStill w.changes.items low high → IsUntouched w p k
  untouched p low high k in_k in_t in_high low_k high_k low_t high_t still =
      let t : ℕ = target p in
      let from : changed_before w (low * block_size) ≤ changed_before w (min t k) = rise_between (low * block_size) (min t k) (omega arith) (omega arith) in
      let on : changed_before w (min t k) ≤ changed_before w (max t (k + 1)) = rise_between (min t k) (max t (k + 1)) (omega arith) (omega arith) in
      let until = count_until high (max t (k + 1)) in_high (omega arith) (omega arith) in
      omega (arith, still, count_block low (omega arith), from, on, until)

-- ---- pieces

-- a piece that takes as many bytes has the same form
pub same_form : (p : Piece) (size size' at at' : ℕ) → IsForm p size → IsForm p size' → width p size at ≡ width p size' at' → size ≡ size'
same_form (Fixed n) size size' at at' h h' e = e
same_form (WithOthers n) size size' at at' h h' e = e
same_form (Align alignment) size size' at at' h h' e = h ∙ sym h'
same_form (Branch to short) size size' at at' h h' e = e
same_form (Jump to) size size' at at' h h' e = e

-- the addresses are those at the sizes
pub placed_addresses : (pieces : List Piece) (sizes : List ℕ) (w : Widths) → ArePlaced pieces sizes w → addresses_in w ≡ addresses_of (slice_index w.starts.items 0) pieces sizes
placed_addresses pieces sizes w placed =
    let text = slice_index w.starts.items 0 in
    ap (addresses_by text) placed.sums ∙ by_widths text pieces sizes

pub placed_long : (pieces : List Piece) (sizes : List ℕ) (w : Widths) → ArePlaced pieces sizes w → length w.sums ≡ length pieces
placed_long pieces sizes w placed =
    ap length placed.sums ∙ widths_count (slice_index w.starts.items 0) pieces sizes (length_forms pieces sizes placed.forms)

-- the bytes of each piece are those at its address
pub placed_width : (pieces : List Piece) (sizes : List ℕ) (w : Widths) (k : ℕ) → ArePlaced pieces sizes w → k < length pieces
    → slice_index w.sums k ≡ width (nth_piece pieces k) (slice_index sizes k) (slice_index (addresses_of (slice_index w.starts.items 0) pieces sizes) k)
placed_width pieces sizes w k placed lt =
    ap (λ l. slice_index l k) placed.sums ∙ width_at (slice_index w.starts.items 0) pieces sizes k (length_forms pieces sizes placed.forms) lt

module _ (pieces : List Piece) (old sizes : List ℕ) (w w' : Widths) (targets : All (λ p. target p ≤ length pieces) pieces) (before : ArePlaced pieces old w) (after : ArePlaced pieces sizes w')
    (fit : (k : ℕ) → k < length pieces → slice_index sizes k ≡ slice_index old k → block_fits (addresses_in w) pieces old k ≡ true)
    (same : (k : ℕ) → k < length pieces → changed_before w' k ≡ changed_before w' (k + 1) → slice_index w'.sums k ≡ slice_index w.sums k) where
  -- pieces that take as many bytes as before leave the next address as far away
  same_step : (m : ℕ) → m < length pieces → changed_before w' m ≡ changed_before w' (m + 1) → IsSameStep (addresses_in w) (addresses_in w') m
  same_step m lt e =
      omega (
        arith,
        same m lt e,
        by_next (slice_index w.starts.items 0) w.sums m (omega (arith, lt, placed_long pieces old w before)),
        by_next (slice_index w'.starts.items 0) w'.sums m (omega (arith, lt, placed_long pieces sizes w' after)),
      )

  -- a piece that is untouched after a round fits, since it did before
  pub still_fits : (k : ℕ) → k < length pieces → IsUntouched w' (nth_piece pieces k) k → block_fits (addresses_in w') pieces sizes k ≡ true
  still_fits k lt untouched =
      let p = nth_piece pieces k in
      let t : ℕ = target p in
      let a = addresses_in w in
      let a' = addresses_in w' in
      let long = placed_long pieces sizes w' after in
      let in_t : t ≤ length pieces = targets k (Fixed 0) lt in
      let unchanged = λ (m : ℕ) (ge : min t k ≤ m) (below : m < max t (k + 1)).
      same_between w' after.counted (min t k) (max t (k + 1)) m untouched ge below (omega (arith, long, in_t, lt)) in
      let width_same = placed_width pieces sizes w' k after lt in
      let form : slice_index sizes k ≡ slice_index old k =
      same_form p (slice_index sizes k) (slice_index old k) _ _ (form_at pieces sizes k (Fixed 0) lt after.forms) (form_at pieces old k (Fixed 0) lt before.forms)
      (sym width_same ∙ same k lt (unchanged k (omega arith) (omega arith)) ∙ placed_width pieces old w k before lt) in
      let held : form_reaches_at a k p (slice_index sizes k) ≡ true = ap (form_reaches_at a k p) form ∙ fit k lt form in
      let way : slice_index a' t + slice_index a k ≡ slice_index a t + slice_index a' k = elim (cases_lt t k) [
        | inl back ↦ omega (arith, way_between a a' t k (omega arith) (λ m ge below. same_step m (omega arith) (unchanged m (omega arith) (omega arith))))
        | inr on ↦ way_between a a' k t on (λ m ge below. same_step m (omega (arith, in_t)) (unchanged m (omega arith) (omega arith)))
      ] in
      still_holds p (slice_index sizes k) (slice_index a k) (slice_index a t) (slice_index a' k) (slice_index a' t) way held
