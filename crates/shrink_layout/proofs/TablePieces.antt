-- Pieces of which some became jumps through the table. The sizes without the table, with two bytes for each of these jumps, fit with the table
-- too, since no way is longer. So the least sizes with the table are no larger, and the text is shorter by two bytes for each (`table_pays`).
use Rattle.std.proofs.Common.{◌≡◌, ℕ, zero, suc, ◌+◌, ◌*◌, ◌%◌, ◌<◌, ◌≤◌, All, Bool, true, false, cond, List, [], ◌∷◌, length, refl, sym, ap, arith, subst}
use Rattle.std.specs.Prelude.{slice_index}
use Rattle.std.proofs.lemmas.Bool.{and_from, and_parts}
use Rattle.std.proofs.lemmas.List.Elements.{All-cons, All-head, All-tail, All-weaker}
use Rattle.shrink_layout.specs.declared.piece.Piece.{Piece}
use Rattle.shrink_layout.specs.declared.piece.Piece.TheVariants.{Fixed, WithOthers, Align, Branch, Jump}
use Rattle.shrink_layout.specs.Forms.{IsEvenPiece, form_reaches, target, width}
use Rattle.shrink_layout.specs.Layout.{Fits, IsLayout, addresses_of, fit_from, form_reaches_at}
use Rattle.shrink_layout.specs.Least.{AreForms, IsTight}
use Rattle.shrink_layout.proofs.AddressLaws.{even_address, first_address, layout_forms}
use Rattle.shrink_layout.proofs.Distances.{Nearer, holds_nearer}
use Rattle.shrink_layout.proofs.FormLaws.{even_after, tight_width}
use Rattle.shrink_layout.proofs.LeastLaws.{Below, closer, nearer, round_below}

-- ---- marks

-- the pieces in which the marked ones are jumps through the table
abbrev pub tabled : List Bool → List Piece → List Piece
tabled [] pieces = pieces
tabled (mark ∷ marks) [] = []
tabled (mark ∷ marks) (p ∷ pieces) = cond mark (WithOthers 2) p ∷ tabled marks pieces

-- the number of marks
abbrev pub marked : List Bool → ℕ
marked [] = 0
marked (mark ∷ marks) = cond mark 1 0 + marked marks

-- each piece has a mark or none, and the marked ones took four bytes
abbrev pub AreSites : List Bool → List Piece → List ℕ → Type 0
AreSites [] [] sizes = Unit {0}
AreSites [] (p ∷ pieces) sizes = ⊥
AreSites (mark ∷ marks) [] sizes = ⊥
AreSites (mark ∷ marks) (p ∷ pieces) [] = ⊥
AreSites (mark ∷ marks) (p ∷ pieces) (size ∷ sizes) = (mark ≡ true → size ≡ 4) × AreSites marks pieces sizes

-- what a branch or a jump leads to doesn't stand in front of all code
abbrev pub IsPastFront : Piece → Type 0
IsPastFront (Fixed size) = Unit {0}
IsPastFront (WithOthers size) = Unit {0}
IsPastFront (Align alignment) = Unit {0}
IsPastFront (Branch to short) = 0 < to
IsPastFront (Jump to) = 0 < to

-- the sizes in which the marked pieces take two bytes
abbrev tabled_sizes : List Bool → List ℕ → List ℕ
tabled_sizes [] sizes = sizes
tabled_sizes (mark ∷ marks) [] = []
tabled_sizes (mark ∷ marks) (size ∷ sizes) = cond mark 2 size ∷ tabled_sizes marks sizes

pub length-tabled : (marks : List Bool) (pieces : List Piece) → length (tabled marks pieces) ≡ length pieces
length-tabled [] pieces = refl
length-tabled (mark ∷ marks) [] = refl
length-tabled (mark ∷ marks) (p ∷ pieces) = ap suc (length-tabled marks pieces)

-- what holds of each piece and of a jump through the table
tabled_all : (P : Piece → Type 0) (marks : List Bool) (pieces : List Piece) → P (WithOthers 2) → All P pieces → All P (tabled marks pieces)
tabled_all P [] pieces one all = all
tabled_all P (mark ∷ marks) [] one all = all
tabled_all P (mark ∷ marks) (p ∷ pieces) one all =
    All-cons P (cond mark (WithOthers 2) p) (tabled marks pieces) (by mark (All-head P p pieces all)) (tabled_all P marks pieces one (All-tail P p pieces all))
  where
    by : (b : Bool) → P p → P (cond b (WithOthers 2) p)
    by true own = one
    by false own = own

-- ---- sizes

-- the sizes with the table's jumps are forms
tabled_forms : (marks : List Bool) (pieces : List Piece) (sizes : List ℕ) → AreSites marks pieces sizes → AreForms pieces sizes → AreForms (tabled marks pieces) (tabled_sizes marks sizes)
tabled_forms [] pieces sizes sites h = h
tabled_forms (mark ∷ marks) [] sizes sites h = absurd sites
tabled_forms (mark ∷ marks) (p ∷ pieces) [] sites h = absurd sites
tabled_forms (true ∷ marks) (p ∷ pieces) (size ∷ sizes) sites h = (refl, tabled_forms marks pieces sizes sites.1 h.1)
tabled_forms (false ∷ marks) (p ∷ pieces) (size ∷ sizes) sites h = (h.0, tabled_forms marks pieces sizes sites.1 h.1)

below_same : (sizes : List ℕ) → Below sizes sizes
below_same [] = tt
below_same (size ∷ sizes) = (omega arith, below_same sizes)

-- none is larger
tabled_below : (marks : List Bool) (pieces : List Piece) (sizes : List ℕ) → AreSites marks pieces sizes → Below (tabled_sizes marks sizes) sizes
tabled_below [] pieces sizes sites = below_same sizes
tabled_below (mark ∷ marks) [] sizes sites = absurd sites
tabled_below (mark ∷ marks) (p ∷ pieces) [] sites = absurd sites
tabled_below (true ∷ marks) (p ∷ pieces) (size ∷ sizes) sites = (omega (arith, sites.0 refl), tabled_below marks pieces sizes sites.1)
tabled_below (false ∷ marks) (p ∷ pieces) (size ∷ sizes) sites = (omega arith, tabled_below marks pieces sizes sites.1)

-- ---- what fits

-- a piece fits if it did and its distance became no longer; a piece without target fits anywhere
holds_still : (p : Piece) (size f' t' f t : ℕ) → f' % 2 ≡ 0 → t' % 2 ≡ 0 → (0 < target p → Nearer f' t' f t) → IsPastFront p → form_reaches p size f t ≡ true → form_reaches p size f' t' ≡ true
holds_still (Fixed n) size f' t' f t e e' near past fits = refl
holds_still (WithOthers n) size f' t' f t e e' near past fits = refl
holds_still (Align alignment) size f' t' f t e e' near past fits = refl
holds_still (Branch to short) size f' t' f t e e' near past fits = holds_nearer (Branch to short) size f' t' f t e e' (near past) fits
holds_still (Jump to) size f' t' f t e e' near past fits = holds_nearer (Jump to) size f' t' f t e e' (near past) fits

-- all pieces that are counted from k on fit; a' and a are the addresses with the table and without, and n counts all pieces
tabled_fit :
    (a' a : List ℕ) (n k : ℕ) (marks : List Bool) (pieces : List Piece) (sizes : List ℕ) → ((j : ℕ) → slice_index a' j % 2 ≡ 0)
    → ((i t : ℕ) → 0 < i → 0 < t → i ≤ n → t ≤ n → Nearer (slice_index a' i) (slice_index a' t) (slice_index a i) (slice_index a t))
    → 0 < k → k + length pieces ≤ n → All (λ p. target p ≤ n) pieces → All IsPastFront pieces → AreSites marks pieces sizes → fit_from a k pieces sizes ≡ true
    → fit_from a' k (tabled marks pieces) (tabled_sizes marks sizes) ≡ true
tabled_fit a' a n k [] [] sizes even near some within targets past sites fits = refl
tabled_fit a' a n k [] (p ∷ pieces) sizes even near some within targets past sites fits = absurd sites
tabled_fit a' a n k (mark ∷ marks) [] sizes even near some within targets past sites fits = absurd sites
tabled_fit a' a n k (mark ∷ marks) (p ∷ pieces) [] even near some within targets past sites fits = absurd sites
tabled_fit a' a n k (true ∷ marks) (p ∷ pieces) (size ∷ sizes) even near some within targets past sites fits =
    let parts = and_parts (form_reaches_at a k p size) (fit_from a (k + 1) pieces sizes) fits in
    tabled_fit a' a n (k + 1) marks pieces sizes even near (omega arith) (omega arith) (All-tail (λ q. target q ≤ n) p pieces targets) (All-tail IsPastFront p pieces past) sites.1 parts.1
tabled_fit a' a n k (false ∷ marks) (p ∷ pieces) (size ∷ sizes) even near some within targets past sites fits =
    let parts = and_parts (form_reaches_at a k p size) (fit_from a (k + 1) pieces sizes) fits in
    let in_target : target p ≤ n = All-head (λ q. target q ≤ n) p pieces targets in
    let here : form_reaches_at a' k p size ≡ true = holds_still p size _ _ _ _ (even k) (even (target p)) (λ has. near k (target p) some has (omega arith) in_target) (All-head IsPastFront p pieces past) parts.0 in
    and_from _ _ here (tabled_fit a' a n (k + 1) marks pieces sizes even near (omega arith) (omega arith) (All-tail (λ q. target q ≤ n) p pieces targets) (All-tail IsPastFront p pieces past) sites.1 parts.1)

-- each jump through the table saves two bytes
tabled_end :
    (low high : ℕ) (marks : List Bool) (pieces : List Piece) (sizes : List ℕ) → low % 2 ≡ 0 → high % 2 ≡ 0 → All IsEvenPiece pieces → All IsTight pieces
    → AreForms pieces sizes → AreSites marks pieces sizes
    → slice_index (addresses_of low (tabled marks pieces) (tabled_sizes marks sizes)) (length pieces) + high + 2 * marked marks ≡ slice_index (addresses_of high pieces sizes) (length pieces) + low
tabled_end low high [] [] sizes e e' even tight h sites = omega arith
tabled_end low high [] (p ∷ pieces) sizes e e' even tight h sites = absurd sites
tabled_end low high (mark ∷ marks) [] sizes e e' even tight h sites = absurd sites
tabled_end low high (mark ∷ marks) (p ∷ pieces) [] e e' even tight h sites = absurd sites
tabled_end low high (true ∷ marks) (p ∷ pieces) (size ∷ sizes) e e' even tight h sites =
    let is_even = All-head IsEvenPiece p pieces even in
    let w = tight_width p size high (All-head IsTight p pieces tight) h.0 e' in
    let rest = tabled_end (low + 2) (high + width p size high) marks pieces sizes (omega arith) (even_after p size high is_even h.0 e') (All-tail IsEvenPiece p pieces even) (All-tail IsTight p pieces tight) h.1 sites.1 in
    omega (arith, rest, w, sites.0 refl)
tabled_end low high (false ∷ marks) (p ∷ pieces) (size ∷ sizes) e e' even tight h sites =
    let is_even = All-head IsEvenPiece p pieces even in
    let is_tight = All-head IsTight p pieces tight in
    let w = tight_width p size low is_tight h.0 e in
    let w' = tight_width p size high is_tight h.0 e' in
    let rest = tabled_end (low + width p size low) (high + width p size high) marks pieces sizes (even_after p size low is_even h.0 e) (even_after p size high is_even h.0 e') (All-tail IsEvenPiece p pieces even) (All-tail IsTight p pieces tight) h.1 sites.1 in
    omega (arith, rest, w, w')

-- ---- the text with the table

module _
    (text front : ℕ) (marks : List Bool) (pieces : List Piece) (sizes : List ℕ) (e : text % 2 ≡ 0) (e' : front % 2 ≡ 0)
    (even : All IsEvenPiece pieces) (tight : All IsTight pieces) (targets : All (λ p. target p ≤ length pieces + 1) pieces)
    (past : All IsPastFront pieces) (is : IsLayout text (Fixed 0 ∷ pieces) (0 ∷ sizes)) (sites : AreSites marks pieces sizes) where
  abbrev with_table : List Piece
  with_table = Fixed front ∷ tabled marks pieces

  abbrev other : List ℕ
  other = tabled_sizes marks sizes

  forms : AreForms pieces sizes
  forms = (layout_forms text (Fixed 0 ∷ pieces) (0 ∷ sizes) is).1

  other_forms : AreForms (tabled marks pieces) other
  other_forms = tabled_forms marks pieces sizes sites forms

  other_even : All IsEvenPiece (tabled marks pieces)
  other_even = tabled_all IsEvenPiece marks pieces refl even

  other_tight : All IsTight (tabled marks pieces)
  other_tight = tabled_all IsTight marks pieces tt tight

  -- what stands in front has no target, so ways are those between the pieces behind it
  behind_front : (i t : ℕ) → 0 < i → 0 < t → i ≤ length pieces + 1 → t ≤ length pieces + 1
      → Nearer (slice_index (addresses_of text with_table (front ∷ other)) i) (slice_index (addresses_of text with_table (front ∷ other)) t)
      (slice_index (addresses_of text (Fixed 0 ∷ pieces) (0 ∷ sizes)) i) (slice_index (addresses_of text (Fixed 0 ∷ pieces) (0 ∷ sizes)) t)
  behind_front zero t some some' in_i in_t = absurd (omega arith)
  behind_front (suc i) zero some some' in_i in_t = absurd (omega arith)
  behind_front (suc i) (suc t) some some' in_i in_t =
      let same = length-tabled marks pieces in
      nearer (text + front) (text + 0) (tabled marks pieces) pieces other sizes other_even other_tight even tight (omega arith) (omega arith) (sym same) other_forms forms
      (tabled_below marks pieces sizes sites) i t (omega (arith, same)) (omega (arith, same))

  all_even : All IsEvenPiece with_table
  all_even = All-cons IsEvenPiece (Fixed front) (tabled marks pieces) e' other_even

  all_tight : All IsTight with_table
  all_tight = All-cons IsTight (Fixed front) (tabled marks pieces) tt other_tight

  all_forms : AreForms with_table (front ∷ other)
  all_forms = (refl, other_forms)

  all_targets : All (λ p. target p ≤ length with_table) with_table
  all_targets =
      let same = length-tabled marks pieces in
      All-cons (λ p. target p ≤ length with_table) (Fixed front) (tabled marks pieces) (omega arith)
      (All-weaker (λ p. target p ≤ length pieces + 1) (λ p. target p ≤ length with_table) (λ p le. omega (arith, same)) (tabled marks pieces)
      (tabled_all (λ p. target p ≤ length pieces + 1) marks pieces (omega arith) targets))

  -- the sizes without the table, with two bytes at the marks, fit with it
  all_fit_still : Fits text with_table (front ∷ other)
  all_fit_still =
      tabled_fit (addresses_of text with_table (front ∷ other)) (addresses_of text (Fixed 0 ∷ pieces) (0 ∷ sizes)) (length pieces + 1) 1 marks pieces sizes
      (even_address text with_table (front ∷ other) all_even all_forms e) behind_front (omega arith) (omega arith) targets past sites is.fits

  -- the text with the table is no longer than that without it, but for the bytes in front, and less two bytes for each mark
  pub table_pays : (new : List ℕ) → IsLayout text with_table new
      → slice_index (addresses_of text with_table new) (length with_table) + 2 * marked marks
      ≤ slice_index (addresses_of text (Fixed 0 ∷ pieces) (0 ∷ sizes)) (length (Fixed 0 ∷ pieces)) + front
  table_pays new is_new =
      let same = length-tabled marks pieces in
      let least = round_below text with_table is_new.rounds (front ∷ other) e all_even all_tight all_targets all_forms all_fit_still in
      let below : Below new (front ∷ other) = subst (λ s. Below s (front ∷ other)) (sym is_new.is) least in
      let ends = closer text text with_table with_table new (front ∷ other) all_even all_tight all_even all_tight e e (layout_forms text with_table new is_new) all_forms below 0 (length with_table) (omega arith) (omega arith) in
      let first = first_address text with_table new in
      let saved = tabled_end (text + front) (text + 0) marks pieces sizes (omega arith) (omega arith) even tight forms sites in
      let at : slice_index (addresses_of (text + front) (tabled marks pieces) other) (length (tabled marks pieces)) ≡ slice_index (addresses_of (text + front) (tabled marks pieces) other) (length pieces) =
      ap (slice_index (addresses_of (text + front) (tabled marks pieces) other)) same in
      omega (arith, ends, first, saved, at)
