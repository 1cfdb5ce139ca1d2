-- The loops that test the pieces of a block, and the blocks.
use Rattle.std.proofs.Common.{◌≡◌, ℕ, ◌+◌, ◌*◌, ◌/◌, ◌<◌, ◌≤◌, ◌⊎◌, Bool, true, false, List, All, length, set, get_or, get_or-set_same, get_or-set_other, length-set, sym, ap, ◌∙◌, subst, arith, inl, inr}
use Rattle.std.specs.Prelude.{slice_index}
use Rattle.std.proofs.lemmas.Bool.{cases_lt, cases_Bool, cond-true, cond-false, true≢false}
use Rattle.std.proofs.lemmas.List.Elements.{All-set}
use Rattle.shrink_layout.specs.declared.piece.Piece.{Piece}
use Rattle.shrink_layout.specs.Invariants.Blocks.{HaveGrownIn, IsNear, IsNearAt, IsSpanned, IsStill, IsUnchanged, block_fits, block_size, grown_size, nth_piece}
use Rattle.shrink_layout.specs.Forms.{form_reaches, longer, target}
use Rattle.shrink_layout.specs.Layout.{fit_from, grown_from, form_reaches_at}
use Rattle.shrink_layout.proofs.GrownLaws.{fit_is, fit_is_not, grown_is}

-- after a test, the pieces of blocks of which none grew fit
abbrev pub AreTested : List ℕ → List Piece → List ℕ → List Bool → List ℕ → List ℕ → Type 0
AreTested addresses pieces sizes grown lows highs =
    (k : ℕ) → k < length pieces
    → (IsUnchanged grown (k / block_size) → block_fits addresses pieces sizes k ≡ true) × IsNearAt pieces sizes lows highs k

-- before the next, those of blocks near which nothing changed do
abbrev pub OthersFit : List ℕ → List Piece → List ℕ → List ℕ → List ℕ → List ℕ → Type 0
OthersFit addresses pieces sizes changes lows highs =
    (k : ℕ) → k < length pieces
    → IsStill changes (slice_index lows (k / block_size)) (slice_index highs (k / block_size))
    → (block_fits addresses pieces sizes k ≡ true) × IsNearAt pieces sizes lows highs k

-- the pieces of the blocks before this one, those before number n, have the sizes of the round
pub record AreGrown (a : List ℕ) (pieces : List Piece) (old sizes old_lows lows old_highs highs : List ℕ) (grown : List Bool) (block n : ℕ) (fitted : Bool) : Type 0 where
  pub same : length sizes ≡ length old
  pub blocks : length grown ≡ length pieces / block_size + 1
  pub lows_blocks : length lows ≡ length grown
  pub highs_blocks : length highs ≡ length grown
  pub low : All (λ b. b < length grown) lows
  pub high : All (λ b. b < length grown) highs
  pub rest : (k : ℕ) → n ≤ k → slice_index sizes k ≡ slice_index old k
  pub rest_lows : (b : ℕ) → block ≤ b → slice_index lows b ≡ slice_index old_lows b
  pub rest_highs : (b : ℕ) → block ≤ b → slice_index highs b ≡ slice_index old_highs b
  pub done : (k : ℕ) → k < n → slice_index sizes k ≡ grown_size a k (nth_piece pieces k) (slice_index old k)
  pub fit : fitted ≡ true → (k : ℕ) → k < n → form_reaches_at a k (nth_piece pieces k) (slice_index old k) ≡ true
  pub unfit : fitted ≡ false → (k : ℕ) × (k < length pieces) × (form_reaches_at a k (nth_piece pieces k) (slice_index old k) ≡ false)
  pub tested : (k : ℕ) → k < n → (IsUnchanged grown (k / block_size) → form_reaches_at a k (nth_piece pieces k) (slice_index old k) ≡ true)
      × IsNear (nth_piece pieces k) (slice_index sizes k) (k / block_size) (slice_index lows (k / block_size)) (slice_index highs (k / block_size))

-- ---- one piece

-- what a round made of the piece with number k
pub record IsTested (a : List ℕ) (pieces : List Piece) (old sizes sizes' : List ℕ) (k : ℕ) (fitted fitted' : Bool) : Type 0 where
  pub same : length sizes' ≡ length sizes
  pub other : (j : ℕ) → (j ≡ k → ⊥) → slice_index sizes' j ≡ slice_index sizes j
  pub here : slice_index sizes' k ≡ grown_size a k (nth_piece pieces k) (slice_index old k)
  pub fit : fitted' ≡ true → (fitted ≡ true) × (form_reaches_at a k (nth_piece pieces k) (slice_index old k) ≡ true)
  pub unfit : fitted' ≡ false → (fitted ≡ false) ⊎ (form_reaches_at a k (nth_piece pieces k) (slice_index old k) ≡ false)

-- the tested piece fits
pub test_fits : (a : List ℕ) (pieces : List Piece) (old sizes sizes' : List ℕ) (k : ℕ) (fitted fitted' : Bool) → slice_index sizes k ≡ slice_index old k
    → form_reaches_at a k (nth_piece pieces k) (slice_index sizes k) ≡ true → sizes' ≡ sizes → fitted' ≡ fitted → IsTested a pieces old sizes sizes' k fitted fitted'
test_fits a pieces old sizes sizes' k fitted fitted' kept reached same_sizes same_fitted =
    let held : form_reaches_at a k (nth_piece pieces k) (slice_index old k) ≡ true = ap (form_reaches_at a k (nth_piece pieces k)) (sym kept) ∙ reached in
    record {
      same = ap length same_sizes;
      other = λ j ne. ap (λ l. slice_index l j) same_sizes;
      here = ap (λ l. slice_index l k) same_sizes ∙ kept ∙ sym (cond-true _ _ _ held);
      fit = λ y. (sym same_fitted ∙ y, held);
      unfit = λ y. inl (sym same_fitted ∙ y);
    }

-- the tested piece doesn't fit, and grows
pub test_grows : (a : List ℕ) (pieces : List Piece) (old sizes sizes' : List ℕ) (k : ℕ) (fitted fitted' : Bool) → k < length sizes → slice_index sizes k ≡ slice_index old k
    → form_reaches_at a k (nth_piece pieces k) (slice_index sizes k) ≡ false → sizes' ≡ set sizes k (longer (nth_piece pieces k) (slice_index sizes k)) → fitted' ≡ false → IsTested a pieces old sizes sizes' k fitted fitted'
test_grows a pieces old sizes sizes' k fitted fitted' within kept misses written unfit =
    let missed : form_reaches_at a k (nth_piece pieces k) (slice_index old k) ≡ false = ap (form_reaches_at a k (nth_piece pieces k)) (sym kept) ∙ misses in
    record {
      same = ap length written ∙ length-set sizes k _;
      other = λ j ne. ap (λ l. slice_index l j) written ∙ get_or-set_other sizes k j _ 0 ne;
      here = ap (λ l. slice_index l k) written ∙ get_or-set_same sizes k _ 0 within ∙ ap (longer (nth_piece pieces k)) kept ∙ sym (cond-false _ _ _ missed);
      fit = λ y. absurd (true≢false (sym y ∙ unfit));
      unfit = λ y. inr missed;
    }

-- between numbers that lie farther apart it lies all the more
wider : (p : Piece) (size size' low high low' high' : ℕ) → size' ≡ size → low' ≤ low → high ≤ high' → IsSpanned p size low high → IsSpanned p size' low' high'
wider p size size' low high low' high' same le ge (inl all) = inl (λ from to. ap (λ s. form_reaches p s from to) same ∙ all from to)
wider p size size' low high low' high' same le ge (inr between) = inr (omega (arith, between.0), omega (arith, between.1))

-- one piece more was tested
pub tested_more : (a : List ℕ) (pieces : List Piece) (old sizes sizes' : List ℕ) (first k : ℕ) (fitted fitted' : Bool) (low high low' high' : ℕ) → first ≤ k
    → HaveGrownIn a pieces old sizes first k fitted low high → IsTested a pieces old sizes sizes' k fitted fitted'
    → IsSpanned (nth_piece pieces k) (slice_index sizes' k) low' high' → low' ≤ low → high ≤ high' → high' ≤ length pieces
    → HaveGrownIn a pieces old sizes' first (k + 1) fitted' low' high'
tested_more a pieces old sizes sizes' first k fitted fitted' low high low' high' from_first now test spanned le ge most = record {
  same = test.same ∙ now.same;
  before = λ j lt. test.other j (λ e. omega (arith, e, lt, from_first)) ∙ now.before j lt;
  after = λ j le'. test.other j (λ e. omega (arith, e, le')) ∙ now.after j (omega (arith, le'));
  grown = λ j ge' lt. elim (cases_lt j k) [
    | inl done ↦ test.other j (λ e. omega (arith, e, done)) ∙ now.grown j ge' done
    | inr new ↦ let e : k ≡ j = omega (arith, new, lt) in subst (λ m. slice_index sizes' m ≡ grown_size a m (nth_piece pieces m) (slice_index old m)) e test.here
  ];
  fit = λ y j ge' lt. elim (cases_lt j k) [
    | inl done ↦ now.fit (test.fit y).0 j ge' done
    | inr new ↦ let e : k ≡ j = omega (arith, new, lt) in subst (λ m. form_reaches_at a m (nth_piece pieces m) (slice_index old m) ≡ true) e (test.fit y).1
  ];
  unfit = λ y. elim (test.unfit y) [
    | inl before ↦ let found = now.unfit before in (found.0, found.1, omega (arith, found.2), found.3)
    | inr here ↦ (k, from_first, omega arith, here)
  ];
  spanned = λ j ge' lt. elim (cases_lt j k) [
    | inl done ↦ wider (nth_piece pieces j) (slice_index sizes j) (slice_index sizes' j) low high low' high' (test.other j (λ e. omega (arith, e, done))) le ge (now.spanned j ge' done)
    | inr new ↦ let e : k ≡ j = omega (arith, new, lt) in subst (λ m. IsSpanned (nth_piece pieces m) (slice_index sizes' m) low' high') e spanned
  ];
  low_most = omega (arith, now.low_most, le);
  high_least = omega (arith, now.high_least, ge);
  high_most = most;
}

-- ---- one block

-- what is near stays so
near_same : (p : Piece) (size size' block low low' high high' : ℕ) → size ≡ size' → low ≡ low' → high ≡ high' → IsNear p size block low high → IsNear p size' block low' high'
near_same p size size' block low low' high high' e e' e'' near = subst (λ s. IsNear p s block low' high') e (subst (λ l. IsNear p size block l high') e' (subst (λ h. IsNear p size block low h) e'' near))

-- what lies between two numbers lies in the blocks of these or between
near_spanned : (p : Piece) (size block low high low' high' : ℕ) → low' ≡ low / block_size → high' ≡ high / block_size → low / block_size ≤ block → block ≤ high / block_size → IsSpanned p size low high → IsNear p size block low' high'
near_spanned p size block low high low' high' e e' le ge (inl all) = (omega (arith, e, le), omega (arith, e', ge), inl all)
near_spanned p size block low high low' high' e e' le ge (inr between) = (omega (arith, e, le), omega (arith, e', ge), inr (omega (arith, e, between.0), omega (arith, e', between.1)))

-- nothing changed near the block, so each of its pieces fits
pub block_stays : (a : List ℕ) (pieces : List Piece) (old sizes old_lows lows old_highs highs changes : List ℕ) (grown grown' : List Bool) (block n n' : ℕ) (fitted : Bool)
    → block < length grown → n ≡ block_size * block → n' ≤ length pieces → n ≤ n' → n' ≤ n + block_size
    → AreGrown a pieces old sizes old_lows lows old_highs highs grown block n fitted → OthersFit a pieces old changes old_lows old_highs
    → IsStill changes (slice_index lows block) (slice_index highs block) → grown' ≡ set grown block false
    → AreGrown a pieces old sizes old_lows lows old_highs highs grown' (block + 1) n' fitted
block_stays a pieces old sizes old_lows lows old_highs highs changes grown grown' block n n' fitted in_grown start within ge le now others still written =
    let long : length grown' ≡ length grown = ap length written ∙ length-set grown block false in
    let low_is = now.rest_lows block (omega arith) in
    let high_is = now.rest_highs block (omega arith) in
    let still_old : IsStill changes (slice_index old_lows block) (slice_index old_highs block) =
    ap (slice_index changes) (sym low_is) ∙ still ∙ ap (λ h. slice_index changes (h + 1)) high_is in
    let fits = λ (k : ℕ) (from_n : n ≤ k) (lt : k < n').
    let at : block ≡ k / block_size = omega (arith, start, from_n, lt, le) in
    others k (omega (arith, lt, within)) (subst (λ b. IsStill changes (slice_index old_lows b) (slice_index old_highs b)) at still_old) in
    record {
      same = now.same;
      blocks = long ∙ now.blocks;
      lows_blocks = now.lows_blocks ∙ sym long;
      highs_blocks = now.highs_blocks ∙ sym long;
      low = λ i d lt. omega (arith, now.low i d lt, long);
      high = λ i d lt. omega (arith, now.high i d lt, long);
      rest = λ k from_n. now.rest k (omega (arith, ge, from_n));
      rest_lows = λ b from_b. now.rest_lows b (omega (arith, from_b));
      rest_highs = λ b from_b. now.rest_highs b (omega (arith, from_b));
      done = λ k lt. elim (cases_lt k n) [
        | inl before ↦ now.done k before
        | inr new ↦ now.rest k new ∙ sym (cond-true _ _ _ (fits k new lt).0)
      ];
      fit = λ y k lt. elim (cases_lt k n) [
        | inl before ↦ now.fit y k before
        | inr new ↦ (fits k new lt).0
      ];
      unfit = now.unfit;
      tested = λ k lt. elim (cases_lt k n) [
        | inl before ↦
            let other : k / block_size ≡ block → ⊥ = λ e. omega (arith, e, start, before) in
            (λ kept. (now.tested k before).0 (sym (ap (λ g. get_or g (k / block_size) false) written ∙ get_or-set_other grown block (k / block_size) false false other) ∙ kept), (now.tested k before).1)
        | inr new ↦
            let at : block ≡ k / block_size = omega (arith, start, new, lt, le) in
            let size_is = now.rest k new in
            let low_at : slice_index old_lows (k / block_size) ≡ slice_index lows (k / block_size) = sym (now.rest_lows (k / block_size) (omega (arith, at))) in
            let high_at : slice_index old_highs (k / block_size) ≡ slice_index highs (k / block_size) = sym (now.rest_highs (k / block_size) (omega (arith, at))) in
            (λ kept. (fits k new lt).0, near_same (nth_piece pieces k) (slice_index old k) (slice_index sizes k) (k / block_size) _ _ _ _ (sym size_is) low_at high_at (fits k new lt).1)
      ];
    }

-- the pieces of the block were tested
pub block_grows : (a : List ℕ) (pieces : List Piece) (old sizes sizes' old_lows lows lows' old_highs highs highs' : List ℕ) (grown grown' : List Bool) (block n n' low high : ℕ) (fitted fitted' block_fitted : Bool)
    → All (λ p. target p ≤ length pieces) pieces
    → block < length grown → n ≡ block_size * block → n' ≤ length pieces → n ≤ n' → n' ≤ n + block_size
    → AreGrown a pieces old sizes old_lows lows old_highs highs grown block n fitted → HaveGrownIn a pieces sizes sizes' n n' block_fitted low high
    → ((b : ℕ) → (b ≡ block → ⊥) → get_or grown' b false ≡ get_or grown b false) → (IsUnchanged grown' block → block_fitted ≡ true) → length grown' ≡ length grown
    → lows' ≡ set lows block (low / block_size) → highs' ≡ set highs block (high / block_size) → (fitted' ≡ true → (fitted ≡ true) × (block_fitted ≡ true)) → (fitted' ≡ false → (fitted ≡ false) ⊎ (block_fitted ≡ false))
    → AreGrown a pieces old sizes' old_lows lows' old_highs highs' grown' (block + 1) n' fitted'
block_grows a pieces old sizes sizes' old_lows lows lows' old_highs highs highs' grown grown' block n n' low high fitted fitted' block_fitted targets in_grown start within ge le now part others_grown kept_here long low_is high_is both either =
    let low_here : slice_index lows' block ≡ low / block_size = ap (λ l. slice_index l block) low_is ∙ get_or-set_same lows block (low / block_size) 0 (omega (arith, now.lows_blocks, in_grown)) in
    let high_here : slice_index highs' block ≡ high / block_size = ap (λ l. slice_index l block) high_is ∙ get_or-set_same highs block (high / block_size) 0 (omega (arith, now.highs_blocks, in_grown)) in
    let low_other = λ (b : ℕ) (ne : b ≡ block → ⊥). ap (λ l. slice_index l b) low_is ∙ get_or-set_other lows block b (low / block_size) 0 ne in
    let high_other = λ (b : ℕ) (ne : b ≡ block → ⊥). ap (λ l. slice_index l b) high_is ∙ get_or-set_other highs block b (high / block_size) 0 ne in
    let in_low : low / block_size < length grown' = omega (arith, part.low_most, part.high_least, part.high_most, now.blocks, long) in
    let in_high : high / block_size < length grown' = omega (arith, part.high_most, now.blocks, long) in
    let less_low : All (λ b. b < length grown') lows = λ i d lt. omega (arith, now.low i d lt, long) in
    let less_high : All (λ b. b < length grown') highs = λ i d lt. omega (arith, now.high i d lt, long) in
    record {
      same = part.same ∙ now.same;
      blocks = long ∙ now.blocks;
      lows_blocks = ap length low_is ∙ length-set lows block (low / block_size) ∙ now.lows_blocks ∙ sym long;
      highs_blocks = ap length high_is ∙ length-set highs block (high / block_size) ∙ now.highs_blocks ∙ sym long;
      low = subst (All (λ b. b < length grown')) (sym low_is) (All-set (λ b. b < length grown') lows block (low / block_size) in_low less_low);
      high = subst (All (λ b. b < length grown')) (sym high_is) (All-set (λ b. b < length grown') highs block (high / block_size) in_high less_high);
      rest = λ k from_n. part.after k from_n ∙ now.rest k (omega (arith, ge, from_n));
      rest_lows = λ b from_b. low_other b (λ e. omega (arith, e, from_b)) ∙ now.rest_lows b (omega (arith, from_b));
      rest_highs = λ b from_b. high_other b (λ e. omega (arith, e, from_b)) ∙ now.rest_highs b (omega (arith, from_b));
      done = λ k lt. elim (cases_lt k n) [
        | inl before ↦ part.before k before ∙ now.done k before
        | inr new ↦ part.grown k new lt ∙ ap (grown_size a k (nth_piece pieces k)) (now.rest k new)
      ];
      fit = λ y k lt. elim (cases_lt k n) [
        | inl before ↦ now.fit (both y).0 k before
        | inr new ↦ ap (form_reaches_at a k (nth_piece pieces k)) (sym (now.rest k new)) ∙ part.fit (both y).1 k new lt
      ];
      unfit = λ y. elim (either y) [
        | inl earlier ↦ now.unfit earlier
        | inr here ↦
            let found = part.unfit here in
            (found.0, omega (arith, found.2, within), ap (form_reaches_at a found.0 (nth_piece pieces found.0)) (sym (now.rest found.0 found.1)) ∙ found.3)
      ];
      tested = λ k lt. elim (cases_lt k n) [
        | inl before ↦
            let other : k / block_size ≡ block → ⊥ = λ e. omega (arith, e, start, before) in
            (λ kept. (now.tested k before).0 (sym (others_grown (k / block_size) other) ∙ kept), near_same (nth_piece pieces k) (slice_index sizes k) (slice_index sizes' k) (k / block_size) _ _ _ _ (sym (part.before k before)) (sym (low_other (k / block_size) other)) (sym (high_other (k / block_size) other)) (now.tested k before).1)
        | inr new ↦
            let at : block ≡ k / block_size = omega (arith, start, new, lt, le) in
            let at' : k / block_size ≡ block = sym at in (
              λ kept. ap (form_reaches_at a k (nth_piece pieces k)) (sym (now.rest k new)) ∙ part.fit (kept_here (subst (IsUnchanged grown') at' kept)) k new lt,
              near_spanned (nth_piece pieces k) (slice_index sizes' k) (k / block_size) low high _ _ (ap (slice_index lows') at' ∙ low_here) (ap (slice_index highs') at' ∙ high_here) (omega (arith, part.low_most, start, at)) (omega (arith, part.high_least, start, at)) (part.spanned k new lt),
            )
      ];
    }

-- ---- all blocks

-- where the pieces of a block were kept, they still have their sizes, and fit
pub kept_fits : (a : List ℕ) (pieces : List Piece) (old sizes : List ℕ) (k : ℕ) → slice_index sizes k ≡ grown_size a k (nth_piece pieces k) (slice_index old k)
    → form_reaches_at a k (nth_piece pieces k) (slice_index old k) ≡ true → slice_index sizes k ≡ slice_index old k
kept_fits a pieces old sizes k is held = is ∙ cond-true _ _ _ held

-- all pieces were tested
pub all_tested : (a : List ℕ) (pieces : List Piece) (old sizes old_lows lows old_highs highs : List ℕ) (grown : List Bool) (block n : ℕ) (fitted : Bool) → n ≡ length pieces
    → AreGrown a pieces old sizes old_lows lows old_highs highs grown block n fitted → AreTested a pieces sizes grown lows highs
all_tested a pieces old sizes old_lows lows old_highs highs grown block n fitted all now k lt =
    let here = now.tested k (omega (arith, all, lt)) in
    let is = now.done k (omega (arith, all, lt)) in
    (λ kept. ap (form_reaches_at a k (nth_piece pieces k)) (kept_fits a pieces old sizes k is (here.0 kept)) ∙ here.0 kept, here.1)

-- the sizes in blocks that didn't grow are as before
pub kept_sizes : (a : List ℕ) (pieces : List Piece) (old sizes old_lows lows old_highs highs : List ℕ) (grown : List Bool) (block n : ℕ) (fitted : Bool) → n ≡ length pieces
    → AreGrown a pieces old sizes old_lows lows old_highs highs grown block n fitted → (k : ℕ) → k < length pieces → IsUnchanged grown (k / block_size) → slice_index sizes k ≡ slice_index old k
kept_sizes a pieces old sizes old_lows lows old_highs highs grown block n fitted all now k lt kept =
    kept_fits a pieces old sizes k (now.done k (omega (arith, all, lt))) ((now.tested k (omega (arith, all, lt))).0 kept)

-- the sizes are those of the round
pub grown_all : (a : List ℕ) (pieces : List Piece) (old sizes old_lows lows old_highs highs : List ℕ) (grown : List Bool) (block n : ℕ) (fitted : Bool) → n ≡ length pieces → length old ≡ length pieces
    → AreGrown a pieces old sizes old_lows lows old_highs highs grown block n fitted → sizes ≡ grown_from a 0 pieces old
grown_all a pieces old sizes old_lows lows old_highs highs grown block n fitted all long now =
    grown_is a pieces old sizes long now.same (λ k lt. now.done k (omega (arith, all, lt)))

-- the answer says whether all pieces fitted
pub fitted_all : (a : List ℕ) (pieces : List Piece) (old sizes old_lows lows old_highs highs : List ℕ) (grown : List Bool) (block n : ℕ) (fitted : Bool) → n ≡ length pieces → length old ≡ length pieces
    → AreGrown a pieces old sizes old_lows lows old_highs highs grown block n fitted → fitted ≡ fit_from a 0 pieces old
fitted_all a pieces old sizes old_lows lows old_highs highs grown block n fitted all long now = elim (cases_Bool fitted) [
  | inl y ↦ y ∙ sym (fit_is a pieces old long (λ k lt. now.fit y k (omega (arith, all, lt))))
  | inr out ↦ let found = now.unfit out in out ∙ sym (fit_is_not a pieces old found.0 long found.1 found.2)
]
