-- What two ends share, by the words of their items; and which of some hosts shares the most.
use Rattle.std.proofs.Common.{◌≡◌, ℕ, zero, suc, ◌+◌, ◌<◌, ◌≤◌, List, [], ◌∷◌, length, map, take, Bool, true, false, cond, eqb, leb, ltb, Option, Some, None, refl, sym, ap, ◌∙◌, subst, arith}
use Rattle.std.specs.Prelude.{◌&&◌, All}
use Rattle.std.specs.List.{AllByRecursion, fold}
use Rattle.std.specs.Option.{option_map_or}
use Rattle.std.proofs.lemmas.Bool.{eqb-true, false_from_ne_true, le-ltb, lt-ltb, leb-true, leb-false}
use Rattle.std.proofs.lemmas.List.{length-take-le}
use Rattle.std.proofs.lemmas.List.Elements.{All-head, All-tail}
use Rattle.rv_decode.specs.Decode.{decoded}
use Rattle.rv_decode.specs.declared.instr.Instr.{Instr}
use Rattle.rv_encode.specs.Words.{encoded}
use Rattle.tail_merge.specs.TailItems.{agreeing_words, inner_tail_words, inner_words, run_words, tail_item, tail_words}
use Rattle.tail_merge.specs.TailSearch.{HasOwnWord}
use Rattle.tail_merge.specs.Tails.{CodeItem, Removed, agreeing, ends_tail, goes_on, longer_tail, op_in_item, returns, same_op, shared, shared_tail, stands_in_tail}

-- ---- words

-- an item that passes a test of its instruction has one
tested : (test : Instr → Bool) (o : Option Instr) → option_map_or test o false ≡ true → (i : Instr) × (o ≡ Some i)
tested test None is = absurd cc
tested test (Some i) is = (i, refl)

-- equal words are the same instruction
same-ops : (c d : CodeItem) → HasOwnWord c → HasOwnWord d → same_op c d ≡ true → op_in_item c.item ≡ op_in_item d.item
same-ops c d own own' is = by (op_in_item c.item) (op_in_item d.item) own own' is
  where
    by : (o p : Option Instr) → ((i : Instr) → o ≡ Some i → decoded (encoded i) ≡ Some i) → ((i : Instr) → p ≡ Some i → decoded (encoded i) ≡ Some i)
        → option_map_or (λ i. option_map_or (λ j. eqb (encoded i) (encoded j)) p false) o false ≡ true → o ≡ p
    by None p own own' is = absurd cc
    by (Some i) None own own' is = absurd cc
    by (Some i) (Some j) own own' is = sym (own i refl) ∙ ap decoded (eqb-true (encoded i) (encoded j) is) ∙ own' j refl

-- instructions are the same if their words are
word-test : (c d : CodeItem) (i j : Instr) → op_in_item c.item ≡ Some i → op_in_item d.item ≡ Some j → same_op c d ≡ eqb (tail_item c).word (tail_item d).word
word-test c d i j is is' = by (op_in_item c.item) (op_in_item d.item) is is'
  where
    by : (o p : Option Instr) → o ≡ Some i → p ≡ Some j
        → option_map_or (λ i. option_map_or (λ j. eqb (encoded i) (encoded j)) p false) o false ≡ eqb (option_map_or encoded o 0) (option_map_or encoded p 0)
    by None p e e' = absurd cc
    by (Some k) None e e' = absurd cc
    by (Some k) (Some l) e e' = refl

agreeing-is : (cs ds : List CodeItem) → All HasOwnWord cs → All HasOwnWord ds → agreeing cs ds ≡ agreeing_words (inner_tail_words (map tail_item cs)) (inner_words (map tail_item ds))
agreeing-is [] ds own own' = refl
agreeing-is (c ∷ cs) [] own own' = by (stands_in_tail c)
  where
    by : (b : Bool) → 0 ≡ agreeing_words (cond b ((tail_item c).word ∷ cond c.leader [] (inner_tail_words (map tail_item cs))) []) []
    by true = refl
    by false = refl
agreeing-is (c ∷ cs) (d ∷ ds) own own' =
    by (agreeing-is cs ds (All-tail HasOwnWord c cs own) (All-tail HasOwnWord d ds own')) (stands_in_tail c) refl (stands_in_tail d) refl
  where
    first : HasOwnWord c
    first = All-head HasOwnWord c cs own

    second : HasOwnWord d
    second = All-head HasOwnWord d ds own'

    by : agreeing cs ds ≡ agreeing_words (inner_tail_words (map tail_item cs)) (inner_words (map tail_item ds)) → (s : Bool) → stands_in_tail c ≡ s → (t : Bool) → stands_in_tail d ≡ t
        → cond (s && same_op c d) (suc (cond c.leader 0 (agreeing cs ds))) 0
        ≡ agreeing_words (cond s ((tail_item c).word ∷ cond c.leader [] (inner_tail_words (map tail_item cs))) []) (cond t ((tail_item d).word ∷ inner_words (map tail_item ds)) [])
    by rest false e t f = refl
    by rest true e false f = ap (λ b. cond b (suc (cond c.leader 0 (agreeing cs ds))) 0) (false_from_ne_true (same_op c d) other)
      where
        other : same_op c d ≡ true → ⊥
        other is = let same = ap (λ o. option_map_or goes_on o false) (same-ops c d first second is) in absurd cc
    by rest true e true f =
        ap (λ b. cond b (suc (cond c.leader 0 (agreeing cs ds))) 0) (word-test c d (tested goes_on (op_in_item c.item) e).0 (tested goes_on (op_in_item d.item) f).0 (tested goes_on (op_in_item c.item) e).1 (tested goes_on (op_in_item d.item) f).1)
        ∙ ap (λ n. cond (eqb (tail_item c).word (tail_item d).word) (suc n) 0) (lead c.leader)
      where
        lead : (l : Bool) → cond l 0 (agreeing cs ds) ≡ agreeing_words (cond l [] (inner_tail_words (map tail_item cs))) (inner_words (map tail_item ds))
        lead true = refl
        lead false = rest

-- what two ends share is what their words have in common, but no more than can be removed
pub shared-words : (c d : CodeItem) (cs ds : List CodeItem) → ends_tail c ≡ true → ends_tail d ≡ true → All HasOwnWord cs → All HasOwnWord ds
    → shared (c ∷ cs) (d ∷ ds) ≡ agreeing_words (tail_words (map tail_item (c ∷ cs))) (run_words (map tail_item (d ∷ ds)))
shared-words c d cs ds ends ends' own own' =
    ap (λ b. cond b (suc (cond c.leader 0 (agreeing cs ds))) 0) (word-test c d (tested returns (op_in_item c.item) ends).0 (tested returns (op_in_item d.item) ends').0 (tested returns (op_in_item c.item) ends).1 (tested returns (op_in_item d.item) ends').1)
    ∙ ap (λ n. cond (eqb (tail_item c).word (tail_item d).word) (suc n) 0) (lead c.leader)
  where
    lead : (l : Bool) → cond l 0 (agreeing cs ds) ≡ agreeing_words (cond l [] (inner_tail_words (map tail_item cs))) (inner_words (map tail_item ds))
    lead true = refl
    lead false = agreeing-is cs ds own own'

-- ---- the longest

take-short : {A : Type 0} (k : ℕ) (xs : List A) → length (take k xs) ≤ k
take-short zero xs = omega arith
take-short (suc k) [] = omega arith
take-short (suc k) (x ∷ xs) = let next = take-short k xs in omega (arith, next)

module _ (tail : List CodeItem) (host : ℕ → List CodeItem) where
  -- the first host that shares so many items
  abbrev pub first_sharing : ℕ → List ℕ → Option ℕ
  first_sharing k [] = None
  first_sharing k (h ∷ hs) = cond (leb k (shared tail (host h))) (Some h) (first_sharing k hs)

  abbrev pub ShareAtMost : ℕ → List ℕ → Type 0
  ShareAtMost k hs = AllByRecursion (λ h. shared tail (host h) ≤ k) hs

  -- one that shares no more changes nothing
  no-longer : (best : Removed) (h k : ℕ) → k ≤ length best.tail → shared tail (host h) ≤ k → longer_tail best (shared_tail tail (host h)) ≡ best
  no-longer best h k is low = ap (λ b. cond b (shared_tail tail (host h)) best) (le-ltb (length best.tail) (length (take (shared tail (host h)) tail)) (let short = take-short (shared tail (host h)) tail in omega (arith, short, is, low)))

  pub longest-stays : (best : Removed) (k : ℕ) → k ≤ length best.tail → (hs : List ℕ) → ShareAtMost k hs → fold longer_tail best (map (shared_tail tail) (map host hs)) ≡ best
  longest-stays best k is [] low = refl
  longest-stays best k is (h ∷ hs) low = ap (λ r. fold longer_tail r (map (shared_tail tail) (map host hs))) (no-longer best h k is low.0) ∙ longest-stays best k is hs low.1

  pub longest-first : (k first : ℕ) → k ≤ length tail → (best : Removed) → length best.tail < k → (hs : List ℕ) → ShareAtMost k hs → first_sharing k hs ≡ Some first
      → fold longer_tail best (map (shared_tail tail) (map host hs)) ≡ record { tail = take k tail; host = take k (host first) }
  longest-first k first long best less [] low is = absurd cc
  longest-first k first long best less (h ∷ hs) low is = by (leb k (shared tail (host h))) refl is (λ b l e. longest-first k first long b l hs low.1 e)
    where
      rest : Removed → Removed
      rest b = fold longer_tail b (map (shared_tail tail) (map host hs))

      by : (b : Bool) → leb k (shared tail (host h)) ≡ b → cond b (Some h) (first_sharing k hs) ≡ Some first
          → ((r : Removed) → length r.tail < k → first_sharing k hs ≡ Some first → fold longer_tail r (map (shared_tail tail) (map host hs)) ≡ record { tail = take k tail; host = take k (host first) })
          → fold longer_tail (longer_tail best (shared_tail tail (host h))) (map (shared_tail tail) (map host hs)) ≡ record { tail = take k tail; host = take k (host first) }
      by true e found next =
          let high = leb-true k (shared tail (host h)) e in
          let low' = low.0 in
          let same : shared tail (host h) ≡ k = omega (arith, high, low') in
          let which : h ≡ first = cc in
          let count = length-take-le k tail long in
          let size = ap (λ n. length (take n tail)) same in
          let wins = ap (λ b. cond b (shared_tail tail (host h)) best) (lt-ltb (length best.tail) (length (take (shared tail (host h)) tail)) (omega (arith, less, count, size))) in
          let stays = longest-stays (shared_tail tail (host h)) k (omega (arith, count, size)) hs low.1 in
          let is_tail : shared_tail tail (host h) ≡ record { tail = take k tail; host = take k (host h) } = ap (λ n. record { tail = take n tail; host = take n (host h) }) same in
          let whose : record { tail = take k tail; host = take k (host h) } ≡ record { tail = take k tail; host = take k (host first) } = ap (λ g. record { tail = take k tail; host = take k (host g) }) which in
          ap (λ r. fold longer_tail r (map (shared_tail tail) (map host hs))) wins ∙ stays ∙ is_tail ∙ whose
      by false e found next = either (ltb (length best.tail) (length (take (shared tail (host h)) tail)))
        where
          either : (b : Bool) → fold longer_tail (cond b (shared_tail tail (host h)) best) (map (shared_tail tail) (map host hs)) ≡ record { tail = take k tail; host = take k (host first) }
          either true = next (shared_tail tail (host h)) (let short = take-short (shared tail (host h)) tail in let below = leb-false k (shared tail (host h)) e in omega (arith, short, below)) found
          either false = next best less found

  -- the first one is among them, and shares as many
  pub first-among : (P : ℕ → Type 0) (k first : ℕ) (hs : List ℕ) → AllByRecursion P hs → first_sharing k hs ≡ Some first → P first × (k ≤ shared tail (host first))
  first-among P k first [] all is = absurd cc
  first-among P k first (h ∷ hs) all is = by (leb k (shared tail (host h))) refl is (first-among P k first hs all.1)
    where
      by : (b : Bool) → leb k (shared tail (host h)) ≡ b → cond b (Some h) (first_sharing k hs) ≡ Some first → (first_sharing k hs ≡ Some first → P first × (k ≤ shared tail (host first))) → P first × (k ≤ shared tail (host first))
      by true e found next = let which : h ≡ first = cc in subst (λ g. P g × (k ≤ shared tail (host g))) which (all.0, leb-true k (shared tail (host h)) e)
      by false e found next = next found

  -- if none shares one more, all share at most so many
  pub none-sharing : (k : ℕ) (hs : List ℕ) → first_sharing (k + 1) hs ≡ None → ShareAtMost k hs
  none-sharing k [] is = tt
  none-sharing k (h ∷ hs) is = by (leb (k + 1) (shared tail (host h))) refl is (none-sharing k hs)
    where
      by : (b : Bool) → leb (k + 1) (shared tail (host h)) ≡ b → cond b (Some h) (first_sharing (k + 1) hs) ≡ None → (first_sharing (k + 1) hs ≡ None → ShareAtMost k hs) → (shared tail (host h) ≤ k) × ShareAtMost k hs
      by true e found next = absurd cc
      by false e found next = (let below = leb-false (k + 1) (shared tail (host h)) e in omega (arith, below), next found)
