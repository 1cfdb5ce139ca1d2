-- Words of items backwards from an end, and the same in the order of the items.
use Rattle.std.proofs.Common.{◌≡◌, ℕ, zero, suc, ◌+◌, ◌-◌, ◌<◌, ◌≤◌, List, [], ◌∷◌, ◌++◌, length, take, drop, Bool, true, false, cond, eqb, leb, refl, sym, ap, ◌∙◌, subst, arith, get_or, inl, inr}
use Rattle.std.specs.Prelude.{nat_eq, ◌⊎◌, reverse}
use Rattle.std.specs.Cmp.Lexicographic.{pointwise, same_text, bytes_decides}
use Rattle.std.proofs.lemmas.Bool.{or_cases, or_left, or_right, eqb-true, eq-eqb, leb-true, le-leb}
use Rattle.std.proofs.lemmas.List.{drop-append-le, drop_all, drop_at, length-append, length-reverse, length-take-le, map_push, reverse-append, reverse-reverse, take-append-drop, take_more}
use Rattle.tail_merge.specs.HostTree.{are_last, item_words}
use Rattle.tail_merge.specs.TailItems.{AreBefore, agreeing_words, inner_tail_words, inner_words, run_words, tail_words}
use Rattle.tail_merge.specs.declared.tail_item.TailItem.{TailItem}

-- ---- last words and first words

-- others before them
last-front : (ws vs : List ℕ) → are_last ws vs ≡ true → (front : List ℕ) × (vs ≡ front ++ ws)
last-front ws [] is = ([], sym (same_text ws [] (sym is)))
last-front ws (v ∷ vs) is = by (last-front ws vs) (or_cases (pointwise nat_eq ws (v ∷ vs)) (are_last ws vs) is)
  where
    by : (are_last ws vs ≡ true → (front : List ℕ) × (vs ≡ front ++ ws)) → (pointwise nat_eq ws (v ∷ vs) ≡ true) ⊎ (are_last ws vs ≡ true) → (front : List ℕ) × (v ∷ vs ≡ front ++ ws)
    by rest (inl all) = ([], sym (same_text ws (v ∷ vs) (sym all)))
    by rest (inr later) = let found = rest later in (v ∷ found.0, ap (λ us. v ∷ us) found.1)

last-self : (ws : List ℕ) → are_last ws ws ≡ true
last-self [] = refl
last-self (w ∷ ws) = or_left (pointwise nat_eq (w ∷ ws) (w ∷ ws)) (are_last (w ∷ ws) ws) ((bytes_decides (w ∷ ws) (w ∷ ws)).1 refl)

last-behind : (front ws : List ℕ) → are_last ws (front ++ ws) ≡ true
last-behind [] ws = last-self ws
last-behind (f ∷ front) ws = or_right (pointwise nat_eq ws (f ∷ front ++ ws)) (are_last ws (front ++ ws)) (last-behind front ws)

-- what agrees stands in both
agreeing-rest : (ws vs : List ℕ) (k : ℕ) → k ≤ agreeing_words ws vs → (rest : List ℕ) × (vs ≡ take k ws ++ rest)
agreeing-rest ws vs zero low = (vs, refl)
agreeing-rest [] vs (suc k) low = absurd (omega (arith, low))
agreeing-rest (w ∷ ws) [] (suc k) low = absurd (omega (arith, low))
agreeing-rest (w ∷ ws) (v ∷ vs) (suc k) low = by (agreeing-rest ws vs k) (eqb w v) refl low
  where
    by : (k ≤ agreeing_words ws vs → (rest : List ℕ) × (vs ≡ take k ws ++ rest)) → (b : Bool) → eqb w v ≡ b → suc k ≤ cond b (suc (agreeing_words ws vs)) 0 → (rest : List ℕ) × (v ∷ vs ≡ w ∷ take k ws ++ rest)
    by found true e high = let next = found (omega (arith, high)) in let same : v ≡ w = sym (eqb-true w v e) in (next.0, ap (λ u. u ∷ vs) same ∙ ap (λ us. w ∷ us) next.1)
    by found false e high = absurd (omega (arith, high))

agreeing-first : (ws rest : List ℕ) (k : ℕ) → k ≤ length ws → k ≤ agreeing_words ws (take k ws ++ rest)
agreeing-first ws rest zero low = omega arith
agreeing-first [] rest (suc k) low = absurd (omega (arith, low))
agreeing-first (w ∷ ws) rest (suc k) low = by (eqb w w) (eq-eqb w w refl) (agreeing-first ws rest k (omega (arith, low)))
  where
    by : (b : Bool) → b ≡ true → k ≤ agreeing_words ws (take k ws ++ rest) → suc k ≤ cond b (suc (agreeing_words ws (take k ws ++ rest))) 0
    by true e next = omega (arith, next)
    by false e next = absurd cc

pub agreeing-length : (ws vs : List ℕ) → agreeing_words ws vs ≤ length ws
agreeing-length [] vs = omega arith
agreeing-length (w ∷ ws) [] = omega arith
agreeing-length (w ∷ ws) (v ∷ vs) = by (agreeing-length ws vs) (eqb w v)
  where
    by : agreeing_words ws vs ≤ length ws → (b : Bool) → cond b (suc (agreeing_words ws vs)) 0 ≤ suc (length ws)
    by next true = omega (arith, next)
    by next false = omega arith

pub agreeing-other : (ws vs : List ℕ) → agreeing_words ws vs ≤ length vs
agreeing-other [] vs = omega arith
agreeing-other (w ∷ ws) [] = omega arith
agreeing-other (w ∷ ws) (v ∷ vs) = by (agreeing-other ws vs) (eqb w v)
  where
    by : agreeing_words ws vs ≤ length vs → (b : Bool) → cond b (suc (agreeing_words ws vs)) 0 ≤ suc (length vs)
    by next true = omega (arith, next)
    by next false = omega arith

-- some first words of a list are the first of another if, both turned, they are the last ones
pub last-agreeing : (ws vs : List ℕ) (k : ℕ) → k ≤ length ws → are_last (reverse (take k ws)) (reverse vs) ≡ leb k (agreeing_words ws vs)
last-agreeing ws vs k low = by (are_last (reverse (take k ws)) (reverse vs)) refl (leb k (agreeing_words ws vs)) refl
  where
    by : (a : Bool) → are_last (reverse (take k ws)) (reverse vs) ≡ a → (b : Bool) → leb k (agreeing_words ws vs) ≡ b → a ≡ b
    by true e true f = refl
    by false e false f = refl
    by true e false f =
        let found = last-front (reverse (take k ws)) (reverse vs) e in
        let same : vs ≡ take k ws ++ reverse found.0 = sym (reverse-reverse vs) ∙ ap reverse found.1 ∙ reverse-append found.0 (reverse (take k ws)) ∙ ap (λ us. us ++ reverse found.0) (reverse-reverse (take k ws)) in
        let high = subst (λ us. k ≤ agreeing_words ws us) (sym same) (agreeing-first ws (reverse found.0) k low) in
        let yes = le-leb k (agreeing_words ws vs) high in
        absurd cc
    by false e true f =
        let found = agreeing-rest ws vs k (leb-true k (agreeing_words ws vs) f) in
        let same : reverse vs ≡ reverse found.0 ++ reverse (take k ws) = ap reverse found.1 ∙ reverse-append (take k ws) found.0 in
        let yes = ap (are_last (reverse (take k ws))) same ∙ last-behind (reverse found.0) (reverse (take k ws)) in
        absurd cc

-- the last ones of a turned list are the first ones, turned
pub drop-reverse : {A : Type 0} (xs : List A) (k : ℕ) → k ≤ length xs → drop (length xs - k) (reverse xs) ≡ reverse (take k xs)
drop-reverse xs k low =
    let split = ap reverse (sym (take-append-drop k xs)) ∙ reverse-append (take k xs) (drop k xs) in
    let count = length-reverse (drop k xs) in
    let all = length-append (take k xs) (drop k xs) in
    let whole = ap length (take-append-drop k xs) in
    let first = length-take-le k xs low in
    ap (drop (length xs - k)) split ∙ drop_at (reverse (drop k xs)) (reverse (take k xs)) (length xs - k) (omega (arith, count, all, whole, first))

-- ---- one more item

pub reverse-more : {A : Type 0} (xs : List A) (k : ℕ) (d : A) → k < length xs → reverse (take (k + 1) xs) ≡ get_or xs k d ∷ reverse (take k xs)
reverse-more xs k d low = ap reverse (take_more xs k d low) ∙ reverse-append (take k xs) (get_or xs k d ∷ [])

reverse-cons : (w : ℕ) (ws : List ℕ) → reverse (w ∷ ws) ≡ reverse ws ++ w ∷ []
reverse-cons w ws = reverse-append (w ∷ []) ws

-- a part that ends with one more item
part-more : (items : List TailItem) (from k : ℕ) (d : TailItem) → from ≤ k → k < length items → item_words (drop from (take (k + 1) items)) ≡ item_words (drop from (take k items)) ++ (get_or items k d).word ∷ []
part-more items from k d low high =
    let inside : from ≤ length (take k items) = let n = length-take-le k items (omega (arith, high)) in omega (arith, n, low) in
    ap (λ ts. item_words (drop from ts)) (take_more items k d high)
    ∙ ap item_words (drop-append-le from (take k items) (get_or items k d ∷ []) inside)
    ∙ map_push (λ (t : TailItem). t.word) (drop from (take k items)) (get_or items k d)

part-none : (items : List TailItem) (k : ℕ) → item_words (drop k (take k items)) ≡ []
part-none items k = ap item_words (drop_all k (take k items) (short k items))
  where
    short : (k : ℕ) (ts : List TailItem) → length (take k ts) ≤ k
    short zero ts = omega arith
    short (suc k) [] = omega arith
    short (suc k) (t ∷ ts) = let next = short k ts in omega (arith, next)

pub none-before : (items : List TailItem) → AreBefore items 0 0 0
none-before items = record { run_low = omega arith; block_low = omega arith; run_is = refl; block_is = refl }

module _ (items : List TailItem) (end run block : ℕ) (d : TailItem) (before : AreBefore items end run block) (inside : end < length items) where
  -- an end's run
  pub run-part : item_words (drop run (take (end + 1) items)) ≡ reverse (run_words (reverse (take (end + 1) items)))
  run-part =
      part-more items run end d before.run_low inside ∙ ap (λ ws. ws ++ (get_or items end d).word ∷ []) before.run_is
      ∙ sym (ap (λ ts. reverse (run_words ts)) (reverse-more items end d inside) ∙ reverse-cons (get_or items end d).word (inner_words (reverse (take end items))))

  -- what of it can be removed
  pub tail-part : item_words (drop (cond (get_or items end d).leader end block) (take (end + 1) items)) ≡ reverse (tail_words (reverse (take (end + 1) items)))
  tail-part = by (get_or items end d).leader ∙ sym (ap (λ ts. reverse (tail_words ts)) (reverse-more items end d inside))
    where
      by : (b : Bool) → item_words (drop (cond b end block) (take (end + 1) items)) ≡ reverse ((get_or items end d).word ∷ cond b [] (inner_tail_words (reverse (take end items))))
      by true = part-more items end end d (omega arith) inside ∙ ap (λ ws. ws ++ (get_or items end d).word ∷ []) (part-none items end)
      by false =
          part-more items block end d before.block_low inside ∙ ap (λ ws. ws ++ (get_or items end d).word ∷ []) before.block_is
          ∙ sym (reverse-cons (get_or items end d).word (inner_tail_words (reverse (take end items))))

  -- what is before the next item
  pub before-more : AreBefore items (end + 1) (cond (get_or items end d).inner run (end + 1)) (cond (get_or items end d).inner (cond (get_or items end d).leader end block) (end + 1))
  before-more = by (get_or items end d).inner refl
    where
      next : reverse (take (end + 1) items) ≡ get_or items end d ∷ reverse (take end items)
      next = reverse-more items end d inside

      tail-low : (b : Bool) → cond b end block ≤ end + 1
      tail-low true = omega arith
      tail-low false = let low = before.block_low in omega (arith, low)

      by : (b : Bool) → (get_or items end d).inner ≡ b → AreBefore items (end + 1) (cond b run (end + 1)) (cond b (cond (get_or items end d).leader end block) (end + 1))
      by true e = record {
        run_low = let low = before.run_low in omega (arith, low);
        block_low = tail-low (get_or items end d).leader;
        run_is = run-part ∙ ap reverse (ap run_words next ∙ sym (ap inner_words next ∙ ap (λ b. cond b ((get_or items end d).word ∷ inner_words (reverse (take end items))) []) e));
        block_is = tail-part ∙ ap reverse (ap tail_words next
            ∙ sym (ap inner_tail_words next ∙ ap (λ b. cond b ((get_or items end d).word ∷ cond (get_or items end d).leader [] (inner_tail_words (reverse (take end items)))) []) e));
      }
      by false e = record {
        run_low = omega arith;
        block_low = omega arith;
        run_is = part-none items (end + 1) ∙ sym (ap reverse (ap inner_words next ∙ ap (λ b. cond b ((get_or items end d).word ∷ inner_words (reverse (take end items))) []) e));
        block_is = part-none items (end + 1)
            ∙ sym (ap reverse (ap inner_tail_words next ∙ ap (λ b. cond b ((get_or items end d).word ∷ cond (get_or items end d).leader [] (inner_tail_words (reverse (take end items)))) []) e));
      }
