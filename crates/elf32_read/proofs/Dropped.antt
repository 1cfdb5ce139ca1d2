-- A test of the values of a function at 1, 2 and so on: the first value is dropped.
use Rattle.std.proofs.Common.{◌≡◌, ℕ, zero, suc, ◌+◌, ◌-◌, ◌<◌, ◌≤◌, [], ◌∷◌, drop, length, get_or, map, Bool, true, false, refl, sym, ap, ◌∙◌, arith}
use Rattle.std.specs.List.{list_any, range_with_len}
use Rattle.std.proofs.lemmas.Bool.{false_from_ne_true}
use Rattle.std.proofs.lemmas.List.Folds.{list_any-append, list_any_at}
use Rattle.std.proofs.lemmas.List.FromFn.{length-map-range_with_len, get_or-map-range_with_len, map-range_with_len_more}

-- a value that passes, as a loop finds it
pub some_dropped : {X : Type 0} (p : X → Bool) (f : ℕ → X) (n i : ℕ) (x : X) → x ≡ f i → 1 ≤ i → i < n → p x ≡ true → true ≡ list_any p (drop 1 (map f (range_with_len 0 n)))
some_dropped p f zero i x is some lt h = absurd (omega arith)
some_dropped p f (suc n) i x is some lt h =
    let xs = map f (range_with_len 1 n) in
    let here : get_or xs (i - 1) x ≡ f i = get_or-map-range_with_len f 1 n (i - 1) i x (omega arith) (omega arith) in
    let inside : i - 1 < length xs = rw (length-map-range_with_len f 1 n) (omega arith) in
    sym (list_any_at p xs (i - 1) x inside (ap p (here ∙ sym is) ∙ h))

-- one more value, that does not pass
pub none_dropped_more : {X : Type 0} (p : X → Bool) (f : ℕ → X) (i : ℕ) → 1 ≤ i → list_any p (drop 1 (map f (range_with_len 0 i))) ≡ false → p (f i) ≡ false → list_any p (drop 1 (map f (range_with_len 0 (i + 1)))) ≡ false
none_dropped_more p f zero some before here = absurd (omega arith)
none_dropped_more p f (suc i) some before here =
    let next : suc i + 1 ≡ suc (i + 1) = omega arith in
    ap (λ n. list_any p (drop 1 (map f (range_with_len 0 n)))) next
    ∙ rw (map-range_with_len_more f 1 i (suc i) (omega arith), list_any-append p (map f (range_with_len 1 i)) (f (suc i) ∷ []), before, here) refl

-- if no value has passed when the loop ends, no value passes
pub none_dropped : {X : Type 0} (p : X → Bool) (f : ℕ → X) (n i : ℕ) → n ≤ i → (1 ≤ n → i ≤ n) → list_any p (drop 1 (map f (range_with_len 0 i))) ≡ false → list_any p (drop 1 (map f (range_with_len 0 n))) ≡ false
none_dropped p f zero i le within none = refl
none_dropped p f (suc n) i le within none =
    let most : i ≤ suc n = within (omega arith) in
    let last : suc n ≡ i = omega arith in
    ap (λ k. list_any p (drop 1 (map f (range_with_len 0 k)))) last ∙ none

-- if no value passes, the value at an index doesn't
pub none_dropped_at : {X : Type 0} (p : X → Bool) (f : ℕ → X) (n i : ℕ) → list_any p (drop 1 (map f (range_with_len 0 n))) ≡ false → 1 ≤ i → i < n → p (f i) ≡ false
none_dropped_at p f n i none some lt = false_from_ne_true (p (f i)) (λ h. cc (some_dropped p f n i (f i) refl some lt h, none))
