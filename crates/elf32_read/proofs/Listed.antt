-- A test of the values of a function at 0, 1, 2 and so on.
use Rattle.std.proofs.Common.{◌≡◌, ℕ, zero, suc, ◌+◌, ◌<◌, ◌≤◌, List, [], ◌∷◌, length, get_or, map, Bool, true, false, Some, refl, sym, ap, ◌∙◌, arith}
use Rattle.std.specs.Prelude.{◌||◌, ◌&&◌, filter, cond, slice_get}
use Rattle.std.specs.List.{list_any, range_with_len}
use Rattle.std.proofs.lemmas.Bool.{false_from_ne_true, or_parts, or_from}
use Rattle.std.proofs.lemmas.List.Folds.{list_any-append, list_any_at}
use Rattle.std.proofs.lemmas.List.FromFn.{length-map-range_with_len, length-range_with_len, get_or-map-range_with_len, get_or-range_with_len, map-range_with_len_more}
use Rattle.std.proofs.lemmas.Option.{slice_get-get_or}

-- a value that passes
pub list_any_listed : {X : Type 0} (p : X → Bool) (f : ℕ → X) (n i : ℕ) → i < n → p (f i) ≡ true → list_any p (map f (range_with_len 0 n)) ≡ true
list_any_listed p f n i lt h =
    let here : get_or (map f (range_with_len 0 n)) i (f i) ≡ f i = get_or-map-range_with_len f 0 n i i (f i) lt (omega arith) in
    let inside : i < length (map f (range_with_len 0 n)) = rw (length-map-range_with_len f 0 n) lt in
    list_any_at p (map f (range_with_len 0 n)) i (f i) inside (ap p here ∙ h)

-- what a value that passes makes of the test, as a loop finds it
pub some_listed : {X : Type 0} (p : X → Bool) (f : ℕ → X) (n i : ℕ) (x : X) → x ≡ f i → i < n → p x ≡ true → true ≡ list_any p (map f (range_with_len 0 n))
some_listed p f n i x is lt h = sym (list_any_listed p f n i lt (sym (ap p is) ∙ h))

-- one more value, that does not pass
pub none_listed_more : {X : Type 0} (p : X → Bool) (f : ℕ → X) (i : ℕ) → list_any p (map f (range_with_len 0 i)) ≡ false → p (f i) ≡ false → list_any p (map f (range_with_len 0 (i + 1))) ≡ false
none_listed_more p f i before here =
    rw (map-range_with_len_more f 0 i i (omega arith), list_any-append p (map f (range_with_len 0 i)) (f i ∷ []), before, here) refl

-- if no value passes, the value at an index doesn't
pub none_listed : {X : Type 0} (p : X → Bool) (f : ℕ → X) (n i : ℕ) → list_any p (map f (range_with_len 0 n)) ≡ false → i < n → p (f i) ≡ false
none_listed p f n i none lt = false_from_ne_true (p (f i)) (λ h. cc (list_any_listed p f n i lt h, none))

-- a test of what a filter keeps
pub list_any-filter : {X : Type 0} (p q : X → Bool) (xs : List X) → list_any q (filter p xs) ≡ list_any (λ x. p x && q x) xs
list_any-filter p q [] = refl
list_any-filter p q (x ∷ xs) =
    let rest = list_any-filter p q xs in
    elim (p x) as (λ b. list_any q (cond b (x ∷ filter p xs) (filter p xs)) ≡ (b && q x || list_any (λ x. p x && q x) xs)) [
      | true ↦ ap (λ t. q x || t) rest
      | false ↦ rest
    ]

-- if no value passes, no value that a filter keeps passes
pub none_kept : {X : Type 0} (p q : X → Bool) (xs : List X) → list_any q xs ≡ false → list_any q (filter p xs) ≡ false
none_kept p q [] none = refl
none_kept p q (x ∷ xs) none =
    let parts = or_parts (q x) (list_any q xs) none in
    let rest = none_kept p q xs parts.1 in
    elim (p x) as (λ b. list_any q (cond b (x ∷ filter p xs) (filter p xs)) ≡ false) [
      | true ↦ or_from (q x) (list_any q (filter p xs)) parts.0 rest
      | false ↦ rest
    ]

-- if no value of a list passes, the value at an index doesn't
pub none_at : {X : Type 0} (p : X → Bool) (xs : List X) (i : ℕ) (d : X) → list_any p xs ≡ false → i < length xs → p (get_or xs i d) ≡ false
none_at p xs i d none lt = false_from_ne_true (p (get_or xs i d)) (λ h. cc (list_any_at p xs i d lt h, none))

-- an index that passes
pub some_in_range : (p : ℕ → Bool) (n i : ℕ) → i < n → p i ≡ true → list_any p (range_with_len 0 n) ≡ true
some_in_range p n i lt h =
    let here : get_or (range_with_len 0 n) i i ≡ i = get_or-range_with_len 0 n i i lt ∙ omega arith in
    let inside : i < length (range_with_len 0 n) = rw (length-range_with_len 0 n) lt in
    list_any_at p (range_with_len 0 n) i i inside (ap p here ∙ h)

-- if no value passes, the value at an index doesn't
pub none_in_range : (p : ℕ → Bool) (n i : ℕ) → list_any p (range_with_len 0 n) ≡ false → i < n → p i ≡ false
none_in_range p n i none lt = false_from_ne_true (p i) (λ h. cc (some_in_range p n i lt h, none))

-- if each index fails, no index in the range passes
pub no_index : (p : ℕ → Bool) (a n : ℕ) → ((i : ℕ) → a ≤ i → i < a + n → p i ≡ false) → list_any p (range_with_len a n) ≡ false
no_index p a zero fails = refl
no_index p a (suc n) fails =
    or_from (p a) (list_any p (range_with_len (a + 1) n)) (fails a (omega arith) (omega arith)) (no_index p (a + 1) n (λ i ge lt. fails i (omega (arith, ge)) (omega (arith, lt))))

-- the value at an index
pub slice_get-listed : {X : Type 0} (f : ℕ → X) (n i : ℕ) → i < n → slice_get (map f (range_with_len 0 n)) i ≡ Some (f i)
slice_get-listed f n i lt =
    let xs = map f (range_with_len 0 n) in
    let inside : i < length xs = rw (length-map-range_with_len f 0 n) lt in
    slice_get-get_or xs i (f i) inside ∙ ap Some (get_or-map-range_with_len f 0 n i i (f i) lt (omega arith))
