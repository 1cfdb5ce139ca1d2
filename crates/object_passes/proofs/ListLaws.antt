-- Lists that are built, summed or searched element after element.
use Rattle.std.proofs.Common.{◌≡◌, ℕ, zero, suc, ◌+◌, ◌<◌, List, [], ◌∷◌, ◌++◌, length, map, filter, take, drop, refl, sym, ap, ◌∙◌, arith, Bool, true, false, cond, Some, slice_get}
use Rattle.std.specs.List.{enumerate_from, sum_by}
use Rattle.std.specs.Option.{option_map}
use Rattle.std.proofs.lemmas.List.{drop_more, length-append, map-append}
use Rattle.std.proofs.lemmas.List.Elements.{filter-append}
use Rattle.std.proofs.lemmas.List.Sums.{sum_by-cons}
use Rattle.std.proofs.lemmas.Option.{get_or_from_slice_get, slice_get_within}
use Rattle.block_cut.proofs.TakeLaws.{take_next}

-- ---- elements

-- an element after the first
pub second : {X : Type 0} (xs : List X) (k : ℕ) → slice_get xs (suc k) ≡ slice_get (drop 1 xs) k
second [] zero = refl
second [] (suc k) = refl
second (x ∷ xs) k = refl

pub length-second : {X : Type 0} (xs : List X) (k : ℕ) → k < length (drop 1 xs) → suc k < length xs
length-second [] k lt = absurd (omega arith)
length-second (x ∷ xs) k lt = omega arith

-- what is left from a place on begins with the element there
pub drop-next : {X : Type 0} (xs : List X) (i : ℕ) (x : X) → slice_get xs i ≡ Some x → drop i xs ≡ x ∷ drop (i + 1) xs
drop-next xs i x at = drop_more xs i x (slice_get_within xs i x at) ∙ ap (λ y. y ∷ drop (i + 1) xs) (get_or_from_slice_get xs i x x at)

-- an element with its number
pub entries : {X : Type 0} (n : ℕ) (xs : List X) (i : ℕ) → slice_get (enumerate_from n xs) i ≡ option_map (λ x. (n + i, x)) (slice_get xs i)
entries n [] i = refl
entries n (x ∷ xs) zero = ap (λ m. Some (m, x)) (omega arith)
entries n (x ∷ xs) (suc i) =
    let next : n + 1 + i ≡ n + suc i = omega arith in
    entries (n + 1) xs i ∙ ap (λ m. option_map (λ x. (m, x)) (slice_get xs i)) next

pub entry-at : {X : Type 0} (xs : List X) (i : ℕ) (x : X) → slice_get xs i ≡ Some x → slice_get (enumerate_from 0 xs) i ≡ Some (i, x)
entry-at xs i x at =
    let none : 0 + i ≡ i = omega arith in
    entries 0 xs i ∙ (λ j. option_map (λ x. (none j, x)) (at j))

-- ---- one element more

-- what becomes of a list's elements, with what becomes of one more
pub made-more : {X Y : Type 0} (f : X → Y) (xs : List X) (k : ℕ) (x : X) (old : List Y) → slice_get xs k ≡ Some x → old ≡ map f (take k xs) → old ++ f x ∷ [] ≡ map f (take (k + 1) xs)
made-more f xs k x old at before =
    ap (λ l. l ++ f x ∷ []) before ∙ sym (map-append f (take k xs) (x ∷ [])) ∙ ap (map f) (sym (take_next xs k x at))

-- the elements that pass a test, with one more
pub kept-more : {X : Type 0} (p : X → Bool) (xs : List X) (k : ℕ) (x : X) (old : List X) → slice_get xs k ≡ Some x → old ≡ filter p (take k xs) → old ++ cond (p x) (x ∷ []) [] ≡ filter p (take (k + 1) xs)
kept-more p xs k x old at before =
    ap (λ l. l ++ cond (p x) (x ∷ []) []) before
    ∙ sym (filter-append p (take k xs) (x ∷ []))
    ∙ ap (filter p) (sym (take_next xs k x at))

-- what becomes of the elements that pass a test, with one more
pub picked-more : {X Y : Type 0} (f : X → Y) (p : X → Bool) (xs : List X) (k : ℕ) (x : X) (old : List Y) → slice_get xs k ≡ Some x → old ≡ map f (filter p (take k xs))
    → old ++ cond (p x) (f x ∷ []) [] ≡ map f (filter p (take (k + 1) xs))
picked-more f p xs k x old at before =
    ap (λ l. l ++ cond (p x) (f x ∷ []) []) before
    ∙ ap (λ l. map f (filter p (take k xs)) ++ l) (by (p x))
    ∙ sym (map-append f (filter p (take k xs)) (cond (p x) (x ∷ []) []))
    ∙ ap (map f) (kept-more p xs k x (filter p (take k xs)) at refl)
  where
    by : (b : Bool) → cond b (f x ∷ []) [] ≡ map f (cond b (x ∷ []) [])
    by true = refl
    by false = refl

-- the number of elements that pass a test, with one more
pub count-next : {X : Type 0} (p : X → Bool) (xs : List X) (k : ℕ) (x : X) → slice_get xs k ≡ Some x → length (filter p (take (k + 1) xs)) ≡ length (filter p (take k xs)) + cond (p x) 1 0
count-next p xs k x at =
    ap (λ l. length (filter p l)) (take_next xs k x at) ∙ ap length (filter-append p (take k xs) (x ∷ [])) ∙ length-append (filter p (take k xs)) (filter p (x ∷ []))
    ∙ ap (λ n. length (filter p (take k xs)) + n) (by (p x))
  where
    by : (b : Bool) → length (cond b (x ∷ []) []) ≡ cond b 1 0
    by true = refl
    by false = refl

-- ---- sums

pub sum-map : {X Y : Type 0} (f : Y → ℕ) (g : X → Y) (xs : List X) → sum_by f (map g xs) ≡ sum_by (λ x. f (g x)) xs
sum-map f g [] = refl
sum-map f g (x ∷ xs) = sum_by-cons f (g x) (map g xs) ∙ ap (λ n. f (g x) + n) (sum-map f g xs) ∙ sym (sum_by-cons (λ x. f (g x)) x xs)

pub sum-one : {X : Type 0} (xs : List X) → length xs ≡ sum_by (λ x. 1) xs
sum-one [] = refl
sum-one {X} (x ∷ xs) = omega (arith, sum_by-cons {X = X} (λ x. 1) x xs, sum-one xs)
