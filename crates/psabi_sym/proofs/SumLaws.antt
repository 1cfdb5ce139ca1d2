-- Laws of sums over a list, one more element at a time.
use Rattle.std.proofs.Common.{◌≡◌, ℕ, suc, ◌+◌, List, [], ◌∷◌, take, drop, refl, ap, ◌∙◌, arith, Some, slice_get}
use Rattle.std.specs.List.{flat_map, sum_by}
use Rattle.std.proofs.lemmas.List.Sums.{sum_by-append, sum_by-cons, sum_by_more}
use Rattle.std.proofs.lemmas.Option.{get_or_from_slice_get, slice_get_within}

-- a sum with one element more
pub sum_next : {X : Type 0} (f : X → ℕ) (xs : List X) (k : ℕ) (x : X) → slice_get xs k ≡ Some x → sum_by f (take (k + 1) xs) ≡ sum_by f (take k xs) + f x
sum_next f xs k x at =
    sum_by_more f xs k x (slice_get_within xs k x at) ∙ ap (λ y. sum_by f (take k xs) + f y) (get_or_from_slice_get xs k x x at)

-- without the first element
pub slice_get-drop_one : {X : Type 0} (xs : List X) (k : ℕ) → slice_get (drop 1 xs) k ≡ slice_get xs (suc k)
slice_get-drop_one [] k = refl
slice_get-drop_one (x ∷ xs) k = refl

-- the sum over what each element has
pub sum-flat_map : {X Y : Type 0} (g : Y → ℕ) (f : X → List Y) (xs : List X) → sum_by g (flat_map f xs) ≡ sum_by (λ x. sum_by g (f x)) xs
sum-flat_map g f [] = refl
sum-flat_map g f (x ∷ xs) =
    omega (arith, sum_by-append g (f x) (flat_map f xs), sum_by-cons (λ y. sum_by g (f y)) x xs, sum-flat_map g f xs)
