-- Lists: what holds of each element of a list holds of its parts, of what is found in it, and the other way round.
use Rattle.std.proofs.Common.{◌≡◌, ℕ, ◌+◌, ◌<◌, List, [], ◌∷◌, ◌++◌, length, get_or, map, filter, Bool, true, false, cond, Option, Some, None, slice_get, refl, sym, ap, subst, ◌∙◌, arith}
use Rattle.std.specs.Prelude.{All, nat_lt}
use Rattle.std.specs.List.{find, flat_map, range_with_len}
use Rattle.std.specs.Option.{option_map, option_or}
use Rattle.std.proofs.lemmas.List.{get_or-append-add, get_or_append_left, length-append}
use Rattle.std.proofs.lemmas.List.Elements.{All-append, All-cons, All-head, All-nil, All-tail}
use Rattle.std.proofs.lemmas.List.Folds.{find_at}
use Rattle.std.proofs.lemmas.List.FromFn.{get_or-range_with_len, length-range_with_len}
use Rattle.std.proofs.lemmas.Option.{get_or_from_slice_get, slice_get-get_or, slice_get-map, slice_get_within}
use Rattle.psabi_sym.specs.Faults.{first_some}
use Rattle.block_cut.proofs.FirstLaws.{none_at}

module _ {X : Type 0} (P : X → Type 0) where
  -- an element
  pub all_at : (xs : List X) (k : ℕ) (x : X) → All P xs → slice_get xs k ≡ Some x → P x
  all_at xs k x all at = subst P (get_or_from_slice_get xs k x x at) (all k x (slice_get_within xs k x at))

  pub from_each : (xs : List X) → ((k : ℕ) (x : X) → slice_get xs k ≡ Some x → P x) → All P xs
  from_each xs each = λ k d lt. each k (get_or xs k d) (slice_get-get_or xs k d lt)

  -- the parts of two lists
  pub all_left : (xs ys : List X) → All P (xs ++ ys) → All P xs
  all_left xs ys all = λ k d lt. subst P (get_or_append_left xs ys d k lt) (all k d (omega (arith, length-append xs ys)))

  pub all_right : (xs ys : List X) → All P (xs ++ ys) → All P ys
  all_right xs ys all = λ k d lt. subst P (get_or-append-add xs ys k d) (all (length xs + k) d (omega (arith, length-append xs ys)))

  -- what is found
  pub all_found : (p : X → Bool) (xs : List X) (x : X) → All P xs → find p xs ≡ Some x → P x
  all_found p xs x all found = all_at xs _ x all (sym (find_at p xs) ∙ found)

  -- elements of lists that a list is mapped to
  pub all_flat : {Y : Type 0} (f : Y → List X) (ys : List Y) → All (λ y. All P (f y)) ys → All P (flat_map f ys)
  all_flat f [] all = All-nil P
  all_flat f (y ∷ ys) all =
      All-append P (f y) (flat_map f ys) (All-head (λ z. All P (f z)) y ys all) (all_flat f ys (All-tail (λ z. All P (f z)) y ys all))

  pub flat_all : {Y : Type 0} (f : Y → List X) (ys : List Y) → All P (flat_map f ys) → All (λ y. All P (f y)) ys
  flat_all f [] all = All-nil (λ y. All P (f y))
  flat_all f (y ∷ ys) all =
      All-cons (λ z. All P (f z)) y ys (all_left (f y) (flat_map f ys) all) (flat_all f ys (all_right (f y) (flat_map f ys) all))

  pub map_all : {Y : Type 0} (f : Y → X) (ys : List Y) → All P (map f ys) → All (λ y. P (f y)) ys
  map_all f ys all = λ k d lt. all_at (map f ys) k (f (get_or ys k d)) all (slice_get-map f ys k ∙ ap (option_map f) (slice_get-get_or ys k d lt))

-- ---- searches

module _ {X : Type 0} (p : X → Bool) where
  -- nothing is found exactly if nothing passes
  pub find_none : (xs : List X) → All (λ x. p x ≡ false) xs → find p xs ≡ None
  find_none [] all = refl
  find_none (x ∷ xs) all =
      ap (λ b. cond b (Some x) (find p xs)) (All-head (λ y. p y ≡ false) x xs all) ∙ find_none xs (All-tail (λ y. p y ≡ false) x xs all)

  pub none_found : (xs : List X) → find p xs ≡ None → All (λ x. p x ≡ false) xs
  none_found [] none = All-nil (λ x. p x ≡ false)
  none_found (x ∷ xs) none = by (p x) refl (none_found xs) none
    where
      by : (b : Bool) → p x ≡ b → (find p xs ≡ None → All (λ y. p y ≡ false) xs) → cond b (Some x) (find p xs) ≡ None → All (λ y. p y ≡ false) (x ∷ xs)
      by true is rest none = absurd cc
      by false is rest none = All-cons (λ y. p y ≡ false) x xs is (rest none)

  pub filter_none : (xs : List X) → All (λ x. p x ≡ false) xs → filter p xs ≡ []
  filter_none [] all = refl
  filter_none (x ∷ xs) all =
      ap (λ b. cond b (x ∷ filter p xs) (filter p xs)) (All-head (λ y. p y ≡ false) x xs all) ∙ filter_none xs (All-tail (λ y. p y ≡ false) x xs all)

  pub filter_all : (xs : List X) → All (λ x. p x ≡ true) xs → filter p xs ≡ xs
  filter_all [] all = refl
  filter_all (x ∷ xs) all =
      ap (λ b. cond b (x ∷ filter p xs) (filter p xs)) (All-head (λ y. p y ≡ true) x xs all) ∙ ap (λ l. x ∷ l) (filter_all xs (All-tail (λ y. p y ≡ true) x xs all))

  -- between elements that don't, one passes at most
  pub one_at_most : (xs : List X) (x : X) (ys : List X) → All (λ y. p y ≡ false) xs → All (λ y. p y ≡ false) ys → nat_lt 1 (length (filter p (xs ++ x ∷ ys))) ≡ false
  one_at_most [] x ys before after = by (p x)
    where
      by : (b : Bool) → nat_lt 1 (length (cond b (x ∷ filter p ys) (filter p ys))) ≡ false
      by true = ap (λ l. nat_lt 1 (length (x ∷ l))) (filter_none ys after)
      by false = ap (λ l. nat_lt 1 (length l)) (filter_none ys after)
  one_at_most (y ∷ xs) x ys before after =
      ap (λ b. nat_lt 1 (length (cond b (y ∷ filter p (xs ++ x ∷ ys)) (filter p (xs ++ x ∷ ys))))) (All-head (λ z. p z ≡ false) y xs before)
      ∙ one_at_most xs x ys (All-tail (λ z. p z ≡ false) y xs before) after

module _ {X Y : Type 0} (f : X → Option Y) where
  -- none is the first exactly if there is none
  pub first_none : (xs : List X) → All (λ x. f x ≡ None) xs → first_some (map f xs) ≡ None
  first_none [] all = refl
  first_none (x ∷ xs) all =
      ap (λ o. option_or o (first_some (map f xs))) (All-head (λ y. f y ≡ None) x xs all) ∙ first_none xs (All-tail (λ y. f y ≡ None) x xs all)

  pub none_first : (xs : List X) → first_some (map f xs) ≡ None → All (λ x. f x ≡ None) xs
  none_first xs none = from_each (λ x. f x ≡ None) xs (λ k x at. none_at f xs k x at none)

pub unmapped : {X Y : Type 0} (f : X → Y) (o : Option X) → option_map f o ≡ None → o ≡ None
unmapped f None none = refl
unmapped f (Some x) none = absurd cc

-- ---- ranges

pub all_range : (P : ℕ → Type 0) (a n : ℕ) → ((k : ℕ) → k < n → P (a + k)) → All P (range_with_len a n)
all_range P a n each = λ k d lt.
    let inside : k < n = omega (arith, lt, length-range_with_len a n) in
    subst P (sym (get_or-range_with_len a n k d inside)) (each k inside)

pub range_all : (P : ℕ → Type 0) (a n k : ℕ) → k < n → All P (range_with_len a n) → P (a + k)
range_all P a n k lt all = subst P (get_or-range_with_len a n k 0 lt) (all k 0 (omega (arith, lt, length-range_with_len a n)))
