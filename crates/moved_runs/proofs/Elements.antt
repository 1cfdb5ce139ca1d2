-- What holds of an element of a list, by its place in it: if it passes a test, some element does; and if no element gives anything, it
-- gives nothing.
use Rattle.std.proofs.Common.{◌≡◌, ℕ, ◌⊎◌, List, [], ◌∷◌, ◌++◌, map, Option, Some, None, Bool, true, false, cond, refl, sym, ap, ◌∙◌, inl, inr, eqb}
use Rattle.std.specs.Prelude.{◌||◌}
use Rattle.std.specs.List.{find, flat_map, list_any}
use Rattle.std.proofs.lemmas.Bool.{eqb-true, or_cases, or_left, or_right}
use Rattle.std.proofs.lemmas.List.Folds.{list_any-append}
use Rattle.psabi_sym.specs.Faults.{first_some}

-- an element between others passes, so some element does
pub any_there : {X : Type 0} (p : X → Bool) (before rest : List X) (x : X) → p x ≡ true → list_any p (before ++ x ∷ rest) ≡ true
any_there p before rest x h = list_any-append p before (x ∷ rest) ∙ or_right (list_any p before) (p x || list_any p rest) (or_left (p x) (list_any p rest) h)

-- if none of a list gives anything, none between others does
pub none_first : {A : Type 0} (o : Option A) (os : List (Option A)) → first_some (o ∷ os) ≡ None → (o ≡ None) × (first_some os ≡ None)
none_first None os h = (refl, h)
none_first (Some a) os h = absurd cc

pub none_there : {X A : Type 0} (f : X → Option A) (before rest : List X) (x : X) → first_some (map f (before ++ x ∷ rest)) ≡ None → f x ≡ None
none_there f [] rest x h = (none_first (f x) (map f rest) h).0
none_there f (y ∷ ys) rest x h = none_there f ys rest x (none_first (f y) (map f (ys ++ x ∷ rest)) h).1

-- what a search finds is an element, and passes
module _ {X : Type 0} (p : X → Bool) where
  pub found_passes : (xs : List X) (x : X) → find p xs ≡ Some x → p x ≡ true
  found_passes [] x h = absurd cc
  found_passes (y ∷ ys) x h = by (p y) refl h (λ g. found_passes ys x g)
    where
      by : (b : Bool) → p y ≡ b → cond b (Some y) (find p ys) ≡ Some x → (find p ys ≡ Some x → p x ≡ true) → p x ≡ true
      by true passes g rest = let same : y ≡ x = cc in ap p (sym same) ∙ passes
      by false fails g rest = rest g

  pub any_found : (q : X → Bool) (xs : List X) (x : X) → find p xs ≡ Some x → q x ≡ true → list_any q xs ≡ true
  any_found q [] x h passes = absurd cc
  any_found q (y ∷ ys) x h passes = by (p y) h (λ g. any_found q ys x g passes)
    where
      by : (b : Bool) → cond b (Some y) (find p ys) ≡ Some x → (find p ys ≡ Some x → list_any q ys ≡ true) → (q y || list_any q ys) ≡ true
      by true g rest = let same : y ≡ x = cc in or_left (q y) (list_any q ys) (ap q same ∙ passes)
      by false g rest = or_right (q y) (list_any q ys) (rest g)

  pub none_found : {A : Type 0} (f : X → Option A) (xs : List X) (x : X) → find p xs ≡ Some x → first_some (map f xs) ≡ None → f x ≡ None
  none_found f [] x h none = absurd cc
  none_found f (y ∷ ys) x h none =
      let parts = none_first (f y) (map f ys) none in
      by (p y) h parts.0 (λ g. none_found f ys x g parts.1)
    where
      by : (b : Bool) → cond b (Some y) (find p ys) ≡ Some x → f y ≡ None → (find p ys ≡ Some x → f x ≡ None) → f x ≡ None
      by true g here rest = let same : y ≡ x = cc in ap f (sym same) ∙ here
      by false g here rest = rest g

-- an offset is one of a list
pub any_offset : {X : Type 0} (p : X → Bool) (f : ℕ → X) (ns : List ℕ) (n : ℕ) → list_any (λ m. eqb m n) ns ≡ true → p (f n) ≡ true → list_any p (map f ns) ≡ true
any_offset p f [] n among h = absurd cc
any_offset p f (m ∷ ms) n among h = by (or_cases (eqb m n) (list_any (λ k. eqb k n) ms) among) (λ later. any_offset p f ms n later h)
  where
    by : (eqb m n ≡ true) ⊎ (list_any (λ k. eqb k n) ms ≡ true) → (list_any (λ k. eqb k n) ms ≡ true → list_any p (map f ms) ≡ true) → (p (f m) || list_any p (map f ms)) ≡ true
    by (inl here) rest = or_left (p (f m)) (list_any p (map f ms)) (ap (λ k. p (f k)) (eqb-true m n here) ∙ h)
    by (inr later) rest = or_right (p (f m)) (list_any p (map f ms)) (rest later)

-- an element of one of the lists
pub any_flat : {X Y : Type 0} (p : Y → Bool) (f : X → List Y) (before rest : List X) (x : X) → list_any p (f x) ≡ true → list_any p (flat_map f (before ++ x ∷ rest)) ≡ true
any_flat p f [] rest x h = list_any-append p (f x) (flat_map f rest) ∙ or_left (list_any p (f x)) (list_any p (flat_map f rest)) h
any_flat p f (y ∷ ys) rest x h =
    list_any-append p (f y) (flat_map f (ys ++ x ∷ rest)) ∙ or_right (list_any p (f y)) (list_any p (flat_map f (ys ++ x ∷ rest))) (any_flat p f ys rest x h)
