-- The first `Some` among the values of a list: none in a part that is done, then that of the next element.
use Rattle.std.proofs.Common.{◌≡◌, ℕ, ◌+◌, List, [], ◌∷◌, ◌++◌, take, drop, map, Option, Some, None, slice_get, refl, sym, ap, ◌∙◌}
use Rattle.std.specs.Option.{option_or}
use Rattle.psabi_sym.specs.Faults.{first_some}
use Rattle.block_cut.proofs.TakeLaws.{cut_at_next, take_next}

module _ {X Y : Type 0} (f : X → Option Y) where
  -- a part without any changes nothing
  pub first_after : (xs ys : List X) → first_some (map f xs) ≡ None → first_some (map f (xs ++ ys)) ≡ first_some (map f ys)
  first_after [] ys none = refl
  first_after (x ∷ xs) ys none = by (f x) none (first_after xs ys)
    where
      by : (o : Option Y) → option_or o (first_some (map f xs)) ≡ None → (first_some (map f xs) ≡ None → first_some (map f (xs ++ ys)) ≡ first_some (map f ys))
          → option_or o (first_some (map f (xs ++ ys))) ≡ first_some (map f ys)
      by None none rest = rest none
      by (Some y) none rest = absurd cc

  -- one element more that has no value
  pub none_after : (xs : List X) (x : X) → first_some (map f xs) ≡ None → f x ≡ None → first_some (map f (xs ++ x ∷ [])) ≡ None
  none_after xs x none here = first_after xs (x ∷ []) none ∙ ap (λ o. option_or o None) here

  -- the first that has one
  pub some_after : (xs : List X) (x : X) (rest : List X) (y : Y) → first_some (map f xs) ≡ None → f x ≡ Some y → first_some (map f (xs ++ x ∷ rest)) ≡ Some y
  some_after xs x rest y none here = first_after xs (x ∷ rest) none ∙ ap (λ o. option_or o (first_some (map f rest))) here

  module _ (xs : List X) (k : ℕ) (x : X) (at : slice_get xs k ≡ Some x) (none : first_some (map f (take k xs)) ≡ None) where
    -- the first k + 1 elements have no value if the first k and the next one have none
    pub none_next : f x ≡ None → first_some (map f (take (k + 1) xs)) ≡ None
    none_next here = ap (λ l. first_some (map f l)) (take_next xs k x at) ∙ none_after (take k xs) x none here

    pub some_next : (y : Y) → f x ≡ Some y → first_some (map f xs) ≡ Some y
    some_next y here =
        ap (λ l. first_some (map f l)) (cut_at_next xs k x at) ∙ some_after (take k xs) x (drop (k + 1) xs) y none here

  -- none at all is none of each
  pub none_within : (xs : List X) (x : X) (rest : List X) → first_some (map f (xs ++ x ∷ rest)) ≡ None → f x ≡ None
  none_within [] x rest none = by (f x) none
    where
      by : (o : Option Y) → option_or o (first_some (map f rest)) ≡ None → o ≡ None
      by None none = refl
      by (Some y) none = absurd cc
  none_within (y ∷ ys) x rest none = by (f y) (none_within ys x rest) none
    where
      by : (o : Option Y) → (first_some (map f (ys ++ x ∷ rest)) ≡ None → f x ≡ None) → option_or o (first_some (map f (ys ++ x ∷ rest))) ≡ None → f x ≡ None
      by None rest none = rest none
      by (Some z) rest none = absurd cc

  pub none_at : (xs : List X) (k : ℕ) (x : X) → slice_get xs k ≡ Some x → first_some (map f xs) ≡ None → f x ≡ None
  none_at xs k x at none = none_within (take k xs) x (drop (k + 1) xs) (ap (λ l. first_some (map f l)) (sym (cut_at_next xs k x at)) ∙ none)
