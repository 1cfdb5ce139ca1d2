-- A text is split first at the first byte of the kind that separates its parts.
use Rattle.std.proofs.Common.{◌≡◌, ℕ, ◌+◌, ◌-◌, ◌<◌, Some, None, Bool, true, false, cond, List, [], ◌∷◌, ◌++◌, length, take, drop, get_or, ltb, eqb, refl, ap, sym, ◌∙◌, arith}
use Rattle.std.specs.List.{onto_first, position, position_or_len, slice_split}
use Rattle.std.proofs.lemmas.Bool.{eqb-true, ltb-true, ltb-false}
use Rattle.std.proofs.lemmas.Option.{cond_some}
use Rattle.std.proofs.lemmas.List.{length-drop, take_all}
use Rattle.std.proofs.lemmas.List.Splits.{slice_split_first, slice_split_none}
use Rattle.std.proofs.lemmas.List.Sums.{fails_before_first, passes_at_first, split_at_first}

-- `position` returns the first index at which the test passes
found : (p : ℕ → Bool) (xs : List ℕ) (i : ℕ) → position p xs ≡ Some i → (position_or_len p xs < length xs) × (position_or_len p xs ≡ i)
found p xs i is =
    let parts = cond_some (ltb (position_or_len p xs) (length xs)) (position_or_len p xs) i is in
    (ltb-true _ _ parts.0, parts.1)

rest_is : (xs : List ℕ) (k : ℕ) → take (length xs - k) (drop k xs) ≡ drop k xs
rest_is xs k = take_all (length xs - k) (drop k xs) (omega (arith, length-drop k xs))

pub split_found : (p : ℕ → Bool) (xs : List ℕ) (i : ℕ) → position p xs ≡ Some i → slice_split p xs ≡ take i xs ∷ slice_split p (take (length xs - (i + 1)) (drop (i + 1) xs))
split_found p xs i is =
    let at = found p xs i is in
    slice_split_first p xs 0 at.0
    ∙ ap (λ k. take k xs ∷ slice_split p (drop (k + 1) xs)) at.1
    ∙ ap (λ rest. take i xs ∷ slice_split p rest) (sym (rest_is xs (i + 1)))

pub text_found : (byte : ℕ) (xs : List ℕ) (i : ℕ) → position (λ b. eqb b byte) xs ≡ Some i → xs ≡ take i xs ++ (byte ∷ take (length xs - (i + 1)) (drop (i + 1) xs))
text_found byte xs i is =
    let p : ℕ → Bool = λ b. eqb b byte in
    let at = found p xs i is in
    let here = eqb-true (get_or xs (position_or_len p xs) 0) byte (passes_at_first p xs 0 at.0) in
    split_at_first p xs 0 at.0
    ∙ ap (λ c. take (position_or_len p xs) xs ++ (c ∷ drop (position_or_len p xs + 1) xs)) here
    ∙ ap (λ k. take k xs ++ (byte ∷ drop (k + 1) xs)) at.1
    ∙ ap (λ rest. take i xs ++ (byte ∷ rest)) (sym (rest_is xs (i + 1)))

pub split_none : (p : ℕ → Bool) (xs : List ℕ) → position p xs ≡ None → slice_split p xs ≡ xs ∷ []
split_none p xs is = either (ltb (position_or_len p xs) (length xs)) refl is
  where
    either : (b : Bool) → ltb (position_or_len p xs) (length xs) ≡ b → cond b (Some (position_or_len p xs)) None ≡ None → slice_split p xs ≡ xs ∷ []
    either true _ h = absurd cc
    either false past h =
        let end = ltb-false _ _ past in
        slice_split_none p xs (λ k d lt. fails_before_first p xs k d (omega (arith, end, lt)))

-- a text has at least one part
pub some_part : (p : ℕ → Bool) (xs : List ℕ) → (x : List ℕ) × (ys : List (List ℕ)) × (slice_split p xs ≡ x ∷ ys)
some_part p [] = ([], [], refl)
some_part p (x ∷ xs) = either (p x)
  where
    onto : (parts : List (List ℕ)) → (z : List ℕ) × (ys : List (List ℕ)) × (onto_first x parts ≡ z ∷ ys)
    onto [] = (x ∷ [], [], refl)
    onto (y ∷ ys) = (x ∷ y, ys, refl)

    either : (b : Bool) → (z : List ℕ) × (ys : List (List ℕ)) × (cond b ([] ∷ slice_split p xs) (onto_first x (slice_split p xs)) ≡ z ∷ ys)
    either true = ([], slice_split p xs, refl)
    either false = onto (slice_split p xs)
