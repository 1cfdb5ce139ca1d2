-- What a filter keeps of the values of a function at 0, 1, 2 and so on.
use Rattle.std.proofs.Common.{◌≡◌, ℕ, zero, suc, ◌+◌, ◌≤◌, [], ◌∷◌, ◌++◌, length, map, Bool, true, false, cond, ap, ◌∙◌, arith, length-append, inl, inr}
use Rattle.std.specs.Prelude.{filter}
use Rattle.std.specs.List.{range_with_len}
use Rattle.std.proofs.lemmas.Bool.{cases_lt}
use Rattle.std.proofs.lemmas.List.{append-nil}
use Rattle.std.proofs.lemmas.List.FromFn.{filter_of_map_range_with_len_more}

-- one more value, which is kept
pub kept_more : {X : Type 0} (p : X → Bool) (f : ℕ → X) (i : ℕ) → p (f i) ≡ true → filter p (map f (range_with_len 0 (i + 1))) ≡ filter p (map f (range_with_len 0 i)) ++ f i ∷ []
kept_more p f i keep =
    filter_of_map_range_with_len_more p f 0 i i (omega arith) ∙ ap (λ b. filter p (map f (range_with_len 0 i)) ++ cond b (f i ∷ []) []) keep

-- one more value, which is dropped
pub kept_same : {X : Type 0} (p : X → Bool) (f : ℕ → X) (i : ℕ) → p (f i) ≡ false → filter p (map f (range_with_len 0 (i + 1))) ≡ filter p (map f (range_with_len 0 i))
kept_same p f i drop =
    filter_of_map_range_with_len_more p f 0 i i (omega arith) ∙ ap (λ b. filter p (map f (range_with_len 0 i)) ++ cond b (f i ∷ []) []) drop ∙ append-nil (filter p (map f (range_with_len 0 i)))

-- a filter keeps at least as many of more values
pub kept_length : {X : Type 0} (p : X → Bool) (f : ℕ → X) (n i : ℕ) → i ≤ n → length (filter p (map f (range_with_len 0 i))) ≤ length (filter p (map f (range_with_len 0 n)))
kept_length p f zero i le =
    let none : i ≡ 0 = omega arith in
    omega (arith, ap (λ k. length (filter p (map f (range_with_len 0 k)))) none)
kept_length p f (suc n) i le =
    let kept : ℕ → ℕ = λ k. length (filter p (map f (range_with_len 0 k))) in
    let last : suc n ≡ n + 1 = omega arith in
    elim (cases_lt i (suc n)) [
      | inl less ↦
          let before : kept i ≤ kept n = kept_length p f n i (omega arith) in
          let more = ap length (filter_of_map_range_with_len_more p f 0 n n (omega arith)) ∙ length-append (filter p (map f (range_with_len 0 n))) (cond (p (f n)) (f n ∷ []) []) in
          omega (arith, before, more, ap kept last)
      | inr more ↦ let same : i ≡ suc n = omega arith in omega (arith, ap kept same)
    ]

-- the number of values that are kept, after one more that is kept
pub count_more : {X : Type 0} (p : X → Bool) (f : ℕ → X) (i : ℕ) → p (f i) ≡ true → length (filter p (map f (range_with_len 0 (i + 1)))) ≡ length (filter p (map f (range_with_len 0 i))) + 1
count_more p f i keep = ap length (kept_more p f i keep) ∙ length-append (filter p (map f (range_with_len 0 i))) (f i ∷ [])

-- the number of values that are kept, after one more that is dropped
pub count_same : {X : Type 0} (p : X → Bool) (f : ℕ → X) (i : ℕ) → p (f i) ≡ false → length (filter p (map f (range_with_len 0 (i + 1)))) ≡ length (filter p (map f (range_with_len 0 i)))
count_same p f i drop = ap length (kept_same p f i drop)
