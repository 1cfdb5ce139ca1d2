-- A search over a range of numbers that finds none: no number of the range passes the test.
use Rattle.std.proofs.Common.{◌≡◌, ℕ, zero, suc, ◌+◌, ◌<◌, ◌≤◌, Bool, true, false, cond, Some, None, ◌⊎◌, inl, inr, refl, subst, arith}
use Rattle.std.specs.List.{find, range_with_len}
use Rattle.std.proofs.Math.Nat.{eq-or-lt_of_le}

pub none_found_in_range : (p : ℕ → Bool) (k n i : ℕ) → find p (range_with_len k n) ≡ None → k ≤ i → i < k + n → p i ≡ false
none_found_in_range p k zero i none from within = absurd (omega arith)
none_found_in_range p k (suc n) i none from within = by (λ rest after. none_found_in_range p (k + 1) n i rest after (omega arith)) (p k) refl none
  where
    at : p k ≡ false → (k + 1 ≤ i → p i ≡ false) → (k ≡ i) ⊎ (k < i) → p i ≡ false
    at here later (inl same) = subst (λ n. p n ≡ false) same here
    at here later (inr after) = later (omega arith)

    by : (find p (range_with_len (k + 1) n) ≡ None → k + 1 ≤ i → p i ≡ false) → (b : Bool) → p k ≡ b → cond b (Some k) (find p (range_with_len (k + 1) n)) ≡ None → p i ≡ false
    by later true is h = absurd cc
    by later false is h = at is (later h) (eq-or-lt_of_le from)
