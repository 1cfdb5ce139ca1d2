-- Sums of the first sizes, and what they are after one size has changed.
use Rattle.std.proofs.Common.{◌≡◌, ℕ, zero, suc, ◌+◌, ◌<◌, ◌≤◌, List, [], ◌∷◌, take, set, get_or, length, sym, ap, arith}
use Rattle.std.specs.List.{sum}
use Rattle.std.proofs.lemmas.List.{take-take, take-set-le}
use Rattle.std.proofs.lemmas.List.Sums.{sum_by-cons, sum_by-take-le, sum_by_more}

-- the sum of the first sizes
abbrev pub front : List ℕ → ℕ → ℕ
front sizes j = sum (take j sizes)

-- the sum of the first sizes doesn't fall as there are more
pub front_rises : (sizes : List ℕ) (i j : ℕ) → i ≤ j → front sizes i ≤ front sizes j
front_rises sizes i j le = let e : front sizes i ≡ sum (take i (take j sizes)) = ap sum (sym (take-take i j sizes le)) in omega (arith, e, sum_by-take-le (λ x. x) (take j sizes) i)

-- the sum of the first sizes is no more than the sum of all
pub front_most : (sizes : List ℕ) (i : ℕ) → front sizes i ≤ sum sizes
front_most sizes i = sum_by-take-le (λ x. x) sizes i

-- the sum of the first sizes, with one size more
pub front_one : (sizes : List ℕ) (i : ℕ) → i < length sizes → front sizes (i + 1) ≡ front sizes i + get_or sizes i 0
front_one sizes i lt = sum_by_more (λ x. x) sizes i 0 lt

-- a sum that ends before the changed size is as before
pub front_set_low : (sizes : List ℕ) (i j v : ℕ) → j ≤ i → front (set sizes i v) j ≡ front sizes j
front_set_low sizes i j v le = ap sum (take-set-le j sizes i v le)

-- any other one has the new size in place of the old
pub front_set_high : (sizes : List ℕ) (i j v : ℕ) → i < j → i < length sizes → front (set sizes i v) j + get_or sizes i 0 ≡ front sizes j + v
front_set_high [] i j v lt within = absurd (omega arith)
front_set_high (x ∷ sizes) i zero v lt within = absurd (omega arith)
front_set_high (x ∷ sizes) zero (suc j) v lt within =
    omega (arith, sum_by-cons (λ y. y) v (take j sizes), sum_by-cons (λ y. y) x (take j sizes))
front_set_high (x ∷ sizes) (suc i) (suc j) v lt within =
    omega (arith, sum_by-cons (λ y. y) x (take j (set sizes i v)), sum_by-cons (λ y. y) x (take j sizes), front_set_high sizes i j v (omega arith) (omega arith))
