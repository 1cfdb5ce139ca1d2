-- What a write leaves of each cell, and changes of memory one after another.
use Rattle.std.proofs.Common.{◌≡◌, ℕ, suc, ◌+◌, ◌-◌, ◌<◌, ◌≤◌, List, [], ◌∷◌, Bool, true, false, cond, refl, sym, ap, ap₂, ◌∙◌, arith, leb, ltb, ◌⊎◌, inl, inr}
use Rattle.std.specs.Prelude.{◌&&◌}
use Rattle.std.proofs.lemmas.Bool.{and_from, and_parts, cases_lt, cond-true, le-leb, leb-true, lt-ltb, ltb-true}
use Rattle.rv_decode.specs.Memory.{Region, cells_changed, changed, written}
use Rattle.rv_decode.proofs.MemoryLaws.{untouched}

-- ---- one write

-- a cell that is written
pub written_there : {X : Type 0} (a n : ℕ) (given : ℕ → X) (x : ℕ) (old : X) → a ≤ x → x < a + n → written a n given x old ≡ given (x - a)
written_there a n given x old low high = cond-true (leb a x && ltb x (a + n)) (given (x - a)) old (and_from (leb a x) (ltb x (a + n)) (le-leb a x low) (lt-ltb x (a + n) high))

-- the same write, and the same cell of it, at other addresses
pub written_moved : {X : Type 0} (a b n : ℕ) (given : ℕ → X) (x y : ℕ) (old : X) → a + y ≡ b + x → written a n given x old ≡ written b n given y old
written_moved a b n given x y old is = either (leb a x && ltb x (a + n)) refl
  where
    either : (t : Bool) → (leb a x && ltb x (a + n)) ≡ t → cond t (given (x - a)) old ≡ written b n given y old
    either true h =
        let q = and_parts (leb a x) (ltb x (a + n)) h in
        let low = leb-true a x q.0 in
        let high = ltb-true x (a + n) q.1 in
        let same : x - a ≡ y - b = omega (arith, is, low) in
        ap given same ∙ sym (written_there b n given y old (omega (arith, is, low)) (omega (arith, is, high)))
    either false h = sym (untouched b n given y old (λ low high. outside (omega (arith, is, low)) (omega (arith, is, high))))
      where
        outside : a ≤ x → x < a + n → ⊥
        outside low high = let yes = and_from (leb a x) (ltb x (a + n)) (le-leb a x low) (lt-ltb x (a + n) high) in cc

-- no cell is written
pub written_none : {X : Type 0} (a : ℕ) (given : ℕ → X) (x : ℕ) (c : X) → written a 0 given x c ≡ c
written_none a given x c = untouched a 0 given x c (λ low high. omega (arith, low, high))

-- ---- one after another

-- a write of n cells and then of m more behind them is one write of n + m cells
pub written_further : {X : Type 0} (a n m : ℕ) (given rest : ℕ → X) → ((k : ℕ) → k < m → rest k ≡ given (n + k)) → (x : ℕ) (c : X)
    → written (a + n) m rest x (written a n given x c) ≡ written a (n + m) given x c
written_further a n m given rest same x c = by_place (cases_lt x a) (cases_lt x (a + n)) (cases_lt x (a + (n + m)))
  where
    by_place : (x < a) ⊎ (a ≤ x) → (x < a + n) ⊎ (a + n ≤ x) → (x < a + (n + m)) ⊎ (a + (n + m) ≤ x)
        → written (a + n) m rest x (written a n given x c) ≡ written a (n + m) given x c
    by_place (inl below) q r =
        untouched (a + n) m rest x (written a n given x c) (λ low high. omega (arith, below, low))
        ∙ untouched a n given x c (λ low high. omega (arith, below, low)) ∙ sym (untouched a (n + m) given x c (λ low high. omega (arith, below, low)))
    by_place (inr from) (inl first) r =
        untouched (a + n) m rest x (written a n given x c) (λ low high. omega (arith, first, low))
        ∙ written_there a n given x c from first ∙ sym (written_there a (n + m) given x c from (omega (arith, first)))
    by_place (inr from) (inr after) (inl last) =
        let index : n + (x - (a + n)) ≡ x - a = omega (arith, after) in
        written_there (a + n) m rest x (written a n given x c) after (omega (arith, last))
        ∙ same (x - (a + n)) (omega (arith, after, last)) ∙ ap given index
        ∙ sym (written_there a (n + m) given x c from last)
    by_place (inr from) (inr after) (inr past) =
        untouched (a + n) m rest x (written a n given x c) (λ low high. omega (arith, past, high))
        ∙ untouched a n given x c (λ low high. omega (arith, after, high)) ∙ sym (untouched a (n + m) given x c (λ low high. omega (arith, past, high)))

-- two changes that are one together
module _ {X : Type 0} (f g h : ℕ → X → X) (both : (x : ℕ) (c : X) → f x (g x c) ≡ h x c) where
  pub cells_changed-after : (at : ℕ) (cs : List X) → cells_changed f at (cells_changed g at cs) ≡ cells_changed h at cs
  cells_changed-after at [] = refl
  cells_changed-after at (c ∷ cs) = ap₂ (λ x xs. x ∷ xs) (both at c) (cells_changed-after (suc at) cs)

  pub changed-after : (rs : List (Region X)) → changed f (changed g rs) ≡ changed h rs
  changed-after [] = refl
  changed-after (r ∷ rs) = ap₂ (λ cs xs. record r { cells = cs } ∷ xs) (cells_changed-after r.at r.cells) (changed-after rs)
