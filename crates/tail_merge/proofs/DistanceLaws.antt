-- Distances between offsets of a section: when these move down, a distance keeps its direction and whether it is even, and doesn't
-- grow. So it fits where it fitted.
use Rattle.std.proofs.Common.{◌≡◌, ℕ, suc, ◌+◌, ◌%◌, ℤ, pos, negsuc, ◌+ℤ◌, ◌-ℤ◌, List, [], ◌∷◌, refl, sym, ap, ◌∙◌, arith, inl, inr}
use Rattle.std.specs.Prelude.{All}
use Rattle.std.proofs.Math.IntN.{neg_ℤ, +ℤ-neg_ℤ_cancel, +ℤ_assoc, +ℤ_comm, -ℤ-+ℤ_cancel}
use Rattle.std.proofs.lemmas.Bool.{cases_lt}
use Rattle.std.proofs.lemmas.List.Elements.{All-head, All-tail}
use Rattle.rv_decode.specs.Bits.{FitsIn, IsEven}
use Rattle.tail_merge.specs.Tails.{Removed, bytes_of_all, moved_down, tail_end}
use Rattle.tail_merge.proofs.OffsetLaws.{ApartFrom, Outside, down-behind, down-before, down-floor, down-near, down-order}

pub there-and-back : (a b : ℕ) → pos a +ℤ (pos b -ℤ pos a) ≡ pos b
there-and-back a b = sym (+ℤ_assoc (pos a) (pos b) (neg_ℤ (pos a))) ∙ ap (λ z. z -ℤ pos a) (+ℤ_comm (pos a) (pos b)) ∙ +ℤ-neg_ℤ_cancel (pos b) (pos a)

-- a distance leads from one offset to another
abbrev pub IsWay : ℕ → ℕ → ℤ → Type 0
IsWay a b (pos k) = a + k ≡ b
IsWay a b (negsuc k) = b + suc k ≡ a

pub way-of : (a b : ℕ) (z : ℤ) → pos a +ℤ z ≡ pos b → IsWay a b z
way-of a b (pos k) is = cc
way-of a b (negsuc k) is =
    let back : pos b +ℤ pos (suc k) ≡ pos a = ap (λ z. z +ℤ pos (suc k)) (sym is) ∙ -ℤ-+ℤ_cancel (pos a) (pos (suc k)) in
    cc

-- the difference is such a distance
pub way-between : (a b : ℕ) → IsWay a b (pos b -ℤ pos a)
way-between a b = way-of a b (pos b -ℤ pos a) (there-and-back a b)

-- what is removed is a whole number of halfwords
abbrev pub IsEvenTail : Removed → Type 0
IsEvenTail r = bytes_of_all r.tail % 2 ≡ 0

-- so an offset stays even or odd
pub down-even : (m : ℕ) (rs : List Removed) (n : ℕ) → ApartFrom m rs → Outside rs n → All IsEvenTail rs → moved_down rs n % 2 ≡ n % 2
down-even m [] n a o even = refl
down-even m (r ∷ rs) n a (inl before) even = ap (λ k. k % 2) (down-before r rs n before)
down-even m (r ∷ rs) n a (inr behind) even =
    let long = a.1 in
    let e = down-behind r rs n long behind.0 in
    let floor = down-floor (tail_end r) rs n a.2 behind.1 behind.0 in
    let rest = down-even (tail_end r) rs n a.2 behind.1 (All-tail IsEvenTail r rs even) in
    let own = All-head IsEvenTail r rs even in
    omega (arith, e, floor, rest, own, long)

module _ (rs : List Removed) (apart : ApartFrom 0 rs) (n m : ℕ) (on : Outside rs n) (om : Outside rs m) where
  -- a distance that fits so many bits still does
  pub still-fits : (bits : ℕ) (z z' : ℤ) → IsWay n m z → IsWay (moved_down rs n) (moved_down rs m) z' → FitsIn bits z → FitsIn bits z'
  still-fits bits (pos k) (pos j) way way' fits =
      let near = down-near 0 rs n m apart on om (omega (arith, way)) in omega (arith, near, way, way', fits)
  still-fits bits (pos k) (negsuc j) way way' fits = elim (cases_lt n m) [
    | inl lt ↦ absurd (let order = down-order 0 rs n m apart on om lt in omega (arith, order, way'))
    | inr le ↦ absurd (let same : n ≡ m = omega (arith, le, way) in let e = ap (moved_down rs) same in omega (arith, e, way'))
  ]
  still-fits bits (negsuc k) (pos j) way way' fits =
      absurd (let order = down-order 0 rs m n apart om on (omega (arith, way)) in omega (arith, order, way'))
  still-fits bits (negsuc k) (negsuc j) way way' fits =
      let near = down-near 0 rs m n apart om on (omega (arith, way)) in omega (arith, near, way, way', fits)

  -- and an even one is even
  pub still-even : All IsEvenTail rs → (z z' : ℤ) → IsWay n m z → IsWay (moved_down rs n) (moved_down rs m) z' → IsEven z → IsEven z'
  still-even even z z' way way' is = by z z' way way' is (down-even 0 rs n apart on even) (down-even 0 rs m apart om even)
    where
      by : (z z' : ℤ) → IsWay n m z → IsWay (moved_down rs n) (moved_down rs m) z' → IsEven z → moved_down rs n % 2 ≡ n % 2
          → moved_down rs m % 2 ≡ m % 2 → IsEven z'
      by (pos k) (pos j) way way' is a b = omega (arith, way, way', is, a, b)
      by (pos k) (negsuc j) way way' is a b = omega (arith, way, way', is, a, b)
      by (negsuc k) (pos j) way way' is a b = omega (arith, way, way', is, a, b)
      by (negsuc k) (negsuc j) way way' is a b = omega (arith, way, way', is, a, b)
