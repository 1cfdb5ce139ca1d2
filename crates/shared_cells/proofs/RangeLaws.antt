-- Where ranges ascend, an address lies in the last one that begins there or before, or in none.
use Rattle.std.proofs.Common.{◌≡◌, ℕ, zero, suc, ◌+◌, ◌<◌, ◌≤◌, List, [], ◌∷◌, Bool, true, false, length, get_or, leb, ltb, refl, ap, ◌∙◌, arith}
use Rattle.std.specs.Prelude.{◌&&◌, ◌||◌}
use Rattle.std.specs.List.Sorted.{IsNonDecreasingBy, IsPartitionPoint}
use Rattle.std.proofs.lemmas.Bool.{leb-true, le-ltb}
use Rattle.shared_cells.specs.Ascending.{AscendFrom}
use Rattle.shared_cells.specs.SharedRun.{in_range, in_ranges}

-- none begins before that address
least : (end : ℕ) (rs : List (ℕ × ℕ)) → AscendFrom end rs → (j : ℕ) (d : ℕ × ℕ) → j < length rs → end ≤ (get_or rs j d).0
least end [] up j d lt = absurd (omega arith)
least end (r ∷ rs) up zero d lt = up.0
least end (r ∷ rs) up (suc j) d lt = let later = least (r.0 + r.1) rs up.1 j d (omega arith) in omega (arith, up.0, later)

-- they begin in ascending order
pub rises : (end : ℕ) (rs : List (ℕ × ℕ)) → AscendFrom end rs → IsNonDecreasingBy (λ (r : ℕ × ℕ). r.0) rs
rises end [] up i j d le lt = absurd (omega arith)
rises end (r ∷ rs) up zero zero d le lt = omega arith
rises end (r ∷ rs) up zero (suc j) d le lt = let later = least (r.0 + r.1) rs up.1 j d (omega arith) in omega (arith, later)
rises end (r ∷ rs) up (suc i) zero d le lt = absurd (omega arith)
rises end (r ∷ rs) up (suc i) (suc j) d le lt = rises (r.0 + r.1) rs up.1 i j d (omega arith) (omega arith)

-- the number of ranges that begin at an address or before
abbrev pub IsPoint : List (ℕ × ℕ) → ℕ → ℕ → Type 0
IsPoint rs a k = IsPartitionPoint (λ (r : ℕ × ℕ). leb r.0 a ≡ true) (λ (r : ℕ × ℕ). leb r.0 a ≡ false) rs k

begins_later : (r : ℕ × ℕ) (a : ℕ) → leb r.0 a ≡ false → in_range r a ≡ false
begins_later r a later = ap (λ b. b && ltb a (r.0 + r.1)) later

ends_before : (r : ℕ × ℕ) (a : ℕ) → r.0 + r.1 ≤ a → in_range r a ≡ false
ends_before r a le = ap (λ b. leb r.0 a && b) (le-ltb a (r.0 + r.1) le) ∙ either (leb r.0 a)
  where
    either : (b : Bool) → (b && false) ≡ false
    either true = refl
    either false = refl

pub point_none : (rs : List (ℕ × ℕ)) (a : ℕ) → IsPoint rs a 0 → in_ranges rs a ≡ false
point_none [] a point = refl
point_none (r ∷ rs) a point =
    ap (λ b. b || in_ranges rs a) (begins_later r a (point.1 0 r (omega arith) (omega arith)))
    ∙ point_none rs a ((λ j d low high. absurd (omega (arith, high))), (λ j d low high. point.1 (suc j) d (omega (arith, low)) (omega (arith, high))))

pub point_some : (end : ℕ) (rs : List (ℕ × ℕ)) (a k : ℕ) (d : ℕ × ℕ) → AscendFrom end rs → k < length rs → IsPoint rs a (suc k) → in_ranges rs a ≡ in_range (get_or rs k d) a
point_some end [] a k d up lt point = absurd (omega (arith, lt))
point_some end (r ∷ rs) a zero d up lt point =
    let rest = point_none rs a ((λ j e low high. absurd (omega (arith, high))), (λ j e low high. point.1 (suc j) e (omega (arith, low)) (omega (arith, high)))) in
    ap (λ b. in_range r a || b) rest ∙ either (in_range r a)
  where
    either : (b : Bool) → (b || false) ≡ b
    either true = refl
    either false = refl
point_some end (r ∷ rs) a (suc k) d up lt point =
    let begun : (get_or rs k d).0 ≤ a = leb-true (get_or rs k d).0 a (point.0 (suc k) d (omega arith) (omega (arith, lt))) in
    let over : r.0 + r.1 ≤ a = omega (arith, begun, least (r.0 + r.1) rs up.1 k d (omega (arith, lt))) in
    ap (λ b. b || in_ranges rs a) (ends_before r a over)
    ∙ point_some (r.0 + r.1) rs a k d up.1 (omega (arith, lt))
    ((λ j e low high. point.0 (suc j) e (omega (arith, low)) (omega (arith, high))), (λ j e low high. point.1 (suc j) e (omega (arith, low)) (omega (arith, high))))
