-- Steps that are made one after another.
use Rattle.std.proofs.Common.{◌≡◌, ℕ, zero, suc, ◌+◌, Result, Ok, Err, refl, ap, ◌∙◌, arith}
use Rattle.rv_decode.specs.Run.{◌>>=◌, iterate}

-- what gives something at the end gave something on the way
pub bind_ok : {A B E : Type 0} (r : Result A E) (f : A → Result B E) (y : B) → (r >>= f) ≡ Ok y → (x : A) × (r ≡ Ok x) × (f x ≡ Ok y)
bind_ok (Ok x) f y e = (x, refl, e)
bind_ok (Err e) f y h = cc

-- three steps one after another, the last two of them as one
pub bind_assoc : {A B C E : Type 0} (r : Result A E) (f : A → Result B E) (g : B → Result C E) (h : A → Result C E) → ((x : A) → h x ≡ (f x >>= g)) → (r >>= h) ≡ ((r >>= f) >>= g)
bind_assoc (Ok x) f g h e = e x
bind_assoc (Err x) f g h e = refl

-- m steps and then n are m + n
pub iterate-add : {A E : Type 0} (f : A → Result A E) (m n : ℕ) (x : A) → iterate f (m + n) x ≡ (iterate f m x >>= iterate f n)
iterate-add f zero n x = let e : 0 + n ≡ n = omega arith in ap (λ k. iterate f k x) e
iterate-add f (suc m) n x =
    let e : suc m + n ≡ suc (m + n) = omega arith in
    ap (λ k. iterate f k x) e ∙ bind_assoc (f x) (iterate f m) (iterate f n) (iterate f (m + n)) (λ y. iterate-add f m n y)

-- one step
pub iterate-one : {A E : Type 0} (f : A → Result A E) (x y : A) → f x ≡ Ok y → iterate f 1 x ≡ Ok y
iterate-one f x y e = ap (λ r. r >>= iterate f 0) e
