-- Steps, one after another.
use Rattle.std.specs.Prelude.{ℕ, zero, suc, Result, Ok, Err}

infixl 10 ◌>>=◌
-- the second step from what the first gives, if it gives something
abbrev pub ◌>>=◌ : {A B E : Type 0} → Result A E → (A → Result B E) → Result B E
(Ok x) >>= f = f x
(Err e) >>= f = Err e

-- a step made n times
abbrev pub iterate : {A E : Type 0} → (A → Result A E) → ℕ → A → Result A E
iterate f zero x = Ok x
iterate f (suc n) x = f x >>= iterate f n
