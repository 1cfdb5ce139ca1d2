-- Rows of tables that are found by a number.
use Rattle.std.proofs.Common.{◌≡◌, ℕ, List, [], ◌∷◌, Option, Some, None, Bool, true, false, cond, refl, subst, sym, eqb}
use Rattle.std.specs.Option.{option_map}
use Rattle.std.proofs.lemmas.Bool.{eqb-true}
use Rattle.rv_decode.specs.Decode.{row_of}

-- what holds of each row
abbrev pub EachRow : {A : Type 0} → (ℕ → A → Type 0) → List (ℕ × A) → Type 0
EachRow P [] = Unit {0}
EachRow P (row ∷ rows) = P row.0 row.1 × EachRow P rows

-- holds of the row that is found
pub row_found : {A : Type 0} (P : ℕ → A → Type 0) (rows : List (ℕ × A)) (n : ℕ) (a : A) → EachRow P rows → row_of rows n ≡ Some a → P n a
row_found P [] n a each found = absurd cc
row_found {A} P (row ∷ rows) n a each found = either (eqb n row.0) refl found (row_found P rows n a each.1)
  where
    either : (b : Bool) → eqb n row.0 ≡ b → cond b (Some row.1) (row_of rows n) ≡ Some a → (row_of rows n ≡ Some a → P n a) → P n a
    either true here is later =
        let same : row.1 ≡ a = cc in
        subst (λ m. P m a) (sym (eqb-true n row.0 here)) (subst (P row.0) same each.0)
    either false here is later = later is

-- what is made of something came from something
pub option_map-some : {A B : Type 0} (f : A → B) (o : Option A) (y : B) → option_map f o ≡ Some y → (x : A) × (o ≡ Some x) × (y ≡ f x)
option_map-some f None y made = absurd cc
option_map-some f (Some x) y made = (x, refl, cc)
