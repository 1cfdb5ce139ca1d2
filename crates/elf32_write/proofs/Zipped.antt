-- Tests and maps over two lists whose elements are related, place by place.
use Rattle.std.proofs.Common.{◌≡◌, ℕ, zero, suc, ◌+◌, ◌<◌, List, [], ◌∷◌, ◌++◌, length, get_or, map, Bool, true, false, cond, ◌||◌, refl, sym, ap, ◌∙◌, arith}
use Rattle.std.specs.Prelude.{All, filter}
use Rattle.std.specs.List.{AllZip, list_any, flat_map, range_with_len}
use Rattle.std.proofs.lemmas.Bool.{or_from}
use Rattle.std.proofs.lemmas.List.Elements.{All-head, All-tail}

-- if no related element passes, none does
pub zip_none : {X Y : Type 0} (R : X → Y → Type 0) (P : Y → Type 0) (p : X → Bool) → ((x : X) (y : Y) → R x y → P y → p x ≡ false) → (xs : List X) (ys : List Y) → AllZip R xs ys → All P ys → list_any p xs ≡ false
zip_none R P p fails [] [] zipped all = refl
zip_none R P p fails [] (y ∷ ys) zipped all = absurd zipped
zip_none R P p fails (x ∷ xs) [] zipped all = absurd zipped
zip_none R P p fails (x ∷ xs) (y ∷ ys) zipped all =
    or_from (p x) (list_any p xs) (fails x y zipped.0 (All-head P y ys all)) (zip_none R P p fails xs ys zipped.1 (All-tail P y ys all))

-- what a filter that passes no related element keeps
pub none_kept : {X : Type 0} (p : X → Bool) (xs : List X) → list_any p xs ≡ false → filter p xs ≡ []
none_kept p [] none = refl
none_kept p (x ∷ xs) none =
    elim (p x) as (λ b. (b || list_any p xs) ≡ false → cond b (x ∷ filter p xs) (filter p xs) ≡ []) [
      | true ↦ λ h. absurd cc
      | false ↦ λ h. none_kept p xs h
    ] none

-- a filter that keeps nothing is a test that none passes
pub none_filtered : {X : Type 0} (p : X → Bool) (xs : List X) → length (filter p xs) ≡ 0 → list_any p xs ≡ false
none_filtered p [] none = refl
none_filtered p (x ∷ xs) none =
    elim (p x) as (λ b. length (cond b (x ∷ filter p xs) (filter p xs)) ≡ 0 → (b || list_any p xs) ≡ false) [
      | true ↦ λ h. absurd (omega (arith, h))
      | false ↦ λ h. none_filtered p xs h
    ] none

-- what is made of the elements that a filter keeps, by their related ones
pub zip_kept : {X Y A : Type 0} (R : X → Y → Type 0) (p : X → Bool) (q : Y → Bool) (f : X → List A) (g : Y → List A) → ((x : X) (y : Y) → R x y → p x ≡ q y) → ((x : X) (y : Y) → R x y → q y ≡ true → f x ≡ g y) → (xs : List X) (ys : List Y) → AllZip R xs ys → flat_map f (filter p xs) ≡ flat_map g (filter q ys)
zip_kept R p q f g same makes [] [] zipped = refl
zip_kept R p q f g same makes [] (y ∷ ys) zipped = absurd zipped
zip_kept R p q f g same makes (x ∷ xs) [] zipped = absurd zipped
zip_kept {X} {Y} {A} R p q f g same makes (x ∷ xs) (y ∷ ys) zipped =
    let more = zip_kept R p q f g same makes xs ys zipped.1 in
    let tested = ap (λ b. flat_map f (cond b (x ∷ filter p xs) (filter p xs))) (same x y zipped.0) in
    let both : (b : Bool) → q y ≡ b → flat_map f (cond b (x ∷ filter p xs) (filter p xs)) ≡ flat_map g (cond b (y ∷ filter q ys) (filter q ys)) =
    λ b. elim b as (λ b. q y ≡ b → flat_map f (cond b (x ∷ filter p xs) (filter p xs)) ≡ flat_map g (cond b (y ∷ filter q ys) (filter q ys))) [
      | true ↦ λ h. λ i. makes x y zipped.0 h i ++ more i
      | false ↦ λ h. more
    ] in
    tested ∙ both (q y) refl

-- a test over the values of a function from 0 on
pub none_counted : {X : Type 0} (p : X → Bool) (f : ℕ → X) (a n : ℕ) → ((k : ℕ) → k < n → p (f (a + k)) ≡ false) → list_any p (map f (range_with_len a n)) ≡ false
none_counted p f a zero fails = refl
none_counted p f a (suc n) fails =
    let first : a + 0 ≡ a = omega arith in
    let head : p (f a) ≡ false = ap (λ k. p (f k)) (sym first) ∙ fails 0 (omega arith) in
    or_from (p (f a)) _ head (none_counted p f (a + 1) n (λ k lt. let next : a + 1 + k ≡ a + (k + 1) = omega arith in ap (λ k. p (f k)) next ∙ fails (k + 1) (omega arith)))

-- what each element reads as, by its related one
pub zip_map : {X Y : Type 0} (R : X → Y → Type 0) (f : X → Y) → ((x : X) (y : Y) → R x y → f x ≡ y) → (xs : List X) (ys : List Y) → AllZip R xs ys → map f xs ≡ ys
zip_map R f same [] [] zipped = refl
zip_map R f same [] (y ∷ ys) zipped = absurd zipped
zip_map R f same (x ∷ xs) [] zipped = absurd zipped
zip_map R f same (x ∷ xs) (y ∷ ys) zipped = λ i. same x y zipped.0 i ∷ zip_map R f same xs ys zipped.1 i

-- the elements at a place
pub zip_get : {X Y : Type 0} (R : X → Y → Type 0) (xs : List X) (ys : List Y) (i : ℕ) (d : X) (e : Y) → AllZip R xs ys → i < length xs → R (get_or xs i d) (get_or ys i e)
zip_get R [] ys i d e zipped lt = absurd (omega arith)
zip_get R (x ∷ xs) [] i d e zipped lt = absurd zipped
zip_get R (x ∷ xs) (y ∷ ys) zero d e zipped lt = zipped.0
zip_get R (x ∷ xs) (y ∷ ys) (suc i) d e zipped lt = zip_get R xs ys i d e zipped.1 (omega arith)
