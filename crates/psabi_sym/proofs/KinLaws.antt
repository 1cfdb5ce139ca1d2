-- Whether a section's name is one of a kind, by the table of names from it on: it begins with the kind's name, and the byte behind is
-- the zero that ends it, or a dot.
use Rattle.std.proofs.Common.{◌≡◌, ℕ, ◌++◌, ◌∷◌, [], Bool, true, false, cond, eqb, List, length, Option, Some, None, slice_get, not, refl, sym, ap, ◌∙◌, eq-eqb, inl, inr}
use Rattle.std.specs.Prelude.{◌&&◌, ◌||◌, ◌==◌, nat_eq}
use Rattle.std.specs.List.{list_any, starts_with, take_while}
use Rattle.std.specs.Option.{option_map_or}
use Rattle.std.proofs.lemmas.Bool.{cases_eq, eqb-true, ne_eqb, or_parts}
use Rattle.std.proofs.lemmas.List.Sums.{take_while-cons}
use Rattle.elf32_read.proofs.Strings.{begun, named}
use Rattle.psabi_sym.specs.Data.{is_of_kin}
use Rattle.psabi_sym.specs.Names.{same_name}
use Rattle.psabi_sym.proofs.NumberLaws.{same_is}

-- a list has a zero
abbrev has_zero : List ℕ → Bool
has_zero bytes = list_any (λ byte. byte == 0) bytes

-- the bytes before the first zero
abbrev before_zero : List ℕ → List ℕ
before_zero bytes = take_while (λ byte. not (byte == 0)) bytes

-- the test whether two numbers are equal is symmetric
eqb_flip : (a b : ℕ) → eqb a b ≡ eqb b a
eqb_flip a b =
    elim (cases_eq a b) [
      | inl same ↦ eq-eqb a b same ∙ sym (eq-eqb b a (sym same))
      | inr other ↦ ne_eqb a b other ∙ sym (ne_eqb b a (λ e. other (sym e)))
    ]

-- ---- the byte behind

-- a byte is the one that there is, if there is one
abbrev is_next : ℕ → Option ℕ → Bool
is_next x o = option_map_or (λ y. eqb x y) o false

and_true : (b : Bool) → (b && true) ≡ b
and_true true = refl
and_true false = refl

and_false : (b : Bool) → (b && false) ≡ false
and_false true = refl
and_false false = refl

-- one byte more
extended : (xs base : List ℕ) (x : ℕ) → starts_with nat_eq xs (base ++ x ∷ []) ≡ (starts_with nat_eq xs base && is_next x (slice_get xs (length base)))
extended [] [] x = refl
extended (y ∷ ys) [] x = and_true (eqb x y)
extended [] (b ∷ bs) x = refl
extended (y ∷ ys) (b ∷ bs) x = by (eqb b y) (extended ys bs x)
  where
    by : (e : Bool) → starts_with nat_eq ys (bs ++ x ∷ []) ≡ (starts_with nat_eq ys bs && is_next x (slice_get ys (length bs)))
        → (e && starts_with nat_eq ys (bs ++ x ∷ [])) ≡ ((e && starts_with nat_eq ys bs) && is_next x (slice_get ys (length bs)))
    by true rest = rest
    by false rest = refl

none_behind : (bs : List ℕ) → has_zero bs ≡ false → has_zero (bs ++ 46 ∷ []) ≡ false
none_behind [] none = refl
none_behind (b ∷ bs) none = let parts = or_parts (eqb b 0) (has_zero bs) none in λ j. parts.0 j || none_behind bs parts.1 j

-- a name is of this kind by what stands in the table
pub kin_is : (names base : List ℕ) → has_zero names ≡ true → has_zero base ≡ false
    → is_of_kin base (before_zero names) ≡ (starts_with nat_eq names base && option_map_or (λ y. eqb y 0 || eqb y 46) (slice_get names (length base)) false)
kin_is names base ends whole =
    (λ j. named names base ends whole j || (begun names (base ++ 46 ∷ []) dotted j))
    ∙ (λ j. extended names base 0 j || extended names base 46 j)
    ∙ both (starts_with nat_eq names base) (slice_get names (length base))
  where
    dotted : has_zero (base ++ 46 ∷ []) ≡ false
    dotted = none_behind base whole

    both : (s : Bool) (o : Option ℕ) → ((s && is_next 0 o) || (s && is_next 46 o)) ≡ (s && option_map_or (λ y. eqb y 0 || eqb y 46) o false)
    both false o = refl
    both true None = refl
    both true (Some y) = λ j. eqb_flip 0 y j || eqb_flip 46 y j

-- ---- a kind with a zero in its name

-- no name has one
none_before : (xs : List ℕ) → has_zero (before_zero xs) ≡ false
none_before [] = refl
none_before (x ∷ xs) = by (eqb x 0) refl (none_before xs)
  where
    by : (b : Bool) → eqb x 0 ≡ b → has_zero (before_zero xs) ≡ false → has_zero (before_zero (x ∷ xs)) ≡ false
    by true e rest = ap has_zero (take_while-cons (λ byte. not (byte == 0)) x xs ∙ ap (λ b. cond (not b) (x ∷ before_zero xs) []) e)
    by false e rest =
        ap has_zero (take_while-cons (λ byte. not (byte == 0)) x xs ∙ ap (λ b. cond (not b) (x ∷ before_zero xs) []) e)
        ∙ (λ j. e j || rest j)

-- so none begins with what has one
no_start : (name bytes more : List ℕ) → has_zero name ≡ false → has_zero bytes ≡ true → starts_with nat_eq name (bytes ++ more) ≡ false
no_start name [] more none has = absurd cc
no_start [] (b ∷ bs) more none has = refl
no_start (n ∷ ns) (b ∷ bs) more none has = by (eqb b 0) refl (no_start ns bs more parts.1)
  where
    parts : (eqb n 0 ≡ false) × (has_zero ns ≡ false)
    parts = or_parts (eqb n 0) (has_zero ns) none

    by : (e : Bool) → eqb b 0 ≡ e → (has_zero bs ≡ true → starts_with nat_eq ns (bs ++ more) ≡ false) → (eqb b n && starts_with nat_eq ns (bs ++ more)) ≡ false
    by true is rest =
        let other : eqb b n ≡ false = eqb_flip b n ∙ ap (eqb n) (eqb-true b 0 is) ∙ parts.0 in
        ap (λ e. e && starts_with nat_eq ns (bs ++ more)) other
    by false is rest =
        let later : has_zero bs ≡ true = sym (ap (λ e. e || has_zero bs) is) ∙ has in
        ap (λ e. eqb b n && e) (rest later) ∙ and_false (eqb b n)

pub no_kin : (names base : List ℕ) → has_zero base ≡ true → is_of_kin base (before_zero names) ≡ false
no_kin names base has = (λ j. other (same_name name base) refl j || no_start name base (46 ∷ []) none has j)
  where
    name : List ℕ
    name = before_zero names

    none : has_zero name ≡ false
    none = none_before names

    other : (e : Bool) → same_name name base ≡ e → same_name name base ≡ false
    other true is = absurd (cc (none, has, ap has_zero (same_is name base is)))
    other false is = is
