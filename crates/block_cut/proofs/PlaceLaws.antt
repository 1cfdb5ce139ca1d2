-- Sets of places: a place is among those of a set by the set's own order, and a place that is put into it is added.
use Rattle.std.proofs.Common.{◌≡◌, ℕ, List, Bool, true, false, cond, refl, sym, ap, ◌∙◌, eqb, arith}
use Rattle.std.specs.Prelude.{◌&&◌, ◌||◌, nat_lt}
use Rattle.std.specs.List.{list_any}
use Rattle.std.specs.Ordering.{is_eq, nat_cmp, ordering_then}
use Rattle.std.specs.declared.cmp.Ordering.{Ordering}
use Rattle.std.specs.declared.cmp.Ordering.TheVariants.{Less, Equal, Greater}
use Rattle.std.proofs.lemmas.Bool.{eq-eqb, eqb-false, eqb-true, ltb-true, ne_eqb}
use Rattle.zc_base.specs.Places.{same_place}
use Rattle.zc_base.specs.declared.place.Place.{Place}
use Rattle.block_cut.specs.Invariants.Led.{is_listed}

-- the order of places
abbrev pub place_cmp : Place → Place → Ordering
place_cmp p q = ordering_then (nat_cmp p.object q.object) (ordering_then (nat_cmp p.section q.section) (nat_cmp p.offset q.offset))

-- numbers that compare equal are the same
same_number : (a b : ℕ) → is_eq (nat_cmp a b) ≡ eqb b a
same_number a b = by (nat_lt a b) (eqb a b) refl refl
  where
    by : (l e : Bool) → nat_lt a b ≡ l → eqb a b ≡ e → is_eq (cond l Less (cond e Equal Greater)) ≡ eqb b a
    by true e less is = let lt = ltb-true a b less in sym (ne_eqb b a (λ same. omega (arith, lt, same)))
    by false true less is = sym (eq-eqb b a (sym (eqb-true a b is)))
    by false false less is = sym (ne_eqb b a (λ same. eqb-false a b is (sym same)))

-- two comparisons in turn
in_turn : (a b : Ordering) → is_eq (ordering_then a b) ≡ (is_eq a && is_eq b)
in_turn Less b = refl
in_turn Equal b = refl
in_turn Greater b = refl

-- places that compare equal are the same
pub same_by_order : (p q : Place) → is_eq (place_cmp q p) ≡ same_place p q
same_by_order p q =
    in_turn (nat_cmp q.object p.object) (ordering_then (nat_cmp q.section p.section) (nat_cmp q.offset p.offset))
    ∙ ap (λ b. is_eq (nat_cmp q.object p.object) && b) (in_turn (nat_cmp q.section p.section) (nat_cmp q.offset p.offset))
    ∙ (λ j. same_number q.object p.object j && (same_number q.section p.section j && same_number q.offset p.offset j))

-- a place is among others by that order
pub among_by_order : (places : List Place) (q : Place) → list_any (λ p. is_eq (place_cmp q p)) places ≡ is_listed places q
among_by_order places q = λ j. list_any (λ p. same_by_order p q j) places

-- a place that is put into a set is in it, and the others stay
pub put_in : (old new : List Place) (p q : Place) → list_any (λ r. is_eq (place_cmp q r)) new ≡ cond (is_eq (place_cmp p q)) true (list_any (λ r. is_eq (place_cmp q r)) old)
    → is_listed new q ≡ (is_listed old q || same_place p q)
put_in old new p q is =
    sym (among_by_order new q) ∙ is ∙ (λ j. cond (turned j) true (among_by_order old q j)) ∙ by (same_place p q) (is_listed old q)
  where
    turned : is_eq (place_cmp p q) ≡ same_place p q
    turned = same_by_order q p ∙ (λ j. turn q.object p.object j && (turn q.section p.section j && turn q.offset p.offset j))
      where
        turn : (a b : ℕ) → eqb a b ≡ eqb b a
        turn a b = by (eqb a b) refl
          where
            by : (e : Bool) → eqb a b ≡ e → e ≡ eqb b a
            by true is = sym (eq-eqb b a (sym (eqb-true a b is)))
            by false is = sym (ne_eqb b a (λ same. eqb-false a b is (sym same)))

    by : (b c : Bool) → cond b true c ≡ (c || b)
    by true true = refl
    by true false = refl
    by false true = refl
    by false false = refl
