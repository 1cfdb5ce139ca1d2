-- The order of places by their parts: a place that comes before another lies in an earlier section, or before it in the same one
-- (`ordered`), and of two places one comes before the other, or they are the same (`same_or_before`).
use Rattle.std.proofs.Common.{◌≡◌, ℕ, ◌<◌, ◌≤◌, ◌⊎◌, Bool, true, false, refl, sym, ap, arith, eqb, ltb, eq-eqb, inl, inr}
use Rattle.std.specs.Prelude.{◌&&◌, ◌||◌}
use Rattle.std.proofs.lemmas.Bool.{cases_lt, eqb-true, le-ltb, lt-ltb, ltb-true}
use Rattle.zc_base.specs.Places.{is_before}
use Rattle.zc_base.specs.declared.place.Place.{Place}

-- ---- one before another

-- in an earlier section, or before it in the same one
pub data IsOrdered (q r : Place) : Type 0 where
  Earlier : (q.object < r.object) ⊎ ((q.object ≡ r.object) × (q.section < r.section)) → IsOrdered q r
  Within : q.object ≡ r.object → q.section ≡ r.section → q.offset < r.offset → IsOrdered q r

-- two places are ordered if one comes before the other
pub ordered : (q r : Place) → is_before q r ≡ true → IsOrdered q r
ordered q r is = objects (ltb q.object r.object) refl is
  where
    offsets : q.object ≡ r.object → (e : Bool) → eqb q.section r.section ≡ e → (e && ltb q.offset r.offset) ≡ true → IsOrdered q r
    offsets same true e is = Within same (eqb-true q.section r.section e) (ltb-true q.offset r.offset is)
    offsets same false e is = absurd cc

    sections : q.object ≡ r.object → (b : Bool) → ltb q.section r.section ≡ b → (b || (eqb q.section r.section && ltb q.offset r.offset)) ≡ true → IsOrdered q r
    sections same true lt is = Earlier (inr (same, ltb-true q.section r.section lt))
    sections same false lt is = offsets same (eqb q.section r.section) refl is

    equal : (e : Bool) → eqb q.object r.object ≡ e → (e && (ltb q.section r.section || (eqb q.section r.section && ltb q.offset r.offset))) ≡ true → IsOrdered q r
    equal true e is = sections (eqb-true q.object r.object e) (ltb q.section r.section) refl is
    equal false e is = absurd cc

    objects : (b : Bool) → ltb q.object r.object ≡ b → (b || (eqb q.object r.object && (ltb q.section r.section || (eqb q.section r.section && ltb q.offset r.offset)))) ≡ true → IsOrdered q r
    objects true lt is = Earlier (inl (ltb-true q.object r.object lt))
    objects false lt is = equal (eqb q.object r.object) refl is

-- ---- any two

-- two places are ordered by their first parts or, if these are equal, by the rest
by_parts : (a b : ℕ) (less more : Bool) (S : Type 0) → (a ≡ b → (less ≡ true) ⊎ ((more ≡ true) ⊎ S))
    → ((ltb a b || (eqb a b && less)) ≡ true) ⊎ (((ltb b a || (eqb b a && more)) ≡ true) ⊎ S)
by_parts a b less more S rest = first (cases_lt a b) (cases_lt b a)
  where
    equal : (m n : ℕ) (x : Bool) → m ≡ n → x ≡ true → (ltb m n || (eqb m n && x)) ≡ true
    equal m n x same is = (λ j. le-ltb m n (omega (arith, same)) j || (eq-eqb m n same j && is j))

    last :
        a ≡ b → (less ≡ true) ⊎ ((more ≡ true) ⊎ S)
        → ((ltb a b || (eqb a b && less)) ≡ true) ⊎ (((ltb b a || (eqb b a && more)) ≡ true) ⊎ S)
    last same (inl is) = inl (equal a b less same is)
    last same (inr (inl is)) = inr (inl (equal b a more (sym same) is))
    last same (inr (inr s)) = inr (inr s)

    first : (a < b) ⊎ (b ≤ a) → (b < a) ⊎ (a ≤ b) → ((ltb a b || (eqb a b && less)) ≡ true) ⊎ (((ltb b a || (eqb b a && more)) ≡ true) ⊎ S)
    first (inl lt) other = inl (ap (λ t. t || (eqb a b && less)) (lt-ltb a b lt))
    first (inr le) (inl lt) = inr (inl (ap (λ t. t || (eqb b a && more)) (lt-ltb b a lt)))
    first (inr le) (inr ge) = let same : a ≡ b = omega (arith, le, ge) in last same (rest same)

-- two places are one, or one of them comes before the other
pub same_or_before : (q r : Place) → (is_before q r ≡ true) ⊎ ((is_before r q ≡ true) ⊎ (q ≡ r))
same_or_before q r =
    by_parts q.object r.object _ _ (q ≡ r) (λ object.
    by_parts q.section r.section (ltb q.offset r.offset) (ltb r.offset q.offset) (q ≡ r) (λ section.
    offsets object section (cases_lt q.offset r.offset) (cases_lt r.offset q.offset)))
  where
    offsets :
        q.object ≡ r.object → q.section ≡ r.section → (q.offset < r.offset) ⊎ (r.offset ≤ q.offset)
        → (r.offset < q.offset) ⊎ (q.offset ≤ r.offset)
        → (ltb q.offset r.offset ≡ true) ⊎ ((ltb r.offset q.offset ≡ true) ⊎ (q ≡ r))
    offsets object section (inl lt) other = inl (lt-ltb q.offset r.offset lt)
    offsets object section (inr le) (inl lt) = inr (inl (lt-ltb r.offset q.offset lt))
    offsets object section (inr le) (inr ge) =
        let offset : q.offset ≡ r.offset = omega (arith, le, ge) in
        inr (inr (λ j. record { object = object j; section = section j; offset = offset j }))
