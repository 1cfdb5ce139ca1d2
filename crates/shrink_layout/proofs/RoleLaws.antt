-- Roles of items, one after another: after the first item of a group come as many inside it as it has further items, and then one
-- that isn't inside (`role_next`).
use Rattle.std.proofs.Common.{◌≡◌, ◌∙◌, ℕ, zero, suc, ◌+◌, ◌<◌, ◌≤◌, List, [], ◌∷◌, Option, Some, None, false, length, refl, ap, subst, arith}
use Rattle.std.specs.Prelude.{slice_get}
use Rattle.std.proofs.lemmas.Option.{none-some, same_Some}
use Rattle.frame_match.specs.Groups.{Spot, items_behind, ops_from, group_role, roles_from}
use Rattle.frame_match.specs.Matches.{longest_of}
use Rattle.frame_match.specs.declared.found.Found.{Found}
use Rattle.frame_match.specs.declared.role.Role.{Role}
use Rattle.frame_match.specs.declared.role.Role.TheVariants.{Alone, First, Inside}
use Rattle.shrink_layout.specs.Units.{is_within}
use Rattle.frame_match.proofs.GroupLaws.{left_within, longest_sized, ops_few}

-- what is found at an item isn't inside
role_outside : (s : Spot) (ss : List Spot) → is_within (Some (group_role s.place (longest_of (ops_from s ss)))) ≡ false
role_outside s ss = by (longest_of (ops_from s ss))
  where
    by : (o : Option Found) → is_within (Some (group_role s.place o)) ≡ false
    by None = refl
    by (Some f) = refl

-- ---- roles

-- from role k on, `left` items are inside a group, and the next one isn't
pub record AreInside (rs : List Role) (k left : ℕ) : Type 0 where
  pub inside : (j : ℕ) → j < left → slice_get rs (k + j) ≡ Some Inside
  pub next : is_within (slice_get rs (k + left)) ≡ false

-- with one role more in front, the items are inside from role k + 1 on
inside_more : (r : Role) (rs : List Role) (k left : ℕ) → AreInside rs k left → AreInside (r ∷ rs) (suc k) left
inside_more r rs k left are = record {
  inside = λ j lt. let e : suc k + j ≡ suc (k + j) = omega arith in ap (slice_get (r ∷ rs)) e ∙ are.inside j lt;
  next = let e : suc k + left ≡ suc (k + left) = omega arith in ap (λ n. is_within (slice_get (r ∷ rs) n)) e ∙ are.next;
}

-- the items that belong to the group before come first
inside_first : (left : ℕ) (ss : List Spot) → left ≤ length ss → AreInside (roles_from left ss) 0 left
inside_first zero [] few = record { inside = λ j lt. absurd (omega (arith, lt)); next = refl }
inside_first zero (s ∷ ss) few = record { inside = λ j lt. absurd (omega (arith, lt)); next = role_outside s ss }
inside_first (suc left) [] few = absurd (omega (arith, few))
inside_first (suc left) (s ∷ ss) few =
    let rest = inside_first left ss (omega (arith, few)) in
    record {
      inside = λ j lt. let e : 0 + j ≡ j = omega arith in ap (slice_get (Inside ∷ roles_from left ss)) e ∙ by j lt rest;
      next = let e : 0 + suc left ≡ suc (0 + left) = omega arith in ap (λ n. is_within (slice_get (Inside ∷ roles_from left ss) n)) e ∙ rest.next;
    }
  where
    by : (j : ℕ) → j < suc left → AreInside (roles_from left ss) 0 left → slice_get (Inside ∷ roles_from left ss) j ≡ Some Inside
    by zero lt rest = refl
    by (suc j) lt rest = let e : j ≡ 0 + j = omega arith in ap (slice_get (roles_from left ss)) e ∙ rest.inside j (omega (arith, lt))

-- the further items of a group follow its first, and then comes one that isn't inside
pub role_next : (left : ℕ) (ss : List Spot) (k : ℕ) (r : Role) → slice_get (roles_from left ss) k ≡ Some r → is_within (Some r) ≡ false
    → AreInside (roles_from left ss) (suc k) (items_behind r)
role_next zero [] k r at outside = absurd (none-some r at)
role_next (suc left) [] k r at outside = absurd (none-some r at)
role_next zero (s ∷ ss) zero r at outside =
    let own = group_role s.place (longest_of (ops_from s ss)) in
    let rest = inside_first (items_behind own) ss (omega (arith, left_within s ss, ops_few ss)) in
    let more = inside_more own (roles_from (items_behind own) ss) 0 (items_behind own) rest in
    subst (λ (x : Role). AreInside (roles_from zero (s ∷ ss)) 1 (items_behind x)) (same_Some own r at) more
role_next zero (s ∷ ss) (suc k) r at outside =
    let own = group_role s.place (longest_of (ops_from s ss)) in
    inside_more own (roles_from (items_behind own) ss) (suc k) (items_behind r) (role_next (items_behind own) ss k r at outside)
role_next (suc left) (s ∷ ss) zero r at outside = absurd (cc (outside, ap (λ (x : Role). is_within (Some x)) (same_Some Inside r at)))
role_next (suc left) (s ∷ ss) (suc k) r at outside =
    inside_more Inside (roles_from left ss) (suc k) (items_behind r) (role_next left ss k r at outside)

-- a group has an item
abbrev pub IsCounted : Role → Type 0
IsCounted Alone = Unit {0}
IsCounted (First g) = 1 ≤ g.items
IsCounted Inside = Unit {0}

pub first_some : (left : ℕ) (ss : List Spot) (k : ℕ) (r : Role) → slice_get (roles_from left ss) k ≡ Some r → IsCounted r
first_some zero [] k r at = absurd (none-some r at)
first_some (suc left) [] k r at = absurd (none-some r at)
first_some zero (s ∷ ss) zero r at = subst IsCounted (same_Some (group_role s.place (longest_of (ops_from s ss))) r at) (by (longest_of (ops_from s ss)) refl)
  where
    by : (o : Option Found) → longest_of (ops_from s ss) ≡ o → IsCounted (group_role s.place o)
    by None is = tt
    by (Some f) is = omega (arith, (longest_sized (ops_from s ss) f is).least)
first_some zero (s ∷ ss) (suc k) r at = first_some (items_behind (group_role s.place (longest_of (ops_from s ss)))) ss k r at
first_some (suc left) (s ∷ ss) zero r at = subst IsCounted (same_Some Inside r at) tt
first_some (suc left) (s ∷ ss) (suc k) r at = first_some left ss k r at
