-- Names are distinct if a set has as many of them as the list.
use Rattle.std.proofs.Common.{◌≡◌, ◌&&◌, ℕ, suc, Bool, true, false, not, refl, ap₂, ◌∙◌, arith, List, [], ◌∷◌, length, map, Bor, nat_eq}
use Rattle.std.specs.Cmp.Lexicographic.{slice_cmp}
use Rattle.std.specs.List.{list_any}
use Rattle.std.specs.Ordering.{eq_by_cmp, nat_cmp}
use Rattle.std.specs.Set.{distinct_count, is_member}
use Rattle.std.specs.Str.{bytes_eq}
use Rattle.std.proofs.Math.Dec.{eqb-suc-suc}
use Rattle.std.proofs.lemmas.Bool.{ne_eqb}
use Rattle.std.proofs.lemmas.Map.Made.{distinct_count-le}
use Rattle.std.proofs.lemmas.Map.Text.{is_eq-slice_cmp}
use Rattle.command_words.specs.LinkWords.{are_distinct}

abbrev Lent : Type 0
Lent = Bor (List ℕ)

-- the bytes of each
abbrev bytes : List Lent → List (List ℕ)
bytes names = map (λ name. name.now) names

-- as a set tells names apart
abbrev same : Lent → Lent → Bool
same = eq_by_cmp (λ x y. slice_cmp nat_cmp x.now y.now)

member_any : (name : Lent) (names : List Lent) → is_member same names name ≡ list_any (bytes_eq name.now) (bytes names)
member_any name [] = refl
member_any name (next ∷ names) = rw (is_eq-slice_cmp name.now next.now, member_any name names) refl

-- one more name counts if it wasn't there
one_more : (name : Lent) (names : List Lent) (member : Bool) → is_member same names name ≡ member
    → nat_eq (distinct_count same (name ∷ names)) (suc (length names)) ≡ not member && nat_eq (distinct_count same names) (length names)
one_more name names true is =
    let few = distinct_count-le same names in
    rw is (ne_eqb (distinct_count same names) (suc (length names)) (λ e. omega (arith, few, e)))
one_more name names false is = rw is (eqb-suc-suc (distinct_count same names) (length names))

pub count_tells : (names : List Lent) → nat_eq (distinct_count same names) (length names) ≡ are_distinct (bytes names)
count_tells [] = refl
count_tells (name ∷ names) =
    one_more name names (is_member same names name) refl
    ∙ ap₂ (λ a b. not a && b) (member_any name names) (count_tells names)
