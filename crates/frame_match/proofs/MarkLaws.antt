-- The marks of sections, one after another.
use Prim.Native.Nat.{zero}
use Rattle.std.proofs.Common.{◌≡◌, ◌∙◌, ℕ, suc, ◌+◌, List, [], ◌∷◌, ◌++◌, Some, length, map, take, ap, arith, length-append}
use Rattle.std.specs.List.{flat_map, slice_get}
use Rattle.std.proofs.lemmas.Option.{none-some, same_Some}
use Rattle.psabi_sym.specs.Indexed.{IndexedSection}
use Rattle.frame_match.specs.Groups.{starting_group}
use Rattle.frame_match.specs.Invariants.Marks.{marks_from, section_marks}
use Rattle.frame_match.specs.declared.group.Group.{Group}
use Rattle.frame_match.specs.declared.role.Role.{Role}

pub take_next : {X : Type 0} (k : ℕ) (xs : List X) (x : X) → slice_get xs k ≡ Some x → take (k + 1) xs ≡ take k xs ++ x ∷ []
take_next k [] x h = absurd (none-some x h)
take_next zero (y ∷ ys) x h = ap (λ z. z ∷ []) (same_Some y x h)
take_next (suc k) (y ∷ ys) x h =
    let e : suc k + 1 ≡ suc (k + 1) = omega arith in
    ap (λ n. take n (y ∷ ys)) e ∙ ap (λ l. y ∷ l) (take_next k ys x h)

-- the groups of one section
abbrev pub firsts : (IndexedSection → List Role) → IndexedSection → List Group
firsts f l = flat_map starting_group (f l)

-- the marks of one more section, after all groups so far
section_marks_more : (f : IndexedSection → List Role) (n : ℕ) (ls : List IndexedSection) (l : IndexedSection)
    → section_marks n (map f (ls ++ l ∷ [])) ≡ section_marks n (map f ls) ++ marks_from (n + length (flat_map (firsts f) ls)) (f l) ∷ []
section_marks_more f n [] l = let e : n ≡ n + 0 = omega arith in ap (λ m. marks_from m (f l) ∷ []) e
section_marks_more f n (k ∷ ks) l =
    let a = length-append (firsts f k) (flat_map (firsts f) ks) in
    let e : n + length (firsts f k) + length (flat_map (firsts f) ks) ≡ n + length (firsts f k ++ flat_map (firsts f) ks) = omega (arith, a) in
    ap (λ ms. marks_from n (f k) ∷ ms) (section_marks_more f (n + length (firsts f k)) ks l)
    ∙ ap (λ m. marks_from n (f k) ∷ (section_marks (n + length (firsts f k)) (map f ks) ++ marks_from m (f l) ∷ [])) e

pub first_marks_more : (f : IndexedSection → List Role) (ls : List IndexedSection) (l : IndexedSection)
    → section_marks 0 (map f (ls ++ l ∷ [])) ≡ section_marks 0 (map f ls) ++ marks_from (length (flat_map (firsts f) ls)) (f l) ∷ []
first_marks_more f ls l =
    let e : 0 + length (flat_map (firsts f) ls) ≡ length (flat_map (firsts f) ls) = omega arith in
    section_marks_more f 0 ls l ∙ ap (λ m. section_marks 0 (map f ls) ++ marks_from m (f l) ∷ []) e
