-- Fields in order: one that begins where all before it have ended overlaps none of them, so each overlaps at most itself.
use Rattle.std.proofs.Common.{◌≡◌, ℕ, suc, ◌+◌, ◌<◌, ◌≤◌, List, [], ◌∷◌, ◌++◌, max, min, Bool, true, false, cond, Option, Some, None, refl, sym, ap, subst, ◌∙◌, arith, inl, inr, slice_get}
use Rattle.std.specs.Prelude.{Contains, IfSome, nat_lt}
use Rattle.std.specs.List.{count_by}
use Rattle.std.proofs.lemmas.Bool.{cases_lt, le-ltb}
use Rattle.std.proofs.lemmas.List.Elements.{Contains-push_cases}
use Rattle.std.proofs.lemmas.List.Sums.{length-filter, sum_by-cons, sum_by_push}
use Rattle.std.proofs.lemmas.Option.{get_or_from_slice_get, slice_get_within}
use Rattle.elf32_read.specs.declared.reloc.Reloc.{Reloc}
use Rattle.block_cut.specs.Invariants.Fields.{AreFieldsApart}
use Rattle.block_cut.specs.Relocs.{field_end, field_of, overlaps_another, overlap}

-- what stands at an index is one of a list's elements
pub contains_at : {X : Type 0} (xs : List X) (k : ℕ) (x : X) → slice_get xs k ≡ Some x → Contains xs x
contains_at xs k x at = (k, slice_get_within xs k x at, get_or_from_slice_get xs k x x at)

-- a relocation that overlaps none of a list is counted by none
none_over : (s : Reloc) (rs : List Reloc) → ((r : Reloc) → Contains rs r → overlap s r ≡ false) → count_by (overlap s) rs ≡ 0
none_over s [] out = refl
none_over s (r ∷ rs) out =
    let rest = none_over s rs (λ t held. out t (suc held.0, omega (arith, held.1), held.2)) in
    let here = out r (0, omega arith, refl) in
    sum_by-cons (λ t. cond (overlap s t) 1 0) r rs ∙ (λ j. cond (here j) 1 0 + rest j)

-- one relocation more, which overlaps none of those before it, leaves the fields apart
apart_push : (rs : List Reloc) (s : Reloc) (m n : ℕ) → AreFieldsApart m rs → m ≤ n → (0 < field_of s → field_end s ≤ n)
    → ((r : Reloc) → Contains rs r → min (field_end r) (field_end s) ≤ max r.offset s.offset) → AreFieldsApart n (rs ++ s ∷ [])
apart_push rs s m n are le ends past = record {
  alone = λ r held. all r ∙ elim (Contains-push_cases rs s r held) [
    | inl old ↦
        ap (λ b. nat_lt 1 (count_by (overlap r) rs + cond b 1 0)) (le-ltb (max r.offset s.offset) (min (field_end r) (field_end s)) (past r old))
        ∙ ap (nat_lt 1) (omega (arith, length-filter (overlap r) rs)) ∙ are.alone r old
    | inr last ↦
        ap (λ t. nat_lt 1 (count_by (overlap t) rs + cond (overlap t s) 1 0)) (sym last)
        ∙ ap (λ n. nat_lt 1 (n + cond (overlap s s) 1 0)) (none_over s rs under) ∙ one (overlap s s)
  ];
  before = λ r held some. elim (Contains-push_cases rs s r held) [
    | inl old ↦ omega (arith, are.before r old some, le)
    | inr last ↦ subst (λ t. field_end t ≤ n) last (ends (subst (λ t. 0 < field_of t) (sym last) some))
  ];
}
  where
    all : (r : Reloc) → overlaps_another (rs ++ s ∷ []) r ≡ nat_lt 1 (count_by (overlap r) rs + cond (overlap r s) 1 0)
    all r = ap (nat_lt 1) (length-filter (overlap r) (rs ++ s ∷ []) ∙ sum_by_push (λ t. cond (overlap r t) 1 0) rs s)

    one : (b : Bool) → nat_lt 1 (0 + cond b 1 0) ≡ false
    one true = refl
    one false = refl

    under : (r : Reloc) → Contains rs r → overlap s r ≡ false
    under r held = le-ltb (max s.offset r.offset) (min (field_end s) (field_end r)) (omega (arith, past r held))

-- a relocation that begins where those before it have ended leaves the fields apart
pub apart_next : (rs : List Reloc) (s : Reloc) (m : ℕ) → AreFieldsApart m rs → m ≤ s.offset → AreFieldsApart (field_end s) (rs ++ s ∷ [])
apart_next rs s m are begins = apart_push rs s m (field_end s) are (omega (arith, begins)) (λ some. omega arith) (λ r held. elim (cases_lt 0 (field_of r)) [
  | inl some ↦ omega (arith, are.before r held some, begins)
  | inr none ↦ omega (arith, none)
])

-- a relocation without bytes leaves the fields apart
pub apart_same : (rs : List Reloc) (s : Reloc) (before : Option ℕ) → IfSome before (λ n. AreFieldsApart n rs) → field_of s ≡ 0 → IfSome before (λ n. AreFieldsApart n (rs ++ s ∷ []))
apart_same rs s None are none = are
apart_same rs s (Some n) are none = apart_push rs s n n are (omega arith) (λ some. absurd (omega (arith, some, none))) (λ r held. omega (arith, none))
