-- New numbers of kept sections: few, and each section has its own.
use Rattle.std.proofs.Common.{◌≡◌, ℕ, suc, zero, ◌<◌, ◌≤◌, ◌⊎◌, List, [], ◌∷◌, length, take, ap, ◌∙◌, arith, filter, Bool, true, false, cond, eqb, Some, slice_get}
use Rattle.elf32_read.specs.Parts.{ObjectParts, SectionParts, is_kept_section}
use Rattle.moved_runs.specs.Passes.{IsOrderly, new_number}

-- ---- none of them means that a symbol is in no section

pub count-le : (ss : List SectionParts) (i : ℕ) → length (filter is_kept_section (take i ss)) ≤ length ss
count-le [] zero = omega arith
count-le [] (suc i) = omega arith
count-le (s ∷ ss) zero = omega arith
count-le (s ∷ ss) (suc i) = by (count-le ss i) (is_kept_section s)
  where
    by : length (filter is_kept_section (take i ss)) ≤ length ss → (b : Bool) → length (cond b (s ∷ filter is_kept_section (take i ss)) (filter is_kept_section (take i ss))) ≤ suc (length ss)
    by le true = omega arith
    by le false = omega arith

pub not-eqb : (a b : ℕ) → (a < b) ⊎ (b < a) → eqb a b ≡ false
not-eqb a b either = grind arith

pub number-low : (object : ObjectParts) (i : ℕ) → IsOrderly object → new_number object.sections i < 0xFFF1
number-low object i orderly = omega (arith, orderly.few, count-le object.sections i)

-- ---- numbers of kept sections are their own

count : List SectionParts → ℕ → ℕ
count ss i = length (filter is_kept_section (take i ss))

later : (ss : List SectionParts) (a b : ℕ) (s : SectionParts) → slice_get ss a ≡ Some s → is_kept_section s ≡ true → a < b → count ss a < count ss b
unfolding count
later [] a b s at kept lt = absurd cc
later (t ∷ ss) a zero s at kept lt = absurd (omega arith)
later (t ∷ ss) zero (suc b) s at kept lt =
    let same : t ≡ s = cc in
    let one : length (cond (is_kept_section t) (t ∷ filter is_kept_section (take b ss)) (filter is_kept_section (take b ss))) ≡ suc (length (filter is_kept_section (take b ss))) = ap (λ x. length (cond x (t ∷ filter is_kept_section (take b ss)) (filter is_kept_section (take b ss)))) (ap is_kept_section same ∙ kept) in
    omega (arith, one)
later (t ∷ ss) (suc a) (suc b) s at kept lt = by (later ss a b s at kept (omega arith)) (is_kept_section t)
  where
    by : length (filter is_kept_section (take a ss)) < length (filter is_kept_section (take b ss)) → (k : Bool)
        → length (cond k (t ∷ filter is_kept_section (take a ss)) (filter is_kept_section (take a ss))) < length (cond k (t ∷ filter is_kept_section (take b ss)) (filter is_kept_section (take b ss)))
    by less true = omega arith
    by less false = less

pub own-number : (ss : List SectionParts) (a b : ℕ) (s t : SectionParts) → slice_get ss a ≡ Some s → is_kept_section s ≡ true → slice_get ss b ≡ Some t → is_kept_section t ≡ true → new_number ss a ≡ new_number ss b → a ≡ b
unfolding count
own-number ss a b s t at-a kept-a at-b kept-b same =
    let below = later ss a b s at-a kept-a in
    let above = later ss b a t at-b kept-b in
    grind (arith, below, above, same)
