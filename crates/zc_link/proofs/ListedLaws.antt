-- What holds of each section of the objects holds of all that are listed.
use Rattle.std.proofs.Common.{◌≡◌, ℕ, suc, ◌+◌, List, [], ◌∷◌, map, Some, refl, sym, subst, arith, slice_get}
use Rattle.std.specs.Prelude.{All}
use Rattle.std.specs.List.{enumerate_from, flat_map}
use Rattle.std.proofs.lemmas.List.Elements.{All-append, All-cons, All-nil}
use Rattle.elf32_read.specs.Parts.{ObjectParts, SectionParts}
use Rattle.psabi_sym.specs.Indexed.{IndexedSection, all_sections, sections_in}

-- a section of an object, with its index
abbrev pub listed_at : ℕ → ℕ × SectionParts → IndexedSection
listed_at o s = record { object = o; index = s.0; section = s.1 }

-- what holds of each section of one object
own_listed : (P : IndexedSection → Type 0) (o n : ℕ) (ss : List SectionParts) → ((k : ℕ) (s : SectionParts) → slice_get ss k ≡ Some s → P (listed_at o (n + k, s))) → All P (map (listed_at o) (enumerate_from n ss))
own_listed P o n [] each = All-nil P
own_listed P o n (s ∷ ss) each =
    let here : n + 0 ≡ n = omega arith in
    All-cons P (listed_at o (n, s)) (map (listed_at o) (enumerate_from (n + 1) ss)) (subst (λ m. P (listed_at o (m, s))) here (each 0 s refl))
    (own_listed P o (n + 1) ss (λ k t at. let e : n + suc k ≡ n + 1 + k = omega arith in subst (λ m. P (listed_at o (m, t))) e (each (suc k) t at)))

-- what holds of each section of objects that are numbered from n on
each_listed : (P : IndexedSection → Type 0) (n : ℕ) (objects : List ObjectParts)
    → ((k i : ℕ) (object : ObjectParts) (s : SectionParts) → slice_get objects k ≡ Some object → slice_get object.sections i ≡ Some s → P (listed_at (n + k) (0 + i, s)))
    → All P (flat_map sections_in (enumerate_from n objects))
each_listed P n [] each = All-nil P
each_listed P n (o ∷ os) each =
    let here : n + 0 ≡ n = omega arith in
    All-append P (sections_in (n, o)) (flat_map sections_in (enumerate_from (n + 1) os))
    (own_listed P n 0 o.sections (λ i s is. subst (λ m. P (listed_at m (0 + i, s))) here (each 0 i o s refl is)))
    (each_listed P (n + 1) os (λ k i object s at is. let e : n + suc k ≡ n + 1 + k = omega arith in subst (λ m. P (listed_at m (0 + i, s))) e (each (suc k) i object s at is)))

pub all_listed : (P : IndexedSection → Type 0) (objects : List ObjectParts)
    → ((o i : ℕ) (object : ObjectParts) (s : SectionParts) → slice_get objects o ≡ Some object → slice_get object.sections i ≡ Some s → P (listed_at o (i, s)))
    → All P (all_sections objects)
unfolding all_sections
all_listed P objects each = each_listed P 0 objects (λ o i object s at is.
    let none : 0 + o ≡ o = omega arith in
    let same : 0 + i ≡ i = omega arith in
    subst (λ m. P (listed_at m (0 + i, s))) (sym none) (subst (λ m. P (listed_at o (m, s))) (sym same) (each o i object s at is)))
