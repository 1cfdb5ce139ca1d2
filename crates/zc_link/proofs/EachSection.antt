-- What holds of no sections, and goes on from those before a section to those before the next, holds of those before each section, and
-- of all.
use Rattle.std.proofs.Common.{◌≡◌, ℕ, zero, suc, ◌+◌, ◌<◌, ◌≤◌, List, [], length, Option, Some, None, refl, sym, ap, ◌∙◌, subst, inl, inr, arith, slice_get}
use Rattle.std.specs.Option.{option_and_then}
use Rattle.std.proofs.lemmas.Option.{slice_get_cases, slice_get_within}
use Rattle.elf32_read.specs.Parts.{ObjectParts, SectionParts}
use Rattle.psabi_sym.specs.Indexed.{IndexedSection, all_sections, section_at, sections_before}
use Rattle.block_cut.proofs.ListedLaws.{before_end, before_first, before_next}

-- a list has an element at each place before its end
there_is : {X : Type 0} (xs : List X) (i : ℕ) → i < length xs → (x : X) × (slice_get xs i ≡ Some x)
there_is xs i lt = elim (slice_get_cases xs i).1 [
  | inl h ↦ (h.0, h.2)
  | inr h ↦ absurd (omega (arith, lt, h.0))
]

no_sections : all_sections [] ≡ []
unfolding all_sections
no_sections = refl

module _ (objects : List ObjectParts) (P : List IndexedSection → Type 0) (first : P [])
    (more :
    (o i : ℕ) (s : SectionParts) → section_at objects o i ≡ Some s → P (sections_before objects o i)
    → P (sections_before objects o (i + 1))) where
  -- the sections of an object, one after another
  in_object :
      (o : ℕ) (object : ObjectParts) → slice_get objects o ≡ Some object → P (sections_before objects o 0) → (i : ℕ)
      → i ≤ length object.sections → P (sections_before objects o i)
  in_object o object at before zero le = before
  in_object o object at before (suc i) le =
      let own = there_is object.sections i (omega (arith, le)) in
      let found : section_at objects o i ≡ Some own.0 = ap (option_and_then (λ (x : ObjectParts). slice_get x.sections i)) at ∙ own.1 in
      let next : i + 1 ≡ suc i = omega arith in
      subst (λ k. P (sections_before objects o k)) next (more o i own.0 found (in_object o object at before i (omega (arith, le))))

  -- the sections of all objects before one
  before_object : (o : ℕ) → o ≤ length objects → P (sections_before objects o 0)
  before_object zero le = subst P (sym (before_first objects 0 ∙ no_sections)) first
  before_object (suc o) le =
      let own = there_is objects o (omega (arith, le)) in
      let all = in_object o own.0 own.1 (before_object o (omega (arith, le))) (length own.0.sections) (omega arith) in
      let next : o + 1 ≡ suc o = omega arith in
      subst (λ k. P (sections_before objects k 0)) next (subst P (before_next objects o own.0 own.1) all)

  -- the sections before one
  pub before_each : (o i : ℕ) (s : SectionParts) → section_at objects o i ≡ Some s → P (sections_before objects o i)
  before_each o i s found = by (slice_get objects o) refl found
    where
      by :
          (x : Option ObjectParts) → slice_get objects o ≡ x
          → option_and_then (λ (object : ObjectParts). slice_get object.sections i) x ≡ Some s → P (sections_before objects o i)
      by None at h = absurd cc
      by (Some object) at h =
          in_object o object at (before_object o (omega (arith, slice_get_within objects o object at))) i (omega (arith, slice_get_within object.sections i s h))

  -- the sections of all objects
  pub of_all : P (all_sections objects)
  of_all = subst P (before_end objects (length objects) (omega arith)) (before_object (length objects) (omega arith))
