-- Walks over all sections of a pass's result: what is dropped adds nothing, and what is kept adds the same.
use Rattle.std.proofs.Common.{◌≡◌, ℕ, suc, ◌+◌, List, [], ◌∷◌, ◌++◌, refl, sym, ap, ap₂, ◌∙◌, map, filter, Bool, true, false, cond, Some, slice_get, arith}
use Rattle.std.specs.Prelude.{All}
use Rattle.std.specs.List.{enumerate_from, flat_map, fold}
use Rattle.std.specs.Option.{option_and_then}
use Rattle.std.proofs.lemmas.List.{map-append}
use Rattle.std.proofs.lemmas.List.Elements.{All-head, All-tail, All-cons, All-nil}
use Rattle.elf32_read.specs.Parts.{ObjectParts, SectionParts, is_kept_section}
use Rattle.psabi_sym.specs.Indexed.{IndexedSection, all_sections, section_at, sections_in}
use Rattle.moved_runs.specs.Passes.{ArePassesFrom, Pass}
use Rattle.moved_runs.proofs.PassSections.{is_kept_listed, kept-all, passed}

-- a listed section stands where it says
abbrev pub IsThere : List ObjectParts → IndexedSection → Type 0
IsThere objects l = section_at objects l.object l.index ≡ Some l.section

module _ (objects : List ObjectParts) where
  all-append : (xs ys : List IndexedSection) → All (IsThere objects) xs → All (IsThere objects) ys → All (IsThere objects) (xs ++ ys)
  all-append [] ys a b = b
  all-append (x ∷ xs) ys a b = All-cons (IsThere objects) x (xs ++ ys) (All-head (IsThere objects) x xs a) (all-append xs ys (All-tail (IsThere objects) x xs a) b)

  there-in : (n j : ℕ) (ss : List SectionParts) → ((k : ℕ) → section_at objects n (j + k) ≡ slice_get ss k) → All (IsThere objects) (map (λ e. record { object = n; index = e.0; section = e.1 }) (enumerate_from j ss))
  there-in n j [] at = All-nil (IsThere objects)
  there-in n j (s ∷ ss) at =
      let none : j ≡ j + 0 = omega arith in
      All-cons (IsThere objects) (record { object = n; index = j; section = s }) (map (λ e. record { object = n; index = e.0; section = e.1 }) (enumerate_from (j + 1) ss))
      (ap (section_at objects n) none ∙ at 0)
      (there-in n (j + 1) ss (λ k. let next : j + 1 + k ≡ j + suc k = omega arith in ap (section_at objects n) next ∙ at (suc k)))

  there-from : (n : ℕ) (os : List ObjectParts) → ((k : ℕ) → slice_get objects (n + k) ≡ slice_get os k) → All (IsThere objects) (flat_map sections_in (enumerate_from n os))
  there-from n [] at = All-nil (IsThere objects)
  there-from n (o ∷ os) at =
      let none : n ≡ n + 0 = omega arith in
      all-append (sections_in (n, o)) (flat_map sections_in (enumerate_from (n + 1) os))
      (there-in n 0 o.sections (λ k. let zero : 0 + k ≡ k = omega arith in ap (section_at objects n) zero ∙ ap (option_and_then (λ (object : ObjectParts). slice_get object.sections k)) (ap (slice_get objects) none ∙ at 0)))
      (there-from (n + 1) os (λ k. let next : n + 1 + k ≡ n + suc k = omega arith in ap (slice_get objects) next ∙ at (suc k)))

  pub all-there : All (IsThere objects) (all_sections objects)
  unfolding all_sections
  all-there = there-from 0 objects (λ k. let zero : 0 + k ≡ k = omega arith in ap (slice_get objects) zero)

-- ---- sums

module _ {A : Type 0} (objects : List ObjectParts) (f : A → IndexedSection → A) (dropped : (l : IndexedSection) (a : A) → IsThere objects l → is_kept_section l.section ≡ false → f a l ≡ a) where
  -- what is dropped adds nothing
  pub fold-kept : (a : A) (ls : List IndexedSection) → All (IsThere objects) ls → fold f a ls ≡ fold f a (filter is_kept_listed ls)
  fold-kept a [] there = refl
  fold-kept a (l ∷ ls) there = by (λ b. fold-kept b ls (All-tail (IsThere objects) l ls there)) (is_kept_section l.section) refl
    where
      by : ((b : A) → fold f b ls ≡ fold f b (filter is_kept_listed ls)) → (b : Bool) → is_kept_section l.section ≡ b → fold f (f a l) ls ≡ fold f a (cond b (l ∷ filter is_kept_listed ls) (filter is_kept_listed ls))
      by rest true is = rest (f a l)
      by rest false is = ap (λ b. fold f b ls) (dropped l a (All-head (IsThere objects) l ls there) is) ∙ rest a

module _ (pass : Pass) (gs rs : List ObjectParts) (clean : ArePassesFrom pass 0 gs rs) {A : Type 0} (f f' : A → IndexedSection → A)
    (dropped : (l : IndexedSection) (a : A) → IsThere gs l → is_kept_section l.section ≡ false → f a l ≡ a)
    (dropped' : (l : IndexedSection) (a : A) → IsThere rs l → is_kept_section l.section ≡ false → f' a l ≡ a)
    (kept : (l : IndexedSection) (a : A) → IsThere gs l → is_kept_section l.section ≡ true → f' a (passed pass l) ≡ f a l) where
  fold-moved : (a : A) (ls : List IndexedSection) → All (IsThere gs) ls → fold f' a (map (passed pass) (filter is_kept_listed ls)) ≡ fold f a (filter is_kept_listed ls)
  fold-moved a [] there = refl
  fold-moved a (l ∷ ls) there = by (λ b. fold-moved b ls (All-tail (IsThere gs) l ls there)) (is_kept_section l.section) refl
    where
      by : ((b : A) → fold f' b (map (passed pass) (filter is_kept_listed ls)) ≡ fold f b (filter is_kept_listed ls)) → (b : Bool) → is_kept_section l.section ≡ b
          → fold f' a (map (passed pass) (cond b (l ∷ filter is_kept_listed ls) (filter is_kept_listed ls))) ≡ fold f a (cond b (l ∷ filter is_kept_listed ls) (filter is_kept_listed ls))
      by rest true is = ap (λ b. fold f' b (map (passed pass) (filter is_kept_listed ls))) (kept l a (All-head (IsThere gs) l ls there) is) ∙ rest (f a l)
      by rest false is = rest a

  pub fold-clean : (a : A) → fold f' a (all_sections rs) ≡ fold f a (all_sections gs)
  fold-clean a =
      fold-kept rs f' dropped' a (all_sections rs) (all-there rs)
      ∙ ap (fold f' a) (kept-all pass gs rs clean)
      ∙ fold-moved a (all_sections gs) (all-there gs)
      ∙ sym (fold-kept gs f dropped a (all_sections gs) (all-there gs))

-- the same of lists that are put together
module _ {A : Type 0} (objects : List ObjectParts) (f : IndexedSection → List A) (dropped : (l : IndexedSection) → IsThere objects l → is_kept_section l.section ≡ false → f l ≡ []) where
  pub flat-kept : (ls : List IndexedSection) → All (IsThere objects) ls → flat_map f ls ≡ flat_map f (filter is_kept_listed ls)
  flat-kept [] there = refl
  flat-kept (l ∷ ls) there = by (flat-kept ls (All-tail (IsThere objects) l ls there)) (is_kept_section l.section) refl
    where
      by : flat_map f ls ≡ flat_map f (filter is_kept_listed ls) → (b : Bool) → is_kept_section l.section ≡ b → f l ++ flat_map f ls ≡ flat_map f (cond b (l ∷ filter is_kept_listed ls) (filter is_kept_listed ls))
      by rest true is = ap (λ xs. f l ++ xs) rest
      by rest false is = ap (λ xs. xs ++ flat_map f ls) (dropped l (All-head (IsThere objects) l ls there) is) ∙ rest

module _ (pass : Pass) (gs rs : List ObjectParts) (clean : ArePassesFrom pass 0 gs rs) {A : Type 0} (m : A → A) (f f' : IndexedSection → List A)
    (dropped : (l : IndexedSection) → IsThere gs l → is_kept_section l.section ≡ false → f l ≡ [])
    (dropped' : (l : IndexedSection) → IsThere rs l → is_kept_section l.section ≡ false → f' l ≡ [])
    (kept : (l : IndexedSection) → IsThere gs l → is_kept_section l.section ≡ true → f' (passed pass l) ≡ map m (f l)) where
  flat-moved : (ls : List IndexedSection) → All (IsThere gs) ls → flat_map f' (map (passed pass) (filter is_kept_listed ls)) ≡ map m (flat_map f (filter is_kept_listed ls))
  flat-moved [] there = refl
  flat-moved (l ∷ ls) there = by (flat-moved ls (All-tail (IsThere gs) l ls there)) (is_kept_section l.section) refl
    where
      by : flat_map f' (map (passed pass) (filter is_kept_listed ls)) ≡ map m (flat_map f (filter is_kept_listed ls)) → (b : Bool) → is_kept_section l.section ≡ b
          → flat_map f' (map (passed pass) (cond b (l ∷ filter is_kept_listed ls) (filter is_kept_listed ls))) ≡ map m (flat_map f (cond b (l ∷ filter is_kept_listed ls) (filter is_kept_listed ls)))
      by rest true is = ap₂ (λ xs ys. xs ++ ys) (kept l (All-head (IsThere gs) l ls there) is) rest ∙ sym (map-append m (f l) (flat_map f (filter is_kept_listed ls)))
      by rest false is = rest

  pub flat-clean : flat_map f' (all_sections rs) ≡ map m (flat_map f (all_sections gs))
  flat-clean =
      flat-kept rs f' dropped' (all_sections rs) (all-there rs)
      ∙ ap (flat_map f') (kept-all pass gs rs clean)
      ∙ flat-moved (all_sections gs) (all-there gs)
      ∙ ap (map m) (sym (flat-kept gs f dropped (all_sections gs) (all-there gs)))
