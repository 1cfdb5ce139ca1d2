-- The kept sections of a pass's result are what becomes of the given ones, in their order and under new numbers.
use Rattle.std.proofs.Common.{◌≡◌, ℕ, zero, suc, ◌+◌, List, [], ◌∷◌, ◌++◌, length, take, refl, sym, ap, ap₂, ◌∙◌, arith, map, filter, Bool, true, false, cond, Option, Some, None, slice_get, subst}
use Rattle.std.specs.Cmp.Lexicographic.{pointwise}
use Rattle.std.specs.Prelude.{◌&&◌, ◌||◌, codes, nat_eq, not}
use Rattle.std.specs.List.{enumerate_from, flat_map, list_any}
use Rattle.std.specs.Option.{option_and_then, option_map_or}
use Rattle.std.proofs.lemmas.List.{map-append}
use Rattle.std.proofs.lemmas.List.Elements.{filter-append}
use Rattle.elf32_read.specs.Kept.{has_flags}
use Rattle.elf32_read.specs.Parts.{ObjectParts, SectionParts, is_kept_section}
use Rattle.psabi_sym.specs.Indexed.{IndexedSection, all_sections, section_at, sections_before, sections_in}
use Rattle.moved_runs.specs.Passes.{ArePassesFrom, IsPassOf, KeepsSection, Pass, passed_from}

-- ---- a section

abbrev pub is_kept_listed : IndexedSection → Bool
is_kept_listed l = is_kept_section l.section

-- a section that keeps what it is, is kept if the given one is
pub kept-same : (s t : SectionParts) → KeepsSection s t → is_kept_section t ≡ is_kept_section s
kept-same s t k =
    let name = k.name in
    let flags = k.flags in
    λ i. has_flags 2 (flags i) && not (pointwise nat_eq (name i) (codes ".eh_frame"))

-- a listed section of the result
abbrev pub passed : Pass → IndexedSection → IndexedSection
passed pass l = record { object = l.object; index = pass.number l.object l.index; section = pass.section l.object l.index l.section }

-- ---- the sections of an object

abbrev listed_as : ℕ → ℕ × SectionParts → IndexedSection
listed_as n e = record { object = n; index = e.0; section = e.1 }

-- how many are kept before one
abbrev pub count : List SectionParts → ℕ → ℕ
count ss i = length (filter is_kept_section (take i ss))

module _ (pass : Pass) (n : ℕ) where
  keeps : (i : ℕ) (s : SectionParts) → is_kept_section (pass.section n i s) ≡ is_kept_section s
  keeps i s = kept-same s (pass.section n i s) (pass.keeps_sections n i s)

  extra-none : (m : ℕ) (extra : List SectionParts) → list_any is_kept_section extra ≡ false → filter is_kept_listed (map (listed_as n) (enumerate_from m extra)) ≡ []
  extra-none m [] none = refl
  extra-none m (x ∷ xs) none = by (extra-none (m + 1) xs) (is_kept_section x) none
    where
      by : (list_any is_kept_section xs ≡ false → filter is_kept_listed (map (listed_as n) (enumerate_from (m + 1) xs)) ≡ []) → (b : Bool) → (b || list_any is_kept_section xs) ≡ false → cond b (listed_as n (m, x) ∷ filter is_kept_listed (map (listed_as n) (enumerate_from (m + 1) xs))) (filter is_kept_listed (map (listed_as n) (enumerate_from (m + 1) xs))) ≡ []
      by rest true h = absurd cc
      by rest false h = rest h

  -- a kept section, and those after it
  kept-in : (j m : ℕ) (ss extra : List SectionParts) → list_any is_kept_section extra ≡ false → ((i : ℕ) → pass.number n (j + i) ≡ m + count ss i)
      → filter is_kept_listed (map (listed_as n) (enumerate_from m (passed_from (pass.section n) j ss ++ extra))) ≡ map (passed pass) (filter is_kept_listed (map (listed_as n) (enumerate_from j ss)))
  kept-in j m [] extra none numbers = extra-none m extra none
  kept-in j m (s ∷ ss) extra none numbers = by (λ m'. kept-in (j + 1) m' ss extra none) (is_kept_section s) refl
    where
      by : ((m' : ℕ) → ((i : ℕ) → pass.number n (j + 1 + i) ≡ m' + count ss i) → filter is_kept_listed (map (listed_as n) (enumerate_from m' (passed_from (pass.section n) (j + 1) ss ++ extra))) ≡ map (passed pass) (filter is_kept_listed (map (listed_as n) (enumerate_from (j + 1) ss))))
          → (b : Bool) → is_kept_section s ≡ b
          → filter is_kept_listed (map (listed_as n) (enumerate_from m (map (λ e. pass.section n e.0 e.1) (cond b ((j, s) ∷ filter (λ e. is_kept_section e.1) (enumerate_from (j + 1) ss)) (filter (λ e. is_kept_section e.1) (enumerate_from (j + 1) ss))) ++ extra)))
          ≡ map (passed pass) (cond b (listed_as n (j, s) ∷ filter is_kept_listed (map (listed_as n) (enumerate_from (j + 1) ss))) (filter is_kept_listed (map (listed_as n) (enumerate_from (j + 1) ss))))
      by rest true is =
          ap (λ b. cond b (listed_as n (m, pass.section n j s) ∷ filter is_kept_listed (map (listed_as n) (enumerate_from (m + 1) (passed_from (pass.section n) (j + 1) ss ++ extra)))) (filter is_kept_listed (map (listed_as n) (enumerate_from (m + 1) (passed_from (pass.section n) (j + 1) ss ++ extra))))) (keeps j s ∙ is)
          ∙ (λ i. record { object = n; index = first i; section = pass.section n j s } ∷ rest (m + 1) later i)
        where
          first : m ≡ pass.number n j
          first = let a : j + 0 ≡ j = omega arith in let b : m + 0 ≡ m = omega arith in sym (sym (ap (pass.number n) a) ∙ numbers 0 ∙ b)

          later : (i : ℕ) → pass.number n (j + 1 + i) ≡ m + 1 + count ss i
          later i =
              let a : j + 1 + i ≡ j + suc i = omega arith in
              let b : length (cond (is_kept_section s) (s ∷ filter is_kept_section (take i ss)) (filter is_kept_section (take i ss))) ≡ suc (count ss i) = ap (λ b. length (cond b (s ∷ filter is_kept_section (take i ss)) (filter is_kept_section (take i ss)))) is in
              ap (pass.number n) a ∙ numbers (suc i) ∙ ap (λ x. m + x) b ∙ omega arith
      by rest false is = rest m later
        where
          later : (i : ℕ) → pass.number n (j + 1 + i) ≡ m + count ss i
          later i =
              let a : j + 1 + i ≡ j + suc i = omega arith in
              ap (pass.number n) a ∙ numbers (suc i) ∙ ap (λ b. m + length (cond b (s ∷ filter is_kept_section (take i ss)) (filter is_kept_section (take i ss)))) is

  -- those before one
  taken-in : (j m i : ℕ) (ss extra : List SectionParts) → list_any is_kept_section extra ≡ false → ((i : ℕ) → pass.number n (j + i) ≡ m + count ss i)
      → filter is_kept_listed (take (count ss i) (map (listed_as n) (enumerate_from m (passed_from (pass.section n) j ss ++ extra)))) ≡ map (passed pass) (filter is_kept_listed (take i (map (listed_as n) (enumerate_from j ss))))
  taken-in j m zero ss extra none numbers = refl
  taken-in j m (suc i) [] extra none numbers = refl
  taken-in j m (suc i) (s ∷ ss) extra none numbers = by (λ m'. taken-in (j + 1) m' i ss extra none) (is_kept_section s) refl
    where
      by : ((m' : ℕ) → ((i : ℕ) → pass.number n (j + 1 + i) ≡ m' + count ss i) → filter is_kept_listed (take (count ss i) (map (listed_as n) (enumerate_from m' (passed_from (pass.section n) (j + 1) ss ++ extra)))) ≡ map (passed pass) (filter is_kept_listed (take i (map (listed_as n) (enumerate_from (j + 1) ss)))))
          → (b : Bool) → is_kept_section s ≡ b
          → filter is_kept_listed (take (length (cond b (s ∷ filter is_kept_section (take i ss)) (filter is_kept_section (take i ss)))) (map (listed_as n) (enumerate_from m (map (λ e. pass.section n e.0 e.1) (cond b ((j, s) ∷ filter (λ e. is_kept_section e.1) (enumerate_from (j + 1) ss)) (filter (λ e. is_kept_section e.1) (enumerate_from (j + 1) ss))) ++ extra))))
          ≡ map (passed pass) (cond b (listed_as n (j, s) ∷ filter is_kept_listed (take i (map (listed_as n) (enumerate_from (j + 1) ss)))) (filter is_kept_listed (take i (map (listed_as n) (enumerate_from (j + 1) ss)))))
      by go true is =
          let rest = filter is_kept_listed (take (count ss i) (map (listed_as n) (enumerate_from (m + 1) (passed_from (pass.section n) (j + 1) ss ++ extra)))) in
          ap (λ b. cond b (listed_as n (m, pass.section n j s) ∷ rest) rest) (keeps j s ∙ is)
          ∙ (λ k. record { object = n; index = first k; section = pass.section n j s } ∷ go (m + 1) later k)
        where
          first : m ≡ pass.number n j
          first = let a : j + 0 ≡ j = omega arith in let b : m + 0 ≡ m = omega arith in sym (sym (ap (pass.number n) a) ∙ numbers 0 ∙ b)

          later : (i : ℕ) → pass.number n (j + 1 + i) ≡ m + 1 + count ss i
          later i =
              let a : j + 1 + i ≡ j + suc i = omega arith in
              let b : length (cond (is_kept_section s) (s ∷ filter is_kept_section (take i ss)) (filter is_kept_section (take i ss))) ≡ suc (count ss i) = ap (λ b. length (cond b (s ∷ filter is_kept_section (take i ss)) (filter is_kept_section (take i ss)))) is in
              ap (pass.number n) a ∙ numbers (suc i) ∙ ap (λ x. m + x) b ∙ omega arith
      by go false is = go m later
        where
          later : (i : ℕ) → pass.number n (j + 1 + i) ≡ m + count ss i
          later i =
              let a : j + 1 + i ≡ j + suc i = omega arith in
              ap (pass.number n) a ∙ numbers (suc i) ∙ ap (λ b. m + length (cond b (s ∷ filter is_kept_section (take i ss)) (filter is_kept_section (take i ss)))) is

-- a kept section by its index
pub got-in : (section : ℕ → SectionParts → SectionParts) (j i : ℕ) (ss extra : List SectionParts) (s : SectionParts) → slice_get ss i ≡ Some s → is_kept_section s ≡ true
    → slice_get (passed_from section j ss ++ extra) (count ss i) ≡ Some (section (j + i) s)
got-in section j i [] extra s at kept = absurd cc
got-in section j zero (t ∷ ss) extra s at kept =
    let same : t ≡ s = cc in
    let here : is_kept_section t ≡ true = ap is_kept_section same ∙ kept in
    let none : j ≡ j + 0 = omega arith in
    ap (λ b. slice_get (map (λ e. section e.0 e.1) (cond b ((j, t) ∷ filter (λ e. is_kept_section e.1) (enumerate_from (j + 1) ss)) (filter (λ e. is_kept_section e.1) (enumerate_from (j + 1) ss))) ++ extra) 0) here
    ∙ (λ k. Some (section (none k) (same k)))
got-in section j (suc i) (t ∷ ss) extra s at kept = by (is_kept_section t) ∙ got-in section (j + 1) i ss extra s at kept ∙ ap (λ k. Some (section k s)) (omega arith)
  where
    by : (b : Bool) → slice_get (map (λ e. section e.0 e.1) (cond b ((j, t) ∷ filter (λ e. is_kept_section e.1) (enumerate_from (j + 1) ss)) (filter (λ e. is_kept_section e.1) (enumerate_from (j + 1) ss))) ++ extra) (length (cond b (t ∷ filter is_kept_section (take i ss)) (filter is_kept_section (take i ss)))) ≡ slice_get (passed_from section (j + 1) ss ++ extra) (count ss i)
    by true = refl
    by false = refl

-- ---- all objects

-- section 0 of the result is dropped
past-null : (n : ℕ) (null : SectionParts) (ls : List IndexedSection) → is_kept_section null ≡ false → filter is_kept_listed (listed_as n (0, null) ∷ ls) ≡ filter is_kept_listed ls
past-null n null ls dropped = ap (λ b. cond b (listed_as n (0, null) ∷ filter is_kept_listed ls) (filter is_kept_listed ls)) dropped

module _ (pass : Pass) where
  numbers-from : (n : ℕ) (g r : ObjectParts) → IsPassOf pass n g r → (i : ℕ) → pass.number n (0 + i) ≡ 1 + count g.sections i
  numbers-from n g r h i = let a : 0 + i ≡ i = omega arith in ap (pass.number n) a ∙ h.numbers i

  kept-object : (n : ℕ) (g r : ObjectParts) → IsPassOf pass n g r → filter is_kept_listed (sections_in (n, r)) ≡ map (passed pass) (filter is_kept_listed (sections_in (n, g)))
  kept-object n g r h =
      ap (λ ss. filter is_kept_listed (map (listed_as n) (enumerate_from 0 ss))) h.sections
      ∙ past-null n h.null (map (listed_as n) (enumerate_from 1 (passed_from (pass.section n) 0 g.sections ++ h.added))) h.null_dropped
      ∙ kept-in pass n 0 1 g.sections h.added h.added_dropped (numbers-from n g r h)

  kept-objects : (n : ℕ) (gs rs : List ObjectParts) → ArePassesFrom pass n gs rs
      → filter is_kept_listed (flat_map sections_in (enumerate_from n rs)) ≡ map (passed pass) (filter is_kept_listed (flat_map sections_in (enumerate_from n gs)))
  kept-objects n [] [] clean = refl
  kept-objects n [] (r ∷ rs) clean = absurd clean
  kept-objects n (g ∷ gs) [] clean = absurd clean
  kept-objects n (g ∷ gs) (r ∷ rs) clean =
      filter-append is_kept_listed (sections_in (n, r)) (flat_map sections_in (enumerate_from (n + 1) rs))
      ∙ ap₂ (λ xs ys. xs ++ ys) (kept-object n g r clean.0) (kept-objects (n + 1) gs rs clean.1)
      ∙ sym (map-append (passed pass) (filter is_kept_listed (sections_in (n, g))) (filter is_kept_listed (flat_map sections_in (enumerate_from (n + 1) gs))))
      ∙ ap (map (passed pass)) (sym (filter-append is_kept_listed (sections_in (n, g)) (flat_map sections_in (enumerate_from (n + 1) gs))))

  take-clean : (n o : ℕ) (gs rs : List ObjectParts) → ArePassesFrom pass n gs rs → ArePassesFrom pass n (take o gs) (take o rs)
  take-clean n zero gs rs clean = tt
  take-clean n (suc o) [] [] clean = tt
  take-clean n (suc o) [] (r ∷ rs) clean = absurd clean
  take-clean n (suc o) (g ∷ gs) [] clean = absurd clean
  take-clean n (suc o) (g ∷ gs) (r ∷ rs) clean = (clean.0, take-clean (n + 1) o gs rs clean.1)

  -- the result of an object
  pub record Outcome (n : ℕ) (g : ObjectParts) (found : Option ObjectParts) : Type 0 where
    pub object : ObjectParts
    pub is : found ≡ Some object
    pub clean : IsPassOf pass n g object

  result-from : (n k : ℕ) (gs rs : List ObjectParts) (g : ObjectParts) → ArePassesFrom pass n gs rs → slice_get gs k ≡ Some g → Outcome (n + k) g (slice_get rs k)
  result-from n k [] rs g clean at = absurd cc
  result-from n k (x ∷ gs) [] g clean at = absurd clean
  result-from n zero (x ∷ gs) (r ∷ rs) g clean at =
      let none : n ≡ n + 0 = omega arith in
      let same : x ≡ g = cc in
      record { object = r; is = refl; clean = subst (λ m. IsPassOf pass m g r) none (subst (λ y. IsPassOf pass n y r) same clean.0) }
  result-from n (suc k) (x ∷ gs) (r ∷ rs) g clean at =
      let next : n + 1 + k ≡ n + suc k = omega arith in
      subst (λ m. Outcome m g (slice_get rs k)) next (result-from (n + 1) k gs rs g clean.1 at)

  pub none-from : (n k : ℕ) (gs rs : List ObjectParts) → ArePassesFrom pass n gs rs → slice_get gs k ≡ None → slice_get rs k ≡ None
  none-from n k [] [] clean at = refl
  none-from n k [] (r ∷ rs) clean at = absurd clean
  none-from n k (x ∷ gs) [] clean at = absurd clean
  none-from n zero (x ∷ gs) (r ∷ rs) clean at = absurd cc
  none-from n (suc k) (x ∷ gs) (r ∷ rs) clean at = none-from (n + 1) k gs rs clean.1 at

  module _ (gs rs : List ObjectParts) (clean : ArePassesFrom pass 0 gs rs) where
    pub kept-all : filter is_kept_listed (all_sections rs) ≡ map (passed pass) (filter is_kept_listed (all_sections gs))
    unfolding all_sections
    kept-all = kept-objects 0 gs rs clean

    pub result-of : (o : ℕ) (g : ObjectParts) → slice_get gs o ≡ Some g → Outcome o g (slice_get rs o)
    result-of o g at = let none : 0 + o ≡ o = omega arith in subst (λ m. Outcome m g (slice_get rs o)) none (result-from 0 o gs rs g clean at)

    -- a kept section in its new number
    pub section-moved : (o i : ℕ) (s : SectionParts) → section_at gs o i ≡ Some s → is_kept_section s ≡ true → section_at rs o (pass.number o i) ≡ Some (pass.section o i s)
    section-moved o i s at kept = by (slice_get gs o) refl at
      where
        by : (found : Option ObjectParts) → slice_get gs o ≡ found → option_and_then (λ (object : ObjectParts). slice_get object.sections i) found ≡ Some s → section_at rs o (pass.number o i) ≡ Some (pass.section o i s)
        by None is h = absurd cc
        by (Some g) is h =
            let r = result-of o g is in
            let one : 1 + count g.sections i ≡ suc (count g.sections i) = omega arith in
            let none : 0 + i ≡ i = omega arith in
            ap (option_and_then (λ (object : ObjectParts). slice_get object.sections (pass.number o i))) r.is
            ∙ ap₂ (λ ss k. slice_get ss k) r.clean.sections (r.clean.numbers i ∙ one)
            ∙ got-in (pass.section o) 0 i g.sections r.clean.added s h kept
            ∙ ap (λ k. Some (pass.section o k s)) none

    -- what is kept before it
    pub before-moved : (o i : ℕ) (g : ObjectParts) → slice_get gs o ≡ Some g → filter is_kept_listed (sections_before rs o (pass.number o i)) ≡ map (passed pass) (filter is_kept_listed (sections_before gs o i))
    unfolding all_sections sections_before
    before-moved o i g at =
        let r = result-of o g at in
        let one : 1 + count g.sections i ≡ suc (count g.sections i) = omega arith in
        let here = take i (sections_in (o, g)) in
        ap (λ x. filter is_kept_listed (flat_map sections_in (enumerate_from 0 (take o rs)) ++ option_map_or (λ object. take (pass.number o i) (sections_in (o, object))) x [])) r.is
        ∙ filter-append is_kept_listed (flat_map sections_in (enumerate_from 0 (take o rs))) (take (pass.number o i) (sections_in (o, r.object)))
        ∙ ap₂ (λ xs ys. xs ++ ys) (kept-objects 0 (take o gs) (take o rs) (take-clean 0 o gs rs clean))
        (ap₂ (λ ss k. filter is_kept_listed (take k (map (listed_as o) (enumerate_from 0 ss)))) r.clean.sections (r.clean.numbers i ∙ one)
        ∙ past-null o r.clean.null (take (count g.sections i) (map (listed_as o) (enumerate_from 1 (passed_from (pass.section o) 0 g.sections ++ r.clean.added)))) r.clean.null_dropped
        ∙ taken-in pass o 0 1 i g.sections r.clean.added r.clean.added_dropped (numbers-from o g r.object r.clean))
        ∙ sym (map-append (passed pass) (filter is_kept_listed (flat_map sections_in (enumerate_from 0 (take o gs)))) (filter is_kept_listed here))
        ∙ ap (map (passed pass)) (sym (filter-append is_kept_listed (flat_map sections_in (enumerate_from 0 (take o gs))) here))
        ∙ ap (λ x. map (passed pass) (filter is_kept_listed (flat_map sections_in (enumerate_from 0 (take o gs)) ++ option_map_or (λ object. take i (sections_in (o, object))) x []))) (sym at)
