-- Sites by their targets: what slots save at targets, added up over these, is two bytes for each site whose target has a slot (`sites_saved`). A target
-- counts once, and so does a site, since the targets are places apart.
use Rattle.std.proofs.Common.{◌≡◌, ◌∙◌, ℕ, zero, suc, ◌+◌, ◌*◌, ◌≤◌, List, [], ◌∷◌, Bool, true, false, cond, filter, length, map, Option, None, slice_get, refl, sym, ap, arith, eqb}
use Rattle.std.specs.Prelude.{◌&&◌, ◌||◌}
use Rattle.std.specs.List.{list_any}
use Rattle.std.specs.Option.{option_map}
use Rattle.std.proofs.lemmas.Bool.{eq-eqb, false≢true, ne_eqb, or_parts}
use Rattle.zc_base.specs.Places.{same_place}
use Rattle.zc_base.specs.declared.place.Place.{Place}
use Rattle.zc_base.proofs.PlaceLaws.{same_place-refl}
use Rattle.pick_check.specs.Saved.{has_slot, saved_from}
use Rattle.pick_check.specs.declared.saving.Saving.{Saving}
use Rattle.shrink_layout.specs.Savings.{saving_of, sites_to}
use Rattle.shrink_layout.specs.Units.{is_slot_of}
use Rattle.shrink_layout.proofs.PremiseLaws.{Each}
use Rattle.shrink_layout.proofs.PlaceLaws.{same_place-true}

-- ---- places apart

same-sym : (p q : Place) → same_place p q ≡ same_place q p
same-sym p q = by (same_place p q) refl (same_place q p) refl
  where
    by : (a : Bool) → same_place p q ≡ a → (b : Bool) → same_place q p ≡ b → a ≡ b
    by true is true back = refl
    by false is false back = refl
    by true is false back = absurd (false≢true (sym back ∙ ap (λ r. same_place r p) (sym (same_place-true p q is)) ∙ same_place-refl p))
    by false is true back = absurd (false≢true (sym is ∙ ap (λ r. same_place r q) (sym (same_place-true q p back)) ∙ same_place-refl q))

-- none of these places stands twice
abbrev pub ArePlacesApart : List Place → Type 0
ArePlacesApart [] = Unit {0}
ArePlacesApart (q ∷ qs) = (list_any (same_place q) qs ≡ false) × ArePlacesApart qs

-- nor does a target of savings
abbrev pub AreApart : List Saving → Type 0
AreApart [] = Unit {0}
AreApart (s ∷ rest) = (list_any (λ t. same_place s.target t.target) rest ≡ false) × AreApart rest

-- ---- targets that have slots

-- a place is the target of a saving, from number i + 1 on, that some of these numbers names
abbrev pub slotted : List ℕ → ℕ → List Saving → Place → Bool
slotted numbers i [] p = false
slotted numbers i (s ∷ rest) p = (has_slot numbers (i + 1) && same_place p s.target) || slotted numbers (i + 1) rest p

-- a place that is no target has no slot
none_slotted : (numbers : List ℕ) (i : ℕ) (savings : List Saving) (p : Place) → list_any (λ s. same_place p s.target) savings ≡ false → slotted numbers i savings p ≡ false
none_slotted numbers i [] p none = refl
none_slotted numbers i (s ∷ rest) p none =
    let two = or_parts (same_place p s.target) (list_any (λ s. same_place p s.target) rest) none in
    ap (λ b. (has_slot numbers (i + 1) && b) || slotted numbers (i + 1) rest p) two.0 ∙ by (has_slot numbers (i + 1)) (none_slotted numbers (i + 1) rest p two.1)
  where
    by : (b : Bool) → slotted numbers (i + 1) rest p ≡ false → ((b && false) || slotted numbers (i + 1) rest p) ≡ false
    by true is = is
    by false is = is

-- no numbers name none
nothing_slotted : (i : ℕ) (savings : List Saving) (p : Place) → slotted [] i savings p ≡ false
nothing_slotted i [] p = refl
nothing_slotted i (s ∷ rest) p = nothing_slotted (i + 1) rest p

-- nor does a number below them all
below_slotted : (n i : ℕ) (savings : List Saving) (p : Place) → n ≤ i → slotted (n ∷ []) i savings p ≡ false
below_slotted n i [] p le = refl
below_slotted n i (s ∷ rest) p le =
    ap (λ b. ((b || false) && same_place p s.target) || slotted (n ∷ []) (i + 1) rest p) (ne_eqb n (i + 1) (λ e. omega (arith, e, le))) ∙ below_slotted n (i + 1) rest p (omega arith)

-- one number more names one place more
more_slotted : (n : ℕ) (ns : List ℕ) (i : ℕ) (savings : List Saving) (p : Place) → slotted (n ∷ ns) i savings p ≡ (slotted (n ∷ []) i savings p || slotted ns i savings p)
more_slotted n ns i [] p = refl
more_slotted n ns i (s ∷ rest) p =
    ap (λ b. ((eqb n (i + 1) || has_slot ns (i + 1)) && same_place p s.target) || b) (more_slotted n ns (i + 1) rest p)
    ∙ by (eqb n (i + 1)) (has_slot ns (i + 1)) (same_place p s.target) (slotted (n ∷ []) (i + 1) rest p) (slotted ns (i + 1) rest p)
  where
    by : (a b m x y : Bool) → (((a || b) && m) || (x || y)) ≡ ((((a || false) && m) || x) || ((b && m) || y))
    by true b true x y = refl
    by true true false x y = refl
    by true false false x y = refl
    by false true true true y = refl
    by false true true false y = refl
    by false true false x y = refl
    by false false m x y = refl

-- ---- slots

-- the places that numbers stand for: 0 for none, and else one more than the index of a saving for its target
pub record AreSlotPlaces (savings : List Saving) (place : ℕ → Option Place) : Type 0 where
  pub hole : place 0 ≡ None
  pub target : (k : ℕ) → place (suc k) ≡ option_map (λ (s : Saving). s.target) (slice_get savings k)

-- a number names the target with it
one_slotted : (k i : ℕ) (savings : List Saving) (p : Place) → is_slot_of p (option_map (λ (s : Saving). s.target) (slice_get savings k)) ≡ slotted (suc (i + k) ∷ []) i savings p
one_slotted k i [] p = refl
one_slotted zero i (s ∷ rest) p =
    let same : eqb (suc (i + 0)) (i + 1) ≡ true = eq-eqb (suc (i + 0)) (i + 1) (omega arith) in
    same-sym s.target p
    ∙ by (same_place p s.target) (below_slotted (suc (i + 0)) (i + 1) rest p (omega arith))
    ∙ sym (ap (λ b. ((b || false) && same_place p s.target) || slotted (suc (i + 0) ∷ []) (i + 1) rest p) same)
  where
    by : (b : Bool) → slotted (suc (i + 0) ∷ []) (i + 1) rest p ≡ false → b ≡ (b || slotted (suc (i + 0) ∷ []) (i + 1) rest p)
    by true none = refl
    by false none = sym none
one_slotted (suc k) i (s ∷ rest) p =
    let other : eqb (suc (i + suc k)) (i + 1) ≡ false = ne_eqb (suc (i + suc k)) (i + 1) (λ e. omega (arith, e)) in
    let next : suc (i + 1 + k) ≡ suc (i + suc k) = omega arith in
    one_slotted k (i + 1) rest p ∙ ap (λ n. slotted (n ∷ []) (i + 1) rest p) next
    ∙ sym (ap (λ b. ((b || false) && same_place p s.target) || slotted (suc (i + suc k) ∷ []) (i + 1) rest p) other)

module _ (savings : List Saving) (place : ℕ → Option Place) (are : AreSlotPlaces savings place) (p : Place) where
  slot_is_slotted : (n : ℕ) → is_slot_of p (place n) ≡ slotted (n ∷ []) 0 savings p
  slot_is_slotted zero = ap (is_slot_of p) are.hole ∙ sym (below_slotted 0 0 savings p (omega arith))
  slot_is_slotted (suc k) = let e : suc (0 + k) ≡ suc k = omega arith in ap (is_slot_of p) (are.target k) ∙ one_slotted k 0 savings p ∙ ap (λ n. slotted (n ∷ []) 0 savings p) e

  -- a place has a slot if some number names it
  pub any_slotted : (numbers : List ℕ) → list_any (is_slot_of p) (map place numbers) ≡ slotted numbers 0 savings p
  any_slotted [] = sym (nothing_slotted 0 savings p)
  any_slotted (n ∷ ns) = (λ j. slot_is_slotted n j || any_slotted ns j) ∙ sym (more_slotted n ns 0 savings p)

-- ---- what is saved

-- savings that save the same
pub saved_same : (f g : Saving → ℕ) (numbers : List ℕ) (i : ℕ) (savings : List Saving) → Each (λ s. f s ≡ g s) savings → saved_from f numbers i savings ≡ saved_from g numbers i savings
saved_same f g numbers i [] same = refl
saved_same f g numbers i (s ∷ rest) same = λ j. cond {A = ℕ} (has_slot numbers (i + 1)) (same.0 j) 0 + saved_same f g numbers (i + 1) rest same.1 j

-- nothing at no sites
saved_none : (numbers : List ℕ) (i : ℕ) (savings : List Saving) → saved_from (λ s. 0) numbers i savings ≡ 0
saved_none numbers i [] = refl
saved_none numbers i (s ∷ rest) = by (has_slot numbers (i + 1)) (saved_none numbers (i + 1) rest)
  where
    by : (b : Bool) → saved_from (λ s. 0) numbers (i + 1) rest ≡ 0 → cond {A = ℕ} b 0 0 + saved_from (λ s. 0) numbers (i + 1) rest ≡ 0
    by true none = omega (arith, none)
    by false none = omega (arith, none)

module _ (rd : ℕ) (numbers : List ℕ) where
  -- two bytes for each of these sites to a target with a slot
  abbrev pub at_sites : List (ℕ × Place) → Saving → ℕ
  at_sites sites s = 2 * sites_to sites rd s.target

  -- one site more saves two bytes more, if its target has a slot
  one_site : (x : ℕ × Place) (sites : List (ℕ × Place)) (i : ℕ) (savings : List Saving) → AreApart savings
      → saved_from (at_sites (x ∷ sites)) numbers i savings ≡ 2 * cond (eqb x.0 rd && slotted numbers i savings x.1) 1 0 + saved_from (at_sites sites) numbers i savings
  one_site x sites i [] apart = by (eqb x.0 rd)
    where
      by : (b : Bool) → 0 ≡ 2 * cond (b && false) 1 0 + 0
      by true = refl
      by false = refl
  one_site x sites i (s ∷ rest) apart =
      by (has_slot numbers (i + 1)) (eqb x.0 rd) (same_place x.1 s.target) (slotted numbers (i + 1) rest x.1)
      (λ same. none_slotted numbers (i + 1) rest x.1 (ap (λ q. list_any (λ (t : Saving). same_place q t.target) rest) (same_place-true x.1 s.target same) ∙ apart.0))
      (saved_from (at_sites (x ∷ sites)) numbers (i + 1) rest) (saved_from (at_sites sites) numbers (i + 1) rest) (one_site x sites (i + 1) rest apart.1)
    where
      found : List (ℕ × Place)
      found = filter (λ (y : ℕ × Place). eqb y.0 rd && same_place y.1 s.target) sites

      by : (h r m n : Bool) → (m ≡ true → n ≡ false) → (a b : ℕ) → a ≡ 2 * cond (r && n) 1 0 + b
          → cond h (2 * length (cond (r && m) (x ∷ found) found)) 0 + a ≡ 2 * cond (r && ((h && m) || n)) 1 0 + (cond h (2 * length found) 0 + b)
      by false r m n once a b same = omega (arith, same)
      by true false m n once a b same = omega (arith, same)
      by true true true true once a b same = absurd (false≢true (sym (once refl)))
      by true true true false once a b same = omega (arith, same)
      by true true false n once a b same = omega (arith, same)

  -- the slots save two bytes for each site whose target has one
  pub sites_saved : (savings : List Saving) → AreApart savings → (sites : List (ℕ × Place))
      → saved_from (at_sites sites) numbers 0 savings ≡ 2 * length (filter (λ y. eqb y.0 rd && slotted numbers 0 savings y.1) sites)
  sites_saved savings apart [] = saved_none numbers 0 savings
  sites_saved savings apart (x ∷ sites) = one_site x sites 0 savings apart ∙ by (eqb x.0 rd && slotted numbers 0 savings x.1) (sites_saved savings apart sites)
    where
      found : List (ℕ × Place)
      found = filter (λ (y : ℕ × Place). eqb y.0 rd && slotted numbers 0 savings y.1) sites

      by : (b : Bool) → saved_from (at_sites sites) numbers 0 savings ≡ 2 * length found
          → 2 * cond b 1 0 + saved_from (at_sites sites) numbers 0 savings ≡ 2 * length (cond b (x ∷ found) found)
      by true same = omega (arith, same)
      by false same = omega (arith, same)

-- ---- savings by sites

-- each saving has the number of sites that lead to its target
abbrev pub AreCounted : List (ℕ × Place) → List Saving → Type 0
AreCounted sites savings = Each (λ s. s ≡ saving_of sites s.target) savings

module _ (sites : List (ℕ × Place)) (test : Saving → Bool) where
  abbrev kept : List Place → List Saving
  kept qs = filter test (map (saving_of sites) qs)

  pub kept_counted : (qs : List Place) → AreCounted sites (kept qs)
  kept_counted [] = tt
  kept_counted (q ∷ qs) = by (test (saving_of sites q)) (kept_counted qs)
    where
      by : (b : Bool) → AreCounted sites (kept qs) → AreCounted sites (cond b (saving_of sites q ∷ kept qs) (kept qs))
      by true rest = (refl, rest)
      by false rest = rest

  -- a place that isn't one of these is no target
  kept_other : (p : Place) (qs : List Place) → list_any (same_place p) qs ≡ false → list_any (λ (t : Saving). same_place p t.target) (kept qs) ≡ false
  kept_other p [] none = refl
  kept_other p (q ∷ qs) none =
      let two = or_parts (same_place p q) (list_any (same_place p) qs) none in
      by (test (saving_of sites q)) two.0 (kept_other p qs two.1)
    where
      by : (b : Bool) → same_place p q ≡ false → list_any (λ (t : Saving). same_place p t.target) (kept qs) ≡ false
          → list_any (λ (t : Saving). same_place p t.target) (cond b (saving_of sites q ∷ kept qs) (kept qs)) ≡ false
      by true other rest = ap (λ b. b || list_any (λ (t : Saving). same_place p t.target) (kept qs)) other ∙ rest
      by false other rest = rest

  pub kept_apart : (qs : List Place) → ArePlacesApart qs → AreApart (kept qs)
  kept_apart [] apart = tt
  kept_apart (q ∷ qs) apart = by (test (saving_of sites q)) (kept_apart qs apart.1)
    where
      by : (b : Bool) → AreApart (kept qs) → AreApart (cond b (saving_of sites q ∷ kept qs) (kept qs))
      by true rest = (kept_other q qs apart.0, rest)
      by false rest = rest
