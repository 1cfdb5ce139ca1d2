-- The addresses that an image lists are those of the layout: a place has one only if an item starts there or a section ends there.
use Rattle.std.proofs.Common.{◌≡◌, ℕ, List, [], ◌∷◌, ◌++◌, map, length, Option, Some, None, Bool, true, false, cond, eqb, refl, sym, ap, ◌∙◌, subst, inl, inr, ◌⊎◌}
use Rattle.std.specs.Prelude.{All, ◌||◌}
use Rattle.std.specs.List.{flat_map, list_any}
use Rattle.std.specs.Option.{is_some, option_map, option_map_or, option_to_list}
use Rattle.std.proofs.lemmas.Bool.{eq-eqb, eqb-true, or_cases, or_left, or_right}
use Rattle.std.proofs.lemmas.List.Elements.{All-cons, All-head, All-nil, All-tail}
use Rattle.std.proofs.lemmas.List.Folds.{list_any-append}
use Rattle.zc_base.specs.Places.{same_place}
use Rattle.zc_base.specs.declared.place.Place.{Place}
use Rattle.zc_base.proofs.PlaceLaws.{same_place-refl}
use Rattle.elf32_read.specs.Parts.{ObjectParts, SectionParts}
use Rattle.psabi_sym.specs.Inputs.{parsed}
use Rattle.psabi_sym.specs.Indexed.{sections_before}
use Rattle.block_cut.specs.Items.{all_targets, code_at, is_target_at, place_of, starts_in, starts_on, targets_of}
use Rattle.block_cut.proofs.ListedLaws.{cut_at, listed}
use Rattle.block_cut.proofs.PlainLaws.{target_on}
use Rattle.block_cut.proofs.WholeLaws.{code_is_section}
use Rattle.shrink_layout.proofs.PlaceLaws.{same_place-true}
use Rattle.zc_link.specs.Places.{listed_address}
use Rattle.zc_link.specs.ImageParts.{listed_places, with_address}
use Rattle.zc_link.specs.TextLayout.{TextLayout}
use Rattle.moved_runs.proofs.Elements.{any_flat, any_offset}

-- what holds of all entries of a list holds of the one that is found
pub found_holds : (P : Place × ℕ → Type 0) (es : List (Place × ℕ)) (q : Place) (a : ℕ) → All P es → listed_address es q ≡ Some a → P (q, a)
found_holds P [] q a all found = absurd cc
found_holds P (e ∷ es) q a all found = by (same_place e.0 q) refl found (λ later. found_holds P es q a (All-tail P e es all) later)
  where
    by : (b : Bool) → same_place e.0 q ≡ b → cond b (Some e.1) (listed_address es q) ≡ Some a → (listed_address es q ≡ Some a → P (q, a)) → P (q, a)
    by true is got rest =
        let place : e.0 ≡ q = same_place-true e.0 q is in
        let address : e.1 ≡ a = cc in
        subst P (λ j. (place j, address j)) (All-head P e es all)
    by false is got rest = rest got

-- each entry of a list of places with addresses has its place's address
pub entries_placed : (L : TextLayout) (qs : List Place) → All (λ e. L.address e.0 ≡ Some e.1) (flat_map (with_address L) qs)
entries_placed L [] = All-nil (λ (e : Place × ℕ). L.address e.0 ≡ Some e.1)
entries_placed L (q ∷ qs) = by (L.address q) refl (entries_placed L qs)
  where
    by :
        (o : Option ℕ) → L.address q ≡ o → All (λ e. L.address e.0 ≡ Some e.1) (flat_map (with_address L) qs)
        → All (λ e. L.address e.0 ≡ Some e.1) (option_to_list (option_map (λ a. (q, a)) o) ++ flat_map (with_address L) qs)
    by None is rest = rest
    by (Some a) is rest = All-cons (λ (e : Place × ℕ). L.address e.0 ≡ Some e.1) (q, a) (flat_map (with_address L) qs) is rest

-- a place among those of a list is found there if it has an address
pub among_found :
    (L : TextLayout) (qs : List Place) (q : Place) (a : ℕ) → L.address q ≡ Some a → list_any (λ r. same_place r q) qs ≡ true
    → (b : ℕ) × (listed_address (flat_map (with_address L) qs) q ≡ Some b)
among_found L [] q a is among = absurd cc
among_found L (r ∷ rs) q a is among = by (same_place r q) refl among (λ later. among_found L rs q a is later)
  where
    rest : List (Place × ℕ)
    rest = flat_map (with_address L) rs

    skipped : (o : Option ℕ) → same_place r q ≡ false → listed_address (option_to_list (option_map (λ a. (r, a)) o) ++ rest) q ≡ listed_address rest q
    skipped None other = refl
    skipped (Some b) other = ap (λ t. cond t (Some b) (listed_address rest q)) other

    by :
        (b : Bool) → same_place r q ≡ b → (b || list_any (λ s. same_place s q) rs) ≡ true
        → (list_any (λ s. same_place s q) rs ≡ true → (b : ℕ) × (listed_address rest q ≡ Some b))
        → (b : ℕ) × (listed_address (with_address L r ++ rest) q ≡ Some b)
    by true same h later =
        let here : L.address r ≡ Some a = ap L.address (same_place-true r q same) ∙ is in (
          a,
          ap (λ o. listed_address (option_to_list (option_map (λ a. (r, a)) o) ++ rest) q) here
              ∙ ap (λ t. cond t (Some a) (listed_address rest q)) same,
        )
    by false other h later = let found = later h in (found.0, skipped (L.address r) other ∙ found.1)

-- a place where an item starts or a section of code ends
pub record IsTarget (objects : List ObjectParts) (q : Place) : Type 0 where
  pub section : SectionParts
  pub code : code_at objects q ≡ Some section
  pub target : (starts_on section q.offset ≡ true) ⊎ (q.offset ≡ length section.bytes)

-- a place where code may lead is one
pub target_there : (objects : List ObjectParts) (q : Place) → is_target_at objects q ≡ true → IsTarget objects q
target_there objects q is = by (code_at objects q) refl
  where
    by : (o : Option SectionParts) → code_at objects q ≡ o → IsTarget objects q
    by None at =
        let no : is_target_at objects q ≡ false =
        (λ j. option_map_or (λ s. starts_on s q.offset) (at j) false || option_map_or (λ s. eqb q.offset (length s.bytes)) (at j) false) in
        absurd (cc (no, is))
    by (Some s) at = record { section = s; code = at; target = either (or_cases (starts_on s q.offset) (eqb q.offset (length s.bytes)) (sym (target_on objects q s at) ∙ is)) }
      where
        either : (starts_on s q.offset ≡ true) ⊎ (eqb q.offset (length s.bytes) ≡ true) → (starts_on s q.offset ≡ true) ⊎ (q.offset ≡ length s.bytes)
        either (inl start) = inl start
        either (inr end) = inr (eqb-true q.offset (length s.bytes) end)

-- a place that code may lead to is among those that are listed
target_among : (objects : List ObjectParts) (q : Place) → is_target_at objects q ≡ true → list_any (λ r. same_place r q) (all_targets objects) ≡ true
target_among objects q is =
    let at = target_there objects q is in
    let s = at.section in
    let two = code_is_section objects q s at.code in
    let l = listed q.object q.section s in
    let cut = cut_at objects q.object q.section s two.0 in
    let test = λ (r : Place). same_place r q in
    let own : targets_of l ≡ map (place_of l) (starts_in s ++ length s.bytes ∷ []) = ap (λ b. cond b (map (place_of l) (starts_in s ++ length s.bytes ∷ [])) []) two.1 in
    let offset : list_any (λ m. eqb m q.offset) (starts_in s ++ length s.bytes ∷ []) ≡ true = list_any-append (λ m. eqb m q.offset) (starts_in s) (length s.bytes ∷ []) ∙ either s at.target in
    let mine : list_any test (targets_of l) ≡ true = ap (list_any test) own ∙ any_offset test (place_of l) (starts_in s ++ length s.bytes ∷ []) q.offset offset (same_place-refl q) in
    ap (λ ls. list_any test (flat_map targets_of ls)) cut.all_are ∙ any_flat test targets_of (sections_before objects q.object q.section) cut.rest l mine
  where
    either : (s : SectionParts) → (starts_on s q.offset ≡ true) ⊎ (q.offset ≡ length s.bytes) → (list_any (λ m. eqb m q.offset) (starts_in s) || (eqb (length s.bytes) q.offset || false)) ≡ true
    either s (inl start) = or_left (list_any (λ m. eqb m q.offset) (starts_in s)) _ start
    either s (inr end) = or_right (list_any (λ m. eqb m q.offset) (starts_in s)) _ (or_left (eqb (length s.bytes) q.offset) false (eq-eqb (length s.bytes) q.offset (sym end)))

-- if no other places have addresses, an image lists these addresses
module _ (L : TextLayout) (only : (q : Place) → is_some (L.address q) ≡ true → is_target_at (parsed L.inputs).objects q ≡ true) where
  pub listed_placed : All (λ e. L.address e.0 ≡ Some e.1) (listed_places L)
  unfolding listed_places
  listed_placed = entries_placed L (all_targets (parsed L.inputs).objects)

  pub lookup : (q : Place) → listed_address (listed_places L) q ≡ L.address q
  unfolding listed_places
  lookup q = by (L.address q) refl (listed_address (listed_places L) q) refl
    where
      by : (o : Option ℕ) → L.address q ≡ o → (u : Option ℕ) → listed_address (listed_places L) q ≡ u → listed_address (listed_places L) q ≡ L.address q
      by o is (Some b) found = found ∙ sym (found_holds (λ e. L.address e.0 ≡ Some e.1) (listed_places L) q b listed_placed found)
      by None is None found = found ∙ sym is
      by (Some a) is None found =
          let among = target_among (parsed L.inputs).objects q (only q (ap is_some is)) in
          let other = among_found L (all_targets (parsed L.inputs).objects) q a is among in
          absurd (cc (found, other.1))
