-- Savings as they are counted: one site more adds one to its target's (`site_counted`), and all are few (`savings_few`, `savings_sized`).
use Rattle.std.proofs.Common.{◌≡◌, ◌≢◌, ◌∙◌, ℕ, zero, suc, ◌+◌, ◌-◌, ◌<◌, ◌≤◌, All, List, [], ◌∷◌, ◌++◌, Bool, true, false, cond, filter, get_or, length, map, set, take, Option, Some, None, slice_get, refl, sym, ap, arith, eqb}
use Rattle.std.specs.Prelude.{◌&&◌}
use Rattle.std.specs.List.{flat_map, sum_by}
use Rattle.std.specs.Option.{option_map, option_to_list}
use Rattle.std.proofs.lemmas.Bool.{false_from_ne_true}
use Rattle.std.proofs.lemmas.List.{append-nil, length-append, length-map, take_all}
use Rattle.std.proofs.lemmas.List.Concat.{flat_map-append}
use Rattle.std.proofs.lemmas.List.Elements.{filter-append}
use Rattle.std.proofs.lemmas.List.Sums.{sum_by-cons}
use Rattle.std.proofs.lemmas.Option.{get_or_from_slice_get, none-some, same_Some, slice_get-map, slice_get_within}
use Rattle.zc_base.specs.Places.{same_place}
use Rattle.zc_base.specs.declared.place.Place.{Place}
use Rattle.zc_base.proofs.PlaceLaws.{same_place-refl}
use Rattle.elf32_read.specs.Parts.{ObjectParts, is_code_section}
use Rattle.psabi_sym.specs.Faults.{gather_fault}
use Rattle.psabi_sym.specs.Inputs.{Inputs, ParsedInputs, parsed}
use Rattle.psabi_sym.specs.Indexed.{IndexedSection, all_sections}
use Rattle.pick_check.specs.declared.saving.Saving.{Saving}
use Rattle.block_cut.specs.Items.{all_places, all_targets, is_target_at, place_of, places_of, starts_in, targets_in, targets_of}
use Rattle.block_cut.specs.Places.{code_place, code_places}
use Rattle.block_cut.specs.declared.code_place.CodePlace.{CodePlace}
use Rattle.psabi_sym.proofs.BridgeLaws.{map-map}
use Rattle.shrink_layout.specs.Invariants.Made.{places_held}
use Rattle.shrink_layout.specs.Invariants.Sites.{AreSavings, places_before, sites_in, targets_before}
use Rattle.shrink_layout.specs.Pieces.{piece_count, piece_number_at, site_at}
use Rattle.shrink_layout.specs.Savings.{HasFewSites, has_sites, saving_of, savings_of, sites_of, sites_to}
use Rattle.shrink_layout.proofs.PremiseLaws.{Each, all_of}
use Rattle.shrink_layout.proofs.SectionLaws.{count_few, count_next, flat_next, held_all, places_count}
use Rattle.shrink_layout.proofs.SiteLaws.{site_found}
use Rattle.shrink_layout.proofs.PlaceLaws.{same_place-true}
use Rattle.shrink_layout.proofs.TargetLaws.{number_some}
use Rattle.shrink_layout.proofs.TargetNumbers.{all_targets_count, got_target, target_got}

-- ---- lists

-- no more pass than there are
passed_few : {X : Type 0} (test : X → Bool) (xs : List X) → length (filter test xs) ≤ length xs
passed_few test [] = omega arith
passed_few test (x ∷ xs) = by (test x) (passed_few test xs)
  where
    by : (b : Bool) → length (filter test xs) ≤ length xs → length (cond b (x ∷ filter test xs) (filter test xs)) ≤ length (x ∷ xs)
    by true few = omega (arith, few)
    by false few = omega (arith, few)

-- nor are more taken
pub take_most : {X : Type 0} (n : ℕ) (xs : List X) → length (take n xs) ≤ length xs
take_most zero xs = omega arith
take_most (suc n) [] = omega arith
take_most (suc n) (x ∷ xs) = omega (arith, take_most n xs)

-- functions that agree on all elements
map_same : {X Y : Type 0} (f g : X → Y) (xs : List X) → ((j : ℕ) (x : X) → slice_get xs j ≡ Some x → g x ≡ f x) → map f xs ≡ map g xs
map_same f g [] same = refl
map_same f g (x ∷ xs) same = λ i. sym (same 0 x refl) i ∷ map_same f g xs (λ j y at. same (suc j) y at) i

-- two functions that agree on all elements but one
set_map : {X Y : Type 0} (f g : X → Y) (xs : List X) (k : ℕ) (x : X) (y : Y) → slice_get xs k ≡ Some x → g x ≡ y → ((j : ℕ) (z : X) → j ≢ k → slice_get xs j ≡ Some z → g z ≡ f z)
    → set (map f xs) k y ≡ map g xs
set_map f g [] k x y got is others = absurd (none-some x got)
set_map f g (z ∷ zs) zero x y got is others =
    λ i. (sym is ∙ ap g (sym (same_Some z x got))) i ∷ map_same f g zs (λ j w at. others (suc j) w (λ e. omega (arith, e)) at) i
set_map f g (z ∷ zs) (suc k) x y got is others =
    λ i. sym (others 0 z (λ e. omega (arith, e)) refl) i ∷ set_map f g zs k x y got is (λ j w ne at. others (suc j) w (λ e. ne (omega (arith, e))) at) i

-- ---- sites

module _ (inputs : ParsedInputs) where
  -- the sites of one place more
  sites_more : (qs : List Place) (q : Place) → sites_in inputs (qs ++ q ∷ []) ≡ sites_in inputs qs ++ option_to_list (site_at inputs q)
  sites_more qs q =
      flat_map-append (λ q. option_to_list (site_at inputs q)) qs (q ∷ []) ∙ ap (λ l. sites_in inputs qs ++ l) (append-nil (option_to_list (site_at inputs q)))

  -- a place without a site adds nothing
  pub no_site : (qs : List Place) (q : Place) (savings : List Saving) → site_at inputs q ≡ None → AreSavings inputs qs savings → AreSavings inputs (qs ++ q ∷ []) savings
  no_site qs q savings is are =
      are
      ∙ ap (λ sites. map (saving_of sites) (all_targets inputs.objects))
      (sym (sites_more qs q ∙ ap (λ o. sites_in inputs qs ++ option_to_list o) is ∙ append-nil (sites_in inputs qs)))

  -- there are no more sites than places
  sites_few : (qs : List Place) → length (sites_in inputs qs) ≤ length qs
  sites_few [] = omega arith
  sites_few (q ∷ qs) = by (site_at inputs q) (sites_few qs)
    where
      by : (o : Option (ℕ × Place)) → length (sites_in inputs qs) ≤ length qs → length (option_to_list o ++ sites_in inputs qs) ≤ length (q ∷ qs)
      by None few = omega (arith, few)
      by (Some s) few = omega (arith, few)

-- the sites that link a register and lead to a place, with one site more
to_more : (sites : List (ℕ × Place)) (s : ℕ × Place) (rd : ℕ) (q : Place) → sites_to (sites ++ s ∷ []) rd q ≡ sites_to sites rd q + cond (eqb s.0 rd && same_place s.1 q) 1 0
to_more sites s rd q =
    ap length (filter-append (λ (x : ℕ × Place). eqb x.0 rd && same_place x.1 q) sites (s ∷ []))
    ∙ length-append (filter (λ (x : ℕ × Place). eqb x.0 rd && same_place x.1 q) sites) (filter (λ (x : ℕ × Place). eqb x.0 rd && same_place x.1 q) (s ∷ []))
    ∙ ap (λ n. sites_to sites rd q + n) (by (eqb s.0 rd && same_place s.1 q))
  where
    by : (b : Bool) → length (cond b (s ∷ []) []) ≡ cond {A = ℕ} b 1 0
    by true = refl
    by false = refl

module _ (inputs : Inputs) (none : gather_fault inputs ≡ None) where
  abbrev given : ParsedInputs
  given = parsed inputs

  abbrev objects : List ObjectParts
  objects = given.objects

  -- ---- one site more

  module _
      (qs : List Place) (q : Place) (jump : ℕ × Place) (is : site_at given q ≡ Some jump) (target : is_target_at objects jump.1 ≡ true)
      (savings : List Saving) (are : AreSavings given qs savings) where
    abbrev k : ℕ
    k = piece_number_at objects jump.1 - 2

    abbrev sites : List (ℕ × Place)
    sites = sites_in given qs

    found : slice_get savings k ≡ Some (saving_of sites jump.1)
    found = ap (λ l. slice_get l k) are ∙ slice_get-map (saving_of sites) (all_targets objects) k ∙ ap (option_map (saving_of sites)) (target_got inputs none jump.1 target)

    pub target_within : k < length savings
    target_within = slice_get_within savings k (saving_of sites jump.1) found

    pub target_saving : (d : Saving) → get_or savings k d ≡ saving_of sites jump.1
    target_saving d = get_or_from_slice_get savings k (saving_of sites jump.1) d found

    -- no other target has more
    others : (j : ℕ) (z : Place) → j ≢ k → slice_get (all_targets objects) j ≡ Some z → saving_of (sites ++ jump ∷ []) z ≡ saving_of sites z
    others j z ne at = λ i. record { target = z; jump_sites = same 0 i; call_sites = same 1 i }
      where
        other : same_place jump.1 z ≡ false
        other = false_from_ne_true (same_place jump.1 z) (λ e. ne (omega (
          arith,
          (got_target inputs none j z at).number,
          ap (piece_number_at objects) (same_place-true jump.1 z e),
          number_some objects jump.1 target,
        )))

        no_more : (b : Bool) → cond {A = ℕ} (b && false) 1 0 ≡ 0
        no_more true = refl
        no_more false = refl

        same : (rd : ℕ) → sites_to (sites ++ jump ∷ []) rd z ≡ sites_to sites rd z
        same rd = omega (arith, to_more sites jump rd z, ap (λ b. cond {A = ℕ} (eqb jump.0 rd && b) 1 0) other, no_more (eqb jump.0 rd))

    -- the target of the site has one site more
    own_more : (rd : ℕ) → sites_to (sites ++ jump ∷ []) rd jump.1 ≡ sites_to sites rd jump.1 + cond (eqb jump.0 rd) 1 0
    own_more rd =
        to_more sites jump rd jump.1
        ∙ ap (λ n. sites_to sites rd jump.1 + n) (ap (λ b. cond {A = ℕ} (eqb jump.0 rd && b) 1 0) (same_place-refl jump.1) ∙ by (eqb jump.0 rd))
      where
        by : (b : Bool) → cond {A = ℕ} (b && true) 1 0 ≡ cond b 1 0
        by true = refl
        by false = refl

    -- what isn't a jump is a call
    or_call : (rd : ℕ) → rd < 2 → cond {A = ℕ} (eqb rd 1) 1 0 ≡ cond (eqb rd 0) 0 1
    or_call zero lt = refl
    or_call (suc zero) lt = refl
    or_call (suc (suc rd)) lt = absurd (omega (arith, lt))

    -- with one site more of its kind all are counted
    pub site_counted : (y : Saving) → y.target ≡ jump.1 → y.jump_sites ≡ sites_to sites 0 jump.1 + cond (eqb jump.0 0) 1 0 → y.call_sites ≡ sites_to sites 1 jump.1 + cond (eqb jump.0 0) 0 1
        → AreSavings given (qs ++ q ∷ []) (set savings k y)
    site_counted y at jumps calls =
        let call = or_call jump.0 (site_found given q jump is).links in
        let more : sites_in given (qs ++ q ∷ []) ≡ sites ++ jump ∷ [] = sites_more given qs q ∙ ap (λ o. sites ++ option_to_list o) is in
        let now : saving_of (sites ++ jump ∷ []) jump.1 ≡ y =
        λ i. record {
          target = sym at i;
          jump_sites = (own_more 0 ∙ sym jumps) i;
          call_sites = (own_more 1 ∙ ap (λ n. sites_to sites 1 jump.1 + n) call ∙ sym calls) i;
        } in
        ap (λ l. set l k y) are
        ∙ set_map (saving_of sites) (saving_of (sites ++ jump ∷ [])) (all_targets objects) k jump.1 y (target_got inputs none jump.1 target) now others
        ∙ ap (λ s. map (saving_of s) (all_targets objects)) (sym more)

  -- one site more can be counted, if the places are few
  pub count_low : (qs : List Place) (rd : ℕ) (q : Place) → length qs ≤ 0x1_0000 → sites_to (sites_in given qs) rd q ≤ 0x1_0000
  count_low qs rd q few = omega (arith, few, sites_few given qs, passed_few (λ (s : ℕ × Place). eqb s.0 rd && same_place s.1 q) (sites_in given qs))

  -- ---- sections

  -- what isn't code has no places
  pub held_starts : (l : IndexedSection) (i : ℕ) → slice_get (all_sections objects) i ≡ Some l
      → places_held l (take (length (code_places given l) - 1) (code_places given l)) ≡ places_of l
  held_starts l i at = by (is_code_section l.section) refl
    where
      by : (b : Bool) → is_code_section l.section ≡ b → places_held l (take (length (code_places given l) - 1) (code_places given l)) ≡ places_of l
      by true code = held_all inputs none i l at code
      by false other =
          let nothing : code_places given l ≡ [] = ap (λ b. cond b (map (code_place given l) (targets_in l.section)) []) other in
          ap (λ ps. places_held l (take (length ps - 1) ps)) nothing ∙ sym (ap (λ b. cond b (map (place_of l) (starts_in l.section)) []) other)

  -- all places of a section are its targets
  pub held_targets : (l : IndexedSection) → places_held l (code_places given l) ≡ targets_of l
  held_targets l = by (is_code_section l.section)
    where
      by : (b : Bool) → places_held l (cond b (map (code_place given l) (targets_in l.section)) []) ≡ cond b (map (place_of l) (targets_in l.section)) []
      by true = map-map (λ (p : CodePlace). place_of l p.offset) (code_place given l) (targets_in l.section)
      by false = refl

  -- the places of one section more
  pub places_next : (i : ℕ) (l : IndexedSection) → slice_get (all_sections objects) i ≡ Some l → places_before objects (i + 1) ≡ places_before objects i ++ places_of l
  places_next i l at = flat_next places_of (all_sections objects) i l at

  pub targets_next : (i : ℕ) (l : IndexedSection) → slice_get (all_sections objects) i ≡ Some l → targets_before objects (i + 1) ≡ targets_before objects i ++ targets_of l
  targets_next i l at = flat_next targets_of (all_sections objects) i l at

  -- ---- how many there are

  own_few : (l : IndexedSection) → length (places_of l) ≤ piece_count l
  own_few l = by (is_code_section l.section)
    where
      by : (b : Bool) → length (cond b (map (place_of l) (starts_in l.section)) []) ≤ cond b (1 + length (starts_in l.section)) 0
      by true = omega (arith, length-map (starts_in l.section) (place_of l))
      by false = omega arith

  flat_few : (ls : List IndexedSection) → length (flat_map places_of ls) ≤ sum_by piece_count ls
  flat_few [] = omega arith
  flat_few (l ∷ ls) = omega (arith, length-append (places_of l) (flat_map places_of ls), own_few l, flat_few ls, sum_by-cons piece_count l ls)

  pub places_few : (i : ℕ) → length (places_before objects i) ≤ 0x1_0000
  places_few i = omega (arith, flat_few (take i (all_sections objects)), count_few inputs none i)

  -- with some of the next section's places there are few too
  held_few : (l : IndexedSection) (ps : List CodePlace) (n : ℕ) → length (places_held l (take n ps)) ≤ length ps
  held_few l ps n = omega (arith, length-map (take n ps) (λ (p : CodePlace). place_of l p.offset), take_most n ps)

  pub some_few : (i : ℕ) (l : IndexedSection) → slice_get (all_sections objects) i ≡ Some l → (ps : List CodePlace) → length ps ≤ length (code_places given l) → (n : ℕ)
      → length (places_before objects i ++ places_held l (take n ps)) ≤ 0x1_0000
  some_few i l at ps few n =
      omega (
        arith,
        length-append (places_before objects i) (places_held l (take n ps)),
        held_few l ps n,
        few,
        places_count inputs none i l at,
        flat_few (take i (all_sections objects)),
        count_next inputs none i l at,
        count_few inputs none (i + 1),
      )

  -- ---- all

  all_few : sum_by piece_count (all_sections objects) ≤ 0x1_0000
  all_few =
      let whole = take_all (length (all_sections objects)) (all_sections objects) (omega arith) in
      omega (arith, ap (sum_by piece_count) (sym whole), count_few inputs none (length (all_sections objects)))

  pub savings_few : length (savings_of given) ≤ 0x1_0000
  unfolding savings_of
  savings_few =
      omega (
        arith,
        passed_few has_sites (map (saving_of (sites_of given)) (all_targets objects)),
        length-map (all_targets objects) (saving_of (sites_of given)),
        all_targets_count objects,
        all_few,
      )

  all_sites_few : length (sites_of given) ≤ 0x1_0000
  unfolding sites_of
  all_sites_few = omega (arith, sites_few given (all_places objects), flat_few (all_sections objects), all_few)

  pub savings_sized : All HasFewSites (savings_of given)
  unfolding savings_of
  savings_sized = all_of HasFewSites (savings_of given) (each (all_targets objects))
    where
      few : (q : Place) → HasFewSites (saving_of (sites_of given) q)
      few q = record {
        jumps = omega (arith, all_sites_few, passed_few (λ (s : ℕ × Place). eqb s.0 0 && same_place s.1 q) (sites_of given));
        calls = omega (arith, all_sites_few, passed_few (λ (s : ℕ × Place). eqb s.0 1 && same_place s.1 q) (sites_of given));
      }

      each : (qs : List Place) → Each HasFewSites (filter has_sites (map (saving_of (sites_of given)) qs))
      each [] = tt
      each (q ∷ qs) = by (has_sites (saving_of (sites_of given) q)) (each qs)
        where
          rest : List Saving
          rest = filter has_sites (map (saving_of (sites_of given)) qs)

          by : (b : Bool) → Each HasFewSites rest → Each HasFewSites (cond b (saving_of (sites_of given) q ∷ rest) rest)
          by true more = (few q, more)
          by false more = more

  -- what is counted over all places, and has sites, is what can be saved
  pub savings_are : (i : ℕ) (savings : List Saving) → length (all_sections objects) ≤ i → AreSavings given (places_before objects i) savings → filter has_sites savings ≡ savings_of given
  unfolding savings_of sites_of
  savings_are i savings past are =
      ap (filter has_sites) are
      ∙ ap (λ ls. filter has_sites (map (saving_of (sites_in given (flat_map places_of ls))) (all_targets objects))) (take_all i (all_sections objects) past)
