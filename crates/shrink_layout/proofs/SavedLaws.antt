-- What slots save is two bytes for each jump or call through the table (`saved_twice`). So if the table pays, the text with it is shorter than that
-- without by the net at least (`net_paid`).
use Rattle.std.proofs.Common.{◌≡◌, ◌∙◌, ℕ, zero, suc, ◌+◌, ◌*◌, ◌<◌, ◌≤◌, List, [], ◌∷◌, ◌++◌, Bool, true, false, cond, drop, filter, length, map, not, take, Option, Some, None, slice_get, slice_index, refl, sym, ap, subst, arith, eqb}
use Rattle.std.specs.Prelude.{◌&&◌, ◌||◌}
use Rattle.std.specs.List.{flat_map, list_any}
use Rattle.std.specs.Option.{is_some, option_map, option_map_or, option_to_list}
use Rattle.std.proofs.lemmas.Bool.{false≢true, or_left, or_parts, or_right}
use Rattle.std.proofs.lemmas.List.{drop-map, length-map, take-map}
use Rattle.std.proofs.lemmas.List.Elements.{All-map, All-weaker}
use Rattle.std.proofs.lemmas.Option.{none-some, same_Some}
use Rattle.zc_base.specs.Places.{same_place}
use Rattle.zc_base.specs.declared.place.Place.{Place}
use Rattle.psabi_sym.specs.Faults.{gather_fault}
use Rattle.psabi_sym.specs.Indexed.{all_sections}
use Rattle.psabi_sym.specs.Inputs.{Inputs, ParsedInputs, parsed}
use Rattle.block_cut.specs.Items.{all_places, all_targets, is_target_at, next_at}
use Rattle.block_cut.specs.Leaders.{ends_block, goes_to, is_leader_at, item_leads, section_leads}
use Rattle.block_cut.specs.declared.item.Item.{Item}
use Rattle.block_cut.specs.declared.item.Item.TheVariants as item
use Rattle.pick_check.specs.Best.{IsAssignment, Saves}
use Rattle.pick_check.specs.Saved.{cost_of, saved_by, saved_in, saved_of}
use Rattle.pick_check.specs.declared.part.Part.TheVariants.{Jumps, Calls}
use Rattle.pick_check.specs.declared.saving.Saving.{Saving}
use Rattle.shrink_layout.specs.Pieces.{piece_number_at, site_at, slot_at, unit_at}
use Rattle.shrink_layout.specs.Savings.{has_sites, saving_of, savings_of, sites_of, sites_to}
use Rattle.shrink_layout.specs.Settled.{is_site, settled_end, settled_sizes, units_with}
use Rattle.shrink_layout.specs.Table.{TablePays}
use Rattle.shrink_layout.specs.Units.{AreTargetSlots, IsTargetSlot, CodeUnit, OneGroup, OneItem, OneSite, front_size, is_listed_at, is_slot_of, item_unit, jump_of, slot_for, slot_from}
use Rattle.shrink_layout.proofs.GroupedSites.{AreApart, AreCounted, AreSlotPlaces, ArePlacesApart, at_sites, kept_apart, kept_counted, slotted, saved_same, sites_saved, any_slotted}
use Rattle.shrink_layout.proofs.PlaceLaws.{same_place-true}
use Rattle.shrink_layout.proofs.PremiseLaws.{Each, each-append}
use Rattle.shrink_layout.proofs.RolePlaces.{leader_listed}
use Rattle.shrink_layout.proofs.SiteLaws.{site_found, site_unit, slot_nowhere, slot_there}
use Rattle.shrink_layout.proofs.TargetNumbers.{IsNumbered, got_target}
use Rattle.shrink_layout.proofs.UnitLaws.{unit_site}

-- ---- lists

-- what passes of what there is, place by place
passed_flat : {X Y : Type 0} (f : X → Option Y) (test : Y → Bool) (xs : List X)
    → length (filter test (flat_map (λ x. option_to_list (f x)) xs)) ≡ length (filter (λ x. option_map_or test (f x) false) xs)
passed_flat f test [] = refl
passed_flat {X = X} {Y = Y} f test (x ∷ xs) = by (f x) (passed_flat f test xs)
  where
    rest : List Y
    rest = flat_map (λ x. option_to_list (f x)) xs

    others : List X
    others = filter (λ x. option_map_or test (f x) false) xs

    by : (o : Option Y) → length (filter test rest) ≡ length others
        → length (filter test (option_to_list o ++ rest)) ≡ length (cond (option_map_or test o false) (x ∷ others) others)
    by None same = same
    by (Some y) same = tested (test y)
      where
        tested : (b : Bool) → length (cond b (y ∷ filter test rest) (filter test rest)) ≡ length (cond b (x ∷ others) others)
        tested true = ap suc same
        tested false = same

-- what holds of each holds of one
each_got : {X : Type 0} (P : X → Type 0) (xs : List X) (k : ℕ) (x : X) → Each P xs → slice_get xs k ≡ Some x → P x
each_got P [] k x each got = absurd (none-some x got)
each_got P (y ∷ ys) zero x each got = subst P (same_Some y x got) each.0
each_got P (y ∷ ys) (suc k) x each got = each_got P ys k x each.1 got

-- ---- savings stand apart

module _ (inputs : Inputs) (none : gather_fault inputs ≡ None) where
  abbrev given : ParsedInputs
  given = parsed inputs

  -- places with numbers from one on differ from one with a lesser number
  other_number : (p : Place) (n m : ℕ) (qs : List Place) → IsNumbered given.objects p n → n < m → ((j : ℕ) (q : Place) → slice_get qs j ≡ Some q → IsNumbered given.objects q (m + j))
      → list_any (same_place p) qs ≡ false
  other_number p n m [] is lt each = refl
  other_number p n m (q ∷ qs) is lt each =
      by (same_place p q) refl (other_number p n (m + 1) qs is (omega (arith, lt)) (λ j r at. let one = each (suc j) r at in record { target = one.target; number = omega (arith, one.number) }))
    where
      by : (b : Bool) → same_place p q ≡ b → list_any (same_place p) qs ≡ false → (b || list_any (same_place p) qs) ≡ false
      by true same rest = absurd (omega (arith, is.number, (each 0 q refl).number, lt, ap (piece_number_at given.objects) (same_place-true p q same)))
      by false other rest = rest

  apart_from : (m : ℕ) (qs : List Place) → ((j : ℕ) (q : Place) → slice_get qs j ≡ Some q → IsNumbered given.objects q (m + j)) → ArePlacesApart qs
  apart_from m [] each = tt
  apart_from m (q ∷ qs) each =
      let later : (j : ℕ) (r : Place) → slice_get qs j ≡ Some r → IsNumbered given.objects r (m + 1 + j) =
      λ j r at. let one = each (suc j) r at in record { target = one.target; number = omega (arith, one.number) } in
      (other_number q m (m + 1) qs (let first = each 0 q refl in record { target = first.target; number = omega (arith, first.number) }) (omega arith) later, apart_from (m + 1) qs later)

  -- what can be saved is told of each target once
  pub savings_apart : AreApart (savings_of given)
  unfolding savings_of
  savings_apart =
      kept_apart (sites_of given) has_sites (all_targets given.objects)
      (apart_from 2 (all_targets given.objects) (λ j q at. got_target inputs none j q at))

  savings_counted : AreCounted (sites_of given) (savings_of given)
  unfolding savings_of
  savings_counted = kept_counted (sites_of given) has_sites (all_targets given.objects)

  -- no site leads to a place to which no item leads
  no_sites : (to : Place) (qs : List Place) (rd : ℕ) → list_any (item_leads given to) qs ≡ false → sites_to (flat_map (λ q. option_to_list (site_at given q)) qs) rd to ≡ 0
  no_sites to [] rd h = refl
  no_sites to (q ∷ qs) rd h =
      let two = or_parts (item_leads given to q) (list_any (item_leads given to) qs) h in
      by (site_at given q) refl two.0 (no_sites to qs rd two.1)
    where
      rest : List (ℕ × Place)
      rest = flat_map (λ q. option_to_list (site_at given q)) qs

      goes : (i : Item) (jump : ℕ × Place) → jump_of i ≡ Some jump → goes_to to i ≡ same_place jump.1 to
      goes (item.Jump own there) jump is = ap (λ (x : ℕ × Place). same_place x.1 to) (same_Some (own, there) jump is)
      goes (item.Call own temp there) jump is = ap (λ (x : ℕ × Place). same_place x.1 to) (same_Some (own, there) jump is)
      goes i jump is = absurd (none-some jump is)

      passed : (b c : Bool) → c ≡ false → (jump : ℕ × Place) (n : ℕ) → sites_to rest rd to ≡ n
          → length (cond (b && c) (jump ∷ filter (λ s. eqb s.0 rd && same_place s.1 to) rest) (filter (λ s. eqb s.0 rd && same_place s.1 to) rest)) ≡ n
      passed true true other jump n more = absurd cc
      passed true false other jump n more = more
      passed false c other jump n more = more

      by : (o : Option (ℕ × Place)) → site_at given q ≡ o → item_leads given to q ≡ false → sites_to rest rd to ≡ 0 → sites_to (option_to_list o ++ rest) rd to ≡ 0
      by None at other more = more
      by (Some jump) at other more =
          let site = site_found given q jump at in
          let leads : (goes_to to site.item || (ends_block site.item && same_place (next_at given.objects q) to)) ≡ false =
          ap (λ o. option_map_or (λ i. goes_to to i || (ends_block i && same_place (next_at given.objects q) to)) o false) (sym site.is) ∙ other in
          let elsewhere : same_place jump.1 to ≡ false = sym (goes site.item jump site.leads) ∙ (or_parts (goes_to to site.item) _ leads).0 in
          passed (eqb jump.0 rd) (same_place jump.1 to) elsewhere jump 0 more

  -- so a basic block begins where one leads
  sites_leader : (to : Place) → has_sites (saving_of (sites_of given) to) ≡ true → is_leader_at given to ≡ true
  unfolding sites_of is_leader_at
  sites_leader to some = by (list_any (item_leads given to) (all_places given.objects)) refl
    where
      by : (b : Bool) → list_any (item_leads given to) (all_places given.objects) ≡ b → is_leader_at given to ≡ true
      by true h =
          let placed = eqb to.offset 0 && is_target_at given.objects to in
          let related = list_any (section_leads given to) (all_sections given.objects) in
          or_right placed _ (or_right related _ (or_left (list_any (item_leads given to) (all_places given.objects)) _ h))
      by false h =
          let none_at : (rd : ℕ) → sites_to (sites_of given) rd to ≡ 0 = λ rd. no_sites to (all_places given.objects) rd h in
          let zero_sites : has_sites (saving_of (sites_of given) to) ≡ false = λ j. not (eqb (none_at 0 j + none_at 1 j) 0) in
          absurd (cc (some, zero_sites))

  -- images list each target
  savings_listed : Each (λ (s : Saving). is_listed_at given s.target ≡ true) (savings_of given)
  unfolding savings_of
  savings_listed = from (all_targets given.objects) (λ j q at. (got_target inputs none j q at).target)
    where
      from : (qs : List Place) → ((j : ℕ) (q : Place) → slice_get qs j ≡ Some q → is_target_at given.objects q ≡ true)
          → Each (λ (s : Saving). is_listed_at given s.target ≡ true) (filter has_sites (map (saving_of (sites_of given)) qs))
      from [] each = tt
      from (q ∷ qs) each = by (has_sites (saving_of (sites_of given) q)) refl (from qs (λ j r at. each (suc j) r at))
        where
          rest : List Saving
          rest = filter has_sites (map (saving_of (sites_of given)) qs)

          by : (b : Bool) → has_sites (saving_of (sites_of given) q) ≡ b → Each (λ (s : Saving). is_listed_at given s.target ≡ true) rest
              → Each (λ (s : Saving). is_listed_at given s.target ≡ true) (cond b (saving_of (sites_of given) q ∷ rest) rest)
          by true some more = (leader_listed inputs none q (each 0 q refl) (sites_leader q some), more)
          by false none more = more

  -- ---- sites by the registers that they link

  abbrev LinksLow : ℕ × Place → Type 0
  LinksLow s = s.0 < 2

  sites_low : Each LinksLow (sites_of given)
  unfolding sites_of
  sites_low = low (all_places given.objects)
    where
      low : (qs : List Place) → Each LinksLow (flat_map (λ q. option_to_list (site_at given q)) qs)
      low [] = tt
      low (q ∷ qs) = each-append LinksLow (option_to_list (site_at given q)) (flat_map (λ q. option_to_list (site_at given q)) qs) (by (site_at given q) refl) (low qs)
        where
          by : (o : Option (ℕ × Place)) → site_at given q ≡ o → Each LinksLow (option_to_list o)
          by None at = tt
          by (Some jump) at = ((site_found given q jump at).links, tt)

  -- ---- slots

  slot_any : (n : ℕ) (q : Place) (slots : List (Option Place)) → is_some (slot_from n q slots) ≡ list_any (is_slot_of q) slots
  slot_any n q [] = refl
  slot_any n q (slot ∷ slots) = by (is_slot_of q slot) (slot_any (n + 1) q slots)
    where
      by : (b : Bool) → is_some (slot_from (n + 1) q slots) ≡ list_any (is_slot_of q) slots
          → is_some (cond b (Some n) (slot_from (n + 1) q slots)) ≡ (b || list_any (is_slot_of q) slots)
      by true rest = refl
      by false rest = rest

  module _ (slots : List (Option Place)) where
    abbrev has_low : Place → Bool
    has_low q = list_any (is_slot_of q) (take 32 slots)

    abbrev has_high : Place → Bool
    has_high q = list_any (is_slot_of q) (drop 32 slots)

    abbrev has_one : ℕ × Place → Bool
    has_one s = is_some (slot_for slots s)

    -- sites with a slot are jumps with one below 32, and calls with one from 32 on
    by_register : (sites : List (ℕ × Place)) → Each LinksLow sites
        → length (filter has_one sites) ≡ length (filter (λ s. eqb s.0 0 && has_low s.1) sites) + length (filter (λ s. eqb s.0 1 && has_high s.1) sites)
    by_register [] low = refl
    by_register (s ∷ sites) low = by s.0 low.0 refl (by_register sites low.1)
      where
        all : List (ℕ × Place)
        all = filter has_one sites

        jumps : List (ℕ × Place)
        jumps = filter (λ (s : ℕ × Place). eqb s.0 0 && has_low s.1) sites

        calls : List (ℕ × Place)
        calls = filter (λ (s : ℕ × Place). eqb s.0 1 && has_high s.1) sites

        first : (a b : Bool) → a ≡ b → length all ≡ length jumps + length calls → length (cond a (s ∷ all) all) ≡ length (cond b (s ∷ jumps) jumps) + length calls
        first true true same rest = omega (arith, rest)
        first false false same rest = omega (arith, rest)
        first true false same rest = absurd (false≢true (sym same))
        first false true same rest = absurd (false≢true same)

        second : (a b : Bool) → a ≡ b → length all ≡ length jumps + length calls → length (cond a (s ∷ all) all) ≡ length jumps + length (cond b (s ∷ calls) calls)
        second true true same rest = omega (arith, rest)
        second false false same rest = omega (arith, rest)
        second true false same rest = absurd (false≢true (sym same))
        second false true same rest = absurd (false≢true same)

        by : (rd : ℕ) → rd < 2 → s.0 ≡ rd → length all ≡ length jumps + length calls
            → length (cond (is_some (cond (eqb rd 0) (slot_from 0 s.1 (take 32 slots)) (slot_from 32 s.1 (drop 32 slots)))) (s ∷ all) all)
            ≡ length (cond (eqb rd 0 && has_low s.1) (s ∷ jumps) jumps) + length (cond (eqb rd 1 && has_high s.1) (s ∷ calls) calls)
        by zero lt is rest = first (is_some (slot_from 0 s.1 (take 32 slots))) (has_low s.1) (slot_any 0 s.1 (take 32 slots)) rest
        by (suc zero) lt is rest = second (is_some (slot_from 32 s.1 (drop 32 slots))) (has_high s.1) (slot_any 32 s.1 (drop 32 slots)) rest
        by (suc (suc rd)) lt is rest = absurd (omega (arith, lt))

    -- a jump or call through the table stands just where a site has a slot
    same_sites : (size : ℕ) (q : Place) → option_map_or (is_site size) (unit_at given slots q) false ≡ option_map_or has_one (site_at given q) false
    same_sites size q = by (site_at given q) refl
      where
        nothing : (o : Option CodeUnit) → unit_at given slots q ≡ o → slot_at given slots q ≡ None → option_map_or (is_site size) o false ≡ false
        nothing None at slot = refl
        nothing (Some (OneItem i)) at slot = refl
        nothing (Some (OneGroup g)) at slot = refl
        nothing (Some (OneSite n)) at slot = absurd (none-some n (sym slot ∙ (unit_site given (slot_at given slots) q n at).1))

        tested : (i : Item) (o : Option ℕ) → is_site size (item_unit o i) ≡ is_some o
        tested i None = refl
        tested i (Some n) = refl

        by : (o : Option (ℕ × Place)) → site_at given q ≡ o → option_map_or (is_site size) (unit_at given slots q) false ≡ option_map_or has_one o false
        by None at = nothing (unit_at given slots q) refl (slot_nowhere given slots q at)
        by (Some jump) at =
            let site = site_found given q jump at in
            ap (λ o. option_map_or (is_site size) o false) (site_unit inputs none q jump site (slot_at given slots))
            ∙ tested site.item (slot_at given slots q) ∙ ap is_some (slot_there given slots q jump at)

    -- there are as many such units as sites
    units_sites : units_with given slots is_site ≡ length (filter has_one (sites_of given))
    unfolding sites_of
    units_sites =
        (λ j. length (filter (λ q. same_sites (slice_index (settled_sizes given slots) (piece_number_at given.objects q)) q j) (all_places given.objects)))
        ∙ sym (passed_flat (site_at given) has_one (all_places given.objects))

  -- ---- what is saved

  module _ (place : ℕ → Option Place) (are : AreSlotPlaces (savings_of given) place) (numbers : List ℕ) where
    abbrev slots : List (Option Place)
    slots = map place numbers

    -- the jumps of each target with a slot below 32
    jumps_saved : saved_in Jumps (savings_of given) (take 32 numbers) ≡ 2 * length (filter (λ s. eqb s.0 0 && has_low slots s.1) (sites_of given))
    jumps_saved =
        saved_same (saved_by Jumps) (at_sites 0 (take 32 numbers) (sites_of given)) (take 32 numbers) 0 (savings_of given) (each (savings_of given) savings_counted)
        ∙ sites_saved 0 (take 32 numbers) (savings_of given) savings_apart (sites_of given)
        ∙ (λ j. 2 * length (filter (λ (s : ℕ × Place). eqb s.0 0 && same s.1 j) (sites_of given)))
      where
        each : (savings : List Saving) → AreCounted (sites_of given) savings → Each (λ s. saved_by Jumps s ≡ at_sites 0 (take 32 numbers) (sites_of given) s) savings
        each [] counted = tt
        each (s ∷ rest) counted = (ap (λ (x : Saving). 2 * x.jump_sites) counted.0, each rest counted.1)

        same : (p : Place) → slotted (take 32 numbers) 0 (savings_of given) p ≡ has_low slots p
        same p = sym (ap (list_any (is_slot_of p)) (take-map place 32 numbers) ∙ any_slotted (savings_of given) place are p (take 32 numbers))

    -- the calls to targets with a slot from 32 on save two bytes each
    calls_saved : saved_in Calls (savings_of given) (drop 32 numbers) ≡ 2 * length (filter (λ s. eqb s.0 1 && has_high slots s.1) (sites_of given))
    calls_saved =
        saved_same (saved_by Calls) (at_sites 1 (drop 32 numbers) (sites_of given)) (drop 32 numbers) 0 (savings_of given) (each (savings_of given) savings_counted)
        ∙ sites_saved 1 (drop 32 numbers) (savings_of given) savings_apart (sites_of given)
        ∙ (λ j. 2 * length (filter (λ (s : ℕ × Place). eqb s.0 1 && same s.1 j) (sites_of given)))
      where
        each : (savings : List Saving) → AreCounted (sites_of given) savings → Each (λ s. saved_by Calls s ≡ at_sites 1 (drop 32 numbers) (sites_of given) s) savings
        each [] counted = tt
        each (s ∷ rest) counted = (ap (λ (x : Saving). 2 * x.call_sites) counted.0, each rest counted.1)

        same : (p : Place) → slotted (drop 32 numbers) 0 (savings_of given) p ≡ has_high slots p
        same p = sym (ap (list_any (is_slot_of p)) (drop-map place 32 numbers) ∙ any_slotted (savings_of given) place are p (drop 32 numbers))

    -- two bytes for each jump or call through the table
    pub saved_twice : saved_of (savings_of given) numbers ≡ 2 * units_with given slots is_site
    saved_twice = omega (arith, jumps_saved, calls_saved, units_sites slots, by_register slots (sites_of given) sites_low)

    -- the table's cost is what stands in front
    cost_front : cost_of numbers ≡ front_size slots
    cost_front = by numbers
      where
        by : (ns : List ℕ) → cost_of ns ≡ front_size (map place ns)
        by [] = refl
        by (n ∷ ns) = omega (arith, length-map ns place)

    -- the text with the table and the net are together no more than the text without it
    pub net_paid : (net : ℕ) → Saves (savings_of given) numbers net → TablePays given slots → settled_end given slots + net ≤ settled_end given []
    net_paid net saves pays = omega (arith, saves, pays, saved_twice, cost_front)

    -- the slots lead to places that images list
    target_slot : (n : ℕ) → IsTargetSlot given (place n)
    target_slot zero = subst (IsTargetSlot given) (sym are.hole) tt
    target_slot (suc k) = subst (IsTargetSlot given) (sym (are.target k)) (by (slice_get (savings_of given) k) refl)
      where
        by : (o : Option Saving) → slice_get (savings_of given) k ≡ o → IsTargetSlot given (option_map (λ (s : Saving). s.target) o)
        by None at = tt
        by (Some s) at = each_got (λ (t : Saving). is_listed_at given t.target ≡ true) (savings_of given) k s savings_listed at

    pub target_slots : IsAssignment (savings_of given) numbers → AreTargetSlots given slots
    target_slots assigned = record {
      few = omega (arith, length-map numbers place, assigned.few);
      each = All-map (IsTargetSlot given) place numbers (All-weaker (λ n. n ≤ length (savings_of given)) (λ n. IsTargetSlot given (place n)) (λ n within. target_slot n) numbers assigned.in_range);
    }
