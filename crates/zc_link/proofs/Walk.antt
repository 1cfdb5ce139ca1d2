-- The walk over a section, place by place: the text has what comes before the place at hand, and ends at its address. A place is
-- told by the number of the section's items before it.
use Rattle.std.proofs.Common.{◌≡◌, ℕ, zero, suc, ltb, get_or, ◌+◌, ◌-◌, ◌^◌, ◌<◌, ◌≤◌, ◌⊎◌, inl, inr, List, [], ◌∷◌, ◌++◌, length, map, Option, Some, None, Bool, true, false, refl, sym, ap, ◌∙◌, subst, arith, append_assoc, length-append, cond, eqb, eq-eqb, slice_get, take}
use Rattle.std.specs.Prelude.{◌||◌, ◌&&◌}
use Rattle.std.specs.List.{flat_map}
use Rattle.std.specs.Option.{is_some, option_map, option_map_or, unwrap_or}
use Rattle.std.proofs.lemmas.List.{append-nil, length-map, map-append}
use Rattle.std.proofs.lemmas.List.Concat.{flat_map-append}
use Rattle.std.proofs.lemmas.List.Sums.{fold-append}
use Rattle.std.proofs.lemmas.Option.{same_Some, slice_get-map, slice_get_read, slice_get_within}
use Rattle.zc_base.specs.declared.place.Place.{Place}
use Rattle.elf32_read.specs.Parts.{SectionParts, is_code_section}
use Rattle.psabi_sym.specs.Faults.{gather_fault}
use Rattle.psabi_sym.specs.Inputs.{Inputs, ParsedInputs, parsed}
use Rattle.psabi_sym.specs.Indexed.{IndexedSection, all_sections}
use Rattle.psabi_sym.proofs.SectionNumbers.{listed_at}
use Rattle.block_cut.specs.Items.{after_items, index_on, is_target_at, item_at, next_at, place_of, size_at, size_on, starts_from, starts_in, starts_on, targets_in, targets_of}
use Rattle.block_cut.specs.Places.{IsPlaceNumber, code_place, code_places}
use Rattle.block_cut.specs.PlainLayout.{starts_before}
use Rattle.block_cut.specs.Relocs.{instr_in}
use Rattle.block_cut.specs.declared.code_place.CodePlace.{CodePlace}
use Rattle.block_cut.specs.declared.item.Item.{Item}
use Rattle.block_cut.proofs.ItemLaws.{item_there}
use Rattle.block_cut.proofs.PlainLaws.{item_here, target_on}
use Rattle.block_cut.proofs.StartLaws.{before_end_all, before_first_none, before_next_start, start_first, start_is, step}
use Rattle.block_cut.proofs.TakeLaws.{take_next}
use Rattle.block_cut.proofs.TextLaws.{place_number}
use Rattle.block_cut.proofs.WordLaws.{IsCodeHere, code_here, target_got}
use Rattle.shrink_layout.specs.Invariants.Numbers.{HasPlace}
use Rattle.shrink_layout.specs.Units.{CodeUnit, OneItem, unit_items}
use Rattle.zc_link.specs.LaidOut.{HasNoAddress, IsLaidOut, code_end_after, laid_section_end}
use Rattle.zc_link.specs.Standing.{BeginsSection, IsReady, ItemStands, StandsHere, StartsHere, UnitHere}
use Rattle.zc_link.specs.TextLayout.{TextLayout, behind, front_end}
use Rattle.zc_link.specs.Written.{IsSoFar, IsTextOf}
use Rattle.zc_link.specs.Pace.{bytes_between}
use Rattle.zc_link.proofs.Grows.{so_far_end, so_far_inside, so_far_unit}
use Rattle.zc_link.proofs.LaidLaws.{address_small, unit_some}
use Rattle.zc_link.proofs.Faultless.{leader_listed}
use Rattle.moved_runs.proofs.Led.{first_leader}
use Rattle.zc_link.proofs.Standing.{item_own, item_stands}

-- where an item starts, or the section ends
abbrev pub IsTarget : SectionParts → ℕ → Type 0
IsTarget s n = (starts_on s n ≡ true) ⊎ (n ≡ length s.bytes)

pub either : (s : SectionParts) (n : ℕ) → IsTarget s n → (starts_on s n || eqb n (length s.bytes)) ≡ true
either s n (inl start) = ap (λ b. b || eqb n (length s.bytes)) start
either s n (inr end) = ap (λ b. starts_on s n || b) (eq-eqb n (length s.bytes) end) ∙ or_true (starts_on s n)
  where
    or_true : (b : Bool) → (b || true) ≡ true
    or_true true = refl
    or_true false = refl

-- a section has no more items than bytes
starts_few : (s : SectionParts) → length (starts_in s) ≤ length s.bytes
unfolding starts_in
starts_few s = few (length s.bytes) 0
  where
    few : (fuel n : ℕ) → length (starts_from fuel s n) ≤ fuel
    few zero n = omega arith
    few (suc fuel) n = by (ltb n (length s.bytes)) (few fuel (n + size_on s n))
      where
        by : (b : Bool) → length (starts_from fuel s (n + size_on s n)) ≤ fuel → length (cond b (n ∷ starts_from fuel s (n + size_on s n)) []) ≤ suc fuel
        by true le = omega (arith, le)
        by false le = omega arith

-- the sections before the one with a number
abbrev pub before : TextLayout → ℕ → List IndexedSection
before L k = take k (all_sections (parsed L.inputs).objects)

-- a number is the address of the place with this number among all, if that has one
abbrev pub GivesAddress : TextLayout → ℕ → ℕ → ℕ → Type 0
GivesAddress L k i given =
    (q : Place) (a : ℕ) → L.address q ≡ Some a → IsPlaceNumber (parsed L.inputs).objects q (record { section = k; index = i }) → given ≡ a

-- at place i of a section the text ends `left` items on, after those that are inside a group
pub record Walks (L : TextLayout) (k : ℕ) (l : IndexedSection) (i : ℕ) (text : List ℕ) (places : List (Place × ℕ)) : Type 0 where
  pub offset : ℕ
  pub target : IsTarget l.section offset
  pub index : i ≡ index_on l.section offset
  pub left : ℕ
  pub ahead : L.address (after_items (parsed L.inputs).objects left (place_of l offset)) ≡ Some (L.inputs.map.text + length text)
  pub inside : (j : ℕ) → j < left → HasNoAddress L (after_items (parsed L.inputs).objects j (place_of l offset))
  pub so_far :
      IsSoFar L (flat_map targets_of (before L k) ++ map (place_of l) (starts_before l.section offset)) (L.inputs.map.text + length text) text places

-- or after all of them
pub data After (L : TextLayout) (k : ℕ) (l : IndexedSection) (i : ℕ) (text : List ℕ) (places : List (Place × ℕ)) : Type 0 where
  OnWay : Walks L k l i text places → After L k l i text places
  AtEnd : length (targets_in l.section) ≤ i → IsTextOf L (before L (k + 1)) text places → After L k l i text places

module _
    (L : TextLayout) (none : gather_fault L.inputs ≡ None) (ready : IsReady L.inputs) (laid : IsLaidOut L) (k : ℕ) (l : IndexedSection)
    (at : slice_get (all_sections (parsed L.inputs).objects) k ≡ Some l) (code : is_code_section l.section ≡ true) where
  abbrev p : ParsedInputs
  p = parsed L.inputs

  abbrev s : SectionParts
  s = l.section

  abbrev start : ℕ
  start = L.inputs.map.text

  pub there : IsCodeHere L.inputs l.object l.index s
  there = code_here L.inputs l.object l.index s none (listed_at p.objects k l at) code

  -- the places of the section
  places_are : code_places p l ≡ map (code_place p l) (targets_in s)
  places_are = ap (λ b. cond b (map (code_place p l) (targets_in s)) []) code

  -- code may lead there
  pub target_at : (n : ℕ) → IsTarget s n → is_target_at p.objects (place_of l n) ≡ true
  target_at n target = target_on p.objects (place_of l n) s (there.at n) ∙ either s n target

  -- where such a place stands among all
  pub number_there : (n : ℕ) → IsTarget s n → IsPlaceNumber p.objects (place_of l n) (record { section = k; index = index_on s n })
  number_there n target = place_number p.objects (place_of l n) k (index_on s n) s there.found at (target_at n target) refl

  pub has_place : (n i : ℕ) → i ≡ index_on s n → IsTarget s n → HasPlace p.objects (record { section = k; index = i })
  has_place n i is target =
      (place_of l n, target_at n target, subst (λ m. IsPlaceNumber p.objects (place_of l n) (record { section = k; index = m })) (sym is) (number_there n target))

  -- the place with number i is the one at hand
  pub place_got :
      (i : ℕ) (text : List ℕ) (places : List (Place × ℕ)) (walks : Walks L k l i text places) (own : List CodePlace) (place : CodePlace)
      → own ≡ code_places p l → slice_get own i ≡ Some place → place ≡ code_place p l walks.offset
  place_got i text places walks own place are got =
      let found : slice_get own i ≡ Some (code_place p l walks.offset) =
      (λ j. slice_get ((are ∙ places_are) j) (walks.index j)) ∙ slice_get-map (code_place p l) (targets_in s) (index_on s walks.offset)
      ∙ ap (option_map (code_place p l)) (target_got s code there.whole walks.offset (either s walks.offset walks.target)) in
      cc (sym got ∙ found)

  -- a section has few places
  pub number_few : (i n : ℕ) → i ≡ index_on s n → IsTarget s n → (i < length (targets_in s)) × (i + 1 < 2 ^ 32)
  number_few i n index target =
      let within = slice_get_within (targets_in s) (index_on s n) n (target_got s code there.whole n (either s n target)) in
      (omega (arith, within, index), omega (arith, within, index, length-append (starts_in s) (length s.bytes ∷ []), starts_few s, there.whole.short))

  pub index_few : (i : ℕ) (text : List ℕ) (places : List (Place × ℕ)) → Walks L k l i text places → (i < length (targets_in s)) × (i + 1 < 2 ^ 32)
  index_few i text places walks = number_few i walks.offset walks.index walks.target

  -- during the walk the text is short
  pub text_small : (i : ℕ) (text : List ℕ) (places : List (Place × ℕ)) → Walks L k l i text places → start + length text < 2 ^ 32
  text_small i text places walks = address_small L ready.is_map laid (after_items p.objects walks.left (place_of l walks.offset)) (start + length text) walks.ahead

  -- ---- an item

  module _ (n : ℕ) (item : Item) (is : item_at p (place_of l n) ≡ Some item) where
    abbrev q : Place
    q = place_of l n

    -- the item starts at the place
    pub start_there : starts_on s n ≡ true
    start_there =
        let own = item_here L.inputs none q item is in
        let same : own.section ≡ s = cc (sym own.code ∙ there.at n) in
        ap (λ t. starts_on t n) (sym same) ∙ own.start

    -- the next place is a target, with the next number
    abbrev pub after : ℕ
    after = n + size_on s n

    pub after_target : IsTarget s after
    after_target = (start_is s code there.whole n start_there).next

    pub after_before : starts_before s after ≡ starts_before s n ++ n ∷ []
    after_before = before_next_start s code there.whole n start_there

    pub after_index : (i : ℕ) → i ≡ index_on s n → i + 1 ≡ index_on s after
    after_index i index = omega (arith, index, ap length after_before, length-append (starts_before s n) (n ∷ []))

    next_is : next_at p.objects q ≡ place_of l after
    next_is = ap (λ o. record q { offset = n + option_map_or (λ t. size_on t n) o 4 }) (there.at n)

    -- what is written there, if it is written by itself
    module _ (unit : L.unit q ≡ Some (OneItem item)) (a : ℕ) (listed : L.address q ≡ Some a) where
      behind_is : behind L q ≡ place_of l after
      behind_is = ap (λ u. after_items p.objects (option_map_or unit_items u 1) q) unit ∙ next_is

      -- up to the next address
      pub record TakesHere : Type 0 where
        pub size : ℕ
        pub next : L.address (place_of l after) ≡ Some (a + size)
        pub behind_there : L.address (behind L q) ≡ Some (a + size)
        pub stands : StandsHere L s.bytes q item a size

      pub takes_here : TakesHere
      takes_here =
          let lies = laid.each q a (OneItem item) unit listed in
          let own : size_at p.objects q ≡ size_on s n = ap (λ o. option_map_or (λ t. size_on t n) o 4) (there.at n) in
          let start = start_is s code there.whole n start_there in
          let st = step s code there.whole n start.words start.inside in
          let known = item_stands L.inputs none ready L.address laid.leaders q s (there.at n) item is in
          record {
            size = lies.size;
            next = ap L.address (sym behind_is) ∙ lies.next;
            behind_there = lies.next;
            stands = record {
              is = is;
              unit = unit;
              size = item_own L.inputs none ready L.address laid.leaders q item is;
              within = omega (arith, st.inside, own);
              stands = subst (λ m. ItemStands L.address (item_at p) (instr_in m s.bytes n) (instr_in 4 s.bytes (n + 4)) item) (sym own) known.0;
              takes = (λ j. bytes_between (listed j) (lies.next j)) ∙ omega arith;
              even = omega (arith, laid.even q a listed, laid.even (behind L q) (a + lies.size) lies.next);
              form = lies.form;
            };
          }

  -- ---- the walk

  -- at the section's start
  pub walk_begins : (text : List ℕ) (places : List (Place × ℕ)) → BeginsSection L k text places → Walks L k l 0 text places
  walk_begins text places begins =
      let same : begins.section ≡ l = cc (sym begins.at ∙ at) in
      let none_before : starts_before s 0 ≡ [] = before_first_none s code there.whole in
      let all = flat_map targets_of (before L k) in
      let targets : all ≡ all ++ map (place_of l) (starts_before s 0) = sym (append-nil all) ∙ ap (λ ns. all ++ map (place_of l) ns) (sym none_before) in
      record {
        offset = 0;
        target = start_first s code there.whole;
        index = sym (ap length none_before);
        left = 0;
        ahead = ap (λ m. L.address (place_of m 0)) (sym same) ∙ begins.listed ∙ ap Some (sym begins.so_far.ends);
        inside = λ j few. absurd (omega (arith, few));
        so_far = subst (λ ts. IsSoFar L ts (start + length text) text places) targets
            (subst (λ e. IsSoFar L all e text places) (sym begins.so_far.ends) begins.so_far);
      }

  module _ (i : ℕ) (text : List ℕ) (places : List (Place × ℕ)) (walks : Walks L k l i text places) where
    abbrev here : Place
    here = place_of l walks.offset

    abbrev a : ℕ
    a = start + length text

    abbrev all : List Place
    all = flat_map targets_of (before L k)

    -- the places before the next one are one place more
    targets_more :
        (item : Item) → item_at p here ≡ Some item
        → (all ++ map (place_of l) (starts_before s walks.offset)) ++ here ∷ []
        ≡ all ++ map (place_of l) (starts_before s (walks.offset + size_on s walks.offset))
    targets_more item is =
        let n = walks.offset in
        append_assoc all (map (place_of l) (starts_before s n)) (here ∷ [])
        ∙ ap (λ ps. all ++ ps) (sym (map-append (place_of l) (starts_before s n) (n ∷ [])))
        ∙ ap (λ ns. all ++ map (place_of l) ns) (sym (after_before n item is))

    -- a place with an address isn't inside a group
    not_inside : (b : ℕ) → L.address here ≡ Some b → walks.left ≡ 0
    not_inside b listed = by walks.left walks.inside
      where
        by : (n : ℕ) → ((j : ℕ) → j < n → HasNoAddress L (after_items p.objects j here)) → n ≡ 0
        by zero inside = refl
        by (suc n) inside = absurd (cc (listed, (inside 0 (omega arith)).1))

    -- nor is one where no item starts
    not_start : item_at p here ≡ None → walks.left ≡ 0
    not_start last = by walks.left walks.inside
      where
        by : (n : ℕ) → ((j : ℕ) → j < n → HasNoAddress L (after_items p.objects j here)) → n ≡ 0
        by zero inside = refl
        by (suc n) inside =
            let start = ap (λ o. option_map_or (λ t. starts_on t walks.offset) o false) (sym (there.at walks.offset)) ∙ (inside 0 (omega arith)).0 in
            absurd (cc (item_there p here s (there.at walks.offset) start, last))

    -- the text ends at the place
    ends_here : walks.left ≡ 0 → L.address here ≡ Some a
    ends_here first = ap (λ n. L.address (after_items p.objects n here)) (sym first) ∙ walks.ahead

    -- a unit more
    pub walk_steps :
        (item : Item) → item_at p here ≡ Some item → (bytes : List ℕ) → UnitHere L s.bytes here a bytes
        → Walks L k l (i + 1) (text ++ bytes) (places ++ (here, a) ∷ [])
    walk_steps item is bytes unit =
        let n = walks.offset in
        let next = after n item is in
        let count = unit_items unit.unit - 1 in
        let items : unit_items unit.unit ≡ suc count = omega (arith, unit_some L laid here unit.unit unit.is) in
        let lies = laid.each here a unit.unit unit.is unit.address in
        let far : a + length bytes ≡ start + length (text ++ bytes) = omega (arith, length-append text bytes) in
        let grown = so_far_unit L s here unit.unit (length bytes) (all ++ map (place_of l) (starts_before s n)) a text bytes places (there.at n)
        unit.is unit.address unit.next (laid.low here a unit.address) unit.written walks.so_far in
        let behind_it : behind L here ≡ after_items p.objects count (place_of l next) =
        ap (λ u. after_items p.objects (option_map_or unit_items u 1) here) unit.is ∙ ap (λ m. after_items p.objects m here) items
        ∙ ap (after_items p.objects count) (next_is n item is) in
        record {
          offset = next;
          target = after_target n item is;
          index = after_index n item is i walks.index;
          left = count;
          ahead = ap L.address (sym behind_it) ∙ unit.next ∙ ap Some far;
          inside = λ j few. subst (λ r. HasNoAddress L (after_items p.objects j r)) (next_is n item is) (lies.inside (suc j) (omega arith) (omega (arith, few, items)));
          so_far = subst (λ ts. IsSoFar L ts (start + length (text ++ bytes)) (text ++ bytes) (places ++ (here, a) ∷ [])) (targets_more item is) grown;
        }

    -- a place inside a group
    pub walk_inside : (item : Item) → item_at p here ≡ Some item → L.address here ≡ None → Walks L k l (i + 1) text places
    walk_inside item is nowhere = by walks.left walks.ahead walks.inside
      where
        by : (m : ℕ) → L.address (after_items p.objects m here) ≡ Some a → ((j : ℕ) → j < m → HasNoAddress L (after_items p.objects j here))
            → Walks L k l (i + 1) text places
        by zero ahead inside = absurd (cc (ahead, nowhere))
        by (suc m) ahead inside =
            let n = walks.offset in
            let next = after n item is in
            record {
              offset = next;
              target = after_target n item is;
              index = after_index n item is i walks.index;
              left = m;
              ahead = ap (λ r. L.address (after_items p.objects m r)) (sym (next_is n item is)) ∙ ahead;
              inside = λ j few. subst (λ r. HasNoAddress L (after_items p.objects j r)) (next_is n item is) (inside (suc j) (omega (arith, few)));
              so_far = subst (λ ts. IsSoFar L ts a text places) (targets_more item is)
                  (so_far_inside L here (all ++ map (place_of l) (starts_before s n)) a text places nowhere walks.so_far);
            }

    -- at its end
    pub walk_ends : item_at p here ≡ None → After L k l (i + 1) text (places ++ (here, a) ∷ [])
    walk_ends last = by walks.target
      where
        nothing : (b : Bool) → starts_on s walks.offset ≡ b → L.unit here ≡ None
        nothing true start = absurd (cc (item_there p here s (there.at walks.offset) start, last))
        nothing false other = unwritten (L.unit here) refl
          where
            not_here : (b : Bool) → (b && false) ≡ false
            not_here true = refl
            not_here false = refl

            none_here : is_some (L.unit here) ≡ false
            none_here =
                laid.written here ∙ ap (λ b. is_some (L.address here) && b) (ap (λ o. option_map_or (λ t. starts_on t walks.offset) o false) (there.at walks.offset) ∙ other)
                ∙ not_here (is_some (L.address here))

            unwritten : (u : Option CodeUnit) → L.unit here ≡ u → L.unit here ≡ None
            unwritten None is = is
            unwritten (Some u) is = absurd (cc (none_here, ap is_some is))

        by : IsTarget s walks.offset → After L k l (i + 1) text (places ++ (here, a) ∷ [])
        by (inl start) = absurd (cc (item_there p here s (there.at walks.offset) start, last))
        by (inr over) =
            let end_is : here ≡ place_of l (length s.bytes) = ap (place_of l) over in
            let grown = so_far_end L here (all ++ map (place_of l) (starts_before s walks.offset)) a text places (nothing (starts_on s walks.offset) refl) (ends_here (not_start last)) walks.so_far in
            let those : starts_before s walks.offset ≡ starts_in s = ap (starts_before s) over ∙ before_end_all s code there.whole in
            let later : before L (k + 1) ≡ before L k ++ l ∷ [] = take_next (all_sections p.objects) k l at in
            let own : targets_of l ≡ map (place_of l) (targets_in s) = ap (λ b. cond b (map (place_of l) (targets_in s)) []) code in
            let targets : (all ++ map (place_of l) (starts_before s walks.offset)) ++ here ∷ [] ≡ flat_map targets_of (before L (k + 1)) =
            append_assoc all (map (place_of l) (starts_before s walks.offset)) (here ∷ [])
            ∙ (λ j. all ++ (map (place_of l) (those j) ++ end_is j ∷ []))
            ∙ ap (λ ts. all ++ ts) (sym (map-append (place_of l) (starts_in s) (length s.bytes ∷ [])) ∙ sym own ∙ sym (append-nil (targets_of l)))
            ∙ sym (flat_map-append targets_of (before L k) (l ∷ []))
            ∙ ap (flat_map targets_of) (sym later) in
            let old_end = code_end_after L (before L k) in
            let ends : a ≡ code_end_after L (before L (k + 1)) =
            sym (ap (λ o. unwrap_or o old_end) (ap L.address (sym end_is) ∙ (ends_here (not_start last))))
            ∙ sym (ap (λ b. cond b (unwrap_or (L.address (place_of l (length s.bytes))) old_end) old_end) code)
            ∙ sym (fold-append (laid_section_end L) (front_end L) (before L k) (l ∷ []))
            ∙ ap (code_end_after L) (sym later) in
            AtEnd (omega (arith, walks.index, ap length those, length-append (starts_in s) (length s.bytes ∷ [])))
            (subst (λ ts. IsSoFar L ts (code_end_after L (before L (k + 1))) text (places ++ (here, a) ∷ [])) targets
            (subst (λ e. IsSoFar L ((all ++ map (place_of l) (starts_before s walks.offset)) ++ here ∷ []) e text (places ++ (here, a) ∷ [])) ends grown))

  -- ---- a turn

  -- as long as there is a place the walk isn't at its end
  pub on_way :
      (i : ℕ) (text : List ℕ) (places : List (Place × ℕ)) (own : List CodePlace) (place : CodePlace) → After L k l i text places
      → own ≡ code_places p l → slice_get own i ≡ Some place → Walks L k l i text places
  on_way i text places own place (OnWay walks) are got = walks
  on_way i text places own place (AtEnd past all) are got =
      absurd (omega (arith, past, slice_get_within own i place got, ap length (are ∙ places_are), length-map (targets_in s) (code_place p l)))

  -- when there is no place left the walk is at its end
  pub at_end :
      (i : ℕ) (text : List ℕ) (places : List (Place × ℕ)) (own : List CodePlace) → After L k l i text places → own ≡ code_places p l → length own ≤ i
      → IsTextOf L (before L (k + 1)) text places
  at_end i text places own (AtEnd past all) are over = all
  at_end i text places own (OnWay walks) are over =
      absurd (omega (arith, over, (index_few i text places walks).0, ap length (are ∙ places_are), length-map (targets_in s) (code_place p l)))

  -- the values of the place at hand
  module _
      (i : ℕ) (text : List ℕ) (places : List (Place × ℕ)) (walks : Walks L k l i text places) (q : Place) (code_bytes : List ℕ) (address : ℕ)
      (place_is : place_of l walks.offset ≡ q) (code_is : s.bytes ≡ code_bytes) (address_is : start + length text ≡ address) where
    pub turn_number : IsPlaceNumber p.objects q (record { section = k; index = i })
    turn_number =
        subst (λ r. IsPlaceNumber p.objects r (record { section = k; index = i })) place_is
        (subst (λ m. IsPlaceNumber p.objects (place_of l walks.offset) (record { section = k; index = m })) (sym walks.index)
        (number_there walks.offset walks.target))

    pub turn_starts : (item : Item) → item_at p q ≡ Some item → StartsHere L (record { section = k; index = i }) code_bytes q item
    turn_starts item is = record {
      section = l;
      listed = at;
      code = code;
      own = code_is;
      offset = walks.offset;
      place = place_is;
      index = walks.index;
      is = is;
    }

    pub turn_address : (b : ℕ) → L.address q ≡ Some b → address ≡ b
    turn_address b listed =
        let here_listed = ap L.address place_is ∙ listed in
        sym address_is ∙ same_Some (start + length text) b (sym (ends_here i text places walks (not_inside i text places walks b here_listed)) ∙ here_listed)

    pub turn_ends : item_at p q ≡ None → After L k l (i + 1) text (places ++ (q, address) ∷ [])
    turn_ends last =
        subst (λ e. After L k l (i + 1) text (places ++ e ∷ [])) (λ j. (place_is j, address_is j))
        (walk_ends i text places walks (ap (item_at p) place_is ∙ last))

    module _ (item : Item) (is : item_at p q ≡ Some item) where
      abbrev here_is : item_at p (place_of l walks.offset) ≡ Some item
      here_is = ap (item_at p) place_is ∙ is

      pub turn_steps : (bytes : List ℕ) → UnitHere L code_bytes q address bytes → Walks L k l (i + 1) (text ++ bytes) (places ++ (q, address) ∷ [])
      turn_steps bytes unit =
          subst (λ e. Walks L k l (i + 1) (text ++ bytes) (places ++ e ∷ [])) (λ j. (place_is j, address_is j))
          (walk_steps i text places walks item here_is bytes
          (subst (λ c. UnitHere L c (place_of l walks.offset) (start + length text) bytes) (sym code_is)
          (subst (λ r. UnitHere L code_bytes r (start + length text) bytes) (sym place_is)
          (subst (λ x. UnitHere L code_bytes q x bytes) (sym address_is) unit))))

      pub turn_inside : L.address q ≡ None → Walks L k l (i + 1) text places
      turn_inside nowhere = walk_inside i text places walks item here_is (ap L.address place_is ∙ nowhere)

-- ---- in the code

-- each number below the count has a section
pub listed_there : (sections : List IndexedSection) (k : ℕ) → k < length sections → (l : IndexedSection) × (slice_get sections k ≡ Some l)
listed_there [] k lt = absurd (omega (arith, lt))
listed_there (l ∷ sections) zero lt = (l, refl)
listed_there (l ∷ sections) (suc k) lt = listed_there sections k (omega (arith, lt))

-- the first place of a section of code
module _
    (L : TextLayout) (none : gather_fault L.inputs ≡ None) (ready : IsReady L.inputs) (laid : IsLaidOut L) (k : ℕ) (l : IndexedSection)
    (at : slice_get (all_sections (parsed L.inputs).objects) k ≡ Some l) (code : is_code_section l.section ≡ true) where
  first_index : 0 ≡ index_on l.section 0
  first_index = sym (ap length (before_first_none l.section code (there L none ready laid k l at code).whole))

  first_target : IsTarget l.section 0
  first_target = start_first l.section code (there L none ready laid k l at code).whole

  pub first_has : HasPlace (parsed L.inputs).objects (record { section = k; index = 0 })
  first_has = has_place L none ready laid k l at code 0 0 first_index first_target

  pub first_address : (begin : ℕ) → GivesAddress L k 0 begin → L.address (place_of l 0) ≡ Some begin
  first_address begin found =
      let target = target_at L none ready laid k l at code 0 first_target in
      let there = leader_listed (parsed L.inputs) L.address laid.leaders (place_of l 0) target (first_leader (parsed L.inputs) (place_of l 0) refl target) in
      let number = subst (λ m. IsPlaceNumber (parsed L.inputs).objects (place_of l 0) (record { section = k; index = m })) (sym first_index)
      (number_there L none ready laid k l at code 0 first_target) in
      there.1 ∙ ap Some (sym (found (place_of l 0) there.0 there.1 number))

-- the place at hand, by the section and the places that were asked for
pub record AtHand
    (L : TextLayout) (k i : ℕ) (text : List ℕ) (places : List (Place × ℕ)) (object index : ℕ) (bytes : List ℕ) (place : CodePlace) : Type 0 where
  pub section : IndexedSection
  pub at : slice_get (all_sections (parsed L.inputs).objects) k ≡ Some section
  pub code : is_code_section section.section ≡ true
  pub walks : Walks L k section i text places
  pub place_is : place_of section walks.offset ≡ record { object = object; section = index; offset = place.offset }
  pub code_is : section.section.bytes ≡ bytes
  pub item_is : place.item ≡ item_at (parsed L.inputs) (record { object = object; section = index; offset = place.offset })
  pub size_is : size_at (parsed L.inputs).objects (record { object = object; section = index; offset = place.offset }) ≡ place.size

pub at_hand :
    (L : TextLayout) (none : gather_fault L.inputs ≡ None) (ready : IsReady L.inputs) (laid : IsLaidOut L) (k i : ℕ) (text : List ℕ)
    (places : List (Place × ℕ)) (own : List CodePlace) (m : IndexedSection) (old_text : List ℕ) (old_places : List (Place × ℕ)) → BeginsSection L k old_text old_places
    → (cut objects : Inputs) → cut ≡ L.inputs → objects ≡ cut → slice_get (all_sections (parsed objects).objects) k ≡ Some m
    → ((l : IndexedSection) → slice_get (all_sections (parsed cut).objects) k ≡ Some l → own ≡ code_places (parsed cut) l)
    → ((l : IndexedSection) → slice_get (all_sections (parsed L.inputs).objects) k ≡ Some l → is_code_section l.section ≡ true → After L k l i text places)
    → (place : CodePlace) → place ≡ get_or own i place → i < length own → AtHand L k i text places m.object m.index m.section.bytes place
at_hand L none ready laid k i text places own m old_text old_places begins cut objects same_cut same_objects found are after place there lt =
    let l = begins.section in
    let here : slice_get (all_sections (parsed cut).objects) k ≡ Some l = ap (λ (x : Inputs). slice_get (all_sections (parsed x).objects) k) same_cut ∙ begins.at in
    let section : l ≡ m = cc (sym here ∙ ap (λ (x : Inputs). slice_get (all_sections (parsed x).objects) k) (sym same_objects) ∙ found) in
    let own_are : own ≡ code_places (parsed L.inputs) l = are l here ∙ ap (λ (x : Inputs). code_places (parsed x) l) same_cut in
    let got = slice_get_read own (length own) i place refl lt there in
    let walks = on_way L none ready laid k l begins.at begins.code i text places own place (after l begins.at begins.code) own_are got in
    let is = place_got L none ready laid k l begins.at begins.code i text places walks own place own_are got in
    let here_is : place_of l walks.offset ≡ record { object = m.object; section = m.index; offset = place.offset } =
    λ j. record { object = (section j).object; section = (section j).index; offset = (sym is j).offset } in
    record {
      section = l;
      at = begins.at;
      code = begins.code;
      walks = walks;
      place_is = here_is;
      code_is = ap (λ (x : IndexedSection). x.section.bytes) section;
      item_is = ap (λ (x : CodePlace). x.item) is ∙ ap (item_at (parsed L.inputs)) here_is;
      size_is = ap (size_at (parsed L.inputs).objects) (sym here_is) ∙ sym (ap (λ (x : CodePlace). x.size) is);
    }
