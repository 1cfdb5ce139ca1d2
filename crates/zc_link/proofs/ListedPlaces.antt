-- The list of places as a file holds it: it is short, it ascends, and its numbers have room.
use Rattle.std.proofs.Common.{◌≡◌, ℕ, ◌+◌, ◌*◌, ◌<◌, ◌≤◌, List, [], ◌∷◌, ◌++◌, map, length, ◌⊎◌, inl, inr, Option, Bool, true, false, cond, nat_lt, refl, ap, arith, length-append, eqb}
use Rattle.std.specs.Prelude.{All, Some, None}
use Rattle.std.specs.List.{flat_map, list_any}
use Rattle.std.specs.Option.{is_some, option_map, option_to_list}
use Rattle.std.proofs.lemmas.Bool.{and_from, eq-eqb, le-ltb, lt-ltb, ltb-false, or_from, or_right}
use Rattle.std.proofs.lemmas.List.{length-map}
use Rattle.std.proofs.lemmas.List.Elements.{All-append, All-cons, All-head, All-nil, All-tail, All-weaker}
use Rattle.std.proofs.lemmas.List.Sums.{sum_by-cons}
use Rattle.std.proofs.lemmas.Option.{slice_get_within}
use Rattle.zc_base.specs.MemMap.{IsMap}
use Rattle.zc_base.specs.Places.{is_before}
use Rattle.zc_base.specs.declared.place.Place.{Place}
use Rattle.elf32_read.specs.Header.{section_count}
use Rattle.elf32_read.specs.Parts.{SectionParts, is_code_section}
use Rattle.elf32_read.specs.Places.{is_ascending, is_outside}
use Rattle.elf32_read.proofs.Faultless.{no_fault}
use Rattle.elf32_write.specs.Loadable.{IsPlaceEntry}
use Rattle.psabi_sym.specs.Faults.{code_room, counted_bytes, gather_fault}
use Rattle.psabi_sym.specs.Inputs.{ParsedInputs, parsed}
use Rattle.psabi_sym.specs.Indexed.{IndexedSection, all_sections}
use Rattle.psabi_sym.proofs.Gathered.{few_gathered, readable}
use Rattle.block_cut.specs.Items.{all_targets, place_of, size_on, starts_in, starts_on, targets_of}
use Rattle.block_cut.proofs.RoomLaws.{AreWhole, all_whole, code_room_is, rooms, rooms_few, starts_counted}
use Rattle.block_cut.proofs.StartLaws.{along, start_is}
use Rattle.block_cut.proofs.WholeLaws.{code_is_section, code_whole, section_of}
use Rattle.block_cut.specs.Whole.{IsWhole}
use Rattle.zc_link.specs.ImageParts.{listed_places, with_address}
use Rattle.zc_link.specs.LaidOut.{IsLaidOut}
use Rattle.zc_link.specs.TextLayout.{TextLayout}
use Rattle.zc_link.proofs.Lookup.{target_there}
use Rattle.zc_link.proofs.SectionOrder.{IsBefore, IsRising, before_places, sections_rising}

-- ---- how many

-- places have four bytes of room each
targets_few : (ls : List IndexedSection) → AreWhole ls → 4 * length (flat_map targets_of ls) ≤ rooms ls
targets_few [] whole = omega arith
targets_few (l ∷ ls) whole = by (is_code_section l.section) refl (targets_few ls whole.1)
  where
    s : SectionParts
    s = l.section

    sum_is : rooms (l ∷ ls) ≡ code_room l.section + rooms ls
    sum_is = sum_by-cons (λ (m : IndexedSection). code_room m.section) l ls

    by : (b : Bool) → is_code_section l.section ≡ b → 4 * length (flat_map targets_of ls) ≤ rooms ls
        → 4 * length (cond b (map (place_of l) (starts_in l.section ++ length l.section.bytes ∷ [])) [] ++ flat_map targets_of ls) ≤ rooms (l ∷ ls)
    by true code rest =
        let own = map (place_of l) (starts_in l.section ++ length l.section.bytes ∷ []) in
        let is = whole.0 code in
        omega (
          arith,
          rest,
          sum_is,
          code_room_is l.section code,
          starts_counted l.section code is,
          ap (counted_bytes l.section.compressed) is.bytes,
          length-append own (flat_map targets_of ls),
          length-map (starts_in l.section ++ length l.section.bytes ∷ []) (place_of l),
          length-append (starts_in l.section) (length l.section.bytes ∷ []),
        )
    by false other rest = omega (arith, rest, sum_is)

-- a list has no more entries than places
entries_few : (L : TextLayout) (qs : List Place) → length (flat_map (with_address L) qs) ≤ length qs
entries_few L [] = omega arith
entries_few L (q ∷ qs) = by (L.address q) (entries_few L qs)
  where
    by : (o : Option ℕ) → length (flat_map (with_address L) qs) ≤ length qs → length (option_to_list (option_map (λ a. (q, a)) o) ++ flat_map (with_address L) qs) ≤ length (q ∷ qs)
    by None rest = omega (arith, rest)
    by (Some a) rest = omega (arith, rest)

-- the places of all code are few
pub places_few : (L : TextLayout) → gather_fault L.inputs ≡ None → 4 * length (listed_places L) ≤ 0x4_0000
unfolding listed_places
places_few L none =
    omega (
      arith,
      entries_few L (all_targets (parsed L.inputs).objects),
      targets_few (all_sections (parsed L.inputs).objects) (all_whole L.inputs none),
      rooms_few L.inputs none,
    )

-- ---- in order

-- each comes before all after it
IsSorted : List Place → Type 0
IsSorted [] = Unit {0}
IsSorted (q ∷ qs) = All (λ r. is_before q r ≡ true) qs × IsSorted qs

-- two lists in order, of which the second comes after the first, are one
sorted_append : (xs ys : List Place) → IsSorted xs → IsSorted ys → All (λ x. All (λ y. is_before x y ≡ true) ys) xs → IsSorted (xs ++ ys)
unfolding IsSorted
sorted_append [] ys one two apart = two
sorted_append (x ∷ xs) ys one two apart =
    let P = λ (z : Place). All (λ y. is_before z y ≡ true) ys in
    (All-append (λ r. is_before x r ≡ true) xs ys one.0 (All-head P x xs apart), sorted_append xs ys one.1 two (All-tail P x xs apart))

-- the entries of a list come in order of their places
AreSorted : List (Place × ℕ) → Type 0
AreSorted [] = Unit {0}
AreSorted (e ∷ es) = All (λ d. is_before e.0 d.0 ≡ true) es × AreSorted es

-- a list in order ascends
sorted_ascends : (es : List (Place × ℕ)) → AreSorted es → is_ascending es ≡ true
unfolding AreSorted
sorted_ascends [] sorted = refl
sorted_ascends (d ∷ []) sorted = refl
sorted_ascends (d ∷ e ∷ es) sorted = and_from _ _ (All-head (λ x. is_before d.0 x.0 ≡ true) e es sorted.0) (sorted_ascends (e ∷ es) sorted.1)

-- what holds of each place holds of each one's entry
each_entry : (P : Place → Type 0) (L : TextLayout) (qs : List Place) → All P qs → All (λ e. P e.0) (flat_map (with_address L) qs)
each_entry P L [] all = All-nil (λ (e : Place × ℕ). P e.0)
each_entry P L (q ∷ qs) all = by (L.address q) (All-head P q qs all) (each_entry P L qs (All-tail P q qs all))
  where
    by : (o : Option ℕ) → P q → All (λ e. P e.0) (flat_map (with_address L) qs) → All (λ e. P e.0) (option_to_list (option_map (λ a. (q, a)) o) ++ flat_map (with_address L) qs)
    by None here rest = rest
    by (Some a) here rest = All-cons (λ (e : Place × ℕ). P e.0) (q, a) (flat_map (with_address L) qs) here rest

-- the entries of places in order are in order
entries_sorted : (L : TextLayout) (qs : List Place) → IsSorted qs → AreSorted (flat_map (with_address L) qs)
unfolding IsSorted AreSorted
entries_sorted L [] sorted = tt
entries_sorted L (q ∷ qs) sorted = by (L.address q) (entries_sorted L qs sorted.1)
  where
    by : (o : Option ℕ) → AreSorted (flat_map (with_address L) qs) → AreSorted (option_to_list (option_map (λ a. (q, a)) o) ++ flat_map (with_address L) qs)
    by None rest = rest
    by (Some a) rest = (each_entry (λ r. is_before q r ≡ true) L qs sorted.0, rest)

-- offsets that go up from a number on
IsUp : ℕ → List ℕ → Type 0
IsUp low [] = Unit {0}
IsUp low (x ∷ xs) = (low ≤ x) × IsUp (x + 1) xs

-- numbers that go up from a number go up from a lower one too
up_less : (low high : ℕ) (xs : List ℕ) → low ≤ high → IsUp high xs → IsUp low xs
unfolding IsUp
up_less low high [] le up = tt
up_less low high (x ∷ xs) le up = (omega (arith, up.0), up.1)

-- a section's offsets go up
section_up : (s : SectionParts) → is_code_section s ≡ true → IsWhole s → IsUp 0 (starts_in s ++ length s.bytes ∷ [])
unfolding IsUp
section_up s code whole =
    along s code whole (λ n xs. IsUp n (xs ++ length s.bytes ∷ [])) (omega arith, tt)
    (λ n xs lt words st above rest. (omega arith, up_less (n + 1) (n + size_on s n) (xs ++ length s.bytes ∷ []) (omega (arith, st.some)) rest))

-- places of one section come in order of their offsets
offset_before : (l : IndexedSection) (m n : ℕ) → m < n → is_before (place_of l m) (place_of l n) ≡ true
offset_before l m n lt =
    or_right (nat_lt l.object l.object) _
    (and_from (eqb l.object l.object) _ (eq-eqb l.object l.object refl)
    (or_right (nat_lt l.index l.index) _
    (and_from (eqb l.index l.index) _ (eq-eqb l.index l.index refl) (lt-ltb m n lt))))

-- a place comes before those of offsets above
up_after : (l : IndexedSection) (n low : ℕ) (xs : List ℕ) → n < low → IsUp low xs → All (λ r. is_before (place_of l n) r ≡ true) (map (place_of l) xs)
unfolding IsUp
up_after l n low [] lt up = All-nil (λ r. is_before (place_of l n) r ≡ true)
up_after l n low (x ∷ xs) lt up =
    All-cons (λ r. is_before (place_of l n) r ≡ true) (place_of l x) (map (place_of l) xs) (offset_before l n x (omega (arith, up.0))) (up_after l n (x + 1) xs (omega (arith, up.0)) up.1)

-- places of offsets that go up come in order
up_sorted : (l : IndexedSection) (low : ℕ) (xs : List ℕ) → IsUp low xs → IsSorted (map (place_of l) xs)
unfolding IsUp IsSorted
up_sorted l low [] up = tt
up_sorted l low (x ∷ xs) up = (up_after l x (x + 1) xs (omega arith) up.1, up_sorted l (x + 1) xs up.1)

-- what holds of each offset holds of all targets of a section
each_target : (P : Place → Type 0) (l : IndexedSection) → ((n : ℕ) → P (place_of l n)) → All P (targets_of l)
each_target P l each = by (is_code_section l.section)
  where
    mapped : (ns : List ℕ) → All P (map (place_of l) ns)
    mapped [] = All-nil P
    mapped (n ∷ ns) = All-cons P (place_of l n) (map (place_of l) ns) (each n) (mapped ns)

    by : (b : Bool) → All P (cond b (map (place_of l) (starts_in l.section ++ length l.section.bytes ∷ [])) [])
    by true = mapped (starts_in l.section ++ length l.section.bytes ∷ [])
    by false = All-nil P

-- the places of a section come in order
section_sorted : (l : IndexedSection) → (is_code_section l.section ≡ true → IsWhole l.section) → IsSorted (targets_of l)
unfolding IsSorted
section_sorted l whole = by (is_code_section l.section) refl
  where
    by : (b : Bool) → is_code_section l.section ≡ b → IsSorted (cond b (map (place_of l) (starts_in l.section ++ length l.section.bytes ∷ [])) [])
    by true code = up_sorted l 0 (starts_in l.section ++ length l.section.bytes ∷ []) (section_up l.section code (whole code))
    by false other = tt

-- places of sections, of which each comes before all after it
sections_sorted : (ls : List IndexedSection) → AreWhole ls → IsRising ls → IsSorted (flat_map targets_of ls)
unfolding IsSorted
sections_sorted [] whole up = tt
sections_sorted (l ∷ ls) whole up =
    sorted_append (targets_of l) (flat_map targets_of ls) (section_sorted l whole.0) (sections_sorted ls whole.1 up.1)
    (each_target (λ x. All (λ y. is_before x y ≡ true) (flat_map targets_of ls)) l (λ n. later ls n up.0))
  where
    later : (ms : List IndexedSection) (n : ℕ) → All (IsBefore l) ms → All (λ y. is_before (place_of l n) y ≡ true) (flat_map targets_of ms)
    later [] n all = All-nil (λ y. is_before (place_of l n) y ≡ true)
    later (m ∷ ms) n all =
        All-append (λ y. is_before (place_of l n) y ≡ true) (targets_of m) (flat_map targets_of ms)
        (each_target (λ y. is_before (place_of l n) y ≡ true) m (λ k. before_places l m n k (All-head (IsBefore l) m ms all)))
        (later ms n (All-tail (IsBefore l) m ms all))

module _ (L : TextLayout) (none : gather_fault L.inputs ≡ None) (map : IsMap L.inputs.map) (laid : IsLaidOut L) where
  abbrev p : ParsedInputs
  p = parsed L.inputs

  abbrev A : Place → Option ℕ
  A = L.address

  -- the places of all code come in order
  pub ascends : is_ascending (listed_places L) ≡ true
  unfolding listed_places
  ascends =
      sorted_ascends (listed_places L)
      (entries_sorted L (all_targets p.objects) (sections_sorted (all_sections p.objects) (all_whole L.inputs none) (sections_rising p.objects)))

  -- ---- numbers

  -- a place in the list has numbers that fit in its fields
  place_entry : (q : Place) (a : ℕ) → A q ≡ Some a → IsPlaceEntry (q, a)
  place_entry q a at =
      let is = target_there p.objects q (laid.only q (ap is_some at)) in
      let two = code_is_section p.objects q is.section is.code in
      let whole = code_whole L.inputs q is.section none is.code in
      let of = section_of L.inputs q.object q.section is.section two.0 in
      let few = few_gathered L.inputs none in
      let inside = slice_get_within L.inputs.files q.object of.file of.at in
      let sections = ltb-false 4096 (section_count of.file) (no_fault of.file (readable L.inputs q.object of.file none of.at)).few in
      let within = of.within in
      let high = laid.high q a at in
      let short = laid.short in
      record {
        object = omega (arith, few, inside);
        section = omega (arith, sections, within);
        offset = omega (arith, offset_inside is.section two.1 whole is.target, whole.short);
        address = omega (arith, high, short, map.code, map.room);
      }
    where
      offset_inside : (s : SectionParts) → is_code_section s ≡ true → IsWhole s → (starts_on s q.offset ≡ true) ⊎ (q.offset ≡ length s.bytes) → q.offset ≤ length s.bytes
      offset_inside s code whole (inl start) = omega (arith, (start_is s code whole q.offset start).inside)
      offset_inside s code whole (inr end) = omega (arith, end)

  -- each place of a list that has its address is an entry
  pub entries : (places : List (Place × ℕ)) → All (λ e. A e.0 ≡ Some e.1) places → All IsPlaceEntry places
  entries places placed = All-weaker (λ (e : Place × ℕ). A e.0 ≡ Some e.1) IsPlaceEntry (λ e at. place_entry e.0 e.1 at) places placed

  -- no place of such a list lies outside the text
  pub are_inside : (places : List (Place × ℕ)) → All (λ e. A e.0 ≡ Some e.1) places → list_any (is_outside L.inputs.map) places ≡ false
  are_inside [] placed = refl
  are_inside (e ∷ es) placed =
      let P = λ (d : Place × ℕ). A d.0 ≡ Some d.1 in
      let at = All-head P e es placed in
      let low = laid.low e.0 e.1 at in
      let high = laid.high e.0 e.1 at in
      let short = laid.short in
      or_from _ _ (or_from _ _ (le-ltb e.1 L.inputs.map.text (omega (arith, low))) (le-ltb L.inputs.map.data_low e.1 (omega (arith, high, short, map.code)))) (are_inside es (All-tail P e es placed))
