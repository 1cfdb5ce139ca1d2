-- The places of a section of code, halfword after halfword: which there are and where they lie; and how far code comes with each section.
use Rattle.std.proofs.Common.{◌≡◌, ◌≢◌, ℕ, ◌+◌, ◌-◌, ◌*◌, ◌/◌, ◌%◌, ◌<◌, ◌≤◌, List, [], ◌∷◌, ◌++◌, length, filter, get_or, map, drop, take, Bool, true, false, cond, ℤ, Option, Some, None, refl, sym, ap, subst, ◌∙◌, arith, eqb, ltb, inl, inr, slice_get}
use Rattle.std.specs.Prelude.{◌||◌}
use Rattle.std.specs.List.{find, flat_map}
use Rattle.std.specs.Option.{option_map, option_map_or, unwrap_or}
use Rattle.std.proofs.lemmas.Bool.{eqb-false, eqb-true, le-ltb, lt-ltb, ne_eqb, or_parts}
use Rattle.std.proofs.lemmas.List.Elements.{filter-append}
use Rattle.std.proofs.lemmas.List.{append-nil, take-append-drop, length-append, length-map, map-append}
use Rattle.std.proofs.lemmas.Option.{get_or_from_slice_get, slice_get-map}
use Rattle.std.proofs.lemmas.List.Concat.{flat_map-append}
use Rattle.std.proofs.lemmas.List.Sums.{fold-append, sum_by-append, sum_by-cons}
use Rattle.zc_base.specs.declared.place.Place.{Place}
use Rattle.elf32_read.specs.Parts.{ObjectParts, SectionParts, is_code_section}
use Rattle.elf32_read.specs.declared.reloc.Reloc.{Reloc}
use Rattle.psabi_reloc.specs.Kinds.{field_length, kind_of}
use Rattle.psabi_reloc.specs.declared.kind.RelocKind.{RelocKind}
use Rattle.psabi_reloc.specs.declared.kind.RelocKind.TheVariants as kind
use Rattle.psabi_sym.specs.Faults.{code_room, gather_fault}
use Rattle.psabi_sym.specs.Inputs.{Inputs, ParsedInputs, parsed}
use Rattle.psabi_sym.specs.Indexed.{IndexedSection, all_sections, section_at, sections_before}
use Rattle.psabi_sym.proofs.SectionNumbers.{before_number, has_number, listed_at}
use Rattle.block_cut.specs.Items.{code_at, index_on, is_target_at, item_in, items_in, place_of, size_at, size_on, starts_in, starts_on, targets_in}
use Rattle.block_cut.specs.Places.{IsPlaceNumber, code_place, code_places}
use Rattle.block_cut.specs.PlainLayout.{address_on, after_item, after_start, after_starts, plain_address, plain_end_of, plain_start, section_end, starts_before}
use Rattle.block_cut.specs.CodeSizes.{code_step, own_size}
use Rattle.block_cut.specs.Relocs.{is_bad_kind, is_ignored, reloc_on}
use Rattle.block_cut.specs.Resolved.{asks, is_right_at, resolved_reloc, resolved_relocs}
use Rattle.block_cut.specs.Invariants.HalfwordTables.{HasRoom, IsRelocTable, by_halfword, number_on, numbered, numbers_of_section, read_length}
use Rattle.block_cut.specs.Invariants.SectionItems.{SectionTables, section_tables}
use Rattle.block_cut.specs.Invariants.CodeTables.{IsCodeSpan}
use Rattle.block_cut.specs.Whole.{IsWhole}
use Rattle.block_cut.specs.declared.code_place.CodePlace.{CodePlace}
use Rattle.block_cut.specs.declared.code_span.CodeSpan.{CodeSpan}
use Rattle.block_cut.specs.declared.resolved_reloc.ResolvedReloc.{ResolvedReloc}
use Rattle.block_cut.proofs.ItemLaws.{item_at-code}
use Rattle.block_cut.proofs.PlainLaws.{offset_end, offset_rises, place_address, section_ends, whole_before}
use Rattle.block_cut.proofs.ResolvedLaws.{resolved_on}
use Rattle.block_cut.proofs.RoomLaws.{AreWhole, all_whole, code_room_is, items_in-code, items_in-other, plain_end-fits, rooms, rooms_few, section_end-ge, section_end-other}
use Rattle.block_cut.proofs.SoundLaws.{sound_at}
use Rattle.block_cut.proofs.StartLaws.{IsStart, along, before_end_all, before_first_none, start_is}
use Rattle.block_cut.proofs.TakeLaws.{take_next}
use Rattle.block_cut.proofs.CodeSizeLaws.{counted_least, own_sized, step_even}
use Rattle.block_cut.proofs.WholeLaws.{code_at_is, code_at_none, inputs_whole}
use Rattle.block_cut.proofs.WordLaws.{IsCodeHere, before_other, before_start, code_here, end_other, last_got, no_target, number_target, some_target, target_got, target_nowhere}

-- ---- the relocation at a halfword

-- the one that a table of relocations has at an even offset
pub reloc_found : (relocs : List ResolvedReloc) (count : ℕ) (table : List ℕ) (n : ℕ) → IsRelocTable relocs count table → n % 2 ≡ 0 → n / 2 < count → numbered relocs (get_or table (n / 2) 0) ≡ find (is_right_at n) relocs
reloc_found relocs count table n is words inside =
    let even : 2 * (n / 2) ≡ n = omega (arith, words) in
    is.each (n / 2) inside ∙ ap (λ m. find (is_right_at m) relocs) even

-- what says which item stands with a kind that is known lies in the bytes that it changes
read_inside : (k : Option RelocKind) (addend : ℤ) (s : SectionParts) → is_ignored k ≡ false → is_bad_kind s k ≡ false → read_length k ≤ field_length k addend
read_inside None addend s asks known = absurd cc
read_inside (Some kind.Ignored) addend s asks known = absurd cc
read_inside (Some kind.Word) addend s asks known = omega arith
read_inside (Some kind.Branch) addend s asks known = omega arith
read_inside (Some kind.Jal) addend s asks known = omega arith
read_inside (Some kind.Call) addend s asks known = omega arith
read_inside (Some kind.PcrelHi20) addend s asks known = omega arith
read_inside (Some kind.PcrelLo12I) addend s asks known = omega arith
read_inside (Some kind.PcrelLo12S) addend s asks known = omega arith
read_inside (Some kind.Hi20) addend s asks known = omega arith
read_inside (Some kind.Lo12I) addend s asks known = omega arith
read_inside (Some kind.Lo12S) addend s asks known = omega arith
read_inside (Some kind.RvcBranch) addend s asks known = omega arith
read_inside (Some kind.RvcJump) addend s asks known = omega arith
read_inside (Some kind.Align) addend s asks known = omega arith

-- an item has room where one starts, by the relocation there
pub room_there : (inputs : ParsedInputs) (l : IndexedSection) (n : ℕ) → is_code_section l.section ≡ true → IsWhole l.section → starts_on l.section n ≡ true
    → HasRoom (record { bytes = l.section.bytes; compressed = l.section.compressed }) n (find (is_right_at n) (resolved_relocs inputs l))
room_there inputs l n code whole start = by (reloc_on s n) refl (find (is_right_at n) (resolved_relocs inputs l)) (sym (resolved_on inputs l n))
  where
    s : SectionParts
    s = l.section

    own : IsStart s (starts_in s) n
    own = start_is s code whole n start

    by : (o : Option Reloc) → reloc_on s n ≡ o → (d : Option ResolvedReloc) → option_map (resolved_reloc inputs l) o ≡ d
        → n + option_map_or (λ (x : ResolvedReloc). read_length x.kind) d (own_size s.compressed s.bytes n) ≤ length s.bytes
    by None at None none = (own_sized s.compressed s.bytes n own.words own.inside whole.words).inside
    by None at (Some d) same = absurd cc
    by (Some r) at None same = absurd cc
    by (Some r) at (Some d) same =
        let own : resolved_reloc inputs l r ≡ d = cc in
        let sound = sound_at s n r code at in
        omega (arith, sound.inside, whole.bytes, read_inside (kind_of r.kind) r.addend s sound.asks sound.known, ap (λ x. read_length x.kind) (sym own))

-- relocations that ask for something are no more than all
pub resolved_few : (inputs : ParsedInputs) (l : IndexedSection) → length (resolved_relocs inputs l) ≤ length l.section.relocs
resolved_few inputs l = omega (arith, length-map (filter asks l.section.relocs) (resolved_reloc inputs l), few l.section.relocs)
  where
    few : (rs : List Reloc) → length (filter asks rs) ≤ length rs
    few [] = omega arith
    few (r ∷ rs) = by (asks r) (few rs)
      where
        by : (b : Bool) → length (filter asks rs) ≤ length rs → length (cond b (r ∷ filter asks rs) (filter asks rs)) ≤ length (r ∷ rs)
        by true le = omega arith
        by false le = omega arith

-- ---- what starts at a halfword

module _ (s : SectionParts) (code : is_code_section s ≡ true) (whole : IsWhole s) (n : ℕ) (is : (starts_on s n || eqb n (length s.bytes)) ≡ true) where
  -- the offset is a multiple of the code's step
  pub target_step : n % code_step s.compressed ≡ 0
  target_step = by (starts_on s n) refl is
    where
      by : (b : Bool) → starts_on s n ≡ b → (b || eqb n (length s.bytes)) ≡ true → n % code_step s.compressed ≡ 0
      by true start is = (start_is s code whole n start).words
      by false other is = ap (λ m. m % code_step s.compressed) (eqb-true n (length s.bytes) is) ∙ whole.words

  -- an item starts at the offset if that isn't the end
  pub target_start : n ≢ length s.bytes → starts_on s n ≡ true
  target_start ne = by (starts_on s n) (eqb n (length s.bytes)) is (ne_eqb n (length s.bytes) ne)
    where
      by : (a b : Bool) → (a || b) ≡ true → b ≡ false → a ≡ true
      by true b is other = refl
      by false b is other = absurd (cc (is, other))

-- ---- places so far

-- the places of a section before an offset
abbrev pub targets_before : SectionParts → ℕ → List ℕ
targets_before s n = filter (λ m. ltb m n) (targets_in s)

-- what is kept after the first k halfwords of a section
pub record IsSoFar (inputs : ParsedInputs) (l : IndexedSection) (k : ℕ) (places : List CodePlace) (address : ℕ) : Type 0 where
  pub places_are : places ≡ map (code_place inputs l) (targets_before l.section (2 * k))
  pub address_is : address ≡ after_starts inputs l (plain_start inputs l.object l.index l.section) (starts_before l.section (2 * k))

module _ (s : SectionParts) where
  -- up to the end they are starts
  targets_inside : (n : ℕ) → n ≤ length s.bytes → targets_before s n ≡ starts_before s n
  targets_inside n le =
      filter-append (λ m. ltb m n) (starts_in s) (length s.bytes ∷ [])
      ∙ ap (λ b. starts_before s n ++ cond b (length s.bytes ∷ []) []) (le-ltb (length s.bytes) n le) ∙ append-nil (starts_before s n)

  -- the places before an offset past the end include the end
  targets_past : (n : ℕ) → length s.bytes < n → targets_before s n ≡ starts_before s n ++ length s.bytes ∷ []
  targets_past n lt =
      filter-append (λ m. ltb m n) (starts_in s) (length s.bytes ∷ [])
      ∙ ap (λ b. starts_before s n ++ cond b (length s.bytes ∷ []) []) (lt-ltb (length s.bytes) n lt)

module _ (inputs : Inputs) (none : gather_fault inputs ≡ None) (l : IndexedSection) (here : IsCodeHere inputs l.object l.index l.section) where
  abbrev given : ParsedInputs
  given = parsed inputs

  abbrev s : SectionParts
  s = l.section

  -- the address after items
  abbrev after_of : List ℕ → ℕ
  after_of ns = after_starts given l (plain_start given l.object l.index s) ns

  -- the end is even
  even_end : length s.bytes % 2 ≡ 0
  even_end = step_even s.compressed (length s.bytes) here.whole.words

  -- ---- a halfword further

  module _ (k : ℕ) (places : List CodePlace) (address : ℕ) (le : 2 * k ≤ length s.bytes) (so_far : IsSoFar given l k places address) where
    next : 2 * (k + 1) ≡ 2 * k + 2
    next = omega arith

    -- where nothing starts
    pub none_more : (starts_on s (2 * k) || eqb (2 * k) (length s.bytes)) ≡ false → IsSoFar given l (k + 1) places address
    none_more fails =
        let two = or_parts (starts_on s (2 * k)) (eqb (2 * k) (length s.bytes)) fails in
        let inside : 2 * k + 2 ≤ length s.bytes = omega (arith, le, even_end, eqb-false (2 * k) (length s.bytes) two.1) in
        let same : starts_before s (2 * (k + 1)) ≡ starts_before s (2 * k) =
        ap (starts_before s) next ∙ before_other s here.code here.whole (2 * k) (omega arith) two.0 in
        record {
          places_are = so_far.places_are ∙ ap (map (code_place given l)) (targets_inside s (2 * k) le ∙ sym same ∙ sym (targets_inside s (2 * (k + 1)) (omega (arith, inside))));
          address_is = so_far.address_is ∙ ap after_of (sym same);
        }

    -- where something does: what the place is, and the address after it
    pub one_more : (place : CodePlace) (new : ℕ) → (starts_on s (2 * k) || eqb (2 * k) (length s.bytes)) ≡ true
        → place ≡ record { item = cond (starts_on s (2 * k)) (Some (item_in given s (place_of l (2 * k)))) None; address = address; offset = 2 * k; size = size_on s (2 * k) }
        → new ≡ option_map_or (after_item address place.size) place.item address
        → IsSoFar given l (k + 1) (places ++ place ∷ []) new
    one_more place new passes is new_is = by (starts_on s (2 * k)) refl passes is
      where
        q : Place
        q = place_of l (2 * k)

        size : size_on s (2 * k) ≡ size_at given.objects q
        size = sym (ap (λ x. option_map_or (λ t. size_on t (2 * k)) x 4) (here.at (2 * k)))

        -- with a place at the halfword, the places up to it are those before it and this one
        with_place : place ≡ code_place given l (2 * k) → targets_before s (2 * (k + 1)) ≡ targets_before s (2 * k) ++ 2 * k ∷ [] → places ++ place ∷ [] ≡ map (code_place given l) (targets_before s (2 * (k + 1)))
        with_place own more =
            (λ j. so_far.places_are j ++ own j ∷ []) ∙ sym (map-append (code_place given l) (targets_before s (2 * k)) (2 * k ∷ []))
            ∙ ap (map (code_place given l)) (sym more)

        -- what it is
        own : (b : Bool) → starts_on s (2 * k) ≡ b → place ≡ record { item = cond b (Some (item_in given s q)) None; address = address; offset = 2 * k; size = size_on s (2 * k) }
            → plain_address given q ≡ Some address → place ≡ code_place given l (2 * k)
        own b start same at =
            same ∙ (λ j. record {
              item = sym (item_at-code given q s (here.at (2 * k)) ∙ ap (λ x. cond x (Some (item_in given s q)) None) start) j;
              address = sym (ap (λ o. unwrap_or o 0) at) j;
              offset = 2 * k;
              size = size j;
            })

        by : (b : Bool) → starts_on s (2 * k) ≡ b → (b || eqb (2 * k) (length s.bytes)) ≡ true
            → place ≡ record { item = cond b (Some (item_in given s q)) None; address = address; offset = 2 * k; size = size_on s (2 * k) } → IsSoFar given l (k + 1) (places ++ place ∷ []) new
        by true start passes same =
            let inside = (start_is s here.code here.whole (2 * k) start).inside in
            let starts : starts_before s (2 * (k + 1)) ≡ starts_before s (2 * k) ++ 2 * k ∷ [] = ap (starts_before s) next ∙ before_start s here.code here.whole (2 * k) start in
            let more : targets_before s (2 * (k + 1)) ≡ targets_before s (2 * k) ++ 2 * k ∷ [] =
            targets_inside s (2 * (k + 1)) (omega (arith, inside, even_end)) ∙ starts ∙ ap (λ ns. ns ++ 2 * k ∷ []) (sym (targets_inside s (2 * k) le)) in
            let at : plain_address given q ≡ Some address = place_address given q s (here.at (2 * k)) (inl start) ∙ ap Some (sym so_far.address_is) in
            record {
              places_are = with_place (own true start same at) more;
              address_is = new_is ∙ (λ j. option_map_or (after_item address (same j).size) (same j).item address)
                  ∙ ap (λ a. after_start given l a (2 * k)) so_far.address_is
                  ∙ sym (ap after_of starts ∙ fold-append (after_start given l) (plain_start given l.object l.index s) (starts_before s (2 * k)) (2 * k ∷ []));
            }
        by false other passes same =
            let ends : 2 * k ≡ length s.bytes = eqb-true (2 * k) (length s.bytes) passes in
            let starts : starts_before s (2 * (k + 1)) ≡ starts_before s (2 * k) = ap (starts_before s) next ∙ before_other s here.code here.whole (2 * k) (omega arith) other in
            let more : targets_before s (2 * (k + 1)) ≡ targets_before s (2 * k) ++ 2 * k ∷ [] =
            targets_past s (2 * (k + 1)) (omega (arith, ends)) ∙ (λ j. starts j ++ sym ends j ∷ []) ∙ ap (λ ns. ns ++ 2 * k ∷ []) (sym (targets_inside s (2 * k) le)) in
            let at : plain_address given q ≡ Some address = place_address given q s (here.at (2 * k)) (inr ends) ∙ ap Some (sym so_far.address_is) in
            record {
              places_are = with_place (own false other same at) more;
              address_is = new_is ∙ (λ j. option_map_or (after_item address (same j).size) (same j).item address) ∙ so_far.address_is ∙ ap after_of (sym starts);
            }

  -- ---- the section

  -- at first there is its start
  pub at_first : (begin : ℕ) → begin ≡ plain_start given l.object l.index s → IsSoFar given l 0 [] begin
  at_first begin is =
      let empty : starts_before s (2 * 0) ≡ [] = before_first_none s here.code here.whole in
      record {
        places_are = ap (map (code_place given l)) (sym (targets_inside s (2 * 0) (omega arith) ∙ empty));
        address_is = is ∙ ap after_of (sym empty);
      }

  -- after the last halfword all places are there
  pub at_last : (k : ℕ) (places : List CodePlace) (address : ℕ) → k ≡ length s.bytes / 2 + 1 → IsSoFar given l k places address → places ≡ code_places given l
  at_last k places address last so_far =
      let past : 2 * k ≡ length s.bytes + 2 = omega (arith, last, even_end) in
      let own : starts_before s (2 * k) ≡ starts_in s =
      ap (starts_before s) past ∙ before_other s here.code here.whole (length s.bytes) even_end (end_other s here.code here.whole) ∙ before_end_all s here.code here.whole in
      so_far.places_are ∙ ap (map (code_place given l)) (targets_past s (2 * k) (omega (arith, past)) ∙ ap (λ ns. ns ++ length s.bytes ∷ []) own)
      ∙ sym (ap (λ b. cond b (map (code_place given l) (targets_in s)) []) here.code)

  -- ---- room

  -- the code before the section ends near the text's start
  pub before_fits : plain_end_of given (sections_before given.objects l.object l.index) ≤ inputs.map.text + 0x4_0000
  before_fits = omega (arith, section_end-ge given (plain_end_of given (sections_before given.objects l.object l.index)) l, section_ends inputs none l.object l.index s here.found, plain_end-fits inputs none)

  -- the addresses at a section's halfwords fit in a word
  pub address_fits : (k : ℕ) (places : List CodePlace) (address : ℕ) → 2 * k ≤ length s.bytes → IsSoFar given l k places address → address ≤ inputs.map.text + 0x4_0000
  address_fits k places address le so_far =
      omega (
        arith,
        so_far.address_is,
        offset_rises given (place_of l 0) s here.code here.whole (2 * k) (length s.bytes) le,
        offset_end given (place_of l 0) s here.code here.whole,
        section_ends inputs none l.object l.index s here.found,
        plain_end-fits inputs none,
      )

-- ---- look-ups

-- what the number at an offset of a section says: where its place is
pub record IsNumberOf (inputs : Inputs) (l : IndexedSection) (n number : ℕ) : Type 0 where
  pub none : number ≡ 0 → is_target_at (parsed inputs).objects (place_of l n) ≡ false
  pub some : number ≢ 0 → (is_target_at (parsed inputs).objects (place_of l n) ≡ true) × (slice_get (code_places (parsed inputs) l) (number - 1) ≡ Some (code_place (parsed inputs) l n))
  pub index : number ≢ 0 → number - 1 ≡ index_on l.section n

pub by_number : (inputs : Inputs) (l : IndexedSection) (n number : ℕ) (numbers : List ℕ) → gather_fault inputs ≡ None → section_at (parsed inputs).objects l.object l.index ≡ Some l.section
    → numbers ≡ numbers_of_section l.section → ((s : SectionParts) → is_code_section s ≡ true → IsWhole s → numbers ≡ by_halfword (number_on s) s → number ≡ number_on s n) → (numbers ≡ [] → number ≡ 0)
    → IsNumberOf inputs l n number
by_number inputs l n number numbers none found are value empty = by (is_code_section l.section) refl
  where
    objects : List ObjectParts
    objects = (parsed inputs).objects

    by : (b : Bool) → is_code_section l.section ≡ b → IsNumberOf inputs l n number
    by true code =
        let s = l.section in
        let here = code_here inputs l.object l.index s none found code in
        let own : number ≡ number_on s n = value s code here.whole (are ∙ ap (λ b. cond b (by_halfword (number_on s) s) []) code) in
        let count : number ≢ 0 → number - 1 ≡ length (starts_before s n) =
        λ ne. omega (arith, own, ap (λ b. cond b (length (starts_before s n) + 1) 0) (number_target s n (λ e. ne (own ∙ e)))) in
        record {
          none = λ e. no_target objects (place_of l n) s (here.at n) (sym own ∙ e);
          some = λ ne.
              let target = number_target s n (λ e. ne (own ∙ e)) in (
                some_target objects (place_of l n) s (here.at n) (λ e. ne (own ∙ e)),
                (λ j. slice_get (cond (code j) (map (code_place (parsed inputs) l) (targets_in s)) []) (count ne j))
                    ∙ slice_get-map (code_place (parsed inputs) l) (targets_in s) (length (starts_before s n)) ∙ ap (option_map (code_place (parsed inputs) l)) (target_got s code here.whole n target),
              );
          index = count;
        }
    by false other =
        let zero_is = empty (are ∙ ap (λ b. cond b (by_halfword (number_on l.section) l.section) []) other) in
        let nowhere = code_at_none objects (place_of l n) l.section found other in
        record { none = λ e. target_nowhere objects (place_of l n) nowhere; some = λ ne. absurd (ne zero_is); index = λ ne. absurd (ne zero_is) }

-- what is kept of a section, one by one
pub record AreTables (inputs : ParsedInputs) (l : IndexedSection) (t : SectionTables) : Type 0 where
  pub numbers : t.numbers ≡ numbers_of_section l.section
  pub places : t.places ≡ code_places inputs l

pub tables_of : (inputs : ParsedInputs) (l : IndexedSection) (t : SectionTables) → t ≡ section_tables inputs l → AreTables inputs l t
unfolding section_tables
tables_of inputs l t is = record { numbers = ap (λ x. x.numbers) is; places = ap (λ x. x.places) is }

-- what is kept of the section with number k
pub kept_at : (inputs : ParsedInputs) (sections : List SectionTables) (k : ℕ) (l : IndexedSection) (d : SectionTables) → sections ≡ map (section_tables inputs) (all_sections inputs.objects) → slice_get (all_sections inputs.objects) k ≡ Some l
    → get_or sections k d ≡ section_tables inputs l
kept_at inputs sections k l d are at =
    ap (λ ts. get_or ts k d) are
    ∙ get_or_from_slice_get (map (section_tables inputs) (all_sections inputs.objects)) k (section_tables inputs l) d
    (slice_get-map (section_tables inputs) (all_sections inputs.objects) k ∙ ap (option_map (section_tables inputs)) at)

-- where a place of the section with a number stands among all, if code may lead there
pub place_number : (objects : List ObjectParts) (q : Place) (k n : ℕ) (s : SectionParts) → section_at objects q.object q.section ≡ Some s
    → slice_get (all_sections objects) k ≡ Some (record { object = q.object; index = q.section; section = s })
    → is_target_at objects q ≡ true → n ≡ index_on s q.offset → IsPlaceNumber objects q (record { section = k; index = n })
place_number objects q k n s found at target index = record {
  section = s;
  here = by (is_code_section s) refl;
  section_is = (has_number objects k (record { object = q.object; index = q.section; section = s }) at).place;
  index_is = index;
}
  where
    by : (b : Bool) → is_code_section s ≡ b → code_at objects q ≡ Some s
    by true code = code_at_is objects q s found code
    by false other = absurd (cc (target, target_nowhere objects q (code_at_none objects q s found other)))

-- ---- how far code comes

-- no more than halfwords
starts_few : (s : SectionParts) → is_code_section s ≡ true → IsWhole s → 2 * length (starts_in s) ≤ length s.bytes
starts_few s code whole =
    let all : 2 * length (starts_in s) + 0 ≤ length s.bytes =
    along s code whole (λ n xs. 2 * length xs + n ≤ length s.bytes) (omega arith) (λ n xs lt words st above rest. omega (arith, st.some)) in
    omega arith

items_few : (inputs : ParsedInputs) (ls : List IndexedSection) → AreWhole ls → 2 * length (flat_map (items_in inputs) ls) ≤ rooms ls
items_few inputs [] whole = omega arith
items_few inputs (l ∷ ls) whole = by (is_code_section l.section) refl (items_few inputs ls whole.1)
  where
    by : (b : Bool) → is_code_section l.section ≡ b → 2 * length (flat_map (items_in inputs) ls) ≤ rooms ls → 2 * length (items_in inputs l ++ flat_map (items_in inputs) ls) ≤ rooms (l ∷ ls)
    by true code rest =
        let own : length (items_in inputs l) ≡ length (starts_in l.section) =
        ap length (items_in-code inputs l code) ∙ length-map (starts_in l.section) (λ m. item_in inputs l.section (place_of l m)) in
        omega (
          arith,
          length-append (items_in inputs l) (flat_map (items_in inputs) ls),
          own,
          starts_few l.section code (whole.0 code),
          code_room_is l.section code,
          counted_least l.section.compressed l.section.size,
          (whole.0 code).bytes,
          rest,
          sum_by-cons (λ (m : IndexedSection). code_room m.section) l ls,
        )
    by false other rest =
        omega (
          arith,
          length-append (items_in inputs l) (flat_map (items_in inputs) ls),
          ap length (items_in-other inputs l other),
          rest,
          sum_by-cons (λ (m : IndexedSection). code_room m.section) l ls,
        )

module _ (inputs : Inputs) (none : gather_fault inputs ≡ None) (k : ℕ) (l : IndexedSection) (at : slice_get (all_sections (parsed inputs).objects) k ≡ Some l) where
  abbrev front : List IndexedSection
  front = take k (all_sections (parsed inputs).objects)

  section_found : section_at (parsed inputs).objects l.object l.index ≡ Some l.section
  section_found = listed_at (parsed inputs).objects k l at

  front_more : take (k + 1) (all_sections (parsed inputs).objects) ≡ front ++ l ∷ []
  front_more = take_next (all_sections (parsed inputs).objects) k l at

  -- where the code ends before a section
  pub end_before : (a : ℕ) → a ≡ plain_end_of (parsed inputs) front → a ≡ plain_end_of (parsed inputs) (sections_before (parsed inputs).objects l.object l.index)
  end_before a is = is ∙ ap (plain_end_of (parsed inputs)) (sym (before_number (parsed inputs).objects k l at))

  -- the number of items fits in a word
  pub count_fits : (span : CodeSpan) (places : List CodePlace) → IsCodeSpan (parsed inputs) front span → places ≡ code_places (parsed inputs) l → span.count + length places < 0x100_0000
  count_fits span places is are =
      let all : front ++ drop k (all_sections (parsed inputs).objects) ≡ all_sections (parsed inputs).objects = take-append-drop k (all_sections (parsed inputs).objects) in
      let whole = whole_before front (drop k (all_sections (parsed inputs).objects)) (subst AreWhole (sym all) (all_whole inputs none)) in
      omega (
        arith,
        is.count_is,
        items_few (parsed inputs) front whole,
        rooms_few inputs none,
        ap rooms (sym all),
        sum_by-append (λ (m : IndexedSection). code_room m.section) front (drop k (all_sections (parsed inputs).objects)),
        ap length are,
        few (is_code_section l.section) refl,
      )
    where
      few : (b : Bool) → is_code_section l.section ≡ b → length (cond b (map (code_place (parsed inputs) l) (targets_in l.section)) []) ≤ 0x20_0001
      few true code =
          let whole = inputs_whole inputs l.object l.index l.section none section_found code in
          omega (
            arith,
            length-map (targets_in l.section) (code_place (parsed inputs) l),
            length-append (starts_in l.section) (length l.section.bytes ∷ []),
            starts_few l.section code whole,
            whole.short,
          )
      few false other = omega arith

  -- the last place is the end
  last_place : slice_get (map (code_place (parsed inputs) l) (targets_in l.section)) (length (map (code_place (parsed inputs) l) (targets_in l.section)) - 1) ≡ Some (code_place (parsed inputs) l (length l.section.bytes))
  last_place =
      let count : length (map (code_place (parsed inputs) l) (targets_in l.section)) - 1 ≡ length (starts_in l.section) =
      omega (arith, length-map (targets_in l.section) (code_place (parsed inputs) l), length-append (starts_in l.section) (length l.section.bytes ∷ [])) in
      ap (slice_get (map (code_place (parsed inputs) l) (targets_in l.section))) count
      ∙ slice_get-map (code_place (parsed inputs) l) (targets_in l.section) (length (starts_in l.section)) ∙ ap (option_map (code_place (parsed inputs) l)) (last_got (starts_in l.section) (length l.section.bytes))

  -- with a section that isn't code, the code ends where it ended
  pub none_added : (old : CodeSpan) (places : List CodePlace) → places ≡ code_places (parsed inputs) l → None ≡ slice_get places (length places - 1) → IsCodeSpan (parsed inputs) front old → IsCodeSpan (parsed inputs) (take (k + 1) (all_sections (parsed inputs).objects)) old
  none_added old places are last is = by (is_code_section l.section) refl
    where
      by : (b : Bool) → is_code_section l.section ≡ b → IsCodeSpan (parsed inputs) (take (k + 1) (all_sections (parsed inputs).objects)) old
      by true code =
          let list : places ≡ map (code_place (parsed inputs) l) (targets_in l.section) = are ∙ ap (λ b. cond b (map (code_place (parsed inputs) l) (targets_in l.section)) []) code in
          let missing : None ≡ Some (code_place (parsed inputs) l (length l.section.bytes)) = last ∙ ap (λ ps. slice_get ps (length ps - 1)) list ∙ last_place in
          absurd (cc missing)
      by false other = record {
        end_is = is.end_is ∙ sym (ap (plain_end_of (parsed inputs)) front_more ∙ fold-append (section_end (parsed inputs)) inputs.map.text front (l ∷ []) ∙ section_end-other (parsed inputs) (plain_end_of (parsed inputs) front) l other);
        count_is = is.count_is
            ∙ sym (ap (λ ls. length (flat_map (items_in (parsed inputs)) ls)) front_more ∙ ap length (flat_map-append (items_in (parsed inputs)) front (l ∷ []))
            ∙ length-append (flat_map (items_in (parsed inputs)) front) (items_in (parsed inputs) l ++ [])
            ∙ ap (λ x. length (flat_map (items_in (parsed inputs)) front) + length (x ++ [])) (items_in-other (parsed inputs) l other) ∙ omega arith);
      }

  -- with a section of code, the code ends at the end's address, and has an item for each other place
  pub code_added : (old : CodeSpan) (places : List CodePlace) (end : CodePlace) → places ≡ code_places (parsed inputs) l → Some end ≡ slice_get places (length places - 1) → IsCodeSpan (parsed inputs) front old
      → IsCodeSpan (parsed inputs) (take (k + 1) (all_sections (parsed inputs).objects)) (record { end = end.address; count = old.count + (length places - 1) })
  code_added old places end are last is = by (is_code_section l.section) refl
    where
      by : (b : Bool) → is_code_section l.section ≡ b → IsCodeSpan (parsed inputs) (take (k + 1) (all_sections (parsed inputs).objects)) (record { end = end.address; count = old.count + (length places - 1) })
      by true code =
          let s = l.section in
          let here = code_here inputs l.object l.index s none section_found code in
          let list : places ≡ map (code_place (parsed inputs) l) (targets_in s) = are ∙ ap (λ b. cond b (map (code_place (parsed inputs) l) (targets_in s)) []) code in
          let same : Some end ≡ Some (code_place (parsed inputs) l (length s.bytes)) = last ∙ ap (λ ps. slice_get ps (length ps - 1)) list ∙ last_place in
          let own : end ≡ code_place (parsed inputs) l (length s.bytes) = cc same in
          let address : end.address ≡ section_end (parsed inputs) (plain_end_of (parsed inputs) front) l =
          ap (λ p. p.address) own ∙ ap (λ o. unwrap_or o 0) (place_address (parsed inputs) (place_of l (length s.bytes)) s (here.at (length s.bytes)) (inr refl))
          ∙ offset_end (parsed inputs) (place_of l 0) s code here.whole ∙ ap (λ ls. section_end (parsed inputs) (plain_end_of (parsed inputs) ls) l) (before_number (parsed inputs).objects k l at) in
          let many : length (items_in (parsed inputs) l) ≡ length (starts_in s) = ap length (items_in-code (parsed inputs) l code) ∙ length-map (starts_in s) (λ m. item_in (parsed inputs) s (place_of l m)) in
          record {
            end_is = address ∙ sym (ap (plain_end_of (parsed inputs)) front_more ∙ fold-append (section_end (parsed inputs)) inputs.map.text front (l ∷ []));
            count_is = omega (
              arith,
              is.count_is,
              many,
              ap length list,
              length-map (targets_in s) (code_place (parsed inputs) l),
              length-append (starts_in s) (length s.bytes ∷ []),
              ap (λ ls. length (flat_map (items_in (parsed inputs)) ls)) front_more,
              ap length (flat_map-append (items_in (parsed inputs)) front (l ∷ [])),
              length-append (flat_map (items_in (parsed inputs)) front) (items_in (parsed inputs) l ++ []),
              ap length (append-nil (items_in (parsed inputs) l)),
            );
          }
      by false other =
          let empty : places ≡ [] = are ∙ ap (λ b. cond b (map (code_place (parsed inputs) l) (targets_in l.section)) []) other in
          let missing : Some end ≡ None = last ∙ ap (λ ps. slice_get ps (length ps - 1)) empty in
          absurd (cc missing)

-- ---- addresses

-- what code may lead to has one
pub target_address : (inputs : ParsedInputs) (q : Place) → is_target_at inputs.objects q ≡ true → Some (unwrap_or (plain_address inputs q) 0) ≡ plain_address inputs q
unfolding plain_address
target_address inputs q is = by (code_at inputs.objects q) refl
  where
    by : (o : Option SectionParts) → code_at inputs.objects q ≡ o → Some (unwrap_or (plain_address inputs q) 0) ≡ plain_address inputs q
    by None at = absurd (cc (is, target_nowhere inputs.objects q at))
    by (Some s) at =
        let there : plain_address inputs q ≡ Some (address_on inputs q s) = λ j. cond (is j) (option_map (address_on inputs q) (at j)) None in
        ap (λ o. Some (unwrap_or o 0)) there ∙ sym there
