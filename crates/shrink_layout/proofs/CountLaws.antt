-- Pieces are counted as places are: places of a section have numbers one after another, after that of its padding, so as many
-- pieces meet a test as places whose units do (`units_counted`).
use Rattle.std.proofs.Common.{◌≡◌, ℕ, zero, suc, ◌+◌, ◌%◌, ◌&&◌, ◌<◌, List, [], ◌∷◌, ◌++◌, length, filter, map, drop, take, slice_index, Bool, true, false, cond, Option, Some, None, slice_get, refl, sym, ap, ◌∙◌, arith, eqb, ltb}
use Rattle.std.specs.List.{flat_map, range_with_len, sum_by}
use Rattle.std.specs.Option.{option_map_or}
use Rattle.std.proofs.lemmas.Bool.{le-ltb, lt-ltb}
use Rattle.std.proofs.lemmas.List.Sums.{sum_by-cons}
use Rattle.zc_base.specs.declared.place.Place.{Place}
use Rattle.elf32_read.specs.Parts.{SectionParts, is_code_section}
use Rattle.psabi_sym.specs.Faults.{gather_fault}
use Rattle.psabi_sym.specs.Fixed.{is_fixed_at}
use Rattle.psabi_sym.specs.Inputs.{Inputs, ParsedInputs, parsed}
use Rattle.psabi_sym.specs.Indexed.{IndexedSection, all_sections, section_at, sections_before}
use Rattle.psabi_sym.proofs.SectionNumbers.{before_number, listed_at}
use Rattle.block_cut.specs.Items.{index_on, item_in, place_of, places_of, size_at, size_on, starts_in, starts_on}
use Rattle.block_cut.specs.CodeSizes.{code_step}
use Rattle.block_cut.specs.Whole.{IsWhole}
use Rattle.block_cut.specs.declared.item.Item.{Item}
use Rattle.block_cut.specs.declared.item.Item.TheVariants as item
use Rattle.block_cut.proofs.StartLaws.{Above, IsStep, above_filter, along, among_first, among_later, is_among}
use Rattle.block_cut.proofs.WholeLaws.{inputs_whole}
use Rattle.shrink_layout.specs.Counted.{count_from, is_long_piece, is_short_piece, pieces_with}
use Rattle.shrink_layout.specs.Pieces.{is_short_jump, item_piece_at, jump_piece, kept_piece, piece_at, piece_count, piece_number_at, piece_of, pieces_by, pieces_in, pieces_of, section_alignment, section_pieces, slot_at, unit_piece}
use Rattle.shrink_layout.specs.Settled.{is_long, is_sized, settled_sizes, units_with}
use Rattle.shrink_layout.specs.Units.{CodeUnit, OneGroup, OneItem, OneSite, unit_by}
use Rattle.shrink_layout.specs.declared.piece.Piece.{Piece}
use Rattle.shrink_layout.specs.declared.piece.Piece.TheVariants.{Align}
use Rattle.shrink_layout.proofs.UnitLaws.{held_start, there}
use Rattle.shrink_layout.proofs.NumberLaws.{item_target, length-section_laid, number-code}

-- ---- the starts of a section, by their numbers in it

-- a range whose numbers are all one larger
range_more : (a c : ℕ) → map suc (range_with_len a c) ≡ range_with_len (a + 1) c
range_more a zero = refl
range_more a (suc c) = let next : suc a ≡ a + 1 = omega arith in λ i. next i ∷ range_more (a + 1) c i

-- what begins a list counts for all that come after it
count_more : (n low : ℕ) (xs ys : List ℕ) → n < low → Above low ys
    → map (λ m. length (filter (λ j. ltb j m) (n ∷ xs))) ys ≡ map suc (map (λ m. length (filter (λ j. ltb j m) xs)) ys)
count_more n low xs [] lt above = refl
count_more n low xs (y ∷ ys) lt above =
    let kept : length (filter (λ j. ltb j y) (n ∷ xs)) ≡ suc (length (filter (λ j. ltb j y) xs)) =
    ap (λ b. length (cond b (n ∷ filter (λ j. ltb j y) xs) (filter (λ j. ltb j y) xs))) (lt-ltb n y (omega (arith, lt, above.0))) in
    λ i. kept i ∷ count_more n low xs ys lt above.1 i

module _ (s : SectionParts) (code : is_code_section s ≡ true) (whole : IsWhole s) where
  -- the index of each start is its place in the list
  pub indexes : map (index_on s) (starts_in s) ≡ range_with_len 0 (length (starts_in s))
  indexes = along s code whole (λ n xs. map (λ m. length (filter (λ j. ltb j m) xs)) xs ≡ range_with_len 0 (length xs)) refl each
    where
      each : (n : ℕ) (xs : List ℕ) → n < length s.bytes → n % code_step s.compressed ≡ 0 → IsStep s n → Above (n + size_on s n) xs → map (λ m. length (filter (λ j. ltb j m) xs)) xs ≡ range_with_len 0 (length xs)
          → map (λ m. length (filter (λ j. ltb j m) (n ∷ xs))) (n ∷ xs) ≡ range_with_len 0 (length (n ∷ xs))
      each n xs lt words st above rest =
          let first : length (filter (λ j. ltb j n) (n ∷ xs)) ≡ 0 =
          ap (λ b. length (cond b (n ∷ filter (λ j. ltb j n) xs) (filter (λ j. ltb j n) xs))) (le-ltb n n (omega arith))
          ∙ ap length (above_filter (n + size_on s n) n xs above (omega arith)) in
          λ i. first i ∷ (count_more n (n + size_on s n) xs xs (omega (arith, st.some)) above ∙ ap (map suc) rest ∙ range_more 0 (length xs)) i

-- ---- tests

module _ (inputs : ParsedInputs) where
  -- the piece of a jump counts by its size, whether it has a short form or not
  jump_counts : (to : Place) (short : Bool) (size : ℕ) → (is_short_piece (jump_piece inputs.objects to short) size ≡ eqb size 2) × (is_long_piece (jump_piece inputs.objects to short) size ≡ false)
  jump_counts to true size = (refl, refl)
  jump_counts to false size = (refl, refl)

  -- an item's piece is short if the item takes two bytes, and long if it is a branch that takes eight
  item_counts :
      (i : Item) (size : ℕ) → (is_short_piece (piece_of inputs i) size ≡ is_sized 2 size (OneItem i)) × (is_long_piece (piece_of inputs i) size ≡ is_long size (OneItem i))
  item_counts (item.Op i) size = (refl, refl)
  item_counts (item.Hi i t) size = (refl, refl)
  item_counts (item.Lo i t) size = (refl, refl)
  item_counts (item.PcHi i t) size = (refl, refl)
  item_counts (item.PcLo i q) size = (refl, refl)
  item_counts (item.Branch op first second to) size = (refl, refl)
  item_counts (item.Jump rd to) size = jump_counts to (is_short_jump rd) size
  item_counts (item.Call rd temp to) size = jump_counts to (is_short_jump rd) size
  item_counts (item.Align bytes) size = (refl, refl)
  item_counts (item.Word t) size = (refl, refl)
  item_counts (item.Raw word) size = (refl, refl)
  item_counts (item.RawShort half) size = (refl, refl)
  item_counts (item.RawPair first second) size = (refl, refl)

  -- so is its piece in a fixed section
  kept_counts :
      (own : ℕ) (i : Item) (size : ℕ) → (is_short_piece (kept_piece inputs own i) size ≡ is_sized 2 size (OneItem i)) × (is_long_piece (kept_piece inputs own i) size ≡ is_long size (OneItem i))
  kept_counts own (item.Op i) size = (refl, refl)
  kept_counts own (item.Hi i t) size = (refl, refl)
  kept_counts own (item.Lo i t) size = (refl, refl)
  kept_counts own (item.PcHi i t) size = (refl, refl)
  kept_counts own (item.PcLo i q) size = (refl, refl)
  kept_counts own (item.Branch op first second to) size = (refl, refl)
  kept_counts own (item.Jump rd to) size = jump_counts to (eqb own 2 && is_short_jump rd) size
  kept_counts own (item.Call rd temp to) size = (refl, refl)
  kept_counts own (item.Align bytes) size = (refl, refl)
  kept_counts own (item.Word t) size = (refl, refl)
  kept_counts own (item.Raw word) size = (refl, refl)
  kept_counts own (item.RawShort half) size = (refl, refl)
  kept_counts own (item.RawPair first second) size = (refl, refl)

  -- and its piece at any place
  here_counts :
      (q : Place) (i : Item) (size : ℕ) → (is_short_piece (item_piece_at inputs q i) size ≡ is_sized 2 size (OneItem i)) × (is_long_piece (item_piece_at inputs q i) size ≡ is_long size (OneItem i))
  here_counts q i size = by (is_fixed_at inputs q.object q.section)
    where
      by : (b : Bool) → let p : Piece = cond b (kept_piece inputs (size_at inputs.objects q) i) (piece_of inputs i) in
          (is_short_piece p size ≡ is_sized 2 size (OneItem i)) × (is_long_piece p size ≡ is_long size (OneItem i))
      by true = kept_counts (size_at inputs.objects q) i size
      by false = item_counts i size

module _ (inputs : ParsedInputs) (q : Place) where
  -- what is written at a place counts as its piece; what is written together counts as neither
  pub unit_short : (o : Option CodeUnit) (size : ℕ) → is_short_piece (unit_piece inputs q o) size ≡ option_map_or (is_sized 2 size) o false
  unit_short None size = refl
  unit_short (Some (OneItem i)) size = (here_counts inputs q i size).0
  unit_short (Some (OneGroup g)) size = refl
  unit_short (Some (OneSite n)) size = refl

  pub unit_long : (o : Option CodeUnit) (size : ℕ) → is_long_piece (unit_piece inputs q o) size ≡ option_map_or (is_long size) o false
  unit_long None size = refl
  unit_long (Some (OneItem i)) size = (here_counts inputs q i size).1
  unit_long (Some (OneGroup g)) size = refl
  unit_long (Some (OneSite n)) size = refl

-- ---- counts

-- the counts of two lists
count_append : (test : Piece → ℕ → Bool) (sizes : List ℕ) (k : ℕ) (first second : List Piece)
    → count_from test sizes k (first ++ second) ≡ count_from test sizes k first + count_from test sizes (k + length first) second
count_append test sizes k [] second =
    let same : k + 0 ≡ k = omega arith in
    omega (arith, ap (λ n. count_from test sizes n second) same)
count_append test sizes k (p ∷ first) second =
    let rest = count_append test sizes (k + 1) first second in
    let same : k + 1 + length first ≡ k + length (p ∷ first) = omega arith in
    omega (arith, rest, ap (λ n. count_from test sizes n second) same)

-- what passes of two lists
pub passed_append : {X : Type 0} (test : X → Bool) (first second : List X) → length (filter test (first ++ second)) ≡ length (filter test first) + length (filter test second)
passed_append test [] second = omega arith
passed_append {X = X} test (x ∷ first) second = by (test x) (passed_append test first second)
  where
    by : (b : Bool) → length (filter test (first ++ second)) ≡ length (filter test first) + length (filter test second)
        → length (cond b (x ∷ filter test (first ++ second)) (filter test (first ++ second))) ≡ length (cond b (x ∷ filter test first) (filter test first)) + length (filter test second)
    by true rest = omega (arith, rest)
    by false rest = omega (arith, rest)

module _
    (inputs : ParsedInputs) (slot : Place → Option ℕ) (sizes : List ℕ) (of_piece : Piece → ℕ → Bool) (of_unit : ℕ → CodeUnit → Bool)
    (padding : (alignment size : ℕ) → of_piece (Align alignment) size ≡ false)
    (unit : (q : Place) (o : Option CodeUnit) (size : ℕ) → of_piece (unit_piece inputs q o) size ≡ option_map_or (of_unit size) o false) where
  -- whether the unit at a place passes
  abbrev passes : Place → Bool
  passes q = option_map_or (of_unit (slice_index sizes (piece_number_at inputs.objects q))) (unit_by inputs slot q) false

  module _ (l : IndexedSection) (here : section_at inputs.objects l.object l.index ≡ Some l.section) (code : is_code_section l.section ≡ true) where
    -- the number of the first place
    abbrev first : ℕ
    first = 1 + sum_by piece_count (sections_before inputs.objects l.object l.index) + 1

    number_here : (n : ℕ) → starts_on l.section n ≡ true → piece_number_at inputs.objects (place_of l n) ≡ first + index_on l.section n
    number_here n start =
        let target = item_target inputs (place_of l n) (item_in inputs l.section (place_of l n)) (held_start inputs l here code n start) in
        omega (arith, number-code inputs.objects (place_of l n) l.section target (there inputs l here code n))

    -- of places with numbers one after another as many pass as pieces
    counted : (ns : List ℕ) → ((n : ℕ) → is_among n ns ≡ true → starts_on l.section n ≡ true) → (a : ℕ) → map (index_on l.section) ns ≡ range_with_len a (length ns)
        → count_from of_piece sizes (first + a) (map (piece_at inputs slot) (map (place_of l) ns)) ≡ length (filter passes (map (place_of l) ns))
    counted [] are a numbers = refl
    counted (n ∷ ns) are a numbers =
        let q = place_of l n in
        let start = are n (among_first n n ns refl) in
        let index : index_on l.section n ≡ a = ap (λ l. slice_index l 0) numbers in
        let number : piece_number_at inputs.objects q ≡ first + a = number_here n start ∙ ap (λ k. first + k) index in
        let one : of_piece (piece_at inputs slot q) (slice_index sizes (first + a)) ≡ passes q =
        unit q (unit_by inputs slot q) (slice_index sizes (first + a))
        ∙ sym (λ j. option_map_or (of_unit (slice_index sizes (number j))) (unit_by inputs slot q) false) in
        let rest = counted ns (λ m is. are m (among_later n m ns is)) (a + 1) (ap (drop 1) numbers) in
        let next : first + (a + 1) ≡ first + a + 1 = omega arith in
        ap (λ b. cond {A = ℕ} b 1 0 + count_from of_piece sizes (first + a + 1) (map (piece_at inputs slot) (map (place_of l) ns))) one
        ∙ by (passes q) (ap (λ k. count_from of_piece sizes k (map (piece_at inputs slot) (map (place_of l) ns))) (sym next) ∙ rest)
      where
        by : (b : Bool) {x : ℕ} → x ≡ length (filter passes (map (place_of l) ns))
            → cond {A = ℕ} b 1 0 + x ≡ length (cond b (place_of l n ∷ filter passes (map (place_of l) ns)) (filter passes (map (place_of l) ns)))
        by true same = omega (arith, same)
        by false same = omega (arith, same)

  -- of the places of a section as many pass as pieces
  section_counted : (l : IndexedSection) → section_at inputs.objects l.object l.index ≡ Some l.section → (is_code_section l.section ≡ true → IsWhole l.section)
      → count_from of_piece sizes (1 + sum_by piece_count (sections_before inputs.objects l.object l.index)) (section_pieces inputs slot l) ≡ length (filter passes (places_of l))
  section_counted l here whole = by (is_code_section l.section) refl
    where
      k : ℕ
      k = 1 + sum_by piece_count (sections_before inputs.objects l.object l.index)

      places : Bool → List Place
      places b = cond b (map (place_of l) (starts_in l.section)) []

      by : (b : Bool) → is_code_section l.section ≡ b
          → count_from of_piece sizes k (cond b (Align (section_alignment inputs l) ∷ map (piece_at inputs slot) (places b)) []) ≡ length (filter passes (places b))
      by true code =
          let pad = padding (section_alignment inputs l) (slice_index sizes k) in
          let own = counted l here code (starts_in l.section) (λ m is. is) 0 (indexes l.section code (whole code)) in
          let same : first l here code + 0 ≡ k + 1 = omega arith in
          let places_of_code = map (piece_at inputs slot) (map (place_of l) (starts_in l.section)) in
          omega (arith, ap (λ b. cond {A = ℕ} b 1 0) pad, ap (λ n. count_from of_piece sizes n places_of_code) same, own)
      by false other = refl

  -- of the places of sections one after another as many pass as pieces
  sections_counted : (k : ℕ) (ls : List IndexedSection)
      → ((j : ℕ) (l : IndexedSection) → slice_get ls j ≡ Some l → count_from of_piece sizes (k + sum_by piece_count (take j ls)) (section_pieces inputs slot l) ≡ length (filter passes (places_of l)))
      → count_from of_piece sizes k (pieces_in inputs slot ls) ≡ length (filter passes (flat_map places_of ls))
  sections_counted k [] each = refl
  sections_counted k (l ∷ ls) each =
      let first : k + 0 ≡ k = omega arith in
      let own = ap (λ n. count_from of_piece sizes n (section_pieces inputs slot l)) (sym first) ∙ each 0 l refl in
      let long = length-section_laid (λ m. Align (section_alignment inputs m)) (piece_at inputs slot) l in
      let rest = sections_counted (k + piece_count l) ls (λ j m is.
      let there : k + piece_count l + sum_by piece_count (take j ls) ≡ k + sum_by piece_count (take (suc j) (l ∷ ls)) = omega (arith, sum_by-cons piece_count l (take j ls)) in
      ap (λ n. count_from of_piece sizes n (section_pieces inputs slot m)) there ∙ each (suc j) m is) in
      omega (
        arith,
        count_append of_piece sizes k (section_pieces inputs slot l) (pieces_in inputs slot ls),
        ap (λ n. count_from of_piece sizes (k + n) (pieces_in inputs slot ls)) long,
        own,
        rest,
        passed_append passes (places_of l) (flat_map places_of ls),
      )

-- ---- all places

pub units_counted :
    (inputs : Inputs) → gather_fault inputs ≡ None → (slots : List (Option Place)) (of_piece : Piece → ℕ → Bool) (of_unit : ℕ → CodeUnit → Bool)
    → ((alignment size : ℕ) → of_piece (Align alignment) size ≡ false)
    → ((q : Place) (o : Option CodeUnit) (size : ℕ) → of_piece (unit_piece (parsed inputs) q o) size ≡ option_map_or (of_unit size) o false)
    → pieces_with of_piece (pieces_of (parsed inputs) slots) (settled_sizes (parsed inputs) slots) ≡ units_with (parsed inputs) slots of_unit
unfolding pieces_by pieces_of
units_counted inputs none slots of_piece of_unit padding unit =
    let given = parsed inputs in
    let slot = slot_at given slots in
    let all = all_sections given.objects in
    let sizes = settled_sizes given slots in
    sections_counted given slot sizes of_piece of_unit padding unit 1 all (λ k l is.
    let here = listed_at given.objects k l is in
    ap (λ ls. count_from of_piece sizes (1 + sum_by piece_count ls) (section_pieces given slot l)) (sym (before_number given.objects k l is))
    ∙ section_counted given slot sizes of_piece of_unit padding unit l here (inputs_whole inputs l.object l.index l.section none here))
