-- Where places stand in the list of pieces. In inputs without a fault between objects:
-- - `place_piece`: the piece with an item's number is that of its place;
-- - `number_next`: the place after an item has the next number;
-- - `number_most`, `number_below`: numbers are at most the number of pieces, and those of items are below it.
use Rattle.std.proofs.Common.{◌≡◌, ℕ, ◌+◌, ◌<◌, ◌≤◌, ◌⊎◌, inl, inr, List, [], ◌∷◌, ◌++◌, length, filter, map, Bool, true, false, cond, Option, Some, None, slice_get, refl, sym, ap, ◌∙◌, arith, append_assoc, eqb, ltb}
use Rattle.std.specs.Prelude.{◌||◌}
use Rattle.std.specs.List.{flat_map, sum_by}
use Rattle.std.specs.Option.{option_map_or}
use Rattle.std.proofs.lemmas.Bool.{eqb-true, lt-ltb, ltb-true}
use Rattle.std.proofs.lemmas.Grind.{flat_map-append}
use Rattle.std.proofs.lemmas.List.{length-append, length-map, map-append}
use Rattle.std.proofs.lemmas.List.Sums.{sum_by-append, sum_by-cons}
use Rattle.std.proofs.lemmas.Option.{slice_get_within}
use Rattle.zc_base.specs.declared.place.Place.{Place}
use Rattle.elf32_read.specs.Parts.{ObjectParts, SectionParts, is_code_section}
use Rattle.psabi_sym.specs.Faults.{gather_fault}
use Rattle.psabi_sym.specs.Inputs.{Inputs, ParsedInputs, parsed}
use Rattle.psabi_sym.specs.Indexed.{IndexedSection, all_sections, section_at, sections_before}
use Rattle.psabi_sym.proofs.BridgeLaws.{map-map}
use Rattle.block_cut.specs.Items.{code_at, is_end_at, is_start_at, is_target_at, item_at, next_at, place_of, places_of, size_on, starts_in, starts_on}
use Rattle.block_cut.specs.Whole.{IsWhole}
use Rattle.block_cut.specs.declared.item.Item.{Item}
use Rattle.block_cut.proofs.ItemLaws.{item_found}
use Rattle.block_cut.proofs.ListedLaws.{cut_at, listed}
use Rattle.block_cut.proofs.PlainLaws.{next_start}
use Rattle.block_cut.proofs.StartLaws.{before_end_all, before_next_start, front, is_among, start_is, step}
use Rattle.block_cut.proofs.WholeLaws.{code_is_section, code_whole}
use Rattle.shrink_layout.specs.Pieces.{piece_at, piece_count, piece_number_at, pieces_before, pieces_by, pieces_of, section_alignment, slot_at, unit_at, unit_piece}
use Rattle.shrink_layout.specs.Units.{CodeUnit, front_size}
use Rattle.shrink_layout.specs.declared.piece.Piece.TheVariants.{Fixed, Align}
use Rattle.shrink_layout.proofs.UnitLaws.{found_item, unit_found}

-- the place at an offset of a section
abbrev pub place_at : ℕ → ℕ → ℕ → Place
place_at o i n = record { object = o; section = i; offset = n }

-- ---- lists that are laid as pieces are

-- what there is for the padding of a section of code and for each of its items, as `pieces_in` has it for pieces
module _ {X : Type 0} (pad : IndexedSection → X) (f : Place → X) where
  abbrev pub section_laid : IndexedSection → List X
  section_laid l = cond (is_code_section l.section) (pad l ∷ map f (places_of l)) []

  abbrev pub laid_in : List IndexedSection → List X
  laid_in ls = flat_map section_laid ls

  -- a section of code has its padding and its items as pieces, and any other section none
  pub length-section_laid : (l : IndexedSection) → length (section_laid l) ≡ piece_count l
  length-section_laid l = by (is_code_section l.section)
    where
      by : (b : Bool) → length (cond b (pad l ∷ map f (cond b (map (place_of l) (starts_in l.section)) [])) []) ≡ cond {A = ℕ} b (1 + length (starts_in l.section)) 0
      by true = omega (arith, length-map (map (place_of l) (starts_in l.section)) f, length-map (starts_in l.section) (place_of l))
      by false = refl

  -- the pieces of sections one after another
  pub length-laid_in : (ls : List IndexedSection) → length (laid_in ls) ≡ sum_by piece_count ls
  length-laid_in [] = refl
  length-laid_in (l ∷ ls) =
      omega (
        arith,
        length-append (section_laid l) (laid_in ls),
        length-section_laid l,
        length-laid_in ls,
        sum_by-cons piece_count l ls,
      )

  -- a section of code
  pub section_laid-code : (o i : ℕ) (s : SectionParts) → is_code_section s ≡ true → section_laid (listed o i s) ≡ pad (listed o i s) ∷ map (λ m. f (place_at o i m)) (starts_in s)
  section_laid-code o i s code =
      (λ j. cond (code j) (pad (listed o i s) ∷ map f (cond (code j) (map (place_at o i) (starts_in s)) [])) [])
      ∙ ap (λ xs. pad (listed o i s) ∷ xs) (map-map f (place_at o i) (starts_in s))

  -- what is laid for all is that of the sections before one of code, that of its padding and its items, and the rest
  pub record IsCutInto (objects : List ObjectParts) (o i : ℕ) (s : SectionParts) : Type 0 where
    pub rest : List X
    pub are : laid_in (all_sections objects) ≡ laid_in (sections_before objects o i) ++ pad (listed o i s) ∷ (map (λ m. f (place_at o i m)) (starts_in s) ++ rest)

  -- the pieces of all code are those before a section of code, its own, and those after it
  pub cut_into : (objects : List ObjectParts) (o i : ℕ) (s : SectionParts) → section_at objects o i ≡ Some s → is_code_section s ≡ true → IsCutInto objects o i s
  cut_into objects o i s found code =
      let cut = cut_at objects o i s found in
      let before = sections_before objects o i in
      record {
        rest = laid_in cut.rest;
        are = ap laid_in cut.all_are ∙ flat_map-append section_laid before (listed o i s ∷ cut.rest)
            ∙ ap (λ xs. laid_in before ++ (xs ++ laid_in cut.rest)) (section_laid-code o i s code);
      }

-- ---- starts below an offset

-- no more pass a test than there are
pub filter_few : (p : ℕ → Bool) (xs : List ℕ) → length (filter p xs) ≤ length xs
filter_few p [] = omega arith
filter_few p (x ∷ xs) = by (p x) (filter_few p xs)
  where
    by : (b : Bool) → length (filter p xs) ≤ length xs → length (cond b (x ∷ filter p xs) (filter p xs)) ≤ length (x ∷ xs)
    by true le = omega arith
    by false le = omega arith

-- below a greater offset there are as many or more
pub below_rises : (n m : ℕ) (xs : List ℕ) → n ≤ m → length (filter (λ k. ltb k n) xs) ≤ length (filter (λ k. ltb k m) xs)
below_rises n m [] le = omega arith
below_rises n m (x ∷ xs) le = by (ltb x n) refl (ltb x m) refl (below_rises n m xs le)
  where
    by : (a : Bool) → ltb x n ≡ a → (b : Bool) → ltb x m ≡ b → length (filter (λ k. ltb k n) xs) ≤ length (filter (λ k. ltb k m) xs)
        → length (cond a (x ∷ filter (λ k. ltb k n) xs) (filter (λ k. ltb k n) xs)) ≤ length (cond b (x ∷ filter (λ k. ltb k m) xs) (filter (λ k. ltb k m) xs))
    by true low true high rest = omega arith
    by true low false high rest = let over : ltb x m ≡ true = lt-ltb x m (omega (arith, ltb-true x n low)) in absurd (cc (over, high))
    by false low true high rest = omega arith
    by false low false high rest = omega arith

-- below an offset after a start there are more
pub below_more : (n m : ℕ) (xs : List ℕ) → n < m → is_among n xs ≡ true → length (filter (λ k. ltb k n) xs) < length (filter (λ k. ltb k m) xs)
below_more n m [] lt is = absurd cc
below_more n m (x ∷ xs) lt is = by (ltb x n) refl (ltb x m) refl (eqb x n) refl is (below_rises n m xs (omega arith)) (below_more n m xs lt)
  where
    by : (a : Bool) → ltb x n ≡ a → (b : Bool) → ltb x m ≡ b → (e : Bool) → eqb x n ≡ e → (e || is_among n xs) ≡ true
        → length (filter (λ k. ltb k n) xs) ≤ length (filter (λ k. ltb k m) xs) → (is_among n xs ≡ true → length (filter (λ k. ltb k n) xs) < length (filter (λ k. ltb k m) xs))
        → length (cond a (x ∷ filter (λ k. ltb k n) xs) (filter (λ k. ltb k n) xs)) < length (cond b (x ∷ filter (λ k. ltb k m) xs) (filter (λ k. ltb k m) xs))
    by true low true high true same there as_many more = absurd (omega (arith, ltb-true x n low, eqb-true x n same))
    by true low true high false same there as_many more = omega (arith, more there)
    by true low false high e same there as_many more = let over : ltb x m ≡ true = lt-ltb x m (omega (arith, ltb-true x n low)) in absurd (cc (over, high))
    by false low true high true same there as_many more = omega (arith, as_many)
    by false low true high false same there as_many more = omega (arith, more there)
    by false low false high true same there as_many more = let over : ltb x m ≡ true = lt-ltb x m (omega (arith, eqb-true x n same)) in absurd (cc (over, high))
    by false low false high false same there as_many more = omega (arith, more there)

-- the starts are those before one, itself, and the rest
pub record AreCutAt (s : SectionParts) (n : ℕ) : Type 0 where
  pub rest : List ℕ
  pub are : starts_in s ≡ filter (λ m. ltb m n) (starts_in s) ++ n ∷ rest

-- the starts of a section are those before each start, that start, and those after it
pub starts_cut : (s : SectionParts) → is_code_section s ≡ true → IsWhole s → (n : ℕ) → starts_on s n ≡ true → AreCutAt s n
starts_cut s code whole n start =
    let own = start_is s code whole n start in
    let st = step s code whole n own.words own.inside in
    let more = front s code whole (n + size_on s n) (length s.bytes) st.inside in
    record {
      rest = more.rest;
      are = sym (before_end_all s code whole) ∙ more.are ∙ ap (λ l. l ++ more.rest) (before_next_start s code whole n start)
          ∙ append_assoc (filter (λ m. ltb m n) (starts_in s)) (n ∷ []) more.rest;
    }

-- ---- numbers

-- the number of a place where code may lead
pub number-code : (objects : List ObjectParts) (q : Place) (s : SectionParts) → is_target_at objects q ≡ true → code_at objects q ≡ Some s
    → piece_number_at objects q ≡ pieces_before objects q.object q.section s q.offset
number-code objects q s target at = λ j. cond (target j) (option_map_or (λ t. pieces_before objects q.object q.section t q.offset) (at j) 0) 0

-- the number of a place where code may not lead
pub number-nowhere : (objects : List ObjectParts) (q : Place) → is_target_at objects q ≡ false → piece_number_at objects q ≡ 0
number-nowhere objects q other = ap (λ b. cond b (option_map_or (λ t. pieces_before objects q.object q.section t q.offset) (code_at objects q) 0) 0) other

-- code may lead to an item
pub item_target : (inputs : ParsedInputs) (q : Place) (i : Item) → item_at inputs q ≡ Some i → is_target_at inputs.objects q ≡ true
item_target inputs q i is =
    let found = item_found inputs q i is in
    ap (λ o. option_map_or (λ t. starts_on t q.offset) o false || is_end_at inputs.objects q) found.code
    ∙ ap (λ b. b || is_end_at inputs.objects q) found.start

-- there are as many pieces as sections and items, and one for the table with its stub
pub length-pieces_of : (inputs : ParsedInputs) (slots : List (Option Place)) → length (pieces_of inputs slots) ≡ 1 + sum_by piece_count (all_sections inputs.objects)
unfolding pieces_by pieces_of
length-pieces_of inputs slots =
    let all = length-laid_in (λ l. Align (section_alignment inputs l)) (piece_at inputs (slot_at inputs slots)) (all_sections inputs.objects) in
    omega (arith, all)

-- whatever slots there are
pub same_length : (inputs : ParsedInputs) (slots others : List (Option Place)) → length (pieces_of inputs slots) ≡ length (pieces_of inputs others)
same_length inputs slots others = length-pieces_of inputs slots ∙ sym (length-pieces_of inputs others)

-- no more stand before an offset than there are
pub before_most : (inputs : ParsedInputs) (slots : List (Option Place)) (o i : ℕ) (s : SectionParts) (n : ℕ) → section_at inputs.objects o i ≡ Some s → is_code_section s ≡ true
    → pieces_before inputs.objects o i s n ≤ length (pieces_of inputs slots)
before_most inputs slots o i s n found code =
    let cut = cut_at inputs.objects o i s found in
    let l = listed o i s in
    let own : piece_count l ≡ 1 + length (starts_in s) = ap (λ b. cond b (1 + length (starts_in s)) 0) code in
    omega (
      arith,
      length-pieces_of inputs slots,
      ap (sum_by piece_count) cut.all_are,
      sum_by-append piece_count (sections_before inputs.objects o i) (l ∷ cut.rest),
      sum_by-cons piece_count l cut.rest,
      own,
      filter_few (λ m. ltb m n) (starts_in s),
    )

-- nor before a place
pub number_most : (inputs : ParsedInputs) (slots : List (Option Place)) (q : Place) → piece_number_at inputs.objects q ≤ length (pieces_of inputs slots)
number_most inputs slots q = by (is_target_at inputs.objects q) refl (code_at inputs.objects q) refl
  where
    by : (b : Bool) → is_target_at inputs.objects q ≡ b → (o : Option SectionParts) → code_at inputs.objects q ≡ o → piece_number_at inputs.objects q ≤ length (pieces_of inputs slots)
    by false other o at = omega (arith, number-nowhere inputs.objects q other)
    by true target None at =
        omega (arith, ap (λ o. cond (is_target_at inputs.objects q) (option_map_or (λ t. pieces_before inputs.objects q.object q.section t q.offset) o 0) 0) at, ap (λ b. cond {A = ℕ} b 0 0) target)
    by true target (Some s) at =
        let two = code_is_section inputs.objects q s at in
        omega (arith, number-code inputs.objects q s target at, before_most inputs slots q.object q.section s q.offset two.0 two.1)

-- the element after a list
pub behind : {X : Type 0} (xs : List X) (y : X) (ys : List X) → slice_get (xs ++ y ∷ ys) (length xs) ≡ Some y
behind [] y ys = refl
behind (x ∷ xs) y ys = behind xs y ys

module _ (inputs : Inputs) (none : gather_fault inputs ≡ None) where
  abbrev given : ParsedInputs
  given = parsed inputs

  -- what is laid for an item has its place's number
  pub laid_there : {X : Type 0} (first : X) (pad : IndexedSection → X) (f : Place → X) (q : Place) (i : Item) → item_at given q ≡ Some i
      → slice_get (first ∷ laid_in pad f (all_sections given.objects)) (piece_number_at given.objects q) ≡ Some (f q)
  laid_there {X = X} first pad f q i is =
      let found = item_found given q i is in
      let s = found.section in
      let two = code_is_section given.objects q s found.code in
      let cut = cut_into pad f given.objects q.object q.section s two.0 two.1 in
      let starts = starts_cut s two.1 (code_whole inputs q s none found.code) q.offset found.start in
      let g : ℕ → X = λ m. f (place_at q.object q.section m) in
      let before = filter (λ m. ltb m q.offset) (starts_in s) in
      let own = laid_in pad f (sections_before given.objects q.object q.section) in
      let padding = pad (listed q.object q.section s) in
      let head = (first ∷ own) ++ padding ∷ map g before in
      let items : map g (starts_in s) ≡ map g before ++ g q.offset ∷ map g starts.rest = ap (map g) starts.are ∙ map-append g before (q.offset ∷ starts.rest) in
      let all : first ∷ laid_in pad f (all_sections given.objects) ≡ head ++ g q.offset ∷ (map g starts.rest ++ cut.rest) =
      ap (λ xs. first ∷ xs) cut.are
      ∙ ap (λ l. (first ∷ own) ++ padding ∷ l) (ap (λ l. l ++ cut.rest) items ∙ append_assoc (map g before) (g q.offset ∷ map g starts.rest) cut.rest)
      ∙ sym (append_assoc (first ∷ own) (padding ∷ map g before) (g q.offset ∷ (map g starts.rest ++ cut.rest))) in
      let number : piece_number_at given.objects q ≡ length head =
      omega (
        arith,
        number-code given.objects q s (item_target given q i is) found.code,
        length-append own (padding ∷ map g before),
        length-map before g,
        length-laid_in pad f (sections_before given.objects q.object q.section),
      ) in
      (λ j. slice_get (all j) (number j)) ∙ behind head (g q.offset) (map g starts.rest ++ cut.rest)

  -- the piece with the number of a place is the one at that place
  pub place_piece : (slots : List (Option Place)) (q : Place) (i : Item) → item_at given q ≡ Some i
      → slice_get (pieces_of given slots) (piece_number_at given.objects q) ≡ Some (piece_at given (slot_at given slots) q)
  unfolding pieces_by pieces_of
  place_piece slots q i is = laid_there (Fixed (front_size slots)) (λ l. Align (section_alignment given l)) (piece_at given (slot_at given slots)) q i is

  -- which is that of what is written there
  pub unit_there : (slots : List (Option Place)) (q : Place) (u : CodeUnit) → unit_at given slots q ≡ Some u
      → slice_get (pieces_of given slots) (piece_number_at given.objects q) ≡ Some (unit_piece given q (Some u))
  unit_there slots q u is =
      let at = found_item given q (unit_found given (slot_at given slots) q u is) in
      place_piece slots q at.0 at.1 ∙ ap (λ o. Some (unit_piece given q o)) is

  -- the number of a place is below the number of pieces
  pub number_below : (slots : List (Option Place)) (q : Place) (i : Item) → item_at given q ≡ Some i → piece_number_at given.objects q < length (pieces_of given slots)
  number_below slots q i is =
      slice_get_within (pieces_of given slots) (piece_number_at given.objects q) (piece_at given (slot_at given slots) q) (place_piece slots q i is)

  -- code may lead to what follows an item
  pub next_target : (q : Place) (i : Item) → item_at given q ≡ Some i → is_target_at given.objects (next_at given.objects q) ≡ true
  next_target q i is = by (next_start inputs none q i is)
    where
      or_true : (b : Bool) → (b || true) ≡ true
      or_true true = refl
      or_true false = refl

      by : (is_start_at given.objects (next_at given.objects q) ≡ true) ⊎ (is_end_at given.objects (next_at given.objects q) ≡ true) → is_target_at given.objects (next_at given.objects q) ≡ true
      by (inl start) = ap (λ b. b || is_end_at given.objects (next_at given.objects q)) start
      by (inr end) = ap (λ b. is_start_at given.objects (next_at given.objects q) || b) end ∙ or_true (is_start_at given.objects (next_at given.objects q))

  -- the place after it has the next one
  pub number_next : (q : Place) (i : Item) → item_at given q ≡ Some i → piece_number_at given.objects (next_at given.objects q) ≡ piece_number_at given.objects q + 1
  number_next q i is =
      let found = item_found given q i is in
      let s = found.section in
      let two = code_is_section given.objects q s found.code in
      let whole = code_whole inputs q s none found.code in
      let next : next_at given.objects q ≡ place_at q.object q.section (q.offset + size_on s q.offset) =
      ap (λ o. place_at q.object q.section (q.offset + option_map_or (λ t. size_on t q.offset) o 4)) found.code in
      let before = filter (λ m. ltb m q.offset) (starts_in s) in
      omega (
        arith,
        ap (piece_number_at given.objects) next,
        number-code given.objects (place_at q.object q.section (q.offset + size_on s q.offset)) s (ap (is_target_at given.objects) (sym next) ∙ next_target q i is) found.code,
        number-code given.objects q s (item_target given q i is) found.code,
        ap length (before_next_start s two.1 whole q.offset found.start),
        length-append before (q.offset ∷ []),
      )
