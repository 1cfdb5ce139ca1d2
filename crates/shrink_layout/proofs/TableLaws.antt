-- The table pays: if there is no ALIGN, and no code aligned above 4 bytes, the text with it is no longer than that without, but
-- for the table and its stub, and less 2 bytes for each jump or call through it (`table_pays_off`). Its pieces are those without
-- it, but for these jumps, which took 4 bytes.
use Rattle.std.proofs.Common.{◌≡◌, ◌∙◌, ℕ, zero, suc, ◌+◌, ◌*◌, ◌%◌, ◌≤◌, List, [], ◌∷◌, ◌++◌, Bool, true, false, cond, filter, length, map, take, Option, Some, None, slice_get, slice_index, refl, sym, ap, subst, arith}
use Rattle.std.specs.List.{flat_map, sum_by}
use Rattle.std.specs.Option.{option_and_then, option_map_or}
use Rattle.std.proofs.lemmas.List.{length-append}
use Rattle.std.proofs.lemmas.List.Elements.{All-tail, All-weaker, filter-append}
use Rattle.std.proofs.lemmas.List.Sums.{sum_by-cons}
use Rattle.std.proofs.lemmas.Option.{none-some, same_Some}
use Rattle.zc_base.specs.declared.place.Place.{Place}
use Rattle.elf32_read.specs.Parts.{is_code_section}
use Rattle.psabi_sym.specs.Faults.{gather_fault}
use Rattle.psabi_sym.specs.Inputs.{Inputs, ParsedInputs, parsed}
use Rattle.psabi_sym.specs.Indexed.{IndexedSection, all_sections, section_at, sections_before}
use Rattle.psabi_sym.proofs.SectionNumbers.{before_number, listed_at}
use Rattle.block_cut.specs.Faults.{first_fault}
use Rattle.block_cut.specs.Items.{item_at, place_of, places_of, starts_in}
use Rattle.block_cut.specs.declared.item.Item.{Item}
use Rattle.frame_match.specs.Groups.{role_at}
use Rattle.frame_match.specs.declared.role.Role.{Role}
use Rattle.frame_match.specs.declared.role.Role.TheVariants.{Alone, First, Inside}
use Rattle.shrink_layout.specs.Forms.{IsEvenPiece, target}
use Rattle.shrink_layout.specs.Layout.{IsLayout, addresses_of, sizes_of}
use Rattle.shrink_layout.specs.Least.{AreForms, IsTight}
use Rattle.shrink_layout.specs.Pieces.{is_unaligned, piece_at, piece_count, piece_number_at, pieces_by, pieces_in, pieces_of, section_alignment, section_pieces, slot_at, unit_at, unit_piece}
use Rattle.shrink_layout.specs.Settled.{is_site, settled_addresses, settled_end, settled_sizes, units_with}
use Rattle.shrink_layout.specs.Table.{TablePays}
use Rattle.shrink_layout.specs.Units.{CodeUnit, OneGroup, OneItem, OneSite, front_size, role_unit}
use Rattle.shrink_layout.specs.declared.piece.Piece.{Piece}
use Rattle.shrink_layout.specs.declared.piece.Piece.TheVariants.{Fixed, WithOthers, Align}
use Rattle.shrink_layout.proofs.HeldLaws.{got_of}
use Rattle.shrink_layout.proofs.NumberLaws.{laid_in, length-laid_in, length-section_laid, section_laid}
use Rattle.shrink_layout.proofs.PremiseLaws.{Each, all_even, all_of, all_tight, each-append, targets}
use Rattle.shrink_layout.proofs.RoundLaws.{length_forms}
use Rattle.shrink_layout.proofs.SiteLaws.{first_settled, site_found, slot_found}
use Rattle.shrink_layout.proofs.SizesLaws.{sizes_forms, sizes_layout}
use Rattle.shrink_layout.proofs.TablePieces.{AreSites, IsPastFront, marked, table_pays, tabled}
use Rattle.shrink_layout.proofs.TargetLaws.{here_past, item_leads, no_gather_fault}
use Rattle.shrink_layout.proofs.TargetNumbers.{InFirst, InSecond, IsIn, in_either, start_there}
use Rattle.shrink_layout.proofs.UnitLaws.{piece_case, unit_site}

-- ---- what is laid with a number

-- what is laid for all code is that of a section's padding, or of a place with the next number
data IsLaid {X : Type 0} (inputs : ParsedInputs) (pad : IndexedSection → X) (f : Place → X) (k : ℕ) (x : X) : Type 0 where
  Pads : (l : IndexedSection) → x ≡ pad l → IsLaid inputs pad f k x
  Stands : (q : Place) → piece_number_at inputs.objects q ≡ 1 + k → x ≡ f q → IsLaid inputs pad f k x

module _ (inputs : Inputs) (none : gather_fault inputs ≡ None) {X : Type 0} (pad : IndexedSection → X) (f : Place → X) where
  abbrev parts : ParsedInputs
  parts = parsed inputs

  section_laid_there : (l : IndexedSection) → section_at parts.objects l.object l.index ≡ Some l.section → (j : ℕ) (x : X) → slice_get (section_laid pad f l) j ≡ Some x
      → IsLaid parts pad f (sum_by piece_count (sections_before parts.objects l.object l.index) + j) x
  section_laid_there l here j x got = by (is_code_section l.section) refl got
    where
      base : ℕ
      base = sum_by piece_count (sections_before parts.objects l.object l.index)

      places : Bool → List Place
      places b = cond b (map (place_of l) (starts_in l.section)) []

      code_there : is_code_section l.section ≡ true → (j : ℕ) → slice_get (pad l ∷ map f (map (place_of l) (starts_in l.section))) j ≡ Some x → IsLaid parts pad f (base + j) x
      code_there code zero h = Pads l (sym (same_Some (pad l) x h))
      code_there code (suc i) h =
          let one = got_of f (map (place_of l) (starts_in l.section)) i x h in
          let two = got_of (place_of l) (starts_in l.section) i one.0 one.1 in
          let number : piece_number_at parts.objects one.0 ≡ 1 + (base + suc i) = omega (arith, ap (piece_number_at parts.objects) (sym two.2), start_there inputs none l here code i two.0 two.1) in
          Stands one.0 number (sym one.2)

      by : (b : Bool) → is_code_section l.section ≡ b → slice_get (cond b (pad l ∷ map f (places b)) []) j ≡ Some x → IsLaid parts pad f (base + j) x
      by true code h = code_there code j h
      by false other h = absurd (none-some x h)

  sections_laid_there : (base : ℕ) (ls : List IndexedSection)
      → ((i : ℕ) (l : IndexedSection) → slice_get ls i ≡ Some l → (j : ℕ) (x : X) → slice_get (section_laid pad f l) j ≡ Some x → IsLaid parts pad f (base + sum_by piece_count (take i ls) + j) x)
      → (j : ℕ) (x : X) → slice_get (laid_in pad f ls) j ≡ Some x → IsLaid parts pad f (base + j) x
  sections_laid_there base [] each j x got = absurd (none-some x got)
  sections_laid_there base (l ∷ ls) each j x got =
      by (λ i later. sections_laid_there (base + piece_count l) ls (λ k m at n y there.
      let e : base + sum_by piece_count (take (suc k) (l ∷ ls)) + n ≡ base + piece_count l + sum_by piece_count (take k ls) + n = omega (arith, sum_by-cons piece_count l (take k ls)) in
      subst (λ n. IsLaid parts pad f n y) e (each (suc k) m at n y there)) i x later)
      (in_either (section_laid pad f l) (laid_in pad f ls) j x got)
    where
      by : ((i : ℕ) → slice_get (laid_in pad f ls) i ≡ Some x → IsLaid parts pad f (base + piece_count l + i) x)
          → IsIn (section_laid pad f l) (laid_in pad f ls) j x → IsLaid parts pad f (base + j) x
      by rest (InFirst own) = let e : base + 0 + j ≡ base + j = omega arith in subst (λ n. IsLaid parts pad f n x) e (each 0 l refl j x own)
      by rest (InSecond i same later) =
          let e : base + piece_count l + i ≡ base + j = omega (arith, same, length-section_laid pad f l) in
          subst (λ n. IsLaid parts pad f n x) e (rest i later)

  all_laid_there : (j : ℕ) (x : X) → slice_get (laid_in pad f (all_sections parts.objects)) j ≡ Some x → IsLaid parts pad f j x
  all_laid_there j x got =
      let e : 0 + j ≡ j = omega arith in
      subst (λ n. IsLaid parts pad f n x) e (sections_laid_there 0 (all_sections parts.objects) (λ i l at k y there.
      let e' : sum_by piece_count (sections_before parts.objects l.object l.index) + k ≡ 0 + sum_by piece_count (take i (all_sections parts.objects)) + k = omega (arith, ap (sum_by piece_count) (before_number parts.objects i l at)) in
      subst (λ n. IsLaid parts pad f n y) e' (section_laid_there l (listed_at parts.objects i l at) k y there)) j x got)

-- ---- marks

-- a jump or call through the table is marked
abbrev is_marked : Option CodeUnit → Bool
is_marked None = false
is_marked (Some (OneItem i)) = false
is_marked (Some (OneGroup g)) = false
is_marked (Some (OneSite n)) = true

module _ (inputs : ParsedInputs) (slots : List (Option Place)) where
  abbrev mark_at : Place → Bool
  mark_at q = is_marked (unit_at inputs slots q)

  -- the marks of sections one after another
  abbrev marks_in : List IndexedSection → List Bool
  marks_in ls = laid_in (λ s. false) mark_at ls

  abbrev pieces_by_slots : List (Option Place) → List IndexedSection → List Piece
  pieces_by_slots others ls = pieces_in inputs (slot_at inputs others) ls

  -- the piece at a place is the one without slots, but for a jump through the table
  tabled_piece : (q : Place) → cond (mark_at q) (WithOthers 2) (piece_at inputs (slot_at inputs []) q) ≡ piece_at inputs (slot_at inputs slots) q
  unfolding slot_at
  tabled_piece q = by (slot_at inputs slots q) (item_at inputs q) (role_at inputs q)
    where
      by : (n : Option ℕ) (i : Option Item) (r : Option Role)
          → cond (is_marked (option_and_then (role_unit n i) r)) (WithOthers 2) (unit_piece inputs q (option_and_then (role_unit None i) r)) ≡ unit_piece inputs q (option_and_then (role_unit n i) r)
      by n i None = refl
      by n i (Some (First g)) = refl
      by n i (Some Inside) = refl
      by n None (Some Alone) = refl
      by None (Some i) (Some Alone) = refl
      by (Some n) (Some i) (Some Alone) = refl

  tabled_append : (ms ns : List Bool) (ps qs : List Piece) → length ms ≡ length ps → tabled (ms ++ ns) (ps ++ qs) ≡ tabled ms ps ++ tabled ns qs
  tabled_append [] ns [] qs same = refl
  tabled_append [] ns (p ∷ ps) qs same = absurd (omega (arith, same))
  tabled_append (m ∷ ms) ns [] qs same = absurd (omega (arith, same))
  tabled_append (m ∷ ms) ns (p ∷ ps) qs same = ap (λ rest. cond m (WithOthers 2) p ∷ rest) (tabled_append ms ns ps qs (omega (arith, same)))

  tabled_places : (qs : List Place) → tabled (map mark_at qs) (map (piece_at inputs (slot_at inputs [])) qs) ≡ map (piece_at inputs (slot_at inputs slots)) qs
  tabled_places [] = refl
  tabled_places (q ∷ qs) = λ j. tabled_piece q j ∷ tabled_places qs j

  tabled_section : (l : IndexedSection) → tabled (section_laid (λ s. false) mark_at l) (section_pieces inputs (slot_at inputs []) l) ≡ section_pieces inputs (slot_at inputs slots) l
  tabled_section l = by (is_code_section l.section)
    where
      by : (b : Bool) → tabled (cond b (false ∷ map mark_at (places_of l)) []) (cond b (Align (section_alignment inputs l) ∷ map (piece_at inputs (slot_at inputs [])) (places_of l)) [])
          ≡ cond b (Align (section_alignment inputs l) ∷ map (piece_at inputs (slot_at inputs slots)) (places_of l)) []
      by true = ap (λ ps. Align (section_alignment inputs l) ∷ ps) (tabled_places (places_of l))
      by false = refl

  -- the pieces of sections one after another, with the table's jumps put in
  tabled_sections : (ls : List IndexedSection) → tabled (marks_in ls) (pieces_by_slots [] ls) ≡ pieces_by_slots slots ls
  tabled_sections [] = refl
  tabled_sections (l ∷ ls) =
      let same : length (section_laid (λ s. false) mark_at l) ≡ length (section_pieces inputs (slot_at inputs []) l) =
      length-section_laid (λ s. false) mark_at l ∙ sym (length-section_laid (λ m. Align (section_alignment inputs m)) (piece_at inputs (slot_at inputs [])) l) in
      tabled_append (section_laid (λ s. false) mark_at l) (marks_in ls) (section_pieces inputs (slot_at inputs []) l) (pieces_by_slots [] ls) same
      ∙ (λ j. tabled_section l j ++ tabled_sections ls j)

  -- ---- how many are marked

  marked_append : (ms ns : List Bool) → marked (ms ++ ns) ≡ marked ms + marked ns
  marked_append [] ns = omega arith
  marked_append (m ∷ ms) ns = omega (arith, marked_append ms ns)

  module _ (sizes : List ℕ) where
    abbrev passes : Place → Bool
    passes q = option_map_or (is_site (slice_index sizes (piece_number_at inputs.objects q))) (unit_at inputs slots q) false

    same_test : (q : Place) → mark_at q ≡ passes q
    same_test q = by (unit_at inputs slots q)
      where
        by : (o : Option CodeUnit) → is_marked o ≡ option_map_or (is_site (slice_index sizes (piece_number_at inputs.objects q))) o false
        by None = refl
        by (Some (OneItem i)) = refl
        by (Some (OneGroup g)) = refl
        by (Some (OneSite n)) = refl

    marked_places : (qs : List Place) → marked (map mark_at qs) ≡ length (filter passes qs)
    marked_places [] = refl
    marked_places (q ∷ qs) = ap (λ b. cond {A = ℕ} b 1 0 + marked (map mark_at qs)) (same_test q) ∙ by (passes q) (marked_places qs)
      where
        by : (b : Bool) → marked (map mark_at qs) ≡ length (filter passes qs) → cond {A = ℕ} b 1 0 + marked (map mark_at qs) ≡ length (cond b (q ∷ filter passes qs) (filter passes qs))
        by true same = omega (arith, same)
        by false same = omega (arith, same)

    marked_section : (l : IndexedSection) → marked (section_laid (λ s. false) mark_at l) ≡ length (filter passes (places_of l))
    marked_section l = by (is_code_section l.section)
      where
        places : Bool → List Place
        places b = cond b (map (place_of l) (starts_in l.section)) []

        by : (b : Bool) → marked (cond b (false ∷ map mark_at (places b)) []) ≡ length (filter passes (places b))
        by true = omega (arith, marked_places (map (place_of l) (starts_in l.section)))
        by false = refl

    marked_sections : (ls : List IndexedSection) → marked (marks_in ls) ≡ length (filter passes (flat_map places_of ls))
    marked_sections [] = refl
    marked_sections (l ∷ ls) =
        omega (
          arith,
          marked_append (section_laid (λ s. false) mark_at l) (marks_in ls),
          marked_section l,
          marked_sections ls,
          ap length (filter-append passes (places_of l) (flat_map places_of ls)),
          length-append (filter passes (places_of l)) (filter passes (flat_map places_of ls)),
        )

-- ---- sizes

-- the marked ones take four bytes, if they do by their numbers
sites_are : (marks : List Bool) (pieces : List Piece) (sizes : List ℕ) → length marks ≡ length pieces → length sizes ≡ length pieces
    → ((k : ℕ) → slice_get marks k ≡ Some true → slice_index sizes k ≡ 4) → AreSites marks pieces sizes
sites_are [] [] sizes same same' each = tt
sites_are [] (p ∷ pieces) sizes same same' each = absurd (omega (arith, same))
sites_are (m ∷ marks) [] sizes same same' each = absurd (omega (arith, same))
sites_are (m ∷ marks) (p ∷ pieces) [] same same' each = absurd (omega (arith, same'))
sites_are (m ∷ marks) (p ∷ pieces) (size ∷ sizes) same same' each =
    (λ is. each 0 (ap Some is), sites_are marks pieces sizes (omega (arith, same)) (omega (arith, same')) (λ k at. each (suc k) at))

-- the size of what stands in front is its own
record BeginsWith (size : ℕ) (sizes : List ℕ) : Type 0 where
  rest : List ℕ
  are : sizes ≡ size ∷ rest

begins : (size : ℕ) (pieces : List Piece) (sizes : List ℕ) → AreForms (Fixed size ∷ pieces) sizes → BeginsWith size sizes
begins size pieces [] forms = absurd forms
begins size pieces (n ∷ rest) forms = record { rest = rest; are = ap (λ m. m ∷ rest) forms.0 }

-- ---- all code

module _ (inputs : Inputs) (none : first_fault inputs ≡ None) (slots : List (Option Place)) where
  abbrev given : ParsedInputs
  given = parsed inputs

  abbrev all : List IndexedSection
  all = all_sections given.objects

  abbrev text : ℕ
  text = given.map.text

  abbrev marks : List Bool
  marks = marks_in given slots all

  -- the pieces behind the front, without slots
  abbrev first_pieces : List Piece
  first_pieces = pieces_in given (slot_at given []) all

  -- all targets stand past the front
  past_place : (q : Place) → IsPastFront (piece_at given (slot_at given []) q)
  past_place q = piece_case given (slot_at given []) q IsPastFront tt (λ i is. here_past inputs none q i (item_leads inputs none q i is)) (λ g. tt) tt

  past_places : (qs : List Place) → Each IsPastFront (map (piece_at given (slot_at given [])) qs)
  past_places [] = tt
  past_places (q ∷ qs) = (past_place q, past_places qs)

  past_sections : (ls : List IndexedSection) → Each IsPastFront (pieces_in given (slot_at given []) ls)
  past_sections [] = tt
  past_sections (l ∷ ls) =
      each-append IsPastFront (section_pieces given (slot_at given []) l) (pieces_in given (slot_at given []) ls) (by (is_code_section l.section)) (past_sections ls)
    where
      by : (b : Bool) → Each IsPastFront (cond b (Align (section_alignment given l) ∷ map (piece_at given (slot_at given [])) (places_of l)) [])
      by true = (tt, past_places (places_of l))
      by false = tt

  -- a marked one took four bytes
  mark_four : (sizes : List ℕ) → settled_sizes given [] ≡ 0 ∷ sizes → (k : ℕ) → slice_get marks k ≡ Some true → slice_index sizes k ≡ 4
  mark_four sizes are k got = by (all_laid_there inputs (no_gather_fault inputs none) (λ s. false) (mark_at given slots) k true got)
    where
      unit : (q : Place) (o : Option CodeUnit) → unit_at given slots q ≡ o → true ≡ is_marked o → slice_index (settled_sizes given []) (piece_number_at given.objects q) ≡ 4
      unit q None at h = absurd cc
      unit q (Some (OneItem i)) at h = absurd cc
      unit q (Some (OneGroup g)) at h = absurd cc
      unit q (Some (OneSite n)) at h =
          let slot = slot_found given slots q n (unit_site given (slot_at given slots) q n at).1 in
          ap (λ l. slice_index l (piece_number_at given.objects q)) (sym (first_settled given)) ∙ (site_found given q slot.jump slot.site).size

      by : IsLaid given (λ s. false) (mark_at given slots) k true → slice_index sizes k ≡ 4
      by (Pads s same) = absurd cc
      by (Stands q number same) =
          let e : suc k ≡ 1 + k = omega arith in
          ap (slice_index (0 ∷ sizes)) e
          ∙ ap (λ l. slice_index l (1 + k)) (sym are) ∙ ap (slice_index (settled_sizes given [])) (sym number) ∙ unit q (unit_at given slots q) refl same

  module _ (unaligned : is_unaligned given ≡ true) (text_even : text % 2 ≡ 0) where
    front_even : (slots : List (Option Place)) → front_size slots % 2 ≡ 0
    front_even [] = refl
    front_even (slot ∷ slots) = omega arith

    -- the text with the table, by the pieces without it
    by_marks : (sizes : List ℕ) → settled_sizes given [] ≡ 0 ∷ sizes
        → slice_index (addresses_of text (Fixed (front_size slots) ∷ tabled marks first_pieces) (sizes_of text (Fixed (front_size slots) ∷ tabled marks first_pieces))) (length (Fixed (front_size slots) ∷ tabled marks first_pieces)) + 2 * marked marks
        ≤ slice_index (addresses_of text (Fixed 0 ∷ first_pieces) (0 ∷ sizes)) (length (Fixed 0 ∷ first_pieces)) + front_size slots
    unfolding settled_sizes pieces_by pieces_of
    by_marks sizes are =
        let no_fault = no_gather_fault inputs none in
        let forms : AreForms (Fixed 0 ∷ first_pieces) (0 ∷ sizes) = subst (AreForms (Fixed 0 ∷ first_pieces)) are (sizes_forms text (Fixed 0 ∷ first_pieces)) in
        let many = length_forms first_pieces sizes forms.1 in
        let marks_many : length marks ≡ length first_pieces =
        length-laid_in (λ s. false) (mark_at given slots) all ∙ sym (length-laid_in (λ l. Align (section_alignment given l)) (piece_at given (slot_at given [])) all) in
        table_pays text (front_size slots) marks first_pieces sizes text_even (front_even slots)
        (All-tail IsEvenPiece (Fixed 0) first_pieces (all_even inputs no_fault []))
        (All-tail IsTight (Fixed 0) first_pieces (all_tight given [] unaligned))
        (All-weaker (λ p. target p ≤ length (Fixed 0 ∷ first_pieces)) (λ p. target p ≤ length first_pieces + 1) (λ p le. omega (arith, le)) first_pieces (All-tail (λ p. target p ≤ length (Fixed 0 ∷ first_pieces)) (Fixed 0) first_pieces (targets inputs no_fault [])))
        (all_of IsPastFront first_pieces (past_sections all))
        (subst (IsLayout text (Fixed 0 ∷ first_pieces)) are (sizes_layout text (Fixed 0 ∷ first_pieces)))
        (sites_are marks first_pieces sizes marks_many many (mark_four sizes are))
        (sizes_of text (Fixed (front_size slots) ∷ tabled marks first_pieces))
        (sizes_layout text (Fixed (front_size slots) ∷ tabled marks first_pieces))

    pub table_pays_off : TablePays given slots
    unfolding settled_end settled_addresses settled_sizes pieces_by pieces_of
    table_pays_off =
        let first = begins 0 first_pieces (sizes_of text (Fixed 0 ∷ first_pieces)) (sizes_forms text (Fixed 0 ∷ first_pieces)) in
        let pays = by_marks first.rest first.are in
        let pieces : tabled marks first_pieces ≡ pieces_in given (slot_at given slots) all = tabled_sections given slots all in
        let counted : marked marks ≡ units_with given slots is_site = marked_sections given slots (settled_sizes given slots) all in
        let end : slice_index (addresses_of text (Fixed (front_size slots) ∷ tabled marks first_pieces) (sizes_of text (Fixed (front_size slots) ∷ tabled marks first_pieces))) (length (Fixed (front_size slots) ∷ tabled marks first_pieces)) ≡ settled_end given slots =
        ap (λ ps. slice_index (addresses_of text (Fixed (front_size slots) ∷ ps) (sizes_of text (Fixed (front_size slots) ∷ ps))) (length (Fixed (front_size slots) ∷ ps))) pieces in
        let start : slice_index (addresses_of text (Fixed 0 ∷ first_pieces) (0 ∷ first.rest)) (length (Fixed 0 ∷ first_pieces)) ≡ settled_end given [] =
        ap (λ s. slice_index (addresses_of text (Fixed 0 ∷ first_pieces) s) (length (Fixed 0 ∷ first_pieces))) (sym first.are) in
        omega (arith, pays, counted, end, start)
