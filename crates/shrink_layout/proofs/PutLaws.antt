-- Pieces, and what is written for them, as those behind a table are put in the place of the first ones: section by section (`put_kept`, `put_skip`,
-- `put_enter`, `put_leave`), and in a section of code place by place (`put_next`).
use Rattle.std.proofs.Common.{◌≡◌, ℕ, zero, suc, ◌+◌, ◌≤◌, List, [], ◌∷◌, ◌++◌, length, map, take, drop, set, cond, Bool, true, false, Option, Some, None, slice_get, slice_index, refl, sym, ap, ◌∙◌, subst, arith, append_assoc}
use Rattle.std.proofs.Math.Seq.{set-append_seam}
use Rattle.std.proofs.lemmas.List.{append-nil, drop_all, drop_more, length-append, length-map, length-take, map-append, take_all}
use Rattle.std.proofs.lemmas.Option.{get_or_from_slice_get, none-some, same_Some, slice_get_within}
use Rattle.std.specs.List.{sum_by}
use Rattle.std.specs.Option.{option_and_then}
use Rattle.zc_base.specs.declared.place.Place.{Place}
use Rattle.elf32_read.specs.Parts.{is_code_section}
use Rattle.psabi_sym.specs.Fixed.{is_fixed_at}
use Rattle.psabi_sym.specs.Inputs.{Inputs, ParsedInputs, parsed}
use Rattle.psabi_sym.specs.Indexed.{IndexedSection, all_sections}
use Rattle.block_cut.specs.Items.{is_start_at, item_at, place_of, places_of, starts_in}
use Rattle.block_cut.specs.Places.{IsPlaceNumber}
use Rattle.block_cut.specs.declared.code_place.CodePlace.{CodePlace}
use Rattle.block_cut.specs.declared.place_number.PlaceNumber.{PlaceNumber}
use Rattle.shrink_layout.specs.Invariants.Made.{AreHalvesOf, ArePiecesOf, ArePut, ArePutIn, owners_in, places_held}
use Rattle.shrink_layout.specs.Invariants.Numbers.{AreFirstNumbers, IsHalfAt}
use Rattle.shrink_layout.specs.Invariants.Slots.{first_piece, first_unit}
use Rattle.shrink_layout.specs.Pieces.{piece_at, piece_count, piece_number_at, pieces_by, pieces_in, pieces_of, section_alignment, slot_at, unit_at, unit_piece}
use Rattle.shrink_layout.specs.Units.{CodeUnit, front_size, role_unit, unit_by}
use Rattle.shrink_layout.specs.declared.piece.Piece.{Piece}
use Rattle.shrink_layout.specs.declared.piece.Piece.TheVariants.{Align, Fixed}
use Rattle.shrink_layout.specs.declared.pieces.Pieces.{Pieces}
use Rattle.shrink_layout.proofs.HalfLaws.{length-halves}
use Rattle.shrink_layout.proofs.NumberLaws.{behind, laid_in, length-laid_in, section_laid}
use Rattle.shrink_layout.proofs.PlaceNumberLaws.{start_at, start_told, starts_count}
use Rattle.frame_match.specs.Groups.{role_at}
use Rattle.shrink_layout.proofs.SiteLaws.{site-fixed, slot_nowhere}
use Rattle.shrink_layout.proofs.SectionLaws.{flat_next, held_next}

-- what is dropped up to an element begins with it
pub drop_at : {X : Type 0} (xs : List X) (k : ℕ) (x : X) → slice_get xs k ≡ Some x → drop k xs ≡ x ∷ drop (k + 1) xs
drop_at xs k x is = drop_more xs k x (slice_get_within xs k x is) ∙ ap (λ y. y ∷ drop (k + 1) xs) (get_or_from_slice_get xs k x x is)

-- an element that is put where it stands changes nothing
pub set_same : {X : Type 0} (xs : List X) (k : ℕ) (x : X) → slice_get xs k ≡ Some x → set xs k x ≡ xs
set_same [] k x is = absurd (none-some x is)
set_same (y ∷ xs) zero x is = ap (λ z. z ∷ xs) (sym (same_Some y x is))
set_same (y ∷ xs) (suc k) x is = ap (λ l. y ∷ l) (set_same xs k x is)

-- a halfword that is put with what is written for it
pub halves_set : (owners : List (Option CodeUnit)) (halves : List ℕ) (k : ℕ) (o : Option CodeUnit) (half : ℕ) → AreHalvesOf owners halves → IsHalfAt o half → AreHalvesOf (set owners k o) (set halves k half)
halves_set [] [] k o half are is = tt
halves_set [] (h ∷ halves) k o half are is = absurd are
halves_set (owner ∷ owners) [] k o half are is = absurd are
halves_set (owner ∷ owners) (h ∷ halves) zero o half are is = (is, are.1)
halves_set (owner ∷ owners) (h ∷ halves) (suc k) o half are is = (are.0, halves_set owners halves k o half are.1 is)

-- ---- what is laid as pieces are

-- lists of which a part is new and the rest is old
module _ {X : Type 0} (first : X) (pad : IndexedSection → X) (old new : Place → X) (all : List IndexedSection) (k : ℕ) (l : IndexedSection) where
  -- up to the section
  abbrev pub put_to : List X
  put_to = first ∷ (laid_in pad new (take k all) ++ laid_in pad old (drop k all))

  -- up to the last of some places in the section, and from the first of the others on
  abbrev pub put_in : List Place → List Place → List X
  put_in before after = first ∷ (laid_in pad new (take k all) ++ pad l ∷ (map new before ++ (map old after ++ laid_in pad old (drop (k + 1) all))))

  -- up to the next section
  abbrev pub put_past : List X
  put_past = first ∷ (laid_in pad new (take (k + 1) all) ++ laid_in pad old (drop (k + 1) all))

  pub put_long : (before after : List Place) → length (put_in before after)
      ≡ 1 + (sum_by piece_count (take k all) + (1 + (length before + (length after + sum_by piece_count (drop (k + 1) all)))))
  put_long before after =
      let rest = laid_in pad old (drop (k + 1) all) in
      omega (
        arith,
        length-append (laid_in pad new (take k all)) (pad l ∷ (map new before ++ (map old after ++ rest))),
        length-laid_in pad new (take k all),
        length-append (map new before) (map old after ++ rest),
        length-map before new,
        length-append (map old after) rest,
        length-map after old,
        length-laid_in pad old (drop (k + 1) all),
      )

  module _ (before : List Place) (q : Place) (after : List Place) where
    abbrev pub put_front : List X
    put_front = (first ∷ laid_in pad new (take k all)) ++ pad l ∷ map new before

    abbrev pub put_back : List X
    put_back = map old after ++ laid_in pad old (drop (k + 1) all)

    front_long : length put_front ≡ 1 + sum_by piece_count (take k all) + 1 + length before
    front_long = omega (
      arith,
      length-append (first ∷ laid_in pad new (take k all)) (pad l ∷ map new before),
      length-laid_in pad new (take k all),
      length-map before new,
    )

    here : put_in before (q ∷ after) ≡ put_front ++ old q ∷ put_back
    here = sym (append_assoc (first ∷ laid_in pad new (take k all)) (pad l ∷ map new before) (old q ∷ put_back))

    there : put_in (before ++ q ∷ []) after ≡ put_front ++ new q ∷ put_back
    there =
        ap (λ xs. (first ∷ laid_in pad new (take k all)) ++ pad l ∷ xs)
        (ap (λ xs. xs ++ put_back) (map-append new before (q ∷ [])) ∙ append_assoc (map new before) (new q ∷ []) put_back)
        ∙ sym (append_assoc (first ∷ laid_in pad new (take k all)) (pad l ∷ map new before) (new q ∷ put_back))

    module _ (number : ℕ) (stands : number ≡ 1 + sum_by piece_count (take k all) + 1 + length before) where
      long : number ≡ length put_front
      long = omega (arith, stands, front_long)

      -- what stands at the next place is the old
      pub put_got : slice_get (put_in before (q ∷ after)) number ≡ Some (old q)
      put_got = (λ j. slice_get (here j) (long j)) ∙ behind put_front (old q) put_back

      -- the new is put in its place
      pub put_next : set (put_in before (q ∷ after)) number (new q) ≡ put_in (before ++ q ∷ []) after
      put_next = (λ j. set (here j) (long j) (new q)) ∙ set-append_seam put_front (old q) put_back (new q) ∙ sym there

  module _ (is : slice_get all k ≡ Some l) where
    -- a section of which nothing is new
    pub put_kept : section_laid pad old l ≡ section_laid pad new l → put_to ≡ put_past
    put_kept same =
        let front = laid_in pad new (take k all) in
        let rest = laid_in pad old (drop (k + 1) all) in
        ap (λ xs. first ∷ xs)
        (ap (λ xs. front ++ xs) (ap (laid_in pad old) (drop_at all k l is) ∙ ap (λ xs. xs ++ rest) same)
        ∙ sym (append_assoc front (section_laid pad new l) rest)
        ∙ ap (λ xs. xs ++ rest) (sym (flat_next (section_laid pad new) all k l is)))

    -- a section without code has nothing
    pub put_skip : is_code_section l.section ≡ false → put_to ≡ put_past
    put_skip other =
        let none : (f : Place → X) → section_laid pad f l ≡ [] = λ f. ap (λ b. cond b (pad l ∷ map f (places_of l)) []) other in
        put_kept (none old ∙ sym (none new))

    module _ (code : is_code_section l.section ≡ true) where
      own : (f : Place → X) → section_laid pad f l ≡ pad l ∷ map f (places_of l)
      own f = ap (λ b. cond b (pad l ∷ map f (places_of l)) []) code

      pub put_enter : put_to ≡ put_in [] (places_of l)
      put_enter =
          let rest = laid_in pad old (drop (k + 1) all) in
          ap (λ xs. first ∷ (laid_in pad new (take k all) ++ xs)) (ap (laid_in pad old) (drop_at all k l is) ∙ ap (λ xs. xs ++ rest) (own old))

      pub put_leave : put_in (places_of l) [] ≡ put_past
      put_leave =
          let rest = laid_in pad old (drop (k + 1) all) in
          ap (λ xs. first ∷ xs)
          (sym (append_assoc (laid_in pad new (take k all)) (pad l ∷ map new (places_of l)) rest)
          ∙ ap (λ xs. xs ++ rest) (ap (λ xs. laid_in pad new (take k all) ++ xs) (sym (own new)) ∙ sym (flat_next (section_laid pad new) all k l is)))

-- ---- all pieces

-- the pieces of all sections without a table are those of a table without slots
pub first_pieces : (inputs : ParsedInputs) → Fixed 0 ∷ pieces_in inputs (slot_at inputs []) (all_sections inputs.objects) ≡ pieces_of inputs []
unfolding pieces_by pieces_of
first_pieces inputs = refl

-- once no section is left, the pieces are those with the table
pub last_pieces : (inputs : ParsedInputs) (slots : List (Option Place)) (k : ℕ) (made : Pieces) → length (all_sections inputs.objects) ≤ k → ArePut inputs slots k made → ArePiecesOf inputs slots made
unfolding pieces_by pieces_of
last_pieces inputs slots k made le put =
    let all = all_sections inputs.objects in
    let taken = take_all k all le in
    let left = drop_all k all le in
    let pieces : List IndexedSection → List Piece = pieces_in inputs (slot_at inputs slots) in
    let owners : List IndexedSection → List (Option CodeUnit) = owners_in inputs (slot_at inputs slots) in
    record {
      pieces_are = put.pieces_are
          ∙ (λ j. Fixed (front_size slots) ∷ (pieces (taken j) ++ pieces_in inputs (slot_at inputs []) (left j)))
          ∙ ap (λ ps. Fixed (front_size slots) ∷ ps) (append-nil (pieces all));
      halves_are = subst (λ os. AreHalvesOf (None ∷ os) made.halves.items)
          ((λ j. owners (taken j) ++ owners_in inputs (slot_at inputs []) (left j)) ∙ append-nil (owners all)) put.halves_are;
    }

-- ---- fixed sections

module _ (inputs : ParsedInputs) (slots : List (Option Place)) (l : IndexedSection) (fixed : is_fixed_at inputs l.object l.index ≡ true) where
  -- no jump or call of a fixed section has a slot
  no_slots : (n : ℕ) → slot_at inputs [] (place_of l n) ≡ slot_at inputs slots (place_of l n)
  no_slots n =
      let none = site-fixed inputs (place_of l n) fixed in
      slot_nowhere inputs [] (place_of l n) none ∙ sym (slot_nowhere inputs slots (place_of l n) none)

  -- so what is written there is the same with any slots
  same_units : (n : ℕ) → unit_by inputs (slot_at inputs []) (place_of l n) ≡ unit_by inputs (slot_at inputs slots) (place_of l n)
  same_units n = ap (λ o. option_and_then (role_unit o (item_at inputs (place_of l n))) (role_at inputs (place_of l n))) (no_slots n)

  -- and so is what is laid for it
  kept_laid : {X : Type 0} (pad : IndexedSection → X) (f : Place → Option CodeUnit → X)
      → section_laid pad (λ q. f q (unit_by inputs (slot_at inputs []) q)) l ≡ section_laid pad (λ q. f q (unit_by inputs (slot_at inputs slots) q)) l
  kept_laid {X = X} pad f = by (is_code_section l.section)
    where
      old : Place → X
      old q = f q (unit_by inputs (slot_at inputs []) q)

      new : Place → X
      new q = f q (unit_by inputs (slot_at inputs slots) q)

      places : (ns : List ℕ) → map old (map (place_of l) ns) ≡ map new (map (place_of l) ns)
      places [] = refl
      places (n ∷ ns) = λ j. f (place_of l n) (same_units n j) ∷ places ns j

      by : (b : Bool) → cond b (pad l ∷ map old (cond b (map (place_of l) (starts_in l.section)) [])) [] ≡ cond b (pad l ∷ map new (cond b (map (place_of l) (starts_in l.section)) [])) []
      by true = ap (λ xs. pad l ∷ xs) (places (starts_in l.section))
      by false = refl

  pub same_pieces : section_laid (λ m. Align (section_alignment inputs m)) (piece_at inputs (slot_at inputs [])) l ≡ section_laid (λ m. Align (section_alignment inputs m)) (piece_at inputs (slot_at inputs slots)) l
  same_pieces = kept_laid (λ m. Align (section_alignment inputs m)) (unit_piece inputs)

  pub same_owners : section_laid (λ m. None) (unit_by inputs (slot_at inputs [])) l ≡ section_laid (λ m. None) (unit_by inputs (slot_at inputs slots)) l
  same_owners = kept_laid (λ m. None) (λ q u. u)

-- ---- a place more

module _ (inputs : Inputs) (starts : List ℕ) (are : AreFirstNumbers (parsed inputs).objects starts) (slots : List (Option Place)) (k : ℕ) (l : IndexedSection)
    (places : List CodePlace) (made : Pieces) where
  abbrev given : ParsedInputs
  given = parsed inputs

  abbrev all_of : List IndexedSection
  all_of = all_sections given.objects

  abbrev pieces_put : List Place → List Place → List Piece
  pieces_put before after = put_in (Fixed (front_size slots)) (λ m. Align (section_alignment given m)) (piece_at given (slot_at given [])) (piece_at given (slot_at given slots)) all_of k l before after

  abbrev owners_put : List Place → List Place → List (Option CodeUnit)
  owners_put before after = put_in None (λ s. None) (unit_by given (slot_at given [])) (unit_by given (slot_at given slots)) all_of k l before after

  -- there are as many halfwords as pieces
  pub halves_long : (before after : List Place) → ArePutIn given slots k l before after made → length made.halves.items ≡ length made.pieces.items
  halves_long before after so_far = omega (
    arith,
    length-halves (owners_put before after) made.halves.items so_far.halves_are,
    ap length so_far.pieces_are,
    put_long (Fixed (front_size slots)) (λ m. Align (section_alignment given m)) (piece_at given (slot_at given [])) (piece_at given (slot_at given slots)) all_of k l before after,
    put_long None (λ s. None) (unit_by given (slot_at given [])) (unit_by given (slot_at given slots)) all_of k l before after,
  )

  module _ (i : ℕ) (p : CodePlace) (got : slice_get places i ≡ Some p) (q : Place) (here : q ≡ place_of l p.offset) (number : PlaceNumber) (same : number ≡ record { section = k; index = i })
      (start : is_start_at given.objects q ≡ true) (stands : IsPlaceNumber given.objects q number)
      (so_far : ArePutIn given slots k l (places_held l (take i places)) (places_held l (drop i places)) made) where
    abbrev before : List Place
    before = places_held l (take i places)

    abbrev after : List Place
    after = places_held l (drop (i + 1) places)

    todo : places_held l (drop i places) ≡ q ∷ after
    todo = ap (places_held l) (drop_at places i p got) ∙ ap (λ x. x ∷ after) (sym here)

    done : places_held l (take (i + 1) places) ≡ before ++ q ∷ []
    done = held_next l places i p got ∙ ap (λ x. before ++ x ∷ []) (sym here)

    placed : piece_number_at given.objects q ≡ 1 + sum_by piece_count (take k all_of) + 1 + length before
    placed =
        let told = start_told given.objects starts are q number start stands in
        let section : number.section ≡ k = ap (λ (n : PlaceNumber). n.section) same in
        let index : number.index ≡ i = ap (λ (n : PlaceNumber). n.index) same in
        omega (
          arith,
          told.is,
          told.within,
          section,
          index,
          starts_count given.objects starts are,
          ap (slice_index starts) section,
          start_at given.objects starts are k (omega (arith, told.within, section, starts_count given.objects starts are)),
          length-map (take i places) (λ (x : CodePlace). place_of l x.offset),
          length-take i places,
          slice_get_within places i p got,
        )

    -- the piece of the place is the one without the table
    pub first_there : slice_get made.pieces.items (piece_number_at given.objects q) ≡ Some (first_piece given q)
    first_there =
        ap (λ ps. slice_get ps (piece_number_at given.objects q)) (so_far.pieces_are ∙ ap (pieces_put before) todo)
        ∙ put_got (Fixed (front_size slots)) (λ m. Align (section_alignment given m)) (piece_at given (slot_at given [])) (piece_at given (slot_at given slots)) all_of k l before q after
        (piece_number_at given.objects q) placed

    -- the new piece is put in its place
    pub put_one : (next : Pieces) → next.pieces.items ≡ set made.pieces.items (piece_number_at given.objects q) (piece_at given (slot_at given slots) q)
        → ((owners : List (Option CodeUnit)) → AreHalvesOf owners made.halves.items → slice_get owners (piece_number_at given.objects q) ≡ Some (first_unit given q)
        → AreHalvesOf (set owners (piece_number_at given.objects q) (unit_at given slots q)) next.halves.items)
        → ArePutIn given slots k l (places_held l (take (i + 1) places)) (places_held l (drop (i + 1) places)) next
    put_one next pieces halves =
        let n = piece_number_at given.objects q in
        let new = piece_at given (slot_at given slots) in
        let unit = unit_by given (slot_at given slots) in
        record {
          pieces_are = pieces
              ∙ ap (λ ps. set ps n (new q)) (so_far.pieces_are ∙ ap (pieces_put before) todo)
              ∙ put_next (Fixed (front_size slots)) (λ m. Align (section_alignment given m)) (piece_at given (slot_at given [])) new all_of k l before q after n placed
              ∙ ap (λ qs. pieces_put qs after) (sym done);
          halves_are = subst (λ os. AreHalvesOf os next.halves.items)
              (put_next None (λ s. None) (unit_by given (slot_at given [])) unit all_of k l before q after n placed ∙ ap (λ qs. owners_put qs after) (sym done))
              (halves (owners_put before (q ∷ after)) (subst (λ os. AreHalvesOf os made.halves.items) (ap (owners_put before) todo) so_far.halves_are)
              (put_got None (λ s. None) (unit_by given (slot_at given [])) unit all_of k l before q after n placed));
        }
