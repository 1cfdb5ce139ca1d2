-- Sections by their numbers among all: what one more adds to the pieces, to their count, and to what is written for them.
use Rattle.std.proofs.Common.{◌≡◌, ℕ, zero, suc, ◌+◌, ◌-◌, ◌<◌, ◌≤◌, List, [], ◌∷◌, ◌++◌, length, map, take, drop, cond, Bool, true, false, Option, Some, None, slice_get, refl, sym, ap, ◌∙◌, arith, append_assoc, eqb}
use Rattle.std.specs.List.{flat_map, sum_by}
use Rattle.std.proofs.lemmas.Bool.{eqb-true}
use Rattle.std.proofs.lemmas.List.{append-nil, length-append, length-map, map-append, take-append-drop, take_at}
use Rattle.std.proofs.lemmas.List.Concat.{flat_map-append}
use Rattle.std.proofs.lemmas.List.Sums.{sum_by-append, sum_by-cons}
use Rattle.zc_base.specs.declared.place.Place.{Place}
use Rattle.elf32_read.specs.Parts.{ObjectParts, is_code_section}
use Rattle.psabi_sym.specs.Faults.{gather_fault}
use Rattle.psabi_sym.specs.Inputs.{Inputs, ParsedInputs, parsed}
use Rattle.psabi_sym.specs.Indexed.{IndexedSection, all_sections, section_at}
use Rattle.psabi_sym.proofs.BridgeLaws.{map-map}
use Rattle.psabi_sym.proofs.SectionNumbers.{listed_at}
use Rattle.block_cut.specs.Items.{place_of, places_of, starts_in, targets_in}
use Rattle.block_cut.specs.Places.{code_place, code_places}
use Rattle.block_cut.specs.Whole.{IsWhole}
use Rattle.block_cut.specs.declared.code_place.CodePlace.{CodePlace}
use Rattle.block_cut.proofs.TakeLaws.{take_next}
use Rattle.block_cut.proofs.WholeLaws.{inputs_whole}
use Rattle.shrink_layout.specs.Invariants.Made.{owners_in, places_held, section_owners}
use Rattle.shrink_layout.specs.Pieces.{piece_at, piece_count, pieces_in, section_alignment, section_pieces}
use Rattle.shrink_layout.specs.Units.{unit_by}
use Rattle.shrink_layout.specs.declared.piece.Piece.TheVariants.{Align}
use Rattle.shrink_layout.proofs.NumberLaws.{length-pieces_of}
use Rattle.shrink_layout.proofs.PremiseLaws.{pieces_few}

-- what a function gives for one element more
pub flat_next : {X Y : Type 0} (f : X → List Y) (xs : List X) (k : ℕ) (x : X) → slice_get xs k ≡ Some x → flat_map f (take (k + 1) xs) ≡ flat_map f (take k xs) ++ f x
flat_next f xs k x is =
    ap (flat_map f) (take_next xs k x is) ∙ flat_map-append f (take k xs) (x ∷ []) ∙ ap (λ l. flat_map f (take k xs) ++ l) (append-nil (f x))

-- a sum of a front isn't greater
sum_front : {X : Type 0} (f : X → ℕ) (xs : List X) (k : ℕ) → sum_by f (take k xs) ≤ sum_by f xs
sum_front f xs k =
    let all = ap (sum_by f) (take-append-drop k xs) in
    omega (arith, all, sum_by-append f (take k xs) (drop k xs))

-- an element that there is
pub some_at : {X : Type 0} (xs : List X) (k : ℕ) → k < length xs → (x : X) × (slice_get xs k ≡ Some x)
some_at [] k lt = absurd (omega (arith, lt))
some_at (x ∷ xs) zero lt = (x, refl)
some_at (x ∷ xs) (suc k) lt = some_at xs k (omega (arith, lt))

-- all of a list but its last element
pub but_last : {X : Type 0} (xs : List X) (x : X) → take (length (xs ++ x ∷ []) - 1) (xs ++ x ∷ []) ≡ xs
but_last xs x = take_at xs (x ∷ []) (length (xs ++ x ∷ []) - 1) (omega (arith, length-append xs (x ∷ [])))

-- what isn't 0 is more
not_none : (n : ℕ) → eqb n 0 ≡ false → 0 < n
not_none zero is = absurd cc
not_none (suc n) is = omega arith

-- one place more
pub held_next : (l : IndexedSection) (places : List CodePlace) (k : ℕ) (p : CodePlace) → slice_get places k ≡ Some p → places_held l (take (k + 1) places) ≡ places_held l (take k places) ++ place_of l p.offset ∷ []
held_next l places k p is = ap (places_held l) (take_next places k p is) ∙ map-append (λ (q : CodePlace). place_of l q.offset) (take k places) (p ∷ [])

module _ (inputs : Inputs) (none : gather_fault inputs ≡ None) where
  abbrev given : ParsedInputs
  given = parsed inputs

  abbrev objects : List ObjectParts
  objects = given.objects

  abbrev all : List IndexedSection
  all = all_sections objects

  -- numbers are small
  pub count_few : (k : ℕ) → sum_by piece_count (take k all) ≤ 0x1_0000
  count_few k = omega (arith, sum_front piece_count all k, length-pieces_of given [], pieces_few inputs none [])

  module _ (k : ℕ) (l : IndexedSection) (is : slice_get all k ≡ Some l) where
    here : section_at objects l.object l.index ≡ Some l.section
    here = listed_at objects k l is

    whole : is_code_section l.section ≡ true → IsWhole l.section
    whole code = inputs_whole inputs l.object l.index l.section none here code

    -- ---- the count

    pub count_next : sum_by piece_count (take (k + 1) all) ≡ sum_by piece_count (take k all) + piece_count l
    count_next =
        ap (sum_by piece_count) (take_next all k l is)
        ∙ omega (arith, sum_by-append piece_count (take k all) (l ∷ []), sum_by-cons piece_count l [])

    -- a section of code has a place for its end, as it has a piece for its padding
    pub places_count : length (code_places given l) ≡ piece_count l
    places_count = by (is_code_section l.section)
      where
        by : (b : Bool) → length (cond b (map (code_place given l) (targets_in l.section)) []) ≡ cond b (1 + length (starts_in l.section)) 0
        by true =
            omega (
              arith,
              length-map (targets_in l.section) (code_place given l),
              length-append (starts_in l.section) (length l.section.bytes ∷ []),
            )
        by false = refl

    -- ---- the places

    -- all but the last are those where items start
    pub held_all : is_code_section l.section ≡ true → places_held l (take (length (code_places given l) - 1) (code_places given l)) ≡ places_of l
    held_all code =
        let f = code_place given l in
        let end = length l.section.bytes in
        let all : code_places given l ≡ map f (starts_in l.section) ++ f end ∷ [] =
        ap (λ b. cond b (map f (targets_in l.section)) []) code ∙ map-append f (starts_in l.section) (end ∷ []) in
        ap (λ ps. places_held l (take (length ps - 1) ps)) all
        ∙ ap (places_held l) (but_last (map f (starts_in l.section)) (f end))
        ∙ map-map (λ (p : CodePlace). place_of l p.offset) f (starts_in l.section)
        ∙ sym (ap (λ b. cond b (map (place_of l) (starts_in l.section)) []) code)

    -- ---- what is no code

    pub no_code : eqb (length (code_places given l)) 0 ≡ true → is_code_section l.section ≡ false
    no_code none = by (is_code_section l.section) refl
      where
        by : (b : Bool) → is_code_section l.section ≡ b → is_code_section l.section ≡ false
        by true code = absurd (omega (arith, eqb-true (length (code_places given l)) 0 none, places_count, ap (λ b. cond b (1 + length (starts_in l.section)) 0) code))
        by false other = other

    -- a section that isn't code adds no pieces
    pub none_next : (slot : Place → Option ℕ) → is_code_section l.section ≡ false → pieces_in given slot (take k all) ≡ pieces_in given slot (take (k + 1) all)
    none_next slot other =
        let own : section_pieces given slot l ≡ [] = ap (λ b. cond b (Align (section_alignment given l) ∷ map (piece_at given slot) (places_of l)) []) other in
        sym (flat_next (section_pieces given slot) all k l is ∙ ap (λ ps. pieces_in given slot (take k all) ++ ps) own ∙ append-nil (pieces_in given slot (take k all)))

    pub no_owners_next : (slot : Place → Option ℕ) → is_code_section l.section ≡ false → owners_in given slot (take k all) ≡ owners_in given slot (take (k + 1) all)
    no_owners_next slot other =
        let own : section_owners given slot l ≡ [] = ap (λ b. cond b (None ∷ map (unit_by given slot) (places_of l)) []) other in
        sym (flat_next (section_owners given slot) all k l is ∙ ap (λ xs. owners_in given slot (take k all) ++ xs) own ∙ append-nil (owners_in given slot (take k all)))

    -- ---- what is code

    pub some_code : eqb (length (code_places given l)) 0 ≡ false → is_code_section l.section ≡ true
    some_code some = by (is_code_section l.section) refl
      where
        by : (b : Bool) → is_code_section l.section ≡ b → is_code_section l.section ≡ true
        by true code = code
        by false other = absurd (omega (arith, not_none (length (code_places given l)) some, places_count, ap (λ b. cond b (1 + length (starts_in l.section)) 0) other))

    -- a section of code adds its padding and the pieces of its places
    pub some_next : (slot : Place → Option ℕ) → is_code_section l.section ≡ true
        → (pieces_in given slot (take k all) ++ Align (section_alignment given l) ∷ []) ++ map (piece_at given slot) (places_of l)
        ≡ pieces_in given slot (take (k + 1) all)
    some_next slot code =
        let front = pieces_in given slot (take k all) in
        let pad = Align (section_alignment given l) in
        let own : section_pieces given slot l ≡ pad ∷ map (piece_at given slot) (places_of l) = ap (λ b. cond b (pad ∷ map (piece_at given slot) (places_of l)) []) code in
        append_assoc front (pad ∷ []) (map (piece_at given slot) (places_of l))
        ∙ sym (flat_next (section_pieces given slot) all k l is ∙ ap (λ ps. front ++ ps) own)

    pub owners_next : (slot : Place → Option ℕ) → is_code_section l.section ≡ true
        → (owners_in given slot (take k all) ++ None ∷ []) ++ map (unit_by given slot) (places_of l) ≡ owners_in given slot (take (k + 1) all)
    owners_next slot code =
        let front = owners_in given slot (take k all) in
        let own : section_owners given slot l ≡ None ∷ map (unit_by given slot) (places_of l) = ap (λ b. cond b (None ∷ map (unit_by given slot) (places_of l)) []) code in
        append_assoc front (None ∷ []) (map (unit_by given slot) (places_of l))
        ∙ sym (flat_next (section_owners given slot) all k l is ∙ ap (λ xs. front ++ xs) own)

-- ---- what a section's places count

-- the pieces up to a section's end are those up to its start, and one for each of its places; so far they are few
pub record IsCounted (inputs : Inputs) (k : ℕ) (places : List CodePlace) : Type 0 where
  pub next : sum_by piece_count (take (k + 1) (all_sections (parsed inputs).objects)) ≡ sum_by piece_count (take k (all_sections (parsed inputs).objects)) + length places
  pub few : sum_by piece_count (take (k + 1) (all_sections (parsed inputs).objects)) ≤ 0x1_0000

pub places_counted :
    (inputs : Inputs) → gather_fault inputs ≡ None → (k : ℕ) → k < length (all_sections (parsed inputs).objects) → (places : List CodePlace)
    → ((l : IndexedSection) → slice_get (all_sections (parsed inputs).objects) k ≡ Some l → places ≡ code_places (parsed inputs) l) → IsCounted inputs k places
places_counted inputs none k lt places are =
    let there = some_at (all_sections (parsed inputs).objects) k lt in
    let l = there.0 in
    record {
      next = omega (arith, ap length (are l there.1), places_count inputs none k l there.1, count_next inputs none k l there.1);
      few = count_few inputs none (k + 1);
    }
