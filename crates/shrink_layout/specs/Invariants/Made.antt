-- Pieces and halfwords as they are made, and as those of a layout with a table are put in their place: section by section, and
-- within a section place by place.
use Rattle.std.specs.Prelude.{◌≡◌, ℕ, ◌+◌, ◌<◌, ◌^◌, true, false, if◌then◌else◌, List, [], ◌∷◌, ◌++◌, drop, length, map, take, slice_get, Option, Some, None}
use Rattle.std.specs.List.{flat_map}
use Rattle.elf32_read.specs.Parts.{is_code_section}
use Rattle.psabi_sym.specs.Fixed.{is_fixed_at}
use Rattle.psabi_sym.specs.Inputs.{ParsedInputs}
use Rattle.psabi_sym.specs.Indexed.{IndexedSection, all_sections}
use Rattle.block_cut.specs.Items.{is_start_at, item_at, place_of, places_of}
use Rattle.block_cut.specs.Places.{IsPlaceNumber}
use Rattle.block_cut.specs.declared.item.Item.{Item}
use Rattle.block_cut.specs.declared.place_number.PlaceNumber.{PlaceNumber}
use Rattle.zc_base.specs.declared.place.Place.{Place}
use Rattle.block_cut.specs.declared.code_place.CodePlace.{CodePlace}
use Rattle.shrink_layout.specs.Invariants.Numbers.{IsHalfAt}
use Rattle.shrink_layout.specs.Pieces.{piece_at, pieces_in, pieces_of, section_alignment, slot_at}
use Rattle.shrink_layout.specs.Units.{CodeUnit, front_size, unit_by}
use Rattle.shrink_layout.specs.declared.piece.Piece.TheVariants.{Align, Fixed}
use Rattle.shrink_layout.specs.declared.pieces.Pieces.{Pieces}
use Rattle.shrink_layout.specs.declared.pieces.SectionPlaces.{SectionPlaces}

-- the places of a section, by what is kept of them
abbrev pub places_held : IndexedSection → List CodePlace → List Place
places_held l places = map (λ p. place_of l p.offset) places

-- an item starts at a place, which has this number among all
pub record IsItemPlace (inputs : ParsedInputs) (q : Place) (number : PlaceNumber) (item : Option Item) : Type 0 where
  pub start : is_start_at inputs.objects q ≡ true
  pub stands : IsPlaceNumber inputs.objects q number
  pub is : item ≡ item_at inputs q

-- items start at these places of the section with a number, from its first on
abbrev pub AreItemPlaces : ParsedInputs → ℕ → IndexedSection → List CodePlace → Type 0
AreItemPlaces inputs k l places =
    (i : ℕ) (p : CodePlace) → slice_get places i ≡ Some p
    → IsItemPlace inputs (place_of l p.offset) (record { section = k; index = i }) p.item

-- these places of a section of code, with its number among all, are those where its items start
pub record AreStartsOf (inputs : ParsedInputs) (s : SectionPlaces) : Type 0 where
  pub at : slice_get (all_sections inputs.objects) s.number ≡ Some s.section
  pub code : is_code_section s.section.section ≡ true
  pub held : AreItemPlaces inputs s.number s.section s.places.now
  pub are : places_held s.section s.places.now ≡ places_of s.section
  pub few : length s.places.now < 2 ^ 32
  pub fixed : s.is_fixed ≡ is_fixed_at inputs s.section.object s.section.index

-- the section with this number among all isn't code
abbrev pub IsNoCode : ParsedInputs → ℕ → Type 0
IsNoCode inputs k =
    (l : IndexedSection) → slice_get (all_sections inputs.objects) k ≡ Some l → is_code_section l.section ≡ false

-- what each piece of a section is written for; its padding is written for nothing
abbrev pub section_owners : ParsedInputs → (Place → Option ℕ) → IndexedSection → List (Option CodeUnit)
section_owners inputs slot l = if is_code_section l.section then None ∷ map (unit_by inputs slot) (places_of l) else []

-- what each piece of these sections is written for
abbrev pub owners_in : ParsedInputs → (Place → Option ℕ) → List IndexedSection → List (Option CodeUnit)
owners_in inputs slot sections = flat_map (section_owners inputs slot) sections

-- what each piece is written for; the first one is the table with its stub
abbrev pub all_owners : ParsedInputs → List (Option Place) → List (Option CodeUnit)
all_owners inputs slots = None ∷ owners_in inputs (slot_at inputs slots) (all_sections inputs.objects)

-- for each piece the halfword of what it is written for
abbrev pub AreHalvesOf : List (Option CodeUnit) → List ℕ → Type 0
AreHalvesOf [] [] = Unit {0}
AreHalvesOf [] (half ∷ halves) = ⊥
AreHalvesOf (owner ∷ owners) [] = ⊥
AreHalvesOf (owner ∷ owners) (half ∷ halves) = IsHalfAt owner half × AreHalvesOf owners halves

-- the pieces of inputs with a table of these slots, and the halfwords of what is written for them
pub record ArePiecesOf (inputs : ParsedInputs) (slots : List (Option Place)) (made : Pieces) : Type 0 where
  pub pieces_are : made.pieces.items ≡ pieces_of inputs slots
  pub halves_are : AreHalvesOf (all_owners inputs slots) made.halves.items

-- the pieces of the sections before number k, and their halfwords, without a table
pub record AreMade (inputs : ParsedInputs) (k : ℕ) (made : Pieces) : Type 0 where
  pub pieces_are : made.pieces.items
      ≡ Fixed 0 ∷ pieces_in inputs (slot_at inputs []) (take k (all_sections inputs.objects))
  pub halves_are :
      AreHalvesOf (None ∷ owners_in inputs (slot_at inputs []) (take k (all_sections inputs.objects))) made.halves.items

-- ---- behind a table

-- all pieces and their halfwords: up to section k with a table of these slots, and from there on without it
pub record ArePut (inputs : ParsedInputs) (slots : List (Option Place)) (k : ℕ) (made : Pieces) : Type 0 where
  pub pieces_are : made.pieces.items
      ≡ Fixed (front_size slots) ∷ (pieces_in inputs (slot_at inputs slots) (take k (all_sections inputs.objects))
      ++ pieces_in inputs (slot_at inputs []) (drop k (all_sections inputs.objects)))
  pub halves_are :
      AreHalvesOf (None ∷ (owners_in inputs (slot_at inputs slots) (take k (all_sections inputs.objects))
      ++ owners_in inputs (slot_at inputs []) (drop k (all_sections inputs.objects)))) made.halves.items

-- all pieces and their halfwords, within section k, which is code: up to the places `before` with the table, and from the places
-- `after` on without it
pub record ArePutIn (inputs : ParsedInputs) (slots : List (Option Place)) (k : ℕ) (l : IndexedSection)
    (before after : List Place) (made : Pieces) : Type 0 where
  pub pieces_are : made.pieces.items
      ≡ Fixed (front_size slots) ∷ (pieces_in inputs (slot_at inputs slots) (take k (all_sections inputs.objects))
      ++ Align (section_alignment inputs l) ∷ (map (piece_at inputs (slot_at inputs slots)) before
      ++ (map (piece_at inputs (slot_at inputs [])) after
      ++ pieces_in inputs (slot_at inputs []) (drop (k + 1) (all_sections inputs.objects)))))
  pub halves_are :
      AreHalvesOf (None ∷ (owners_in inputs (slot_at inputs slots) (take k (all_sections inputs.objects))
      ++ None ∷ (map (unit_by inputs (slot_at inputs slots)) before
      ++ (map (unit_by inputs (slot_at inputs [])) after
      ++ owners_in inputs (slot_at inputs []) (drop (k + 1) (all_sections inputs.objects)))))) made.halves.items
