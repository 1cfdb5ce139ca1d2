-- What is written at a place: the item there by itself, the jump or call there through the table, the group whose first item it is, or nothing, inside a
-- group.
use Rattle.std.proofs.Common.{◌≡◌, ◌∙◌, ℕ, Bool, true, false, cond, Option, Some, None, slice_get, refl, sym, ap}
use Rattle.std.specs.Option.{is_some, option_and_then, option_map, option_map_or}
use Rattle.std.proofs.lemmas.Option.{none-some}
use Rattle.zc_base.specs.declared.place.Place.{Place}
use Rattle.elf32_read.specs.Parts.{SectionParts, is_code_section}
use Rattle.psabi_sym.specs.Inputs.{ParsedInputs}
use Rattle.psabi_sym.specs.Indexed.{IndexedSection, section_at}
use Rattle.block_cut.specs.Items.{code_at, index_on, is_start_at, item_at, item_in, place_of, starts_on}
use Rattle.block_cut.specs.declared.item.Item.{Item}
use Rattle.block_cut.proofs.ItemLaws.{item_at-code, item_found, item_there}
use Rattle.block_cut.proofs.WholeLaws.{code_at_is}
use Rattle.frame_match.specs.Groups.{role_at, role_on, roles_in}
use Rattle.frame_match.specs.declared.group.Group.{Group}
use Rattle.frame_match.specs.declared.role.Role.{Role}
use Rattle.frame_match.specs.declared.role.Role.TheVariants.{Alone, First, Inside}
use Rattle.shrink_layout.specs.Pieces.{group_size, item_piece_at, piece_at, unit_piece}
use Rattle.shrink_layout.specs.Units.{CodeUnit, OneGroup, OneItem, OneSite, item_unit, role_unit, unit_by}
use Rattle.shrink_layout.specs.declared.piece.Piece.{Piece}
use Rattle.shrink_layout.specs.declared.piece.Piece.TheVariants.{WithOthers}

module _ (inputs : ParsedInputs) (slot : Place → Option ℕ) (q : Place) where
  -- ---- by the role of the item there

  pub unit-none : role_at inputs q ≡ None → unit_by inputs slot q ≡ None
  unit-none is = ap (option_and_then (role_unit (slot q) (item_at inputs q))) is

  pub unit-alone : role_at inputs q ≡ Some Alone → unit_by inputs slot q ≡ option_map (item_unit (slot q)) (item_at inputs q)
  unit-alone is = ap (option_and_then (role_unit (slot q) (item_at inputs q))) is

  pub unit-first : (g : Group) → role_at inputs q ≡ Some (First g) → unit_by inputs slot q ≡ Some (OneGroup g)
  unit-first g is = ap (option_and_then (role_unit (slot q) (item_at inputs q))) is

  pub unit-inside : role_at inputs q ≡ Some Inside → unit_by inputs slot q ≡ None
  unit-inside is = ap (option_and_then (role_unit (slot q) (item_at inputs q))) is

  -- ---- and what it tells of the item

  mapped_some : (n : Option ℕ) (o : Option Item) (i : Item) → option_map (item_unit n) o ≡ Some (OneItem i) → o ≡ Some i
  mapped_some n None i h = absurd cc
  mapped_some None (Some j) i h = let same : j ≡ i = cc h in ap Some same
  mapped_some (Some n) (Some j) i h = absurd cc

  mapped_group : (n : Option ℕ) (o : Option Item) (g : Group) → option_map (item_unit n) o ≡ Some (OneGroup g) → ⊥
  mapped_group n None g h = cc h
  mapped_group None (Some j) g h = cc h
  mapped_group (Some n) (Some j) g h = cc h

  mapped_site : (n : Option ℕ) (o : Option Item) (k : ℕ) → option_map (item_unit n) o ≡ Some (OneSite k) → n ≡ Some k
  mapped_site n None k h = absurd cc
  mapped_site None (Some j) k h = absurd cc
  mapped_site (Some n) (Some j) k h = let same : n ≡ k = cc h in ap Some same

  pub unit_item : (i : Item) → unit_by inputs slot q ≡ Some (OneItem i) → (role_at inputs q ≡ Some Alone) × (item_at inputs q ≡ Some i)
  unit_item i is = by (role_at inputs q) refl is
    where
      by : (o : Option Role) → role_at inputs q ≡ o → option_and_then (role_unit (slot q) (item_at inputs q)) o ≡ Some (OneItem i) → (role_at inputs q ≡ Some Alone) × (item_at inputs q ≡ Some i)
      by None at h = absurd cc
      by (Some Alone) at h = (at, mapped_some (slot q) (item_at inputs q) i h)
      by (Some (First g)) at h = absurd cc
      by (Some Inside) at h = absurd cc

  pub unit_group : (g : Group) → unit_by inputs slot q ≡ Some (OneGroup g) → role_at inputs q ≡ Some (First g)
  unit_group g is = by (role_at inputs q) refl is
    where
      by : (o : Option Role) → role_at inputs q ≡ o → option_and_then (role_unit (slot q) (item_at inputs q)) o ≡ Some (OneGroup g) → role_at inputs q ≡ Some (First g)
      by None at h = absurd cc
      by (Some Alone) at h = absurd (mapped_group (slot q) (item_at inputs q) g h)
      by (Some (First x)) at h = let same : x ≡ g = cc h in at ∙ ap (λ y. Some (First y)) same
      by (Some Inside) at h = absurd cc

  pub unit_site : (n : ℕ) → unit_by inputs slot q ≡ Some (OneSite n) → (role_at inputs q ≡ Some Alone) × (slot q ≡ Some n)
  unit_site n is = by (role_at inputs q) refl is
    where
      by : (o : Option Role) → role_at inputs q ≡ o → option_and_then (role_unit (slot q) (item_at inputs q)) o ≡ Some (OneSite n) → (role_at inputs q ≡ Some Alone) × (slot q ≡ Some n)
      by None at h = absurd cc
      by (Some Alone) at h = (at, mapped_site (slot q) (item_at inputs q) n h)
      by (Some (First g)) at h = absurd cc
      by (Some Inside) at h = absurd cc

  -- ---- its piece

  -- P holds of a place's piece if it holds of no bytes, of the piece of an item there, of those of groups, and of that of a jump through the table
  pub piece_case : (P : Piece → Type 0) → P (WithOthers 0) → ((i : Item) → item_at inputs q ≡ Some i → P (item_piece_at inputs q i))
      → ((g : Group) → P (WithOthers (group_size g))) → P (WithOthers 2) → P (piece_at inputs slot q)
  piece_case P nothing item group site = by (unit_by inputs slot q) refl
    where
      by : (o : Option CodeUnit) → unit_by inputs slot q ≡ o → P (unit_piece inputs q o)
      by None at = nothing
      by (Some (OneItem i)) at = item i (unit_item i at).1
      by (Some (OneGroup g)) at = group g
      by (Some (OneSite n)) at = site

-- whatever slots there are, something is written there or nothing
pub unit-some : (inputs : ParsedInputs) (slot other : Place → Option ℕ) (q : Place) → is_some (unit_by inputs slot q) ≡ is_some (unit_by inputs other q)
unit-some inputs slot other q = by (role_at inputs q)
  where
    mapped : (n m : Option ℕ) (o : Option Item) → is_some (option_map (item_unit n) o) ≡ is_some (option_map (item_unit m) o)
    mapped n m None = refl
    mapped n m (Some i) = refl

    by : (o : Option Role) → is_some (option_and_then (role_unit (slot q) (item_at inputs q)) o) ≡ is_some (option_and_then (role_unit (other q) (item_at inputs q)) o)
    by None = refl
    by (Some Alone) = mapped (slot q) (other q) (item_at inputs q)
    by (Some (First g)) = refl
    by (Some Inside) = refl

-- ---- where items start

-- an item that has a role starts where its section says
pub record IsStartIn (inputs : ParsedInputs) (q : Place) : Type 0 where
  pub section : SectionParts
  pub code : code_at inputs.objects q ≡ Some section
  pub start : starts_on section q.offset ≡ true

pub role_found : (inputs : ParsedInputs) (q : Place) (r : Role) → role_at inputs q ≡ Some r → IsStartIn inputs q
unfolding role_at
role_found inputs q r is = by (code_at inputs.objects q) refl is
  where
    tested : (s : SectionParts) (here : code_at inputs.objects q ≡ Some s) (o : Option Role) (b : Bool) → starts_on s q.offset ≡ b → cond b o None ≡ Some r → IsStartIn inputs q
    tested s here o true start h = record { section = s; code = here; start = start }
    tested s here o false start h = absurd (none-some r h)

    by : (o : Option SectionParts) → code_at inputs.objects q ≡ o → option_and_then (role_on inputs q) o ≡ Some r → IsStartIn inputs q
    by None at h = absurd (none-some r h)
    by (Some s) at h =
        tested s at (slice_get (roles_in inputs (record { object = q.object; index = q.section; section = s })) (index_on s q.offset)) (starts_on s q.offset) refl h

-- something is written only where an item starts
pub unit_found : (inputs : ParsedInputs) (slot : Place → Option ℕ) (q : Place) (u : CodeUnit) → unit_by inputs slot q ≡ Some u → IsStartIn inputs q
unit_found inputs slot q (OneItem i) is = role_found inputs q Alone (unit_item inputs slot q i is).0
unit_found inputs slot q (OneGroup g) is = role_found inputs q (First g) (unit_group inputs slot q g is)
unit_found inputs slot q (OneSite n) is = role_found inputs q Alone (unit_site inputs slot q n is).0

-- where something is written there is an item
pub found_item : (inputs : ParsedInputs) (q : Place) → IsStartIn inputs q → (i : Item) × (item_at inputs q ≡ Some i)
found_item inputs q at = (item_in inputs at.section q, item_there inputs q at.section at.code at.start)

pub found_start : (inputs : ParsedInputs) (q : Place) → IsStartIn inputs q → is_start_at inputs.objects q ≡ true
found_start inputs q at = ap (λ o. option_map_or (λ s. starts_on s q.offset) o false) at.code ∙ at.start

-- where an item starts there is one
pub start_item : (inputs : ParsedInputs) (q : Place) → is_start_at inputs.objects q ≡ true → (i : Item) × (item_at inputs q ≡ Some i)
start_item inputs q start = by (code_at inputs.objects q) refl start
  where
    by : (o : Option SectionParts) → code_at inputs.objects q ≡ o → option_map_or (λ s. starts_on s q.offset) o false ≡ true → (i : Item) × (item_at inputs q ≡ Some i)
    by None at h = absurd cc
    by (Some s) at h = (item_in inputs s q, item_there inputs q s at h)

-- ---- places of a section

module _ (inputs : ParsedInputs) (l : IndexedSection) (here : section_at inputs.objects l.object l.index ≡ Some l.section) (code : is_code_section l.section ≡ true) where
  -- places of the section are in code
  pub there : (n : ℕ) → code_at inputs.objects (place_of l n) ≡ Some l.section
  there n = code_at_is inputs.objects (place_of l n) l.section here code

  -- an item starts where the section says
  pub held_start : (n : ℕ) → starts_on l.section n ≡ true → item_at inputs (place_of l n) ≡ Some (item_in inputs l.section (place_of l n))
  held_start n start =
      item_at-code inputs (place_of l n) l.section (there n) ∙ ap (λ b. cond b (Some (item_in inputs l.section (place_of l n))) None) start

-- the item at a place of code is the one that its section has there
pub item_same : (inputs : ParsedInputs) (q : Place) (s : SectionParts) (i : Item) → code_at inputs.objects q ≡ Some s → item_at inputs q ≡ Some i → i ≡ item_in inputs s q
item_same inputs q s i here is =
    let found = item_found inputs q i is in
    let same : found.section ≡ s = cc (found.code, here) in
    sym found.item ∙ ap (λ t. item_in inputs t q) same
