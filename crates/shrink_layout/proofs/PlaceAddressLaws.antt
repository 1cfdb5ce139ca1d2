-- Addresses and sizes of places.
use Rattle.std.proofs.Common.{◌≡◌, ◌-◌, ◌+◌, ℕ, List, Bool, true, false, cond, Option, Some, None, slice_index, refl, sym, ap, ◌∙◌}
use Rattle.std.specs.Prelude.{◌&&◌}
use Rattle.std.specs.Option.{is_some, option_map, option_map_or}
use Rattle.zc_base.specs.declared.place.Place.{Place}
use Rattle.elf32_read.specs.Parts.{SectionParts}
use Rattle.psabi_sym.specs.Faults.{gather_fault}
use Rattle.psabi_sym.specs.Inputs.{Inputs, ParsedInputs, parsed}
use Rattle.block_cut.specs.Items.{code_at, is_end_at, is_start_at, is_target_at, item_at, item_in, starts_on}
use Rattle.block_cut.specs.Leaders.{is_leader_at}
use Rattle.block_cut.specs.declared.item.Item.{Item}
use Rattle.block_cut.proofs.ItemLaws.{item_at-code, item_at-none}
use Rattle.frame_match.specs.Groups.{role_at}
use Rattle.frame_match.specs.declared.role.Role.{Role}
use Rattle.frame_match.specs.declared.role.Role.TheVariants.{Alone, First, Inside}
use Rattle.shrink_layout.specs.Pieces.{piece_number_at, slot_at, unit_at}
use Rattle.shrink_layout.specs.Settled.{settled_address, settled_addresses, settled_size}
use Rattle.shrink_layout.specs.Units.{CodeUnit, is_inside, is_listed_at, is_within}
use Rattle.shrink_layout.proofs.RolePlaces.{end_listed, inside_unlisted, leader_listed, listed_target, unit_listed, unit_outside}
use Rattle.shrink_layout.proofs.UnitLaws.{found_item, found_start, start_item, unit-inside, unit_found}

-- there is an item just where one starts
pub start_some : (inputs : ParsedInputs) (q : Place) → is_some (item_at inputs q) ≡ is_start_at inputs.objects q
start_some inputs q = by (code_at inputs.objects q) refl
  where
    tested : (s : SectionParts) (b : Bool) → is_some (cond b (Some (item_in inputs s q)) None) ≡ b
    tested s true = refl
    tested s false = refl

    by : (o : Option SectionParts) → code_at inputs.objects q ≡ o → is_some (item_at inputs q) ≡ is_start_at inputs.objects q
    by None at = ap is_some (item_at-none inputs q at) ∙ sym (ap (λ o. option_map_or (λ s. starts_on s q.offset) o false) at)
    by (Some s) at =
        ap is_some (item_at-code inputs q s at) ∙ tested s (starts_on s q.offset)
        ∙ sym (ap (λ o. option_map_or (λ t. starts_on t q.offset) o false) at)

-- ---- addresses

module _ (inputs : ParsedInputs) (slots : List (Option Place)) (q : Place) where
  -- a place that images list has the address with its number
  pub address_there : is_listed_at inputs q ≡ true → settled_address inputs slots q ≡ Some (slice_index (settled_addresses inputs slots) (piece_number_at inputs.objects q))
  unfolding settled_address
  address_there is = ap (λ b. cond b (Some (slice_index (settled_addresses inputs slots) (piece_number_at inputs.objects q))) None) is

  -- others have none
  pub address_nowhere : is_listed_at inputs q ≡ false → settled_address inputs slots q ≡ None
  unfolding settled_address
  address_nowhere is = ap (λ b. cond b (Some (slice_index (settled_addresses inputs slots) (piece_number_at inputs.objects q))) None) is

  -- a place with an address is one that images list
  pub address_listed : (a : ℕ) → settled_address inputs slots q ≡ Some a → is_listed_at inputs q ≡ true
  unfolding settled_address
  address_listed a is = by (is_listed_at inputs q) refl is
    where
      by : (b : Bool) → is_listed_at inputs q ≡ b → cond b (Some (slice_index (settled_addresses inputs slots) (piece_number_at inputs.objects q))) None ≡ Some a → is_listed_at inputs q ≡ true
      by true listed h = listed
      by false other h = absurd cc

  -- code may lead to a place with an address
  pub address_target : (a : ℕ) → settled_address inputs slots q ≡ Some a → is_target_at inputs.objects q ≡ true
  address_target a is = listed_target inputs q (address_listed a is)

-- each end of a section has an address
pub end_address : (inputs : ParsedInputs) (slots : List (Option Place)) (q : Place) → is_end_at inputs.objects q ≡ true → is_some (settled_address inputs slots q) ≡ true
end_address inputs slots q end = ap is_some (address_there inputs slots q (end_listed inputs q end))

-- each place where a basic block begins has an address
pub leader_address : (inputs : Inputs) → gather_fault inputs ≡ None → (slots : List (Option Place)) (q : Place) → is_target_at (parsed inputs).objects q ≡ true → is_leader_at (parsed inputs) q ≡ true
    → is_some (settled_address (parsed inputs) slots q) ≡ true
leader_address inputs none slots q target leads = ap is_some (address_there (parsed inputs) slots q (leader_listed inputs none q target leads))

-- something is written just where an item starts that has an address
pub unit_written : (inputs : Inputs) → gather_fault inputs ≡ None → (slots : List (Option Place)) (q : Place)
    → is_some (unit_at (parsed inputs) slots q) ≡ (is_some (settled_address (parsed inputs) slots q) && is_start_at (parsed inputs).objects q)
unit_written inputs none slots q = by (unit_at given slots q) refl (is_start_at given.objects q) refl
  where
    given : ParsedInputs
    given = parsed inputs

    and_false : (b : Bool) → (b && false) ≡ false
    and_false true = refl
    and_false false = refl

    -- where nothing is written for an item, that is inside a group
    nowhere : unit_at given slots q ≡ None → is_start_at given.objects q ≡ true → (b : Bool) → is_inside given q ≡ b → settled_address given slots q ≡ None
    nowhere at start true inside = address_nowhere given slots q (inside_unlisted inputs none q inside)
    nowhere at start false outside = let i = start_item given q start in let u = unit_outside given (slot_at given slots) q i.0 i.1 outside in absurd (cc (at, u.1))

    by : (o : Option CodeUnit) → unit_at given slots q ≡ o → (b : Bool) → is_start_at given.objects q ≡ b
        → is_some o ≡ (is_some (settled_address given slots q) && is_start_at given.objects q)
    by (Some u) at b start =
        sym (λ j. is_some (address_there given slots q (unit_listed given q (slot_at given slots) u at) j) && found_start given q (unit_found given (slot_at given slots) q u at) j)
    by None at true start = sym (ap (λ o. is_some o && is_start_at given.objects q) (nowhere at start (is_inside given q) refl))
    by None at false other = sym (ap (λ x. is_some (settled_address given slots q) && x) other ∙ and_false (is_some (settled_address given slots q)))

-- ---- sizes

-- the distance from a place's address to the next one
abbrev way_on : ParsedInputs → List (Option Place) → Place → ℕ
way_on inputs slots q = slice_index (settled_addresses inputs slots) (piece_number_at inputs.objects q + 1) - slice_index (settled_addresses inputs slots) (piece_number_at inputs.objects q)

module _ (inputs : ParsedInputs) (slots : List (Option Place)) (q : Place) where
  -- the size of what is written is that distance
  pub size_there : (u : CodeUnit) → unit_at inputs slots q ≡ Some u
      → settled_size inputs slots q ≡ Some (slice_index (settled_addresses inputs slots) (piece_number_at inputs.objects q + 1) - slice_index (settled_addresses inputs slots) (piece_number_at inputs.objects q))
  size_there u is = ap (option_map (λ v. way_on inputs slots q)) is

  -- which an item has that starts there
  pub size_found : (size : ℕ) → settled_size inputs slots q ≡ Some size → (is_start_at inputs.objects q ≡ true) × (way_on inputs slots q ≡ size)
  size_found size is = by (unit_at inputs slots q) refl is
    where
      by : (o : Option CodeUnit) → unit_at inputs slots q ≡ o → option_map (λ u. way_on inputs slots q) o ≡ Some size → (is_start_at inputs.objects q ≡ true) × (way_on inputs slots q ≡ size)
      by None at h = absurd cc
      by (Some u) at h = (found_start inputs q (unit_found inputs (slot_at inputs slots) q u at), cc)

  -- where nothing is written there is no size
  pub size_nowhere : unit_at inputs slots q ≡ None → settled_size inputs slots q ≡ None
  size_nowhere is = ap (option_map (λ v. way_on inputs slots q)) is

  -- where no item starts there is no size
  pub size_without : is_some (item_at inputs q) ≡ false → settled_size inputs slots q ≡ None
  size_without other = size_nowhere (by (unit_at inputs slots q) refl)
    where
      by : (o : Option CodeUnit) → unit_at inputs slots q ≡ o → unit_at inputs slots q ≡ None
      by None at = at
      by (Some u) at = let i = found_item inputs q (unit_found inputs (slot_at inputs slots) q u at) in absurd (cc (other, ap is_some i.1))

  -- inside a group there is no size
  pub size_inside : is_inside inputs q ≡ true → settled_size inputs slots q ≡ None
  size_inside inside = by (role_at inputs q) refl inside
    where
      by : (o : Option Role) → role_at inputs q ≡ o → is_within o ≡ true → settled_size inputs slots q ≡ None
      by None at h = absurd cc
      by (Some Alone) at h = absurd cc
      by (Some (First g)) at h = absurd cc
      by (Some Inside) at h = size_nowhere (unit-inside inputs (slot_at inputs slots) q at)

  -- but there is one of every other item
  pub size_outside : (i : Item) → item_at inputs q ≡ Some i → is_inside inputs q ≡ false
      → settled_size inputs slots q ≡ Some (slice_index (settled_addresses inputs slots) (piece_number_at inputs.objects q + 1) - slice_index (settled_addresses inputs slots) (piece_number_at inputs.objects q))
  size_outside i is outside = let u = unit_outside inputs (slot_at inputs slots) q i is outside in size_there u.0 u.1
