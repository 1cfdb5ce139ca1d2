-- Where what is written at a place ends: at the address of the place behind it. A group takes its bytes (`group_ends`).
use Rattle.std.proofs.Common.{◌≡◌, ◌∙◌, ℕ, zero, suc, ◌+◌, ◌-◌, ◌<◌, List, Option, Some, None, get_or, length, slice_get, slice_index, refl, sym, ap, subst, arith}
use Rattle.std.proofs.lemmas.Option.{get_or_from_slice_get, same_Some, slice_get_within}
use Rattle.zc_base.specs.declared.place.Place.{Place}
use Rattle.psabi_sym.specs.Faults.{gather_fault}
use Rattle.psabi_sym.specs.Inputs.{Inputs, ParsedInputs, parsed}
use Rattle.block_cut.specs.Items.{after_items}
use Rattle.frame_match.specs.declared.group.Group.{Group}
use Rattle.shrink_layout.specs.Forms.{IsForm, width}
use Rattle.shrink_layout.specs.Pieces.{group_size, piece_number_at, pieces_of, slot_at, unit_at, unit_piece}
use Rattle.shrink_layout.specs.Settled.{settled_address, settled_addresses, settled_sizes}
use Rattle.shrink_layout.specs.Units.{CodeUnit, OneGroup, OneItem, OneSite, unit_items}
use Rattle.shrink_layout.specs.declared.piece.Piece.{Piece}
use Rattle.shrink_layout.specs.declared.piece.Piece.TheVariants.{Fixed, WithOthers}
use Rattle.shrink_layout.proofs.AddressLaws.{form_at, next_address}
use Rattle.shrink_layout.proofs.KeptLaws.{settled_forms}
use Rattle.shrink_layout.proofs.NumberLaws.{unit_there}
use Rattle.shrink_layout.proofs.PlaceAddressLaws.{address_there}
use Rattle.shrink_layout.proofs.RolePlaces.{behind_unit, group_some, unit_listed}
use Rattle.shrink_layout.proofs.UnitLaws.{unit_group}

-- ---- pieces

module _ (inputs : ParsedInputs) (slots : List (Option Place)) (k : ℕ) (p : Piece) (there : slice_get (pieces_of inputs slots) k ≡ Some p) where
  within : k < length (pieces_of inputs slots)
  within = slice_get_within (pieces_of inputs slots) k p there

  is_piece : get_or (pieces_of inputs slots) k (Fixed 0) ≡ p
  is_piece = get_or_from_slice_get (pieces_of inputs slots) k p (Fixed 0) there

  -- the size of a piece is one of its forms
  pub piece_form : IsForm p (slice_index (settled_sizes inputs slots) k)
  piece_form = subst (λ x. IsForm x (slice_index (settled_sizes inputs slots) k)) is_piece (form_at (pieces_of inputs slots) (settled_sizes inputs slots) k (Fixed 0) within (settled_forms inputs slots))

  -- the next address is after the piece's bytes
  pub piece_ends : slice_index (settled_addresses inputs slots) (k + 1)
      ≡ slice_index (settled_addresses inputs slots) k + width p (slice_index (settled_sizes inputs slots) k) (slice_index (settled_addresses inputs slots) k)
  unfolding settled_addresses
  piece_ends =
      next_address inputs.map.text (pieces_of inputs slots) (settled_sizes inputs slots) k (Fixed 0) within (settled_forms inputs slots)
      ∙ ap (λ x. slice_index (settled_addresses inputs slots) k + width x (slice_index (settled_sizes inputs slots) k) (slice_index (settled_addresses inputs slots) k)) is_piece

-- pieces for nothing take no bytes
nothing_between : (inputs : ParsedInputs) (slots : List (Option Place)) (k n : ℕ) → ((j : ℕ) → 0 < j → j < suc n → slice_get (pieces_of inputs slots) (k + j) ≡ Some (WithOthers 0))
    → slice_index (settled_addresses inputs slots) (k + suc n) ≡ slice_index (settled_addresses inputs slots) (k + 1)
nothing_between inputs slots k zero between = ap (slice_index (settled_addresses inputs slots)) (omega arith)
nothing_between inputs slots k (suc n) between =
    let there = between (suc n) (omega arith) (omega arith) in
    let next : k + suc (suc n) ≡ k + suc n + 1 = omega arith in
    let none = piece_form inputs slots (k + suc n) (WithOthers 0) there in
    let ends = piece_ends inputs slots (k + suc n) (WithOthers 0) there in
    omega (
      arith,
      ap (slice_index (settled_addresses inputs slots)) next,
      ends,
      none,
      nothing_between inputs slots k n (λ j some few. between j some (omega (arith, few))),
    )

-- ---- places

module _ (inputs : Inputs) (none : gather_fault inputs ≡ None) (slots : List (Option Place)) where
  abbrev given : ParsedInputs
  given = parsed inputs

  -- a unit has an item
  items_some : (q : Place) (u : CodeUnit) → unit_at given slots q ≡ Some u → (n : ℕ) × (unit_items u ≡ suc n)
  items_some q (OneItem i) is = (0, refl)
  items_some q (OneGroup g) is = (g.items - 1, omega (arith, group_some given q g (unit_group given (slot_at given slots) q g is)))
  items_some q (OneSite n) is = (0, refl)

  -- the place behind what is written has the next address
  pub behind_address : (q : Place) (u : CodeUnit) → unit_at given slots q ≡ Some u
      → settled_address given slots (after_items given.objects (unit_items u) q) ≡ Some (slice_index (settled_addresses given slots) (piece_number_at given.objects q + 1))
  behind_address q u is =
      let behind = behind_unit inputs none slots q u is in
      let n = items_some q u is in
      let k = piece_number_at given.objects q in
      let same : k + unit_items u ≡ k + suc n.0 = omega (arith, n.1) in
      address_there given slots (after_items given.objects (unit_items u) q) behind.listed
      ∙ ap (λ m. Some (slice_index (settled_addresses given slots) m)) (behind.number ∙ same)
      ∙ ap Some (nothing_between given slots k n.0 (λ j some few. behind.between j some (omega (arith, few, n.1))))

  -- which is after the bytes of what is written
  pub unit_ends : (q : Place) (u : CodeUnit) → unit_at given slots q ≡ Some u
      → slice_index (settled_addresses given slots) (piece_number_at given.objects q + 1)
      ≡ slice_index (settled_addresses given slots) (piece_number_at given.objects q)
      + width (unit_piece given q (Some u)) (slice_index (settled_sizes given slots) (piece_number_at given.objects q)) (slice_index (settled_addresses given slots) (piece_number_at given.objects q))
  unit_ends q u is = piece_ends given slots (piece_number_at given.objects q) (unit_piece given q (Some u)) (unit_there inputs none slots q u is)

  -- what is written has an address
  pub unit_address : (q : Place) (u : CodeUnit) → unit_at given slots q ≡ Some u → settled_address given slots q ≡ Some (slice_index (settled_addresses given slots) (piece_number_at given.objects q))
  unit_address q u is = address_there given slots q (unit_listed given q (slot_at given slots) u is)

  -- a group takes its bytes
  pub group_ends : (q : Place) (g : Group) (a : ℕ) → unit_at given slots q ≡ Some (OneGroup g) → settled_address given slots q ≡ Some a
      → settled_address given slots (after_items given.objects g.items q) ≡ Some (a + group_size g)
  group_ends q g a is here =
      let k = piece_number_at given.objects q in
      let at : slice_index (settled_addresses given slots) k ≡ a = same_Some _ a (sym (unit_address q (OneGroup g) is) ∙ here) in
      let size = piece_form given slots k (WithOthers (group_size g)) (unit_there inputs none slots q (OneGroup g) is) in
      let sum : slice_index (settled_addresses given slots) (k + 1) ≡ a + group_size g = omega (arith, unit_ends q (OneGroup g) is, at, size) in
      behind_address q (OneGroup g) is ∙ ap Some sum
