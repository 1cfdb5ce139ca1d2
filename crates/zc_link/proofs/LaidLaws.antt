-- Laws of any layout of code: addresses are below 2^32, and where an item starts something is written just if that has an address.
use Rattle.std.proofs.Common.{◌≡◌, ℕ, ◌^◌, ◌<◌, ◌≤◌, Option, Some, None, true, false, refl, sym, ap, ◌∙◌, arith}
use Rattle.std.specs.Prelude.{◌&&◌}
use Rattle.std.specs.Option.{is_some, option_map_or}
use Rattle.zc_base.specs.MemMap.{IsMap}
use Rattle.zc_base.specs.declared.place.Place.{Place}
use Rattle.psabi_sym.specs.Inputs.{parsed}
use Rattle.block_cut.specs.Items.{is_start_at, item_at, starts_on}
use Rattle.block_cut.specs.declared.item.Item.{Item}
use Rattle.block_cut.proofs.ItemLaws.{item_found}
use Rattle.frame_match.specs.declared.group.Group.{Group}
use Rattle.shrink_layout.specs.Units.{CodeUnit, OneGroup, OneItem, OneSite, unit_items}
use Rattle.shrink_layout.proofs.RolePlaces.{group_some}
use Rattle.zc_link.specs.LaidOut.{IsLaidOut}
use Rattle.zc_link.specs.TextLayout.{TextLayout}

-- an address is small
pub address_small : (L : TextLayout) → IsMap L.inputs.map → IsLaidOut L → (q : Place) (a : ℕ) → L.address q ≡ Some a → a < 2 ^ 32
address_small L is_map laid q a is = omega (arith, laid.high q a is, laid.short, is_map.code, is_map.room)

module _ (L : TextLayout) (laid : IsLaidOut L) where
  -- where an item starts at a place with an address, something is written
  pub unit_there : (q : Place) (item : Item) (a : ℕ) → item_at (parsed L.inputs) q ≡ Some item → L.address q ≡ Some a → (u : CodeUnit) × (L.unit q ≡ Some u)
  unit_there q item a is at =
      let found = item_found (parsed L.inputs) q item is in
      let start : is_start_at (parsed L.inputs).objects q ≡ true = ap (λ o. option_map_or (λ s. starts_on s q.offset) o false) found.code ∙ found.start in
      by (L.unit q) refl (laid.written q ∙ (λ j. is_some (at j) && start j))
    where
      by : (o : Option CodeUnit) → L.unit q ≡ o → is_some (L.unit q) ≡ true → (u : CodeUnit) × (L.unit q ≡ Some u)
      by None is some = absurd (cc (ap is_some is, some))
      by (Some u) is some = (u, is)

  -- what is written has an address
  pub unit_address : (q : Place) (u : CodeUnit) → L.unit q ≡ Some u → (a : ℕ) × (L.address q ≡ Some a)
  unit_address q u unit = by (L.address q) refl
    where
      by : (o : Option ℕ) → L.address q ≡ o → (a : ℕ) × (L.address q ≡ Some a)
      by None none = absurd (cc (ap is_some (sym unit) ∙ laid.written q ∙ ap (λ o. is_some o && is_start_at (parsed L.inputs).objects q) none))
      by (Some a) at = (a, at)

  -- where nothing is written an item that starts there has none
  pub no_address : (q : Place) → is_start_at (parsed L.inputs).objects q ≡ true → L.unit q ≡ None → L.address q ≡ None
  no_address q start unit = by (L.address q) refl
    where
      by : (o : Option ℕ) → L.address q ≡ o → L.address q ≡ None
      by None none = none
      by (Some a) at = absurd (cc (ap is_some (sym unit) ∙ laid.written q ∙ (λ j. is_some (at j) && start j)))

  -- a group has an item
  pub group_items : (q : Place) (g : Group) → L.unit q ≡ Some (OneGroup g) → 1 ≤ g.items
  group_items q g unit = let at = unit_address q (OneGroup g) unit in group_some (parsed L.inputs) q g (laid.each q at.0 (OneGroup g) unit at.1).is

  -- any unit has one
  pub unit_some : (q : Place) (u : CodeUnit) → L.unit q ≡ Some u → 1 ≤ unit_items u
  unit_some q (OneItem i) unit = omega arith
  unit_some q (OneGroup g) unit = group_items q g unit
  unit_some q (OneSite slot) unit = omega arith
