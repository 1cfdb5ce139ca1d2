-- What is written if each item is written by itself: the item, where one starts, and behind it comes the next one's place.
use Rattle.std.proofs.Common.{◌≡◌, ◌<◌, arith, ℕ, Bool, true, false, Option, Some, None, refl, sym, ap, ◌∙◌}
use Rattle.std.specs.Prelude.{◌&&◌, ◌||◌}
use Rattle.std.specs.Option.{is_some, option_map, option_map_or}
use Rattle.zc_base.specs.declared.place.Place.{Place}
use Rattle.psabi_sym.specs.Inputs.{ParsedInputs, parsed}
use Rattle.block_cut.specs.Items.{after_items, is_end_at, is_start_at, is_target_at, item_at, next_at}
use Rattle.block_cut.specs.declared.item.Item.{Item}
use Rattle.frame_match.specs.declared.group.Group.{Group}
use Rattle.shrink_layout.specs.Units.{OneGroup, OneItem, OneSite, unit_items}
use Rattle.shrink_layout.proofs.PlaceAddressLaws.{start_some}
use Rattle.zc_link.specs.LaidOut.{HasNoAddress}
use Rattle.zc_link.specs.TextLayout.{TextLayout, behind}

-- the place behind what is written is the one after the item
pub item_behind :
    (L : TextLayout) (q : Place) → L.unit q ≡ option_map OneItem (item_at (parsed L.inputs) q)
    → behind L q ≡ next_at (parsed L.inputs).objects q
item_behind L q is = by (item_at (parsed L.inputs) q) refl
  where
    by : (o : Option Item) → item_at (parsed L.inputs) q ≡ o → behind L q ≡ next_at (parsed L.inputs).objects q
    by None at = ap (λ o. after_items (parsed L.inputs).objects (option_map_or unit_items o 1) q) (is ∙ ap (option_map OneItem) at)
    by (Some i) at = ap (λ o. after_items (parsed L.inputs).objects (option_map_or unit_items o 1) q) (is ∙ ap (option_map OneItem) at)

-- no group is written
pub no_group : (o : Option Item) (g : Group) → option_map OneItem o ≡ Some (OneGroup g) → ⊥
no_group None g h = absurd cc
no_group (Some j) g h = absurd cc

-- nor a jump through a table
pub no_site : (o : Option Item) (slot : ℕ) → option_map OneItem o ≡ Some (OneSite slot) → ⊥
no_site None slot h = absurd cc
no_site (Some j) slot h = absurd cc

-- what is written is the item there
pub item_unit :
    (p : ParsedInputs) (q : Place) (i : Item) → option_map OneItem (item_at p q) ≡ Some (OneItem i) → item_at p q ≡ Some i
item_unit p q i is = by (item_at p q) is
  where
    by : (o : Option Item) → option_map OneItem o ≡ Some (OneItem i) → o ≡ Some i
    by None h = absurd cc
    by (Some j) h = cc

-- an item by itself has no place inside
pub single_inside : (L : TextLayout) (q : Place) (k : ℕ) → 0 < k → k < 1 → HasNoAddress L (after_items (parsed L.inputs).objects k q)
single_inside L q k some few = absurd (omega (arith, some, few))

-- something is written just where an item starts
pub item_written :
    (p : ParsedInputs) (A : Place → Option ℕ) → ((q : Place) → is_some (A q) ≡ is_target_at p.objects q) → (q : Place)
    → is_some (option_map OneItem (item_at p q)) ≡ (is_some (A q) && is_start_at p.objects q)
item_written p A lists q =
    mapped (item_at p q) ∙ start_some p q ∙ either (is_start_at p.objects q) (is_end_at p.objects q)
    ∙ ap (λ b. b && is_start_at p.objects q) (sym (lists q))
  where
    mapped : (o : Option Item) → is_some (option_map OneItem o) ≡ is_some o
    mapped None = refl
    mapped (Some i) = refl

    either : (a b : Bool) → a ≡ ((a || b) && a)
    either true b = refl
    either false true = refl
    either false false = refl
