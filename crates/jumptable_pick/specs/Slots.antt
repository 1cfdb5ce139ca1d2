-- The targets of a table's slots.
use Rattle.std.specs.Prelude.{◌≡◌, ℕ, zero, suc, All, List, map, slice_get, Option, None, IfSome, option_map}
use Rattle.std.specs.List.{Contains}
use Rattle.zc_base.specs.declared.place.Place.{Place}
use Rattle.pick_check.specs.declared.saving.Saving.{Saving}

-- the target of a slot; `None` for a hole
abbrev pub slot_place : List Saving → ℕ → Option Place
slot_place savings zero = None
slot_place savings (suc index) = option_map (λ s. s.target) (slice_get savings index)

-- the targets of all slots, in their order
abbrev pub slot_places : List Saving → List ℕ → List (Option Place)
slot_places savings slots = map (slot_place savings) slots

-- a place is the target of a saving
abbrev pub IsTarget : List Saving → Place → Type 0
IsTarget savings p = (s : Saving) × Contains savings s × (s.target ≡ p)

-- every place in the list is the target of a saving
abbrev pub AreTargets : List Saving → List (Option Place) → Type 0
AreTargets savings places = All (λ place. IfSome place (IsTarget savings)) places
