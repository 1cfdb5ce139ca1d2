-- The place of each slot is the target of a saving.
use Rattle.std.proofs.Common.{◌≡◌, ℕ, zero, suc, List, [], ◌∷◌, get_or, slice_get, refl, sym, subst, arith}
use Rattle.std.specs.Prelude.{Option, Some, None, IfSome, option_map}
use Rattle.std.proofs.lemmas.List.Elements.{All-from_get_or, All-map, Contains-append_right}
use Rattle.zc_base.specs.declared.place.Place.{Place}
use Rattle.pick_check.specs.declared.saving.Saving.{Saving}
use Rattle.jumptable_pick.specs.Slots.{AreTargets, IsTarget, slot_place, slot_places}

later : (s : Saving) (rest : List Saving) (place : Option Place) → IfSome place (IsTarget rest) → IfSome place (IsTarget (s ∷ rest))
later s rest None is = tt
later s rest (Some p) is = (is.0, Contains-append_right (s ∷ []) rest is.0 is.1, is.2)

target_at : (savings : List Saving) (k : ℕ) → IfSome (option_map (λ s. s.target) (slice_get savings k)) (IsTarget savings)
target_at [] k = tt
target_at (s ∷ rest) zero = (s, (0, omega arith, refl), refl)
target_at (s ∷ rest) (suc k) = later s rest (option_map (λ s. s.target) (slice_get rest k)) (target_at rest k)

slot_target : (savings : List Saving) (slot : ℕ) → IfSome (slot_place savings slot) (IsTarget savings)
slot_target savings zero = tt
slot_target savings (suc k) = target_at savings k

pub are_targets : (savings : List Saving) (slots : List ℕ) (places : List (Option Place)) → places ≡ slot_places savings slots → AreTargets savings places
are_targets savings slots places is =
    let each = All-from_get_or (λ slot. IfSome (slot_place savings slot) (IsTarget savings)) slots 0 (λ i lt. slot_target savings (get_or slots i 0)) in
    subst (AreTargets savings) (sym is) (All-map (λ place. IfSome place (IsTarget savings)) (slot_place savings) slots each)
