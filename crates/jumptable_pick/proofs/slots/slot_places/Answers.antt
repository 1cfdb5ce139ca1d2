use Rattle.std.proofs.Common.{◌≡◌, ◌∙◌, ap, ap₂, sym, arith, ℕ, ◌+◌, ◌<◌, List, [], ◌∷◌, ◌++◌, Option, map, take, get_or, length}
use Rattle.std.proofs.lemmas.List.{map-append, take_more}
use Rattle.zc_base.specs.declared.place.Place.{Place}
use Rattle.pick_check.specs.declared.saving.Saving.{Saving}
use Rattle.jumptable_pick.specs.Slots.{slot_place, slot_places}
use Rattle.jumptable_pick.proofs.PlaceLaws.{are_targets}
use Rattle.jumptable_pick.proofs.slots.slot_places.Goals as goal

-- one more place, after those so far
place_more : (savings : List Saving) (slots : List ℕ) (i d : ℕ) (places : List (Option Place)) (place : Option Place) → i < length slots
    → places ≡ slot_places savings (take i slots) → place ≡ slot_place savings (get_or slots i d) → places ++ place ∷ [] ≡ slot_places savings (take (i + 1) slots)
place_more savings slots i d places place lt so_far is =
    ap₂ (λ ps p. ps ++ p ∷ []) so_far is
    ∙ sym (ap (map (slot_place savings)) (take_more slots i d lt) ∙ map-append (slot_place savings) (take i slots) (get_or slots i d ∷ []))

pub loop-slot-preserved : goal.loop-slot-preserved
loop-slot-preserved c =
    c.in_ok-push.ensures.items
    ∙ place_more c.args.savings.now _ c.loop-slot.slot-index _ c.loop-slot.places.items _ (omega arith) c.loop-slot.invariant c.slot_place.ensures

pub returns-clause-targets : goal.returns-clause-targets
returns-clause-targets c = are_targets c.args.savings.now _ _ c.loop-slot.invariant
