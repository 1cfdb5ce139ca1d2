use Rattle.std.proofs.Common.{◌≡◌, take}
use Rattle.jumptable_pick.specs.Slots.{slot_places}
use Rattle.jumptable_pick.proofs.slots.slot_places.Given as goal

abbrev pub invariant-loop-slot : goal.invariant-loop-slot
invariant-loop-slot l = l.places.items ≡ slot_places l.savings (take l.slot-index l.slot-items)
