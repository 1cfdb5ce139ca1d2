use Rattle.std.proofs.Common.{drop, take}
use Rattle.shrink_layout.specs.Invariants.Made.{ArePutIn, places_held}
use Rattle.shrink_layout.specs.Invariants.Slots.{source_inputs, source_slots}
use Rattle.shrink_layout.proofs.sites.put_places.Given as goal

abbrev pub invariant-loop-i : goal.invariant-loop-i
invariant-loop-i l =
    ArePutIn (source_inputs l.of) (source_slots l.of) l.section.number l.section.section
    (places_held l.section.section (take l.i l.section.places.now)) (places_held l.section.section (drop l.i l.section.places.now)) l.made
