use Rattle.std.proofs.Common.{◌≡◌, ◌++◌, List, Option, map, take}
use Rattle.psabi_sym.specs.Inputs.{parsed}
use Rattle.shrink_layout.specs.Invariants.Made.{AreHalvesOf, places_held}
use Rattle.shrink_layout.specs.Invariants.Slots.{first_piece, first_unit}
use Rattle.shrink_layout.specs.Units.{CodeUnit}
use Rattle.shrink_layout.proofs.pieces.add_places.Given as goal

abbrev pub invariant-loop-i : goal.invariant-loop-i
invariant-loop-i l = record {
  pieces : l.made.pieces.items ≡ l.fn.made.pieces.items ++ map (first_piece (parsed l.of.planned.now)) (places_held l.section.section (take l.i l.section.places.now));
  halves : (owners : List (Option CodeUnit)) → AreHalvesOf owners l.fn.made.halves.items
      → AreHalvesOf (owners ++ map (first_unit (parsed l.of.planned.now)) (places_held l.section.section (take l.i l.section.places.now))) l.made.halves.items;
}
