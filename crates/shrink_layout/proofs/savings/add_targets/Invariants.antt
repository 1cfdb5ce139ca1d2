use Rattle.std.proofs.Common.{◌≡◌, ◌++◌, [], map, take}
use Rattle.shrink_layout.specs.Invariants.Made.{places_held}
use Rattle.shrink_layout.specs.Savings.{saving_of}
use Rattle.shrink_layout.proofs.savings.add_targets.Given as goal

abbrev pub invariant-loop-place : goal.invariant-loop-place
invariant-loop-place l = l.savings.items ≡ l.fn.savings.items ++ map (saving_of []) (places_held l.own (take l.place-index l.places))
