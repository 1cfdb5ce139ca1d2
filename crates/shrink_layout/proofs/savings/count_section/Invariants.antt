use Rattle.std.proofs.Common.{◌++◌, take}
use Rattle.psabi_sym.specs.Inputs.{parsed}
use Rattle.shrink_layout.specs.Invariants.Made.{places_held}
use Rattle.shrink_layout.specs.Invariants.Sites.{AreSavings, places_before}
use Rattle.shrink_layout.proofs.savings.count_section.Given as goal

abbrev pub invariant-loop-place : goal.invariant-loop-place
invariant-loop-place l =
    AreSavings (parsed l.settled.inputs) (places_before (parsed l.settled.inputs).objects l.section ++ places_held l.own (take l.place-index l.places)) l.savings
