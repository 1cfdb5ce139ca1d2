use Rattle.psabi_sym.specs.Inputs.{parsed}
use Rattle.shrink_layout.specs.Invariants.Sites.{AreSavings, places_before}
use Rattle.shrink_layout.proofs.settled.Settled.savings.Given as goal

abbrev pub invariant-loop-section : goal.invariant-loop-section
invariant-loop-section l = AreSavings (parsed l.self.inputs) (places_before (parsed l.self.inputs).objects l.section) l.savings.items
