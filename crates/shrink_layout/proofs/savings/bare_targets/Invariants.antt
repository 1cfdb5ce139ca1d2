use Rattle.std.proofs.Common.{◌≡◌, [], map}
use Rattle.psabi_sym.specs.Inputs.{parsed}
use Rattle.shrink_layout.specs.Invariants.Sites.{targets_before}
use Rattle.shrink_layout.specs.Savings.{saving_of}
use Rattle.shrink_layout.proofs.savings.bare_targets.Given as goal

abbrev pub invariant-loop-section : goal.invariant-loop-section
invariant-loop-section l = l.savings.items ≡ map (saving_of []) (targets_before (parsed l.cut).objects l.section)
