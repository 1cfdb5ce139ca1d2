use Rattle.psabi_sym.specs.Inputs.{parsed}
use Rattle.shrink_layout.specs.Invariants.Made.{AreMade}
use Rattle.shrink_layout.proofs.pieces.make_pieces.Given as goal

abbrev pub invariant-loop-section : goal.invariant-loop-section
invariant-loop-section l = AreMade (parsed l.of.planned.now) l.section l.made
