use Rattle.psabi_sym.specs.Inputs.{parsed}
use Rattle.shrink_layout.specs.Invariants.Made.{ArePut}
use Rattle.shrink_layout.proofs.sites.put_sites.Given as goal

abbrev pub invariant-loop-section : goal.invariant-loop-section
invariant-loop-section l = ArePut (parsed l.of.planned.now) l.fn.slots.slots.now l.section l.made
