use Rattle.psabi_sym.specs.Inputs.{parsed}
use Rattle.block_cut.proofs.TextLaws.{IsSoFar}
use Rattle.block_cut.proofs.section_items.code_section.Given as goal

abbrev pub invariant-loop-k : goal.invariant-loop-k
invariant-loop-k l = IsSoFar (parsed l.objects) l.fn.section l.k l.places.items l.address
