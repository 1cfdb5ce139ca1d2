use Rattle.std.proofs.Common.{take}
use Rattle.block_cut.specs.Invariants.Fields.{HoldsFields}
use Rattle.block_cut.proofs.fields.Fields.held.Given as goal

abbrev pub invariant-loop-k : goal.invariant-loop-k
invariant-loop-k l = HoldsFields (take l.k l.section.section.relocs) l.fields
