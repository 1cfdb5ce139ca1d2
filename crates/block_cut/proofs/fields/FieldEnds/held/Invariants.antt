use Rattle.std.proofs.Common.{take}
use Rattle.block_cut.specs.Invariants.Fields.{HoldsEnds}
use Rattle.block_cut.proofs.fields.FieldEnds.held.Given as goal

abbrev pub invariant-loop-k : goal.invariant-loop-k
invariant-loop-k l = HoldsEnds (take l.k l.section.section.relocs) l.ends
