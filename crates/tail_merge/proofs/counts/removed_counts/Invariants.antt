-- The counts are those of the sections before this one.
use Rattle.psabi_sym.specs.Inputs.{parsed}
use Rattle.tail_merge.proofs.CountTurns.{AreCountsUpto}
use Rattle.tail_merge.proofs.counts.removed_counts.Given as goal

abbrev pub invariant-loop-k : goal.invariant-loop-k
invariant-loop-k l = AreCountsUpto (parsed l.cut) l.k l.counts.tails l.counts.bytes
