use Rattle.std.proofs.Common.{◌≡◌, ℕ, false}
use Rattle.block_cut.specs.Invariants.Led.{mark_in}
use Rattle.block_cut.proofs.leaders.Leaders.new.Given as goal

abbrev pub invariant-loop-k : goal.invariant-loop-k
invariant-loop-k l = (n k : ℕ) → mark_in l.sections.items n k ≡ false
