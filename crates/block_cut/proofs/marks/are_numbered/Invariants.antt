use Rattle.std.proofs.Common.{◌≡◌, ◌≢◌, ◌<◌, ℕ, false, get_or, true}
use Rattle.block_cut.proofs.marks.are_numbered.Given as goal

abbrev pub invariant-loop-k : goal.invariant-loop-k
invariant-loop-k l = (n : ℕ) → n < l.k → get_or l.marks n false ≡ true → get_or l.numbers n 0 ≢ 0
