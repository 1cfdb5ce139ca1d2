use Rattle.std.proofs.Common.{◌≡◌, ◌++◌, drop}
use Rattle.jumptable_pick.specs.Ranking.{ranks_from}
use Rattle.jumptable_pick.proofs.ranking.ranks_of.Given as goal

abbrev pub invariant-loop-i : goal.invariant-loop-i
invariant-loop-i l = l.ranks.items ++ ranks_from l.part l.i (drop l.i l.savings) ≡ ranks_from l.part 0 l.savings
