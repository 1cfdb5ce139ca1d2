use Rattle.std.proofs.Common.{◌≡◌, take, map, nat_lt}
use Rattle.std.specs.List.{filter}
use Rattle.jumptable_pick.specs.Ranking.{rank_saving}
use Rattle.jumptable_pick.proofs.slot_lists.chosen.Given as goal

abbrev pub invariant-loop-rank : goal.invariant-loop-rank
invariant-loop-rank l = l.slots.items ≡ map (λ r. r.number) (filter (λ r. nat_lt l.above (rank_saving r)) (take l.rank-index l.rank-items))
