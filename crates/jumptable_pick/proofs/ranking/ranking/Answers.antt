use Rattle.std.proofs.Common.{arith, subst, IsPermutation}
use Rattle.jumptable_pick.proofs.SortLaws.{before_from}
use Rattle.jumptable_pick.proofs.RankLaws.{ranking_is}
use Rattle.jumptable_pick.proofs.ranking.ranking.Goals as goal

pub returns : goal.returns
returns c =
    let sorted = c.sort.new.self.items in
    ranking_is c.args.part c.args.savings.now sorted (record {
      each = subst (λ ranks. IsPermutation ranks sorted) c.in_ok-ranks.ensures c.sort.ensures.permutation;
      ordered = λ k d lt. before_from _ _ (c.in_ok-sort.ensures.sorted k d (omega arith) lt);
    })
