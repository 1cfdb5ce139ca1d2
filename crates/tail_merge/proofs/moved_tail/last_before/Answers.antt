use Rattle.std.proofs.Common.{◌≡◌, ◌-◌, suc, leb, arith, rules, subst, sym}
use Rattle.std.proofs.lemmas.List.Sorted.{IsPartitionPoint-from_clause, IsPartitionedBy-leb}
use Rattle.tail_merge.specs.declared.moved_tail.MovedTail.{MovedTail}
use Rattle.tail_merge.proofs.MovedTailLaws.{IsPoint, point-none, point-some}
use Rattle.tail_merge.proofs.moved_tail.last_before.Goals as goal

pub returns-in-0 : goal.returns-in-0
returns-in-0 c = λ rises.
    let tails = c.args.tails.now in
    let point = IsPartitionPoint-from_clause (λ (t : MovedTail). leb t.start c.args.n) _ _ c.partition_point.ensures.partitioned (IsPartitionedBy-leb (λ (t : MovedTail). t.start) _ c.args.n rises) (λ a r q k. search rules) in
    sym (point-none tails c.args.n (subst (IsPoint tails c.args.n) c.in-0.is point))

pub returns-in_default : goal.returns-in_default
returns-in_default c = λ rises.
    let tails = c.args.tails.now in
    let k = c.partition_point.result in
    let point = IsPartitionPoint-from_clause (λ (t : MovedTail). leb t.start c.args.n) _ _ c.partition_point.ensures.partitioned (IsPartitionedBy-leb (λ (t : MovedTail). t.start) _ c.args.n rises) (λ a r q k. search rules) in
    let some : k ≡ suc (k - 1) = omega (arith, c.in_default) in
    sym (point-some tails c.args.n (k - 1) _ (omega (arith, some, c.partition_point.ensures.bound)) (subst (IsPoint tails c.args.n) some point))
