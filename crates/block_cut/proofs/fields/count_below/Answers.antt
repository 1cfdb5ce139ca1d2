use Rattle.std.proofs.Common.{nat_lt, rules}
use Rattle.std.proofs.lemmas.List.Sorted.{IsPartitionPoint-from_clause, IsPartitionedBy-ltb}
use Rattle.block_cut.proofs.FieldLaws.{count_at}
use Rattle.block_cut.proofs.fields.count_below.Goals as goal

pub returns-clause-value : goal.returns-clause-value
returns-clause-value c = λ rise.
    let parted = IsPartitionedBy-ltb (λ n. n) _ c.args.most rise in
    let point = IsPartitionPoint-from_clause (λ n. nat_lt n c.args.most) _ _ c.partition_point.ensures.partitioned parted (λ a r q k. search rules) in
    count_at (λ n. nat_lt n c.args.most) c.args.numbers.now c.partition_point.result c.partition_point.ensures.bound point
