use Rattle.std.proofs.Common.{◌≡◌, ℕ, ◌-◌, suc, leb, ltb, ap, arith, rules, subst, sym, ◌∙◌}
use Rattle.std.proofs.lemmas.List.Sorted.{IsPartitionPoint-from_clause, IsPartitionedBy-leb}
use Rattle.shared_cells.proofs.RangeLaws.{IsPoint, point_none, point_some, rises}
use Rattle.shared_cells.proofs.ranges.found.Goals as goal

pub returns-then-begun-gt0 : goal.returns-then-begun-gt0
returns-then-begun-gt0 c =
    let ranges = c.args.ranges.now in
    let begun = c.partition_point-begun.result in
    let point = IsPartitionPoint-from_clause (λ (r : ℕ × ℕ). leb r.0 c.args.address) _ _ c.partition_point-begun.ensures.partitioned (IsPartitionedBy-leb (λ (r : ℕ × ℕ). r.0) _ c.args.address (rises 0 ranges c.requires)) (λ a r q k. search rules) in
    let some : begun ≡ suc (begun - 1) = omega (arith, c.if-begun-gt0.true) in
    c.lies_in.ensures
    ∙ sym (point_some 0 ranges c.args.address (begun - 1) _ c.requires (omega (arith, some, c.partition_point-begun.ensures.bound)) (subst (IsPoint ranges c.args.address) some point))

pub returns-else-begun-gt0 : goal.returns-else-begun-gt0
returns-else-begun-gt0 c =
    let ranges = c.args.ranges.now in
    let point = IsPartitionPoint-from_clause (λ (r : ℕ × ℕ). leb r.0 c.args.address) _ _ c.partition_point-begun.ensures.partitioned (IsPartitionedBy-leb (λ (r : ℕ × ℕ). r.0) _ c.args.address (rises 0 ranges c.requires)) (λ a r q k. search rules) in
    let none : c.partition_point-begun.result ≡ 0 = omega (arith, c.if-begun-gt0.false) in
    ap (ltb 0) none ∙ sym (point_none ranges c.args.address (subst (IsPoint ranges c.args.address) none point))
