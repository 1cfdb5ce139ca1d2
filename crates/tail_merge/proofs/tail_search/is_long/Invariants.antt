use Rattle.std.proofs.Common.{◌≡◌, ◌+◌, take}
use Rattle.std.specs.List.{sum_by}
use Rattle.tail_merge.proofs.tail_search.is_long.Given as goal

abbrev pub invariant-loop-item : goal.invariant-loop-item
invariant-loop-item l = l.left + sum_by (λ t. t.size) (take l.item-index l.items) ≡ 4
