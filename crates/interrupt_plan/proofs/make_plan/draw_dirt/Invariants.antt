use Rattle.std.proofs.Common.{◌≡◌, ◌-◌, ◌++◌}
use Rattle.interrupt_plan.specs.Made.{after_dirt, dirt_from}
use Rattle.interrupt_plan.proofs.make_plan.draw_dirt.Given as goal

abbrev pub invariant-loop-k : goal.invariant-loop-k
invariant-loop-k l = record {
  dirt : l.dirt.items ++ dirt_from (l.count - l._k) l.draws ≡ dirt_from l.count l.initial.draws;
  after : after_dirt (l.count - l._k) l.draws ≡ after_dirt l.count l.initial.draws;
}
