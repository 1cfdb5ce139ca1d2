use Rattle.std.proofs.Common.{◌≡◌, ◌-◌, ◌*◌, ◌≤◌, ◌++◌}
use Rattle.interrupt_plan.specs.Made.{cuts_from}
use Rattle.interrupt_plan.proofs.make_plan.make_plan.Given as goal

abbrev pub invariant-loop-i : goal.invariant-loop-i
invariant-loop-i l = record {
  cuts : l.cuts.items ++ cuts_from (l.count - l._i) l.at l.draws ≡ cuts_from l.count 0 l.number;
  small : l.at ≤ 64 * l._i;
}
