use Rattle.std.proofs.Common.{ℕ, ◌<◌, ◌-◌}
use Rattle.zc_machine.specs.Advance.{CommitsTo}
use Rattle.zc_machine.proofs.run.advance.Given as goal

abbrev pub invariant-loop-machine : goal.invariant-loop-machine
invariant-loop-machine l = record {
  within : l.machine.commits < l.until;
  made : (n : ℕ) × CommitsTo n l.initial.machine l.machine;
}

abbrev pub decreases-loop-machine : goal.decreases-loop-machine
decreases-loop-machine l = l.until - l.machine.commits
