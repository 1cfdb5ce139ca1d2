use Rattle.std.proofs.Common.{◌≡◌, ℕ, ◌-◌, ◌≤◌}
use Rattle.zc_machine.proofs.RunLaws.{Came}
use Rattle.zc_machine.proofs.run.run_with.Given as goal

abbrev pub invariant-loop-devices : goal.invariant-loop-devices
invariant-loop-devices g l = record {
  within : l.machine.commits ≤ l.steps;
  not_past : l.machine.commits ≤ g.B.BetweenCommits.next l.between;
  goes_on : (k : ℕ) → l.machine.commits ≤ k → g.B.BetweenCommits.happens l.between k ≡ g.B.BetweenCommits.happens l.initial.between k;
  came :
      Came l.initial.machine l.fn.environment (g.B.BetweenCommits.happens l.initial.between) l.machine l.answers
      (g.C.Console.shown l.initial.console) (g.C.Console.shown l.console);
}

abbrev pub decreases-loop-devices : goal.decreases-loop-devices
decreases-loop-devices g l = l.steps - l.machine.commits
