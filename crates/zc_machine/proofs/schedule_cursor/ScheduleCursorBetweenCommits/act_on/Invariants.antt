use Rattle.std.proofs.Common.{◌≡◌, ℕ, ◌-◌, ◌<◌, ◌≤◌, drop}
use Rattle.zc_machine.specs.Schedule.{first_commit, made_at}
use Rattle.zc_machine.proofs.schedule_cursor.ScheduleCursorBetweenCommits.act_on.Given as goal

abbrev pub invariant-loop-self : goal.invariant-loop-self
invariant-loop-self g l = record {
  schedule : l.self.schedule ≡ l.initial.self.schedule;
  commits : l.machine.commits ≡ l.initial.machine.commits;
  exit : l.machine.exit ≡ l.initial.machine.exit;
  not_past : l.machine.commits ≤ first_commit (drop l.self.next (g.S.Schedule.entries l.self.schedule.now));
  made :
      made_at (drop l.self.next (g.S.Schedule.entries l.self.schedule.now)) l.machine.commits l.machine
      ≡ made_at (drop l.initial.self.next (g.S.Schedule.entries l.self.schedule.now)) l.machine.commits l.initial.machine;
  goes_on :
      (k : ℕ) → l.machine.commits < k
      → made_at (drop l.self.next (g.S.Schedule.entries l.self.schedule.now)) k ≡ made_at (drop l.initial.self.next (g.S.Schedule.entries l.self.schedule.now)) k;
}

abbrev pub decreases-loop-self : goal.decreases-loop-self
decreases-loop-self g l = l.count - l.self.next
