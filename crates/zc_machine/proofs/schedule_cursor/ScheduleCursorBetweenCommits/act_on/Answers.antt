use Rattle.std.proofs.Common.{◌≡◌, ◌+◌, ◌<◌, drop, length, ap, ap₂, subst, sym, ◌∙◌, arith}
use Rattle.std.specs.List.Sorted.{IsNonDecreasingBy}
use Rattle.std.proofs.lemmas.List.Sorted.{IsNonDecreasingBy-drop}
use Rattle.zc_machine.specs.Schedule.{Timed, first_commit, made_at}
use Rattle.zc_machine.proofs.ScheduleLaws.{entry_made, first_at, none_before}
use Rattle.zc_machine.proofs.schedule_cursor.ScheduleCursorBetweenCommits.act_on.Goals as goal

pub loop-self-preserved : goal.loop-self-preserved
loop-self-preserved g c =
    let kept = c.loop-self.invariant in
    let entries = g.S.Schedule.entries c.loop-self.self.schedule.now in
    let same : g.S.Schedule.entries c.args.self.now.schedule.now ≡ entries = sym (ap (λ p. g.S.Schedule.entries p.now) kept.schedule) in
    let up = subst (λ es. IsNonDecreasingBy (λ (e : Timed). e.at) es) same c.count-count.ensures.in_order in
    let next = c.loop-self.self.next in
    let z = c.loop-self.machine in
    let z2 = c.make.new.machine in
    let counts = c.make.ensures.commits in
    let within : next < length entries = omega (arith, ap length same) in
    let now : first_commit (drop next entries) ≡ z.commits = sym (first_at entries next c.at.result within c.at.ensures) ∙ c.if-at-commits.true ∙ c.commits.ensures in
    let one = entry_made entries next z.commits z z2 up within now (omega (arith, kept.commits, c.requires.room)) c.make.ensures.made in
    record {
      schedule = kept.schedule;
      commits = counts ∙ kept.commits;
      exit = c.make.ensures.exit ∙ kept.exit;
      not_past = omega (arith, one.not_past, counts);
      made =
          ap (λ k. made_at (drop (next + 1) entries) k z2) counts ∙ sym one.made ∙ kept.made
          ∙ sym (ap (λ k. made_at (drop c.args.self.now.next entries) k c.args.machine.now) counts);
      goes_on = λ k lt. one.goes_on k (omega (arith, lt, counts)) ∙ kept.goes_on k (omega (arith, lt, counts));
    }

-- ---- the next entry comes before a later commit

pub returns-else-at-commits-clause-made : goal.returns-else-at-commits-clause-made
returns-else-at-commits-clause-made g c =
    let kept = c.loop-self.invariant in
    let entries = g.S.Schedule.entries c.loop-self.self.schedule.now in
    let same : g.S.Schedule.entries c.args.self.now.schedule.now ≡ entries = sym (ap (λ p. g.S.Schedule.entries p.now) kept.schedule) in
    let up = subst (λ es. IsNonDecreasingBy (λ (e : Timed). e.at) es) same c.count-count.ensures.in_order in
    let next = c.loop-self.self.next in
    let z = c.loop-self.machine in
    let within : next < length entries = omega (arith, ap length same) in
    let first = first_at entries next c.at.result within c.at.ensures in
    let later : z.commits < first_commit (drop next entries) = omega (arith, first, kept.not_past) in
    sym (none_before (drop next entries) z.commits z (IsNonDecreasingBy-drop (λ (e : Timed). e.at) next entries up) later)
    ∙ kept.made
    ∙ ap₂ (λ es k. made_at (drop c.args.self.now.next es) k c.args.machine.now) (sym same) kept.commits

pub returns-else-at-commits-clause-later : goal.returns-else-at-commits-clause-later
returns-else-at-commits-clause-later g c =
    let kept = c.loop-self.invariant in
    let entries = g.S.Schedule.entries c.loop-self.self.schedule.now in
    let same : entries ≡ g.S.Schedule.entries c.args.self.now.schedule.now = ap (λ p. g.S.Schedule.entries p.now) kept.schedule in
    let next = c.loop-self.self.next in
    let first = first_at entries next c.at.result (omega (arith, ap length same)) c.at.ensures in
    omega (arith, first, kept.not_past, kept.commits)

pub returns-else-at-commits-clause-goes_on : goal.returns-else-at-commits-clause-goes_on
returns-else-at-commits-clause-goes_on g c = λ k lt.
    let kept = c.loop-self.invariant in
    kept.goes_on k (omega (arith, lt, kept.commits)) ∙ ap (λ p. made_at (drop c.args.self.now.next (g.S.Schedule.entries p.now)) k) kept.schedule

pub returns-after-loop-self-clause-goes_on : goal.returns-after-loop-self-clause-goes_on
returns-after-loop-self-clause-goes_on g c = λ k lt.
    let kept = c.loop-self.invariant in
    kept.goes_on k (omega (arith, lt, kept.commits)) ∙ ap (λ p. made_at (drop c.args.self.now.next (g.S.Schedule.entries p.now)) k) kept.schedule
