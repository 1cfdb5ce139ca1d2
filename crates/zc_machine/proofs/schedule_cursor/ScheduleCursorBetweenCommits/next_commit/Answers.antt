use Rattle.std.proofs.Common.{drop, arith}
use Rattle.std.proofs.lemmas.List.Sorted.{IsNonDecreasingBy-drop}
use Rattle.zc_machine.specs.Schedule.{Timed}
use Rattle.zc_machine.proofs.ScheduleLaws.{first_at, none_before}
use Rattle.zc_machine.proofs.schedule_cursor.ScheduleCursorBetweenCommits.next_commit.Goals as goal

pub returns-then-self-count-clause-is : goal.returns-then-self-count-clause-is
returns-then-self-count-clause-is g c =
    first_at (g.S.Schedule.entries c.args.self.now.schedule.now) c.args.self.now.next c.at.result (omega arith) c.at.ensures

pub returns-then-self-count-clause-none_before : goal.returns-then-self-count-clause-none_before
returns-then-self-count-clause-none_before g c = λ k z before.
    let entries = g.S.Schedule.entries c.args.self.now.schedule.now in
    let next = c.args.self.now.next in
    let first = first_at entries next c.at.result (omega arith) c.at.ensures in
    none_before (drop next entries) k z (IsNonDecreasingBy-drop (λ (e : Timed). e.at) next entries c.count.ensures.in_order) (omega (arith, before, first))
