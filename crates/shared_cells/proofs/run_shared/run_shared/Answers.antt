use Rattle.std.proofs.Common.{◌≡◌, drop, ap, ap₂, subst, ◌∙◌}
use Rattle.std.specs.Prelude.{map}
use Rattle.devices.specs.Environment.{Environment, only_input}
use Rattle.zc_machine.specs.RunEnd.{Ran, course_of}
use Rattle.zc_machine.specs.Schedule.{made_at}
use Rattle.shared_cells.specs.SharedRun.{shared_by}
use Rattle.shared_cells.proofs.SharedLaws.{shared_entry, shared_happens}
use Rattle.shared_cells.proofs.run_shared.run_shared.Goals as goal

pub returns-clause-ran : goal.returns-clause-ran
returns-clause-ran g c =
    let shared = c.args.shared.now in
    let plan = c.args.plan.now in
    let cursor = c.new.result in
    let same : made_at (drop cursor.next (map (shared_entry cursor.schedule.now.ranges) cursor.schedule.now.plan.now)) ≡ shared_by shared plan =
    ap₂ (λ n s. made_at (drop n (map (shared_entry s.ranges) s.plan.now))) c.new.ensures.start c.new.ensures.schedule
    ∙ ap (λ ranges. made_at (map (shared_entry ranges) plan)) c.new-ranges.ensures
    ∙ shared_happens shared plan in
    let first = c.args.machine.now in
    let before = g.C.Console.shown c.args.console.now in
    let after = g.C.Console.shown c.run_with.new.console in
    let happens = made_at (drop cursor.next (map (shared_entry cursor.schedule.now.ranges) cursor.schedule.now.plan.now)) in
    subst (λ h. Ran h (course_of first (only_input c.args.input.now) h c.args.steps) c.run_with.result c.run_with.new.machine before after) same
    (subst (λ (e : Environment). Ran happens (course_of first e happens c.args.steps) c.run_with.result c.run_with.new.machine before after) c.of_input-environment.ensures c.run_with.ensures.ran)
