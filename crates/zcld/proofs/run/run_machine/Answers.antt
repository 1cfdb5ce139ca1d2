-- The cursor makes the plan's interrupts, in the environment of the devices' lines.
use Rattle.std.proofs.Common.{◌≡◌, drop, ap₂, subst, ◌∙◌}
use Rattle.std.specs.Prelude.{map}
use Rattle.zc_machine.specs.Run.{interrupts_by}
use Rattle.zc_machine.specs.RunEnd.{Ran, course_of}
use Rattle.zc_machine.specs.Schedule.{made_at}
use Rattle.zc_machine.proofs.ScheduleLaws.{plan_happens, timed_entry}
use Rattle.zcld.proofs.run.run_machine.Goals as goal

pub returns-clause-ran : goal.returns-clause-ran
returns-clause-ran g c =
    let setting = c.args.setting.now in
    let first = c.args.machine.now in
    let steps = c.args.steps in
    let end = c.run_with.new.machine in
    let before = g.C.Console.shown c.args.console.now in
    let after = g.C.Console.shown c.run_with.new.console in
    let cursor = c.new-between.result in
    let same : made_at (drop cursor.next (map timed_entry cursor.schedule.now)) ≡ interrupts_by setting.plan =
    ap₂ (λ n plan. made_at (drop n (map timed_entry plan))) c.new-between.ensures.start c.new-between.ensures.schedule ∙ plan_happens setting.plan in
    subst (λ e. Ran (interrupts_by setting.plan) (course_of first e (interrupts_by setting.plan) steps) c.run_with.result end before after) c.new-environment.ensures
    (subst (λ h. Ran h (course_of first c.new-environment.result h steps) c.run_with.result end before after) same c.run_with.ensures.ran)
