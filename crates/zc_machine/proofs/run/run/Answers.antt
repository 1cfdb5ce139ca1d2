use Rattle.std.proofs.Common.{◌≡◌, drop, ap₂, subst, ◌∙◌}
use Rattle.std.specs.Prelude.{map}
use Rattle.devices.specs.Environment.{Environment, only_input}
use Rattle.zc_machine.specs.Run.{interrupts_by}
use Rattle.zc_machine.specs.RunEnd.{Ran, course_of}
use Rattle.zc_machine.specs.Schedule.{made_at}
use Rattle.zc_machine.proofs.ScheduleLaws.{plan_happens, timed_entry}
use Rattle.zc_machine.proofs.run.run.Goals as goal

pub returns-clause-ran : goal.returns-clause-ran
returns-clause-ran g c =
    let cursor = c.new.result in
    let same : made_at (drop cursor.next (map timed_entry cursor.schedule.now)) ≡ interrupts_by c.args.plan.now =
    ap₂ (λ n plan. made_at (drop n (map timed_entry plan))) c.new.ensures.start c.new.ensures.schedule ∙ plan_happens c.args.plan.now in
    let first = c.args.machine.now in
    let before = g.C.Console.shown c.args.console.now in
    let after = g.C.Console.shown c.run_with.new.console in
    let happens = made_at (drop cursor.next (map timed_entry cursor.schedule.now)) in
    subst (λ h. Ran h (course_of first (only_input c.args.input.now) h c.args.steps) c.run_with.result c.run_with.new.machine before after) same
    (subst (λ (e : Environment). Ran happens (course_of first e happens c.args.steps) c.run_with.result c.run_with.new.machine before after) c.of_input-environment.ensures c.run_with.ensures.ran)
