-- There is no machine with its input, or it came to an end.
use Rattle.std.proofs.Common.{◌≡◌, List, Bool, true, false, rules, refl, ap, ◌∙◌, subst, inl, inr}
use Rattle.std.specs.Prelude.{if◌then◌else◌}
use Rattle.devices.specs.Environment.{environment_of}
use Rattle.devices.specs.Lines.{DevicesLine, has_answers, starts_reset}
use Rattle.rv_decode.specs.State.{ZcCore}
use Rattle.zc_machine.specs.Load.{first_core, first_core_of, reset_core}
use Rattle.zc_machine.specs.Run.{interrupts_by}
use Rattle.zc_machine.specs.declared.run.RunEnd.{RunEnd}
use Rattle.zcld.specs.Input.{TakesUnless}
use Rattle.zcld.specs.Machines.{IsUnready}
use Rattle.zcld.specs.Run.{EndsRun, Runs, started_core}
use Rattle.zcld.proofs.MachineFacts.{not_ready, ran_over}
use Rattle.zcld.proofs.run.execute.Goals as goal

-- a reset changes neither the exit nor the number of commits
started_same : (lines : List DevicesLine) (z : ZcCore) → ((started_core lines z).exit ≡ z.exit) × ((started_core lines z).commits ≡ z.commits)
started_same lines z = by (starts_reset lines)
  where
    by : (reset : Bool) → ((if reset then reset_core z else z).exit ≡ z.exit) × ((if reset then reset_core z else z).commits ≡ z.commits)
    by true = (refl, refl)
    by false = (refl, refl)

pub run_machine-end-requires-clause-running : goal.run_machine-end-requires-clause-running
unfolding first_core
run_machine-end-requires-clause-running g c =
    let machine = c.in-Ok.ready.machine in
    ap (λ (z : ZcCore). z.exit) c.start.ensures ∙ (started_same c.args.setting.now.devices machine).0 ∙ ap (λ (z : ZcCore). z.exit) c.in-Ok.ensures.loads

pub run_machine-end-requires-clause-start : goal.run_machine-end-requires-clause-start
unfolding first_core
run_machine-end-requires-clause-start g c =
    let machine = c.in-Ok.ready.machine in
    ap (λ (z : ZcCore). z.commits) c.start.ensures ∙ (started_same c.args.setting.now.devices machine).1 ∙ ap (λ (z : ZcCore). z.commits) c.in-Ok.ensures.loads

pub returns-in-Err-clause-runs : goal.returns-in-Err-clause-runs
returns-in-Err-clause-runs g c = λ shelf.
    let setting = c.args.setting.now in
    let steps = c.args.steps in
    let first = started_core setting.devices (first_core_of c.args.image.now.0 c.args.image.now.1) in
    let before = g.C.Console.shown c.args.console.now in
    let after = g.C.Console.shown c.make_ready.new.console in
    not_ready (λ input. Runs first setting.plan steps (environment_of setting.devices steps input)) (λ input w. inl (refl, refl)) (has_answers setting.devices) c.in-Err.outcome shelf before after
    (subst (λ answered. IsUnready answered c.in-Err.outcome before after) c.has_answers-answered.ensures c.in-Err.ensures.err)

pub returns-clause-runs : goal.returns-clause-runs
returns-clause-runs g c = λ shelf.
    let setting = c.args.setting.now in
    let steps = c.args.steps in
    let first = started_core setting.devices (first_core_of c.args.image.now.0 c.args.image.now.1) in
    let input = c.in-Ok.ready.input.items in
    let before = g.C.Console.shown c.args.console.now in
    let between = g.C.Console.shown c.make_ready.new.console in
    let after = g.C.Console.shown c.run_machine-end.new.console in
    let answer : RunEnd × ZcCore = (c.run_machine-end.result, c.run_machine-end.new.machine) in
    ran_over (λ input. Runs first setting.plan steps (environment_of setting.devices steps input)) (has_answers setting.devices) input _ shelf before between _
    (subst (λ answered. TakesUnless answered input before between) c.has_answers-answered.ensures c.in-Ok.ensures.takes)
    (inr (record {
      answer = answer;
      ended =
          subst (λ z. EndsRun z (interrupts_by setting.plan) steps (environment_of setting.devices steps input) answer between after)
          (c.start.ensures ∙ ap (started_core setting.devices) c.in-Ok.ensures.loads)
          (subst (λ xs. EndsRun c.start.new.machine (interrupts_by setting.plan) steps (environment_of setting.devices steps xs) answer between after) c.as_slice.ensures.value c.run_machine-end.ensures.ran);
      outcome_is = search rules;
      only = c.run_machine-end.ensures.writes;
      shelf = refl;
    }))
