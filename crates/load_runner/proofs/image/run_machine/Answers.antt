-- The machine exits with the output that the console got, or reaches its limit of commits, and never stops.
use Rattle.std.proofs.Common.{ap, sym, subst}
use Rattle.rv_decode.specs.State.{ZcCore}
use Rattle.zc_outside.specs.Course.{ExitsAt}
use Rattle.zc_outside.specs.MemConsole.{ConsoleState}
use Rattle.zc_machine.specs.Load.{first_core}
use Rattle.load_runner.specs.Runs.{image_run}
use Rattle.load_runner.proofs.ExitLaws.{run_exits, run_goes_on}
use Rattle.load_runner.proofs.image.run_machine.Goals as goal

pub run-requires-clause-running : goal.run-requires-clause-running
unfolding first_core
run-requires-clause-running c = ap (λ (z : ZcCore). z.exit) c.requires.first

pub run-requires-clause-start : goal.run-requires-clause-start
unfolding first_core
run-requires-clause-start c = ap (λ (z : ZcCore). z.commits) c.requires.first

pub returns-in-Exit-clause-ok : goal.returns-in-Exit-clause-ok
returns-in-Exit-clause-ok c = λ elf first.
    let plan = c.args.plan.now in
    let empty = ap (λ (s : ConsoleState). s.out) c.in_ok-console.ensures in
    let exits = run_exits elf plan c.args.machine.now first c.in-Exit.status c.run.new.machine c.in_ok-console.console c.run.new.console empty c.in-Exit.ensures.ran in
    subst (λ exit. ExitsAt (image_run elf plan) c.commits.result exit) (sym c.in_ok-exit_of-in-Exit.ensures)
    (subst (λ n. ExitsAt (image_run elf plan) n (record { bytes = c.run.new.console.out; status = c.in-Exit.status })) (sym c.commits.ensures) exits)

pub unreachable-requires-in-Stopped : goal.unreachable-requires-in-Stopped
unreachable-requires-in-Stopped c =
    run_goes_on c.requires.elf c.args.plan.now c.args.machine.now c.requires.first c.in-Stopped.field-0 c.run.new.machine _ _ c.requires.exits c.in-Stopped.ensures.ran
