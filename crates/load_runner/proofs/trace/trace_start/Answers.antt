use Rattle.std.proofs.Common.{ap, sym, subst}
use Rattle.rv_decode.specs.Memory.{extents_of}
use Rattle.sym_machine.specs.State.{PlainCore}
use Rattle.zc_outside.specs.MemConsole.{ConsoleState}
use Rattle.load_runner.specs.Runs.{IsTraced}
use Rattle.load_runner.proofs.ExitLaws.{trace_exits}
use Rattle.load_runner.proofs.trace.trace_start.Goals as goal

pub run_counted-end-requires-clause-of : goal.run_counted-end-requires-clause-of
run_counted-end-requires-clause-of c = ap (λ (s : PlainCore). extents_of s.memory) c.requires

pub run_counted-end-requires-clause-running : goal.run_counted-end-requires-clause-running
run_counted-end-requires-clause-running c = ap (λ (s : PlainCore). s.exit) c.requires

pub returns-in-Exited-clause-ok : goal.returns-in-Exited-clause-ok
returns-in-Exited-clause-ok c =
    let count = c.run_counted-end.result.1 in
    let exits =
    trace_exits c.args.cut.now c.args.sym.now c.run_counted-end.result.0 c.in-Exited.status count c.in_ok-console.console c.run_counted-end.new.console
    c.requires c.in-Exited.is (ap (λ (s : ConsoleState). s.out) c.in_ok-console.ensures) c.run_counted-end.ensures.count in
    subst (λ exit. IsTraced c.args.cut.now count exit) (sym c.in_ok-exit_of-in-Exited.ensures) exits
