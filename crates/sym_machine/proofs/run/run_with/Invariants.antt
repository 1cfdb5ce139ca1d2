use Rattle.std.proofs.Common.{◌-◌, ◌≤◌}
use Rattle.psabi_sym.specs.Inputs.{parsed}
use Rattle.zc_outside.specs.Desk.{OnlyWrites}
use Rattle.sym_machine.specs.Objects.{program_of}
use Rattle.sym_machine.proofs.RunLaws.{Came}
use Rattle.sym_machine.proofs.run.run_with.Given as goal

abbrev pub invariant-loop-made : goal.invariant-loop-made
invariant-loop-made g l = let shown = g.C.Console.shown in record {
  within : l.made ≤ l.steps;
  came : Came (program_of (parsed l.cut)) l.fn.sym l.fn.devices l.made l.sym (shown l.fn.console) (shown l.console);
  writes : OnlyWrites (shown l.fn.console) (shown l.console);
}

abbrev pub decreases-loop-made : goal.decreases-loop-made
decreases-loop-made g l = l.steps - l.made
