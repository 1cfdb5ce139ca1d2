use Rattle.std.proofs.Common.{◌≡◌, ◌<◌, ◌-◌, true}
use Rattle.psabi_sym.specs.Inputs.{parsed}
use Rattle.sym_machine.specs.Advance.{RunsTo}
use Rattle.sym_machine.specs.Cursor.{IsCursor}
use Rattle.sym_machine.specs.Objects.{program_of}
use Rattle.sym_machine.specs.Step.{is_set}
use Rattle.sym_machine.proofs.state.State.advance.Given as goal

abbrev pub invariant-loop-made : goal.invariant-loop-made
invariant-loop-made l = record {
  within : l.made < l.steps;
  cursor : IsCursor (parsed l.cut) l.cursor;
  runs : RunsTo (program_of (parsed l.cut)) l.initial.self.core l.self.core l.made;
  set : is_set (program_of (parsed l.cut)).map l.self.core ≡ true;
}

abbrev pub decreases-loop-made : goal.decreases-loop-made
decreases-loop-made l = l.steps - l.made
