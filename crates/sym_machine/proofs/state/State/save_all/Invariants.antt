use Rattle.std.proofs.Common.{◌≡◌, None}
use Rattle.sym_machine.proofs.FrameLaws.{IsSaving}
use Rattle.sym_machine.proofs.state.State.save_all.Given as goal

abbrev pub invariant-loop-k : goal.invariant-loop-k
invariant-loop-k l = record {
  running : l.self.core.exit ≡ None;
  map : l.self.map ≡ l.fn.self.map;
  saving : IsSaving l.fn.self.map l.sp l.top l.registers l.next l.fn.self.core l.k l.self.core;
}
