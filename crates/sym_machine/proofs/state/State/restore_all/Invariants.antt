use Rattle.std.proofs.Common.{◌≡◌, None}
use Rattle.sym_machine.specs.Invariants.Frames.{IsLoading}
use Rattle.sym_machine.proofs.state.State.restore_all.Given as goal

abbrev pub invariant-loop-k : goal.invariant-loop-k
invariant-loop-k l = record {
  running : l.self.core.exit ≡ None;
  map : l.self.map ≡ l.fn.self.map;
  loading : IsLoading l.fn.self.map l.sp l.top l.k l.registers l.next l.fn.self.core l.self.core;
}
