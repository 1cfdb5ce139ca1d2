use Rattle.std.proofs.Common.{◌≤◌, ◌-◌}
use Rattle.sym_machine.proofs.FillLaws.{IsFilled}
use Rattle.sym_machine.proofs.memory.SymMemory.fill.Given as goal

abbrev pub invariant-loop-done : goal.invariant-loop-done
invariant-loop-done l = record {
  most : l.done ≤ l.len;
  filled : IsFilled l.a l.fn.answers l.done l.answers l.fn.self l.self;
}

abbrev pub decreases-loop-done : goal.decreases-loop-done
decreases-loop-done l = l.len - l.done
