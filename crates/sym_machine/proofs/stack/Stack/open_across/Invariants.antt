use Rattle.sym_machine.specs.Stack.{AreOpened}
use Rattle.sym_machine.proofs.stack.Stack.open_across.Given as goal

abbrev pub invariant-loop-k : goal.invariant-loop-k
invariant-loop-k l = AreOpened l.i l.k l.initial.self l.self
