use Rattle.std.proofs.Common.{◌≡◌, drop}
use Rattle.zc_machine.specs.Interrupt.{all_dirtied}
use Rattle.zc_machine.proofs.machine.Machine.cut.Given as goal

abbrev pub invariant-loop-a : goal.invariant-loop-a
invariant-loop-a l = all_dirtied (drop l.a-index l.dirt) l.self ≡ all_dirtied l.dirt l.initial.self
