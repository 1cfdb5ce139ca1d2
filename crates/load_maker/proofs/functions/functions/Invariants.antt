use Rattle.std.proofs.Common.{◌≡◌, ◌-◌, ◌++◌}
use Rattle.load_maker.specs.Functions.{functions_from}
use Rattle.load_maker.proofs.functions.functions.Given as goal

abbrev pub invariant-loop-i : goal.invariant-loop-i
invariant-loop-i l = l.bodies.items ++ functions_from (l.count - l.i) l.i l.draws ≡ functions_from l.count 0 l.number
