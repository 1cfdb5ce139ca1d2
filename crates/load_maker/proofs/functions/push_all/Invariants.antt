use Rattle.std.proofs.Common.{◌≡◌, ◌++◌, map, take}
use Rattle.load_maker.specs.declared.statement.Statement.TheVariants.{Plain}
use Rattle.load_maker.proofs.functions.push_all.Given as goal

abbrev pub invariant-loop-i : goal.invariant-loop-i
invariant-loop-i l = l.out.items ≡ l.initial.out.items ++ map Plain (take l.i-index l.instrs)
