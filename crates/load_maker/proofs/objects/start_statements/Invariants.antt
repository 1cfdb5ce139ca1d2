use Rattle.std.proofs.Common.{◌≡◌, ◌%◌, ◌∷◌, pos, map}
use Rattle.std.specs.List.{range_with_len}
use Rattle.load_maker.specs.Instructions.{addi}
use Rattle.load_maker.specs.declared.register.Register.TheVariants.{Zero, A0}
use Rattle.load_maker.specs.declared.statement.Statement.TheVariants.{Plain, Call}
use Rattle.load_maker.proofs.objects.start_statements.Given as goal

abbrev pub invariant-loop-i : goal.invariant-loop-i
invariant-loop-i l = l.statements.items ≡ Plain (addi A0 Zero (pos (l.number % 2048))) ∷ map Call (range_with_len 0 l.i)
