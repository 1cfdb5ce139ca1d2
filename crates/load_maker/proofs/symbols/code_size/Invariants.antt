use Rattle.std.proofs.Common.{◌≡◌, take}
use Rattle.load_maker.specs.Statements.{code_size}
use Rattle.load_maker.proofs.symbols.code_size.Given as goal

abbrev pub invariant-loop-statement : goal.invariant-loop-statement
invariant-loop-statement l = l.size ≡ code_size (take l.statement-index l.statements)
