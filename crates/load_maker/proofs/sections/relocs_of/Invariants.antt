use Rattle.std.proofs.Common.{drop}
use Rattle.load_maker.proofs.GatherLaws.{Gathers}
use Rattle.load_maker.proofs.sections.relocs_of.Given as goal

abbrev pub invariant-loop-statement : goal.invariant-loop-statement
invariant-loop-statement l = Gathers l.others l.initial.named.keys l.statements l.named.keys l.relocs.items l.at (drop l.statement-index l.statements)
