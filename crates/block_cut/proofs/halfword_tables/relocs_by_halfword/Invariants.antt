use Rattle.block_cut.proofs.TableLaws.{IsTableSoFar}
use Rattle.block_cut.proofs.halfword_tables.relocs_by_halfword.Given as goal

abbrev pub invariant-loop-k : goal.invariant-loop-k
invariant-loop-k l = IsTableSoFar l.relocs l.count l.k l.table.items
