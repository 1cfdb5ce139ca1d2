use Rattle.std.proofs.Common.{◌≡◌, ◌≢◌, ◌<◌, ℕ, get_or, true}
use Rattle.block_cut.specs.Invariants.Led.{mark_in}
use Rattle.block_cut.specs.Invariants.SectionItems.{no_tables}
use Rattle.block_cut.proofs.code_tables.CodeTables.has_marked.Given as goal

abbrev pub invariant-loop-k : goal.invariant-loop-k
invariant-loop-k l = (n k : ℕ) → n < l.k → mark_in l.sections n k ≡ true → get_or (get_or l.self.sections.items n no_tables).numbers k 0 ≢ 0
