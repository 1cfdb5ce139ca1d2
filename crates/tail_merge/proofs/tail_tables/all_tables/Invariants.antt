-- The tables of the sections before this one.
use Rattle.std.proofs.Common.{◌≡◌, ◌<◌, ℕ, [], Some, length, slice_get}
use Rattle.std.specs.Prelude.{slice_index_or}
use Rattle.psabi_sym.specs.Indexed.{IndexedSection, all_sections}
use Rattle.psabi_sym.specs.Inputs.{parsed}
use Rattle.tail_merge.specs.MovedTails.{AreMovedTails, tables_of}
use Rattle.tail_merge.proofs.tail_tables.all_tables.Given as goal

abbrev pub invariant-loop-k : goal.invariant-loop-k
invariant-loop-k l = record {
  count : length l.tables.items ≡ l.k;
  moved : (j : ℕ) (m : IndexedSection) → j < l.k → slice_get (all_sections (parsed l.cut).objects) j ≡ Some m → AreMovedTails (parsed l.cut) m (slice_index_or (tables_of l.tables.items) j []);
}
