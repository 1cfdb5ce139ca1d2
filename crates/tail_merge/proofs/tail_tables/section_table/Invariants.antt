-- The table has the entries of the tails before this one, and `saved` is how many bytes fewer these leave.
use Rattle.std.proofs.Common.{◌≡◌, Some, slice_get}
use Rattle.psabi_sym.specs.Indexed.{IndexedSection, all_sections}
use Rattle.psabi_sym.specs.Inputs.{parsed}
use Rattle.tail_merge.proofs.TailTableLaws.{IsTableSoFar}
use Rattle.tail_merge.proofs.tail_tables.section_table.Given as goal

abbrev pub invariant-loop-tail : goal.invariant-loop-tail
invariant-loop-tail l =
    (m : IndexedSection) → slice_get (all_sections (parsed l.cut).objects) l.section ≡ Some m → IsTableSoFar (parsed l.cut) m l.list l.tail-index l.table.items l.saved
