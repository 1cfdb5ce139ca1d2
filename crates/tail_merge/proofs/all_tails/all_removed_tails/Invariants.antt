use Rattle.std.proofs.Common.{◌≡◌, ◌<◌, [], ℕ, length, slice_get, Some}
use Rattle.std.specs.Prelude.{slice_index_or}
use Rattle.psabi_sym.specs.Indexed.{IndexedSection, all_sections}
use Rattle.psabi_sym.specs.Inputs.{parsed}
use Rattle.tail_merge.specs.RemovedTails.{AreRemovedFrom, lists_of}
use Rattle.tail_merge.proofs.all_tails.all_removed_tails.Given as goal

abbrev pub invariant-loop-section : goal.invariant-loop-section
invariant-loop-section l = record {
  count : length l.lists.items ≡ l.section;
  removed : (k : ℕ) → k < l.section → (s : IndexedSection) → slice_get (all_sections (parsed l.cut).objects) k ≡ Some s → AreRemovedFrom (parsed l.cut) s (slice_index_or (lists_of l.lists.items) k []);
}
