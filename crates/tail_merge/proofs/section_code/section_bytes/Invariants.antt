-- The bytes are those of the items before this one.
use Rattle.std.proofs.Common.{◌≡◌, Some, slice_get, take}
use Rattle.std.specs.List.{flat_map}
use Rattle.psabi_sym.specs.Indexed.{IndexedSection, all_sections}
use Rattle.psabi_sym.specs.Inputs.{parsed}
use Rattle.tail_merge.specs.Merged.{item_bytes}
use Rattle.tail_merge.specs.Tails.{code_items, removed_tails}
use Rattle.tail_merge.proofs.section_code.section_bytes.Given as goal

abbrev pub invariant-loop-place : goal.invariant-loop-place
invariant-loop-place l =
    (m : IndexedSection) → slice_get (all_sections (parsed l.cut).objects) l.section ≡ Some m
    → l.out.items ≡ flat_map (item_bytes (removed_tails (parsed l.cut) m) m.section) (take l.place-index (code_items (parsed l.cut) m))
