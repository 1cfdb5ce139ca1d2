use Rattle.std.proofs.Common.{◌≡◌, ◌-◌, [], map, take, drop}
use Rattle.std.specs.Prelude.{slice_index_or}
use Rattle.elf32_read.specs.Parts.{object_parts}
use Rattle.psabi_sym.specs.Inputs.{parsed}
use Rattle.tail_merge.specs.Merged.{merged_symbol}
use Rattle.tail_merge.proofs.symbols.merged_symbols.Given as goal

abbrev pub invariant-loop-i : goal.invariant-loop-i
invariant-loop-i l =
    let object = object_parts (slice_index_or l.given.cut.now.files l.fn.object []) in
    l.symbols.items ≡ map (merged_symbol (parsed l.given.cut.now) l.fn.object object) (take (l.i - 1) (drop 1 object.symbols))
