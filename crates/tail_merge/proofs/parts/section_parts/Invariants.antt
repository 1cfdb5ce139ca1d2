-- The parts of the kept ones of the sections before this one.
use Rattle.std.proofs.Common.{◌≡◌, []}
use Rattle.std.specs.Prelude.{slice_index_or}
use Rattle.elf32_read.specs.Parts.{object_parts}
use Rattle.psabi_sym.specs.Inputs.{parsed}
use Rattle.tail_merge.specs.Merged.{merged_section}
use Rattle.tail_merge.proofs.PartTurns.{parts_before}
use Rattle.tail_merge.proofs.parts.section_parts.Given as goal

abbrev pub invariant-loop-i : goal.invariant-loop-i
invariant-loop-i l =
    l.sections.items ≡ parts_before (merged_section (parsed l.given.cut.now) l.fn.object) (object_parts (slice_index_or l.given.cut.now.files l.fn.object [])).sections l.i
