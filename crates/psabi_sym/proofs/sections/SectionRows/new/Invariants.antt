use Rattle.std.proofs.Common.{◌≡◌, ◌≤◌, ◌*◌, map, take, vec_len}
use Rattle.std.specs.List.{range_with_len}
use Rattle.elf32_read.specs.Parts.{object_parts}
use Rattle.psabi_sym.specs.Indexed.{all_sections}
use Rattle.psabi_sym.specs.Invariants.Rows.{section_row, section_starts}
use Rattle.psabi_sym.specs.Objects.{contents_of}
use Rattle.psabi_sym.proofs.sections.SectionRows.new.Given as goal

abbrev pub invariant-loop-i : goal.invariant-loop-i
invariant-loop-i l = let all = map object_parts l.objects in record {
  rows : l.rows.items ≡ map (section_row (contents_of l.names)) (all_sections (take l.i all));
  starts : l.starts.items ≡ map (section_starts all) (range_with_len 0 l.i);
  few : vec_len l.rows ≤ 4096 * l.i;
}
