use Rattle.std.proofs.Common.{◌≡◌, ◌++◌, map, take, vec_len, ◌+◌}
use Rattle.elf32_read.specs.Parts.{object_parts}
use Rattle.psabi_sym.specs.Indexed.{sections_in}
use Rattle.psabi_sym.specs.Invariants.Rows.{section_row}
use Rattle.psabi_sym.specs.Objects.{contents_of}
use Rattle.psabi_sym.proofs.read_sections.add_sections.Given as goal

abbrev pub invariant-loop-i : goal.invariant-loop-i
invariant-loop-i l = record {
  added : l.rows.items ≡ l.fn.rows.items ++ map (section_row (contents_of l.fn.names)) (take l.i (sections_in (l.fn.object.index, object_parts l.fn.object.loaded.now)));
  few : vec_len l.rows ≡ vec_len l.fn.rows + l.i;
}
