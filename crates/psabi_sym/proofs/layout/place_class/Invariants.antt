use Rattle.std.proofs.Common.{◌≡◌, ℕ, ◌<◌, ◌≤◌, Some, slice_get, slice_index, take, if◌then◌else◌}
use Rattle.psabi_sym.specs.Blocks.{aligned_up, end_from}
use Rattle.psabi_sym.specs.Data.{has_class}
use Rattle.psabi_sym.specs.Invariants.Rows.{row_address, row_blocks}
use Rattle.psabi_sym.specs.declared.section_row.SectionRow.{SectionRow}
use Rattle.psabi_sym.proofs.layout.place_class.Given as goal

abbrev pub invariant-loop-k : goal.invariant-loop-k
invariant-loop-k l = record {
  so_far : l.at ≡ end_from (aligned_up 16 l.from) (row_blocks l.class (take l.k l.rows));
  placed : (j : ℕ) (r : SectionRow) → j < l.k → slice_get l.rows j ≡ Some r → slice_index l.addresses j
      ≡ (if has_class l.class r.role then row_address l.class (aligned_up 16 l.from) l.rows j r else slice_index l.fn.addresses j);
  rest : (j : ℕ) → l.k ≤ j → slice_index l.addresses j ≡ slice_index l.fn.addresses j;
}
