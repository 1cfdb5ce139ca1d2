use Rattle.std.proofs.Common.{◌≡◌, map, take}
use Rattle.std.specs.List.{range_with_len, sum_by}
use Rattle.psabi_sym.specs.Inputs.{parsed}
use Rattle.psabi_sym.specs.Indexed.{all_sections}
use Rattle.shrink_layout.specs.Invariants.Numbers.{first_number}
use Rattle.shrink_layout.specs.Pieces.{piece_count}
use Rattle.shrink_layout.proofs.numbers.first_numbers.Given as goal

abbrev pub invariant-loop-section : goal.invariant-loop-section
invariant-loop-section l = record {
  starts : l.starts.items ≡ map (first_number (parsed l.cut).objects) (range_with_len 0 l.section);
  count : l.count ≡ sum_by piece_count (take l.section (all_sections (parsed l.cut).objects));
}
