use Rattle.std.proofs.Common.{◌≡◌, take, map, length}
use Rattle.std.specs.List.{range_with_len}
use Rattle.psabi_sym.specs.Blocks.{aligned_up, end_from, placed_from}
use Rattle.psabi_sym.specs.Invariants.Rows.{placed_rows, row_address_of, row_room}
use Rattle.psabi_sym.proofs.commons.place_commons.Given as goal

abbrev pub invariant-loop-row : goal.invariant-loop-row
invariant-loop-row l = let placed = placed_rows l.rows (take l.row-index l.rows) in record {
  end : l.at ≡ end_from (aligned_up 16 l.from) (map (row_room l.rows) placed);
  addresses : l.addresses.items
      ≡ map (row_address_of (placed_from (row_room l.rows) (aligned_up 16 l.from) placed)) (range_with_len 0 (length l.strong));
}
