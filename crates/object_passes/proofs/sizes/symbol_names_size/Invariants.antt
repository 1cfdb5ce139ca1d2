use Rattle.std.proofs.Common.{◌≡◌, ◌≤◌, ◌+◌, drop}
use Rattle.elf32_read.specs.Parts.{object_parts}
use Rattle.object_passes.specs.Rooms.{symbols_room}
use Rattle.object_passes.proofs.sizes.symbol_names_size.Given as goal

-- the names so far, with those of all symbols from this one on, are those of all
abbrev pub invariant-loop-i : goal.invariant-loop-i
invariant-loop-i l = record {
  sum : l.size + symbols_room (drop l.i (object_parts l.object).symbols) ≡ symbols_room (drop 1 (object_parts l.object).symbols);
  most : l.size ≤ 0x40_0000;
}
