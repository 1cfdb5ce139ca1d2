use Rattle.std.proofs.Common.{◌≡◌, ◌≤◌, ◌*◌, ◌^◌, take}
use Rattle.std.specs.List.{sum_by}
use Rattle.elf32_read.specs.Parts.{object_parts}
use Rattle.psabi_sym.specs.Faults.{code_room, data_room}
use Rattle.psabi_sym.proofs.sums.sections_room.Given as goal

abbrev pub invariant-loop-i : goal.invariant-loop-i
invariant-loop-i l = let sections = take l.i (object_parts l.loaded).sections in record {
  code : l.code ≡ sum_by code_room sections;
  held : l.held ≡ sum_by data_room sections;
  code_most : l.code ≤ 2 ^ 41 * l.i;
  held_most : l.held ≤ 2 ^ 34 * l.i;
}
