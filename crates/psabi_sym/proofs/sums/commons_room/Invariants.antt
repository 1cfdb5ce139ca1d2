use Rattle.std.proofs.Common.{◌≡◌, ◌≤◌, ◌*◌, ◌^◌, ◌-◌, drop, take, max}
use Rattle.std.specs.List.{sum_by}
use Rattle.elf32_read.specs.Parts.{object_parts}
use Rattle.psabi_sym.specs.Faults.{common_room}
use Rattle.psabi_sym.proofs.sums.commons_room.Given as goal

abbrev pub invariant-loop-i : goal.invariant-loop-i
invariant-loop-i l = record {
  room : l.room ≡ sum_by common_room (take (l.i - 1) (drop 1 (object_parts l.loaded).symbols));
  most : l.room ≤ 2 ^ 33 * (l.i - 1);
  within : l.i ≤ max 1 l.i-end;
}
