use Rattle.std.proofs.Common.{◌≡◌, ◌≤◌, ◌*◌, take}
use Rattle.std.specs.List.{sum_by}
use Rattle.psabi_sym.specs.Faults.{reloc_room}
use Rattle.psabi_sym.proofs.sums.relocs_room.Given as goal

abbrev pub invariant-loop-k : goal.invariant-loop-k
invariant-loop-k l = (l.room ≡ sum_by reloc_room (take l.k l.relocs)) × (l.room ≤ 256 * l.k)
