use Rattle.std.proofs.Common.{◌≡◌, drop}
use Rattle.rv_decode.specs.Memory.{extents_of, is_text, lies_in}
use Rattle.zc_machine.proofs.memory.search.Given as goal

abbrev pub invariant-loop-i : goal.invariant-loop-i
invariant-loop-i l = record {
  same : l.regions ≡ l.initial.regions;
  left : lies_in is_text (extents_of l.regions) l.address 1 ≡ lies_in is_text (extents_of (drop l.i l.regions)) l.address 1;
}
