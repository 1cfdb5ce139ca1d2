use Rattle.std.proofs.Common.{◌≡◌, drop, length}
use Rattle.rv_decode.specs.Memory.{extents_of, lies_in}
use Rattle.zc_machine.specs.Region.{allowed}
use Rattle.zc_machine.proofs.memory.write.Given as goal

abbrev pub invariant-loop-region : goal.invariant-loop-region
invariant-loop-region l = record {
  same : l.regions ≡ l.initial.regions;
  left :
      lies_in (allowed l.access) (extents_of l.regions) l.address (length l.bytes)
      ≡ lies_in (allowed l.access) (extents_of (drop l.region-index l.regions)) l.address (length l.bytes);
}
