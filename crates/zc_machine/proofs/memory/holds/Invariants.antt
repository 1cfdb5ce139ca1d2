use Rattle.std.proofs.Common.{◌≡◌, drop}
use Rattle.rv_decode.specs.Memory.{extents_of, lies_in}
use Rattle.zc_machine.specs.Region.{allowed}
use Rattle.zc_machine.proofs.memory.holds.Given as goal

abbrev pub invariant-loop-region : goal.invariant-loop-region
invariant-loop-region l =
    lies_in (allowed l.access) (extents_of l.regions) l.address l.count ≡ lies_in (allowed l.access) (extents_of (drop l.region-index l.regions)) l.address l.count
