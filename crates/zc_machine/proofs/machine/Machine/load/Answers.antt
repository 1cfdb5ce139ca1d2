use Rattle.zc_machine.proofs.ApartLaws.{first_apart}
use Rattle.zc_machine.proofs.machine.Machine.load.Goals as goal

pub new-memory-requires : goal.new-memory-requires
new-memory-requires c =
    rw c.in_ok-first_regions.ensures (first_apart c.args.image.now.0 c.args.image.now.1 c.requires c.map-map.ensures.faultless)
