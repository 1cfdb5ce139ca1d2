use Rattle.std.proofs.Common.{◌≡◌, false, ap, ◌∙◌, arith}
use Rattle.std.proofs.lemmas.List.{drop_all}
use Rattle.rv_decode.specs.Memory.{extents_of, lies_in}
use Rattle.zc_machine.specs.Region.{allowed}
use Rattle.zc_machine.proofs.RegionLaws.{item_reached, unreached}
use Rattle.zc_machine.proofs.memory.reach.Goals as goal

pub returns-then-has : goal.returns-then-has
returns-then-has c =
    rw c.cells_from.ensures (item_reached c.args.access c.args.regions.now c.loop-region.region-index c.region-item.result c.args.address c.requires (omega arith) c.region-item.is (cc c.if-has.ensures))

pub returns : goal.returns
returns c =
    let way = allowed c.args.access in
    let regions = c.args.regions.now in
    let a = c.args.address in
    let none : lies_in way (extents_of regions) a 1 ≡ false = c.loop-region.invariant ∙ ap (λ rs. lies_in way (extents_of rs) a 1) (drop_all c.loop-region.region-index regions (omega arith)) in
    unreached c.args.access regions a (omega arith) none
