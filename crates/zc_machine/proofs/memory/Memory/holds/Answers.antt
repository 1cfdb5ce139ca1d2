use Rattle.std.proofs.Common.{sym, ap, ◌∙◌}
use Rattle.rv_decode.specs.Memory.{extents_of, lies_in}
use Rattle.zc_machine.specs.Region.{allowed}
use Rattle.zc_machine.proofs.RegionLaws.{lies_below}
use Rattle.zc_machine.proofs.memory.Memory.holds.Goals as goal

pub returns-clause-below : goal.returns-clause-below
returns-clause-below c = λ yes.
    let regions = c.self.inside.regions.items in
    let lies = sym (c.holds.ensures ∙ ap (λ rs. lies_in (allowed c.args.access) (extents_of rs) c.args.address c.args.count) c.as_slice.ensures.value) ∙ yes in
    lies_below (allowed c.args.access) (extents_of regions) c.args.address c.args.count c.self.invariant lies
