use Rattle.std.specs.BTreeMap.{get}
use Rattle.std.specs.Ordering.{nat_cmp}
use Rattle.devices.proofs.RangeLaws.{last_is}
use Rattle.devices.proofs.ranges.last_begun.Goals as goal

pub returns : goal.returns
returns c =
    let part = c.range.ensures.in_range tt in
    let entry = part.3 _ _ c.in_ok-at.ensures.steps in
    last_is (get nat_cmp c.args.ends.now) c.args.below c.in_ok-at.at.now c.in_ok-at.end.now entry.0.1 entry.1
    (λ q under some. part.4 _ _ c.in_ok-at.ensures.steps q (tt, under) some)
