use Rattle.std.proofs.Common.{◌+◌, leb, ap₂, arith, sym, ◌∙◌}
use Rattle.std.specs.BTreeMap.{get}
use Rattle.std.specs.Ordering.{nat_cmp}
use Rattle.devices.proofs.RangeLaws.{in_none, in_some}
use Rattle.devices.proofs.ranges.lie_in_one.Goals as goal

pub returns-in-None : goal.returns-in-None
returns-in-None c = λ lines table.
    sym (in_none (get nat_cmp c.args.ends.now) lines table c.args.at c.args.count
    (λ a under. c.in-None.ensures a (omega (arith, under, c.from.ensures))))

pub returns-in-Some : goal.returns-in-Some
returns-in-Some c = λ lines table.
    let last = c.in-Some.ensures in
    ap₂ (λ x y. leb (x + y) c.in-Some.end) c.from-in-Some.ensures c.from-in-Some-2.ensures
    ∙ sym (in_some (get nat_cmp c.args.ends.now) lines table c.args.at c.args.count c.in-Some.field-0-0 c.in-Some.end c.requires
    (omega (arith, last.0, c.from.ensures), last.1, λ a after under. last.2 a after (omega (arith, under, c.from.ensures))))
