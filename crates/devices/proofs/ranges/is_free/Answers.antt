use Rattle.std.proofs.Common.{leb, ap, arith, sym, ◌∙◌}
use Rattle.std.specs.BTreeMap.{get}
use Rattle.std.specs.Ordering.{nat_cmp}
use Rattle.std.specs.Prelude.{not}
use Rattle.devices.proofs.RangeLaws.{free_none, free_some, le_not_lt}
use Rattle.devices.proofs.ranges.is_free.Goals as goal

pub returns-in-None : goal.returns-in-None
returns-in-None c = λ ds table.
    sym (ap not (free_none (get nat_cmp c.args.ends.now) ds table (record { at = c.args.at; size = c.args.size })
    (λ a under. c.in-None.ensures a (omega (arith, under, c.from.ensures, c.from-2.ensures)))))

pub returns-in-Some : goal.returns-in-Some
returns-in-Some c = λ ds table.
    let last = c.in-Some.ensures in
    ap (leb c.in-Some.end) c.from-in-Some.ensures
    ∙ le_not_lt c.args.at c.in-Some.end
    ∙ sym (ap not (free_some (get nat_cmp c.args.ends.now) ds table (record { at = c.args.at; size = c.args.size }) c.in-Some.field-0-0 c.in-Some.end
    (omega (arith, last.0, c.from.ensures, c.from-2.ensures), last.1, λ a after under. last.2 a after (omega (arith, under, c.from.ensures, c.from-2.ensures)))))
