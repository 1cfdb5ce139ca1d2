use Rattle.std.proofs.Common.{◌≡◌, arith, rules}
use Rattle.pick_check.specs.Certified.{Certified}
use Rattle.jumptable_pick.specs.Tables.{SlotTable, best_table, prices_of}
use Rattle.jumptable_pick.proofs.PickLaws.{is_accepted, is_best, is_picked}
use Rattle.jumptable_pick.proofs.picker.pick.Goals as goal

pub returns-clause-value : goal.returns-clause-value
returns-clause-value c =
    let jumps = c.in_ok-jumps.jumps.items in
    let calls = c.in_ok-calls.calls.items in
    let table : SlotTable = record { slots = c.table.inside.slots.items; net = c.table.inside.net } in
    let best : table ≡ best_table c.args.savings.now jumps calls = first_of (search rules, grind arith) in
    let priced : c.prices_of-prices.result ≡ prices_of jumps calls = first_of (search rules, grind arith) in
    is_picked c.args.savings.now jumps calls table c.prices_of-prices.result c.in_ok-jumps.ensures c.in_ok-calls.ensures best priced

pub returns-clause-accepted : goal.returns-clause-accepted
returns-clause-accepted c =
    let certificate : Certified = record { slots = c.table.inside.slots.items; prices = c.prices_of-prices.result; net = c.table.inside.net } in
    is_accepted c.args.savings.now certificate (returns-clause-value c)

pub returns-clause-best : goal.returns-clause-best
returns-clause-best c =
    let certificate : Certified = record { slots = c.table.inside.slots.items; prices = c.prices_of-prices.result; net = c.table.inside.net } in
    is_best c.args.savings.now certificate (returns-clause-value c)
