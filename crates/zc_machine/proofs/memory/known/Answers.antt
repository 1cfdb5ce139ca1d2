use Rattle.zc_machine.proofs.RegionLaws.{item_below, known_fetched}
use Rattle.zc_machine.proofs.memory.known.Goals as goal

pub entry-requires : goal.entry-requires
entry-requires c =
    let r = c.in_ok-get.field-0.now in
    let there = c.in_ok-get.ensures.lookup.3 in
    record { below = item_below c.args.regions.now c.args.last r c.requires there.0 (there.1 r) }

pub returns-in-Known : goal.returns-in-Known
returns-in-Known c =
    let r = c.in_ok-get.field-0.now in
    let there = c.in_ok-get.ensures.lookup.3 in
    let it = c.in-Known in
    known_fetched c.args.regions.now c.args.last r c.args.address it.size it.short _ c.requires there.0 (there.1 r) c.in_ok-size.ensures it.is
