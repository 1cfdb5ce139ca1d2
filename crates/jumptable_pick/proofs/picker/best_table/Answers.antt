use Rattle.jumptable_pick.proofs.PickLaws.{calls_fit, jumps_fit}
use Rattle.jumptable_pick.proofs.picker.best_table.Goals as goal

pub of-requires : goal.of-requires
of-requires c = jumps_fit c.args.savings.now c.args.jumps.now c.in_ok-for_jumps.for_jumps.items c.requires.jumps c.in_ok-for_jumps.ensures

pub of-requires-2 : goal.of-requires-2
of-requires-2 c =
    calls_fit c.args.savings.now c.args.jumps.now c.args.calls.now c.in_ok-for_both.for_both.items c.requires.jumps c.requires.calls c.in_ok-for_both.ensures
