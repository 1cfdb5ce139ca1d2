use Rattle.std.proofs.Common.{ap, arith, length}
use Rattle.jumptable_pick.proofs.TableLaws.{chosen_few}
use Rattle.jumptable_pick.proofs.slot_lists.call_table.Goals as goal

pub joined-requires : goal.joined-requires
joined-requires c = omega (arith, ap length c.in_ok-low.ensures, chosen_few 0 32 c.args.jumps.now)
