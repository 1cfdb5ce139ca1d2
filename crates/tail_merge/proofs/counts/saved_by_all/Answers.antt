use Rattle.std.proofs.Common.{arith, sym}
use Rattle.tail_merge.proofs.CountTurns.{table-counts}
use Rattle.tail_merge.proofs.counts.saved_by_all.Goals as goal

pub returns-in-0 : goal.returns-in-0
returns-in-0 c = λ inputs l are. sym ((table-counts inputs l c.args.table.now are).none c.in-0.is)

pub returns-in_default : goal.returns-in_default
returns-in_default c = λ inputs l are. (table-counts inputs l c.args.table.now are).last _ (omega (arith, c.in_default))
