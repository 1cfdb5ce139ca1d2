use Rattle.std.proofs.Common.{arith}
use Rattle.psabi_sym.proofs.name_ends.name_ends.Goals as goal

pub returns-clause-grown : goal.returns-clause-grown
returns-clause-grown c = record { are = c.loop-k.invariant.are; more = c.loop-k.invariant.more; room = omega (arith, c.loop-k.invariant.room) }

pub returns-clause-ends : goal.returns-clause-ends
returns-clause-ends c = record { count = c.loop-k.invariant.count; each = λ j d within. c.loop-k.invariant.ends j d (omega arith) within }
