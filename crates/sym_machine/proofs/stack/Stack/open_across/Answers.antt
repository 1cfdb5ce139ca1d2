use Rattle.std.proofs.Common.{arith}
use Rattle.sym_machine.proofs.StackLaws.{opened_more, opened_none}
use Rattle.sym_machine.proofs.stack.Stack.open_across.Goals as goal

pub loop-k-init : goal.loop-k-init
loop-k-init c = opened_none c.args.i c.args.self.now

pub open_strip-requires-clause-within : goal.open_strip-requires-clause-within
open_strip-requires-clause-within c = omega (arith, c.requires, c.loop-k-test.true, c.loop-k.invariant.size)

pub loop-k-preserved : goal.loop-k-preserved
loop-k-preserved c =
    opened_more c.args.i c.loop-k.k c.args.self.now c.loop-k.self c.open_strip.new.self (omega (arith, c.requires, c.loop-k-test.true)) c.loop-k.invariant c.open_strip.ensures
