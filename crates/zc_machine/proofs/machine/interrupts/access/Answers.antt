use Rattle.std.proofs.Common.{arith}
use Rattle.zc_machine.proofs.FrameLaws.{access_at, no_access}
use Rattle.zc_machine.proofs.machine.interrupts.access.Goals as goal

pub returns-then-index-registers-clause-is : goal.returns-then-index-registers-clause-is
returns-then-index-registers-clause-is c =
    access_at _ c.registers-registers.result.now c.args.top c.args.number c.from-index.result c.from.result c.registers-registers.ensures.value c.from-index.ensures c.from.ensures c.if-index-registers.true (omega arith)

pub returns-else-index-registers-clause-is : goal.returns-else-index-registers-clause-is
returns-else-index-registers-clause-is c =
    no_access _ c.registers-registers.result.now c.args.top c.args.number c.from-index.result c.registers-registers.ensures.value c.from-index.ensures c.if-index-registers.false (omega arith)
