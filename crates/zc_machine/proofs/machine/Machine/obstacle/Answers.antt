use Rattle.std.proofs.Common.{ap, sym, ◌∙◌, arith}
use Rattle.std.specs.Prelude.{is_some}
use Rattle.zc_machine.proofs.FrameLaws.{obstacle_here, obstacle_later}
use Rattle.zc_machine.proofs.machine.Machine.obstacle.Goals as goal

pub returns-then-is_some : goal.returns-then-is_some
returns-then-is_some c =
    let here = c.word_obstacle-obstacle.ensures in
    let some = ap is_some (sym here) ∙ sym c.is_some.ensures ∙ c.if-is_some.true in
    here ∙ sym (obstacle_here c.args.registers.now c.loop-register._register-index c.loop-register.at c.args.self.now (omega arith) some) ∙ c.loop-register.invariant

pub loop-register-preserved : goal.loop-register-preserved
loop-register-preserved c =
    let none = ap is_some (sym c.word_obstacle-obstacle.ensures) ∙ sym c.is_some.ensures ∙ c.if-is_some.false in
    obstacle_later c.args.registers.now c.loop-register._register-index c.loop-register.at c.args.self.now (omega arith) none ∙ c.loop-register.invariant
