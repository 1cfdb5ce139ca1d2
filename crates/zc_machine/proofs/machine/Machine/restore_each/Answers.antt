use Rattle.std.proofs.Common.{◌∙◌, refl, get_or, arith}
use Rattle.zc_machine.proofs.FrameLaws.{next_restored}
use Rattle.zc_machine.proofs.machine.Machine.restore_each.Goals as goal

pub loop-r-preserved : goal.loop-r-preserved
loop-r-preserved c =
    let rs = c.args.registers.now in
    let i = c.loop-r.r-index in
    let next = next_restored rs i c.loop-r.at (get_or rs i 0) c.loop-r.self c.restore_one.new.self (omega arith) refl c.loop-r.invariant.free c.restore_one.ensures in
    record { free = next.0; same = next.1 ∙ c.loop-r.invariant.same }
