use Rattle.rv_decode.specs.Effect.{onward}
use Rattle.zc_machine.specs.Frames.{popped}
use Rattle.zc_machine.proofs.FrameLaws.{goes_on, pop_step, stops}
use Rattle.zc_machine.proofs.machine.Machine.pop.Goals as goal

pub returns-in-Some : goal.returns-in-Some
returns-in-Some c =
    let z = c.args.self.now in
    let frame = c.restore_list in
    stops z frame.new.self (popped c.args.list c.args.adjust z) frame.result _ c.in-Some.reason _ _ (pop_step c.args.list c.args.adjust c.args.size z) frame.ensures.why c.in-Some.is frame.ensures.after

pub returns-in-None : goal.returns-in-None
returns-in-None c =
    let z = c.args.self.now in
    let frame = c.restore_list in
    goes_on z frame.new.self (popped c.args.list c.args.adjust z) c.go_on.new.self (λ y. onward y c.args.size y.regs) frame.result _ _ c.go_on.result (pop_step c.args.list c.args.adjust c.args.size z) frame.ensures.why c.in-None.is frame.ensures.after c.go_on.ensures.answer c.go_on.ensures.state
