use Rattle.std.proofs.Common.{ap, ◌∙◌, ◌+◌}
use Rattle.rv_decode.specs.Effect.{onward}
use Rattle.rv_decode.specs.State.{ZcCore}
use Rattle.zc_decode.specs.Effect.{returned, zeroed}
use Rattle.zc_machine.specs.Frames.{popped}
use Rattle.zc_machine.proofs.FrameLaws.{goes_on, pop_retz_step, stops}
use Rattle.zc_machine.proofs.machine.Machine.pop_retz.Goals as goal

pub returns-in-Some : goal.returns-in-Some
returns-in-Some c =
    let z = c.args.self.now in
    let frame = c.restore_list in
    stops z frame.new.self (popped c.args.list c.args.adjust z) frame.result _ c.in-Some.reason _ _ (pop_retz_step c.args.list c.args.adjust c.args.size z) frame.ensures.why c.in-Some.is frame.ensures.after

pub returns : goal.returns
returns c =
    let z = c.args.self.now in
    let frame = c.restore_list in
    goes_on z frame.new.self (popped c.args.list c.args.adjust z) c.go_back.new.self (λ y. returned (zeroed (onward y c.args.size y.regs))) frame.result _ _ c.go_back.result (pop_retz_step c.args.list c.args.adjust c.args.size z) frame.ensures.why c.in_default.is frame.ensures.after c.go_back.ensures.answer (c.go_back.ensures.state ∙ ap (λ (y : ZcCore). returned (record y { commits = y.commits + 1 })) c.clear_a0.ensures)
