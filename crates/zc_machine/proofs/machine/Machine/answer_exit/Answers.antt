use Rattle.std.proofs.Common.{sym, ap, ◌∙◌}
use Rattle.zc_machine.specs.Answer.{exited}
use Rattle.zc_machine.proofs.StepLaws.{exit_status}
use Rattle.zc_machine.proofs.machine.Machine.answer_exit.Goals as goal

pub returns : goal.returns
returns c = λ status wants.
    let called = c.exit_status.ensures ∙ sym (exit_status c.args.self.now status wants) in
    ap (exited c.exit_status.result) c.self.view_is ∙ ap (λ s. exited s c.args.self.now) called
