use Rattle.std.proofs.Common.{◌≡◌, ◌%◌, None, Some, ap, ◌∙◌, subst}
use Rattle.sym_machine.specs.declared.answer.SymStep.TheVariants as answer
use Rattle.sym_machine.specs.Answer.{StepAnswers}
use Rattle.sym_machine.specs.Change.{exit_does}
use Rattle.sym_machine.specs.Kept.{Working}
use Rattle.sym_machine.specs.Step.{applied}
use Rattle.sym_machine.proofs.StateLaws.{core_of, exits}
use Rattle.sym_machine.proofs.state.State.end.Goals as goal

pub returns : goal.returns
returns c =
    let i = c.self.inside in
    let running : i.exit ≡ None = ap (λ (w : Working). w.core.exit) c.self.view_is ∙ c.requires in
    let input = i.answers in
    let status = c.args.a0 % 256 in
    subst (λ (w : Working). StepAnswers (applied w.map w.core (exit_does (Some c.args.a0) w.core.place)) (answer.Exited status) w.core (core_of i.place i.registers i.memory input (Some status))) c.self.view_is
    (exits i.memory i.registers c.self.invariant i.place i.place input i.exit running c.args.a0)
