use Rattle.std.proofs.Common.{◌≡◌, [], None, ap, ◌∙◌, subst}
use Rattle.sym_machine.specs.Answer.{RunsOn}
use Rattle.sym_machine.specs.Change.{Goes, continues}
use Rattle.sym_machine.specs.Kept.{Working}
use Rattle.sym_machine.specs.Step.{applied}
use Rattle.sym_machine.proofs.StateLaws.{core_of, goes_on}
use Rattle.sym_machine.proofs.state.State.pass.Goals as goal

pub returns : goal.returns
returns c =
    let i = c.self.inside in
    let running : i.exit ≡ None = ap (λ (w : Working). w.core.exit) c.self.view_is ∙ c.requires in
    let input = i.answers in
    subst (λ (w : Working). RunsOn (applied w.map w.core (Goes (continues c.args.to))) [] w.core (core_of c.args.to i.registers i.memory input i.exit)) c.self.view_is
    (goes_on i.memory i.registers c.self.invariant i.place c.args.to input i.exit running)
