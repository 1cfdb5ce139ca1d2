use Rattle.std.proofs.Common.{◌≡◌, [], None, ap, ◌∙◌, subst}
use Rattle.sym_machine.specs.Answer.{RunsOn}
use Rattle.sym_machine.specs.Change.{Goes, puts}
use Rattle.sym_machine.specs.Kept.{Working}
use Rattle.sym_machine.specs.Step.{applied}
use Rattle.sym_machine.proofs.StateLaws.{core_of, puts_on}
use Rattle.sym_machine.proofs.state.State.put_bytes.Goals as goal

pub returns-clause-map : goal.returns-clause-map
returns-clause-map c = c.write.ensures.map ∙ ap (λ (w : Working). w.map) c.self.view_is

pub returns-clause-made : goal.returns-clause-made
returns-clause-made c =
    let i = c.self.inside in
    let running : i.exit ≡ None = ap (λ (w : Working). w.core.exit) c.self.view_is ∙ c.requires in
    let input = i.answers in
    subst (λ (w : Working). RunsOn (applied w.map w.core (Goes (puts c.args.a c.args.bytes.now c.args.to))) [] w.core (core_of c.args.to i.registers c.write.new.self input i.exit)) c.self.view_is
    (puts_on i.memory i.registers c.self.invariant i.place c.args.to input i.exit running c.args.a c.args.bytes.now c.write.new.self c.write.ensures)
