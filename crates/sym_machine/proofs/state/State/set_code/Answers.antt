use Rattle.std.proofs.Common.{◌≡◌, ℕ, [], None, ap, sym, ◌∙◌, subst, refl, set}
use Rattle.sym_machine.specs.declared.held.Held.{Held}
use Rattle.sym_machine.specs.declared.held.Held.TheVariants as held
use Rattle.sym_machine.specs.Answer.{RunsOn}
use Rattle.sym_machine.specs.Change.{Goes, sets}
use Rattle.sym_machine.specs.Kept.{Working}
use Rattle.sym_machine.specs.Words.{code_word}
use Rattle.sym_machine.specs.Step.{applied}
use Rattle.sym_machine.proofs.StateLaws.{core_of, gives_on, working_set}
use Rattle.sym_machine.proofs.state.State.set_code.Goals as goal

pub invariant_of-self : goal.invariant_of-self
invariant_of-self c =
    let i = c.self.inside in
    let is = c.self.invariant in
    let same = sym c.number.ensures.value in
    working_set i.registers i.memory i.memory c.number.result c.set_code.new.self is is.kept refl refl (λ e. c.requires.some (same ∙ e)) (λ e. c.requires.other (same ∙ e))

pub returns-clause-made : goal.returns-clause-made
returns-clause-made c =
    let i = c.self.inside in
    let running : i.exit ≡ None = ap (λ (w : Working). w.core.exit) c.self.view_is ∙ c.requires.running in
    let input = i.answers in
    let r = c.number.result in
    let same = sym c.number.ensures.value in
    let before = core_of i.place i.registers i.memory input i.exit in
    let after : Held → _ = λ w. core_of c.args.to (set i.registers r w) i.memory input i.exit in
    subst (λ (w : Working). RunsOn (applied w.map w.core (Goes (sets c.args.rd (code_word c.args.q) c.args.to))) [] w.core (after c.set_code.new.self)) c.self.view_is
    (subst (λ (n : ℕ). RunsOn (applied i.memory.map before (Goes (sets n (code_word c.args.q) c.args.to))) [] before (after c.set_code.new.self)) c.number.ensures.value
    (subst (λ (w : Held). RunsOn (applied i.memory.map before (Goes (sets r (code_word c.args.q) c.args.to))) [] before (after w)) (sym c.set_code.ensures)
    (gives_on i.memory i.registers c.self.invariant i.place c.args.to input i.exit running r (held.Code c.args.q) (λ e. c.requires.some (same ∙ e)) (λ e. c.requires.other (same ∙ e)))))
