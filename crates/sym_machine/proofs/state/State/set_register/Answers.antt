use Rattle.std.proofs.Common.{◌≡◌, ℕ, [], None, ap, sym, ◌∙◌, subst, refl, set}
use Rattle.sym_machine.specs.Answer.{RunsOn}
use Rattle.sym_machine.specs.Change.{Goes, sets}
use Rattle.sym_machine.specs.Kept.{Working, word_of}
use Rattle.sym_machine.specs.Step.{applied}
use Rattle.sym_machine.proofs.StateLaws.{core_of, gives_on, working_set}
use Rattle.sym_machine.proofs.state.State.set_register.Goals as goal

pub invariant_of-self : goal.invariant_of-self
invariant_of-self c =
    let i = c.self.inside in
    let is = c.self.invariant in
    let same = sym c.number.ensures.value in
    working_set i.registers i.memory i.memory c.number.result c.args.word is is.kept refl refl (λ e. c.requires.some (same ∙ e)) (λ e. c.requires.other (same ∙ e))

pub returns-clause-made : goal.returns-clause-made
returns-clause-made c =
    let i = c.self.inside in
    let running : i.exit ≡ None = ap (λ (w : Working). w.core.exit) c.self.view_is ∙ c.requires.running in
    let input = i.answers in
    let r = c.number.result in
    let same = sym c.number.ensures.value in
    let before = core_of i.place i.registers i.memory input i.exit in
    let after = core_of c.args.to (set i.registers r c.args.word) i.memory input i.exit in
    subst (λ (w : Working). RunsOn (applied w.map w.core (Goes (sets c.args.rd (word_of c.args.word) c.args.to))) [] w.core after) c.self.view_is
    (subst (λ (n : ℕ). RunsOn (applied i.memory.map before (Goes (sets n (word_of c.args.word) c.args.to))) [] before after) c.number.ensures.value
    (gives_on i.memory i.registers c.self.invariant i.place c.args.to input i.exit running r c.args.word (λ e. c.requires.some (same ∙ e)) (λ e. c.requires.other (same ∙ e))))
