use Rattle.std.proofs.Common.{◌≡◌, ℕ, List, None, ap, ◌∙◌, subst, set, sym, arith}
use Rattle.sym_machine.specs.declared.held.Held.TheVariants as held
use Rattle.sym_machine.specs.declared.answer.SymStep.TheVariants as answer
use Rattle.sym_machine.specs.Answer.{StepAnswers}
use Rattle.sym_machine.specs.Change.{read_does}
use Rattle.sym_machine.specs.Kept.{Working}
use Rattle.sym_machine.specs.Step.{applied}
use Rattle.sym_machine.proofs.StateLaws.{core_of, reads_on, working_set}
use Rattle.sym_machine.proofs.state.State.read.Goals as goal

pub invariant_of-self : goal.invariant_of-self
invariant_of-self c =
    let i = c.self.inside in
    let new = c.fill-count.ensures.filled in
    working_set i.registers i.memory c.fill-count.new.self 10 (held.Number c.fill-count.result) c.self.invariant new.kept new.map new.from (λ e. omega (arith, e)) (λ e. omega (arith, e))

pub returns : goal.returns
returns c =
    let i = c.self.inside in
    let running : i.exit ≡ None = ap (λ (w : Working). w.core.exit) c.self.view_is ∙ c.requires in
    let call = c.args.arguments in
    let n = c.fill-count.result in
    let fill = c.fill-count.ensures in
    subst (λ (w : Working). StepAnswers (applied w.map w.core (read_does w.core c.args.to call)) (answer.Read n) w.core (core_of c.args.to (set i.registers 10 (held.Number n)) c.fill-count.new.self c.fill-count.new.answers i.exit)) c.self.view_is
    (subst (λ (l : List ℕ). StepAnswers (applied i.memory.map (core_of i.place i.registers i.memory i.answers i.exit) (read_does (core_of i.place i.registers i.memory i.answers i.exit) c.args.to call)) (answer.Read n) (core_of i.place i.registers i.memory i.answers i.exit) (core_of c.args.to (set i.registers 10 (held.Number n)) c.fill-count.new.self l i.exit)) (sym fill.left)
    (reads_on i.memory i.registers c.self.invariant i.place c.args.to i.answers i.exit running call n c.fill-count.new.self fill.count fill.filled))
