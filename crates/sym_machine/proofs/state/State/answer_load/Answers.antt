-- What the load gets goes to its register, or the step is stuck.
use Rattle.std.proofs.Common.{◌≡◌, drop, take, ap, sym, ◌∙◌, subst}
use Rattle.rv_decode.specs.Devices.{number_from, widened}
use Rattle.rv_decode.specs.Effect.{load_width}
use Rattle.rv_decode.specs.State.{Load}
use Rattle.sym_machine.specs.declared.answer.SymStep.TheVariants as answer
use Rattle.sym_machine.specs.declared.why.Why.TheVariants.{StackPointer}
use Rattle.sym_machine.specs.Answer.{StepAnswers}
use Rattle.sym_machine.specs.Change.{Goes}
use Rattle.sym_machine.specs.Devices.{device_load}
use Rattle.sym_machine.specs.Events.{Numeric}
use Rattle.sym_machine.specs.Kept.{Working}
use Rattle.sym_machine.specs.State.{PlainCore}
use Rattle.sym_machine.specs.Step.{PlainStep, Stuck, applied}
use Rattle.sym_machine.proofs.StateLaws.{core_of}
use Rattle.sym_machine.proofs.DeviceLaws.{answer_on, answer_stuck}
use Rattle.sym_machine.proofs.state.State.answer_load.Goals as goal

pub returns-then-not-take_answer : goal.returns-then-not-take_answer
returns-then-not-take_answer c =
    let w = c.args.self.now in
    let op = c.args.op in
    let input : c.copy-answers.result ≡ w.core.input = c.copy-answers.ensures ∙ ap (λ (v : Working). v.core.input) c.self.view_is in
    let number : c.take_value-n.result ≡ widened op (number_from (take (load_width op) w.core.input)) =
    c.take_value-n.ensures.value ∙ ap (λ l. widened op (number_from (take (load_width op) l))) input in
    let stuck = answer_stuck w.map w.core c.args.rd c.args.next (load_width op) c.take_value-n.result (λ l. widened op (number_from l)) (λ l. Numeric (Load c.args.a (load_width op) l)) number StackPointer c.if-not-take_answer.ensures.stuck in
    subst (λ (v : Working). StepAnswers (applied w.map w.core (Goes (device_load op c.args.rd w.core c.args.next c.args.a))) c.stuck.result w.core v.core) (sym c.if-not-take_answer.ensures.same)
    (subst (λ (st : PlainStep). StepAnswers st c.stuck.result w.core w.core) (sym stuck)
    (subst (λ (v : Working). StepAnswers (Stuck StackPointer) c.stuck.result v.core v.core) c.if-not-take_answer.ensures.same c.stuck.ensures))

pub returns : goal.returns
returns c =
    let w = c.args.self.now in
    let op = c.args.op in
    let input : c.copy-answers.result ≡ w.core.input = c.copy-answers.ensures ∙ ap (λ (v : Working). v.core.input) c.self.view_is in
    let number : c.take_value-n.result ≡ widened op (number_from (take (load_width op) w.core.input)) =
    c.take_value-n.ensures.value ∙ ap (λ l. widened op (number_from (take (load_width op) l))) input in
    let left : c.take_value-n.new.self ≡ drop (load_width op) w.core.input = c.take_value-n.ensures.left ∙ ap (drop (load_width op)) input in
    let inside = c.self-2.inside in
    let after : _ ≡ core_of inside.place inside.registers inside.memory c.take_value-n.new.self inside.exit =
    (λ j. record (sym c.self-2.view_is j).core { input = sym left j }) in
    let on = answer_on w.map w.core c.args.rd c.args.next (load_width op) c.take_value-n.result (λ l. widened op (number_from l)) (λ l. Numeric (Load c.args.a (load_width op) l)) number c.take_answer.new.self.core c.if-not-take_answer.ensures.made in
    subst (λ (v : PlainCore). StepAnswers (applied w.map w.core (Goes (device_load op c.args.rd w.core c.args.next c.args.a))) (answer.Loaded op c.args.a) w.core v) after on
