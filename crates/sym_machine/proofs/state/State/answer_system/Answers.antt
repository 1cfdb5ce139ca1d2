-- What is answered goes to rd, or the step is stuck.
use Rattle.std.proofs.Common.{◌≡◌, ℕ, [], drop, take, ap, sym, ◌∙◌, subst}
use Rattle.rv_decode.specs.Devices.{number_from}
use Rattle.rv_decode.specs.Formats.{rd_of}
use Rattle.rv_decode.specs.System.{system_width}
use Rattle.sym_machine.specs.declared.answer.SymStep.TheVariants as answer
use Rattle.sym_machine.specs.declared.why.Why.TheVariants.{StackPointer}
use Rattle.sym_machine.specs.Answer.{RunsOn, StepAnswers}
use Rattle.sym_machine.specs.Change.{Goes, sets}
use Rattle.sym_machine.specs.Devices.{system_does}
use Rattle.sym_machine.specs.Kept.{Working}
use Rattle.sym_machine.specs.State.{PlainCore}
use Rattle.sym_machine.specs.Step.{PlainStep, Stuck, applied}
use Rattle.sym_machine.specs.Words.{number_word}
use Rattle.sym_machine.proofs.StateLaws.{core_of}
use Rattle.sym_machine.proofs.DeviceLaws.{system_on, system_stuck}
use Rattle.sym_machine.proofs.state.State.answer_system.Goals as goal

pub returns-then-not-take_answer : goal.returns-then-not-take_answer
returns-then-not-take_answer c =
    let w = c.args.self.now in
    let word = c.args.word in
    let n = c.take_word-n.result in
    let input : c.copy-answers.result ≡ w.core.input = c.copy-answers.ensures ∙ ap (λ (v : Working). v.core.input) c.self.view_is in
    let number : n ≡ number_from (take (system_width word) w.core.input) =
    c.take_word-n.ensures.value ∙ ap (λ l. number_from (take (system_width word) l)) input in
    let own : applied w.map w.core (Goes (sets (rd_of word) (number_word n) c.args.next)) ≡ Stuck StackPointer =
    subst (λ (r : ℕ). applied w.map w.core (Goes (sets r (number_word n) c.args.next)) ≡ Stuck StackPointer) c.register_at.ensures c.if-not-take_answer.ensures.stuck in
    let stuck = system_stuck w.map w.core word n c.args.next number c.system_operand-operand.result StackPointer c.in_default.not-Unknown c.system_operand-operand.ensures own in
    subst (λ (v : Working). StepAnswers (applied w.map w.core (system_does word w.core c.args.next)) c.stuck-then-not-take_answer.result w.core v.core) (sym c.if-not-take_answer.ensures.same)
    (subst (λ (st : PlainStep). StepAnswers st c.stuck-then-not-take_answer.result w.core w.core) (sym stuck)
    (subst (λ (v : Working). StepAnswers (Stuck StackPointer) c.stuck-then-not-take_answer.result v.core v.core) c.if-not-take_answer.ensures.same c.stuck-then-not-take_answer.ensures))

pub returns : goal.returns
returns c =
    let w = c.args.self.now in
    let word = c.args.word in
    let n = c.take_word-n.result in
    let s' = c.take_answer.new.self.core in
    let operand = c.system_operand-operand.result in
    let input : c.copy-answers.result ≡ w.core.input = c.copy-answers.ensures ∙ ap (λ (v : Working). v.core.input) c.self.view_is in
    let number : n ≡ number_from (take (system_width word) w.core.input) =
    c.take_word-n.ensures.value ∙ ap (λ l. number_from (take (system_width word) l)) input in
    let left : c.take_word-n.new.answers ≡ drop (system_width word) w.core.input = c.take_word-n.ensures.left ∙ ap (drop (system_width word)) input in
    let own : RunsOn (applied w.map w.core (Goes (sets (rd_of word) (number_word n) c.args.next))) [] w.core s' =
    subst (λ (r : ℕ). RunsOn (applied w.map w.core (Goes (sets r (number_word n) c.args.next))) [] w.core s') c.register_at.ensures c.if-not-take_answer.ensures.made in
    let inside = c.self-2.inside in
    let after : _ ≡ core_of inside.place inside.registers inside.memory c.take_word-n.new.answers inside.exit =
    (λ j. record (sym c.self-2.view_is j).core { input = sym left j }) in
    let on = system_on w.map w.core word n c.args.next number operand s' c.in_default.not-Unknown c.system_operand-operand.ensures own in
    subst (λ (v : PlainCore). StepAnswers (applied w.map w.core (system_does word w.core c.args.next)) (answer.System word operand) w.core v) after on
