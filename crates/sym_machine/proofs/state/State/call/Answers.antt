-- A call sets one register or two, or would leave no number in sp though it is set.
use Rattle.std.proofs.Common.{◌≡◌, ◌≢◌, ◌<◌, ℕ, None, true, false, eqb, ap, inl, inr, sym, ◌∙◌, length, subst, refl, set, arith}
use Rattle.std.specs.Prelude.{◌&&◌, ◌||◌, ◌⊎◌}
use Rattle.std.proofs.lemmas.Bool.{and_parts}
use Rattle.std.proofs.lemmas.Bool.Decides.{eqb_tells}
use Rattle.sym_machine.specs.declared.held.Held.TheVariants as held
use Rattle.sym_machine.specs.declared.state.State.TheInside.{Inside}
use Rattle.sym_machine.specs.declared.answer.SymStep.TheVariants as answer
use Rattle.sym_machine.specs.declared.why.Why.TheVariants.{StackPointer}
use Rattle.sym_machine.specs.Answer.{StepAnswers}
use Rattle.sym_machine.specs.Change.{Does, Goes, call_to}
use Rattle.sym_machine.specs.Kept.{IsWorking, Working, register_words}
use Rattle.sym_machine.specs.State.{PlainCore}
use Rattle.sym_machine.specs.Step.{PlainStep, Stuck, applied, is_set}
use Rattle.sym_machine.proofs.StateLaws.{call_goes, call_stuck, calls, calls_made, calls_off_made, core_of, forgotten, kept_high, lost_unset, working_lost}
use Rattle.sym_machine.proofs.state.State.call.Goals as goal
use Rattle.sym_machine.proofs.state.State.call.Goals.{then-link-ne0, else-link-ne0}

-- one of two registers is sp
one_is : (r t : ℕ) → (eqb r 2 || eqb t 2) ≡ true → (r ≡ 2) ⊎ (t ≡ 2)
one_is r t either = by (eqb_tells r 2)
  where
    other : (r ≢ 2) → ((eqb t 2 ≡ true) × (t ≡ 2)) ⊎ ((eqb t 2 ≡ false) × (t ≢ 2)) → (eqb r 2 ≡ false) → (r ≡ 2) ⊎ (t ≡ 2)
    other apart (inl is) none = inr is.1
    other apart (inr is) none = absurd (let both : (false || false) ≡ true = (λ j. sym none j || sym is.0 j) ∙ either in cc)

    by : ((eqb r 2 ≡ true) × (r ≡ 2)) ⊎ ((eqb r 2 ≡ false) × (r ≢ 2)) → (r ≡ 2) ⊎ (t ≡ 2)
    by (inl is) = inl is.1
    by (inr is) = other is.1 (eqb_tells t 2) is.0

pub returns-then-loses_sp : goal.returns-then-loses_sp
returns-then-loses_sp c =
    let w : Working = c.args.self.now in
    let many : 2 < length w.core.regs = omega (arith, c.self.invariant.registers_are.count, ap (λ (v : Working). length v.core.regs) c.self.view_is) in
    let some : c.args.temp ≢ 0 = λ e. c.if-part-eq0.false (c.number-2.ensures.value ∙ e) in
    let lost = and_parts (eqb c.args.rd 2 || eqb c.args.temp 2) (is_set w.map w.core) (sym c.loses_sp.ensures ∙ c.if-loses_sp.true) in
    let stuck : applied w.map w.core (call_to c.args.rd c.args.temp c.args.to c.args.next) ≡ Stuck StackPointer =
    ap (applied w.map w.core) (call_goes c.args.rd c.args.temp c.args.to c.args.next some)
    ∙ call_stuck w.map w.core many lost.1 c.args.rd c.args.temp c.args.to c.args.next (one_is c.args.rd c.args.temp lost.0) in
    subst (λ (st : PlainStep). StepAnswers st c.stuck-then-loses_sp.result w.core w.core) (sym stuck) c.stuck-then-loses_sp.ensures

pub invariant_of-self : goal.invariant_of-self
invariant_of-self c =
    let i = c.self.inside in
    let is = c.self.invariant in
    let running : i.exit ≡ None = ap (λ (w : Working). w.core.exit) c.self.view_is ∙ c.requires in
    let link = c.number.result in
    let part = c.number-2.result in
    let kept : ((eqb link 2 || eqb part 2) && is_set i.memory.map (core_of i.place i.registers i.memory i.answers i.exit)) ≡ false =
    (λ j. (eqb (c.number.ensures.value j) 2 || eqb (c.number-2.ensures.value j) 2) && is_set (c.self.view_is j).map (c.self.view_is j).core)
    ∙ sym c.loses_sp.ensures ∙ c.if-loses_sp.false in
    let high = λ (sp : (link ≡ 2) ⊎ (part ≡ 2)).
    kept_high i.memory i.registers is i.place c.args.to i.answers i.exit running (lost_unset link part (is_set i.memory.map (core_of i.place i.registers i.memory i.answers i.exit)) kept sp) in
    let is' = working_lost i.registers i.memory part forgotten is c.if-part-eq0.false refl (λ e. high (inr e)) in
    let Is : Inside → Type 0 = λ n. IsWorking (register_words n.registers) n.memory in
    elim c.if-link-ne0.branch [
      | then-link-ne0 w ↦
          subst Is (sym w.self-inside-is)
          (working_lost (set i.registers part forgotten) i.memory link (held.Code c.args.next) is' w.if-link-ne0.true refl (λ e. high (inl e)))
      | else-link-ne0 w ↦ subst Is (sym w.self-inside-is) is'
    ]

pub returns : goal.returns
returns c =
    let i = c.self.inside in
    let running : i.exit ≡ None = ap (λ (w : Working). w.core.exit) c.self.view_is ∙ c.requires in
    let input = i.answers in
    let link = c.number.result in
    let part = c.number-2.result in
    let before = core_of i.place i.registers i.memory input i.exit in
    let kept : ((eqb link 2 || eqb part 2) && is_set i.memory.map before) ≡ false =
    (λ j. (eqb (c.number.ensures.value j) 2 || eqb (c.number-2.ensures.value j) 2) && is_set (c.self.view_is j).map (c.self.view_is j).core)
    ∙ sym c.loses_sp.ensures ∙ c.if-loses_sp.false in
    let does : Goes (calls link part c.args.next c.args.to) ≡ call_to c.args.rd c.args.temp c.args.to c.args.next =
    sym (call_goes link part c.args.to c.args.next c.if-part-eq0.false) ∙ (λ j. call_to (c.number.ensures.value j) (c.number-2.ensures.value j) c.args.to c.args.next) in
    let After : PlainCore → Type 0 = λ after. StepAnswers (applied c.args.self.now.map c.args.self.now.core (call_to c.args.rd c.args.temp c.args.to c.args.next)) answer.Done c.args.self.now.core after in
    let told : (after : PlainCore) → StepAnswers (applied i.memory.map before (Goes (calls link part c.args.next c.args.to))) answer.Done before after → After after =
    λ after h. subst (λ (w : Working). StepAnswers (applied w.map w.core (call_to c.args.rd c.args.temp c.args.to c.args.next)) answer.Done w.core after) c.self.view_is
    (subst (λ (d : Does). StepAnswers (applied i.memory.map before d) answer.Done before after) does h) in
    let Is : Inside → Type 0 = λ n. After (core_of c.args.to n.registers n.memory n.answers n.exit) in
    elim c.if-link-ne0.branch [
      | then-link-ne0 w ↦
          subst Is (sym w.self-inside-is)
          (told _ (calls_made i.memory i.registers c.self.invariant i.place c.args.to input i.exit running part link c.args.next c.if-part-eq0.false w.if-link-ne0.true kept))
      | else-link-ne0 w ↦
          subst Is (sym w.self-inside-is)
          (told _ (subst (λ (r : ℕ). StepAnswers (applied i.memory.map before (Goes (calls r part c.args.next c.args.to))) answer.Done before (core_of c.args.to (set i.registers part forgotten) i.memory input i.exit)) (sym w.if-link-ne0.false)
          (calls_off_made i.memory i.registers c.self.invariant i.place c.args.to input i.exit running part c.args.next c.if-part-eq0.false
          (ap (λ (n : ℕ). (eqb n 2 || eqb part 2) && is_set i.memory.map before) (sym w.if-link-ne0.false) ∙ kept))))
    ]
