-- sp is set to a number within the stack; or as long as it isn't set to any word; or else the step is stuck.
use Rattle.std.proofs.Common.{◌≡◌, ◌<◌, [], None, true, false, length, ap, sym, ◌∙◌, subst, set, arith}
use Rattle.std.proofs.lemmas.Bool.{cond-true}
use Rattle.sym_machine.specs.Answer.{RunsOn}
use Rattle.sym_machine.specs.Change.{Goes, sets}
use Rattle.sym_machine.specs.Kept.{Working, word_of}
use Rattle.sym_machine.specs.Step.{applied, in_stack, is_set, mark_for}
use Rattle.sym_machine.specs.Words.{number_of}
use Rattle.std.specs.Option.{option_map_or}
use Rattle.sym_machine.proofs.StateLaws.{core_of, gives_sp, gives_sp_word, kept_high, sp_stuck, working_sp}
use Rattle.sym_machine.proofs.StepLaws.{mark_outside}
use Rattle.sym_machine.proofs.state.State.set_sp.Goals as goal

pub invariant_of-self : goal.invariant_of-self
invariant_of-self c =
    let i = c.self.inside in
    let sp = c.in-Some.sp in
    let k = c.settle.new.self in
    let inside : in_stack k.map sp ≡ true = ap (λ m. in_stack m sp) (c.settle.ensures.map ∙ ap (λ (w : Working). w.map) c.self.view_is) ∙ c.in-Some.ensures.1 in
    let mark = ap (mark_for k.map) c.in-Some.ensures.0 ∙ cond-true (in_stack k.map sp) sp k.map.stack_high inside in
    working_sp i.registers i.memory k c.args.word.now c.self.invariant c.settle.ensures.kept (c.settle.ensures.from ∙ sym mark)

pub returns-in-Some-clause-made : goal.returns-in-Some-clause-made
returns-in-Some-clause-made c =
    let i = c.self.inside in
    let running : i.exit ≡ None = ap (λ (w : Working). w.core.exit) c.self.view_is ∙ c.requires in
    let word = c.args.word.now in
    let sp = c.in-Some.sp in
    let inside : in_stack i.memory.map sp ≡ true = ap (λ (w : Working). in_stack w.map sp) c.self.view_is ∙ c.in-Some.ensures.1 in
    subst (λ (w : Working). RunsOn (applied w.map w.core (Goes (sets 2 (word_of word) c.args.to))) [] w.core (core_of c.args.to (set i.registers 2 word) c.settle.new.self i.answers i.exit)) c.self.view_is
    (gives_sp i.memory i.registers c.self.invariant i.place c.args.to i.answers i.exit running word sp c.settle.new.self c.in-Some.ensures.0 inside c.settle.ensures.regions)

pub returns-then-sp_is_set-clause-stuck : goal.returns-then-sp_is_set-clause-stuck
returns-then-sp_is_set-clause-stuck c =
    let w : Working = c.args.self.now in
    let many : 2 < length w.core.regs = omega (arith, c.self.invariant.registers_are.count, ap (λ (v : Working). length v.core.regs) c.self.view_is) in
    sp_stuck w.map w.core many (sym c.sp_is_set.ensures ∙ c.if-sp_is_set.true) (word_of c.args.word.now) c.args.to c.in_default.ensures

pub invariant_of-self-2 : goal.invariant_of-self-2
invariant_of-self-2 c =
    let i = c.self.inside in
    let is = c.self.invariant in
    let running : i.exit ≡ None = ap (λ (w : Working). w.core.exit) c.self.view_is ∙ c.requires in
    let unset = ap (λ (w : Working). is_set w.map w.core) c.self.view_is ∙ sym c.sp_is_set.ensures ∙ c.if-sp_is_set.false in
    let out = ap (λ (w : Working). option_map_or (in_stack w.map) (number_of (word_of c.args.word.now)) false) c.self.view_is ∙ c.in_default.ensures in
    working_sp i.registers i.memory i.memory c.args.word.now is is.kept
    (kept_high i.memory i.registers is i.place c.args.to i.answers i.exit running unset ∙ sym (mark_outside i.memory.map (number_of (word_of c.args.word.now)) out))

pub returns-clause-made : goal.returns-clause-made
returns-clause-made c =
    let i = c.self.inside in
    let running : i.exit ≡ None = ap (λ (w : Working). w.core.exit) c.self.view_is ∙ c.requires in
    let word = c.args.word.now in
    let unset = ap (λ (w : Working). is_set w.map w.core) c.self.view_is ∙ sym c.sp_is_set.ensures ∙ c.if-sp_is_set.false in
    let out = ap (λ (w : Working). option_map_or (in_stack w.map) (number_of (word_of word)) false) c.self.view_is ∙ c.in_default.ensures in
    subst (λ (w : Working). RunsOn (applied w.map w.core (Goes (sets 2 (word_of word) c.args.to))) [] w.core (core_of c.args.to (set i.registers 2 word) i.memory i.answers i.exit)) c.self.view_is
    (gives_sp_word i.memory i.registers c.self.invariant i.place c.args.to i.answers i.exit running word unset out)
