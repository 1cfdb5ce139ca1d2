-- sp is set to a number within the stack.
use Rattle.std.proofs.Common.{◌≡◌, [], None, true, ap, sym, ◌∙◌, subst, set, arith, get_or, get_or-set_same}
use Rattle.std.proofs.lemmas.Bool.{cond-true}
use Rattle.std.proofs.lemmas.List.{map-set}
use Rattle.sym_machine.specs.declared.held.Held.{Held}
use Rattle.sym_machine.specs.declared.held.Held.TheVariants as held
use Rattle.sym_machine.specs.Answer.{RunsOn}
use Rattle.sym_machine.specs.Change.{Goes, sets}
use Rattle.sym_machine.specs.Kept.{Working, word_of, register_words}
use Rattle.sym_machine.specs.Step.{applied, in_stack, mark_for}
use Rattle.sym_machine.specs.Words.{number_of, number_word, undef_word}
use Rattle.sym_machine.proofs.StateLaws.{core_of, gives_sp, working_sp}
use Rattle.sym_machine.proofs.WordLaws.{number_back}
use Rattle.sym_machine.proofs.state.State.move_sp.Goals as goal

pub invariant_of-self : goal.invariant_of-self
invariant_of-self c =
    let i = c.self.inside in
    let inside : in_stack c.settle.new.self.map c.args.sp ≡ true = ap (λ m. in_stack m c.args.sp) c.settle.ensures.map ∙ sym c.has_sp.ensures ∙ c.if-not-has_sp.false in
    let mark : c.args.sp ≡ mark_for c.settle.new.self.map (number_of (number_word c.args.sp)) =
    sym (ap (mark_for c.settle.new.self.map) (number_back c.args.sp (omega arith)) ∙ cond-true (in_stack c.settle.new.self.map c.args.sp) c.args.sp c.settle.new.self.map.stack_high inside) in
    working_sp i.registers i.memory c.settle.new.self (held.Number c.args.sp) c.self.invariant c.settle.ensures.kept (c.settle.ensures.from ∙ mark)

pub returns-clause-sp : goal.returns-clause-sp
returns-clause-sp c =
    let i = c.self.inside in
    let w : Held = held.Number c.args.sp in
    ap (λ l. get_or l 2 undef_word) (map-set word_of i.registers 2 w)
    ∙ get_or-set_same (register_words i.registers) 2 (word_of w) undef_word (omega (arith, c.self.invariant.registers_are.count))

pub returns-clause-made : goal.returns-clause-made
returns-clause-made c =
    let i = c.self.inside in
    let running : i.exit ≡ None = ap (λ (w : Working). w.core.exit) c.self.view_is ∙ c.requires in
    let input = i.answers in
    let sp = c.args.sp in
    subst (λ (w : Working). RunsOn (applied w.map w.core (Goes (sets 2 (number_word sp) c.args.to))) [] w.core (core_of c.args.to (set i.registers 2 (held.Number sp)) c.settle.new.self input i.exit)) c.self.view_is
    (gives_sp i.memory i.registers c.self.invariant i.place c.args.to input i.exit running (held.Number sp) sp c.settle.new.self (number_back sp (omega arith)) (sym c.has_sp.ensures ∙ c.if-not-has_sp.false) c.settle.ensures.regions)
