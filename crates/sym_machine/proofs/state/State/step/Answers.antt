-- A step goes by the exit's status, and then by what stands at the place.
use Rattle.std.proofs.Common.{◌≡◌, ◌+◌, [], None, Some, false, ap, sym, ◌∙◌, refl, inr, subst, arith}
use Rattle.std.specs.Prelude.{not, ◌&&◌}
use Rattle.psabi_sym.specs.Inputs.{parsed}
use Rattle.rv_decode.specs.Memory.{extents_of}
use Rattle.zc_base.specs.declared.place.Place.{Place}
use Rattle.block_cut.specs.Items.{item_at}
use Rattle.block_cut.proofs.FaultLaws.{faultless}
use Rattle.block_cut.proofs.SizeLaws.{item_sized}
use Rattle.block_cut.proofs.WordLaws.{no_item}
use Rattle.sym_machine.specs.Answer.{Makes, StepAnswers}
use Rattle.sym_machine.specs.Kept.{Working}
use Rattle.sym_machine.specs.Objects.{program_of}
use Rattle.sym_machine.specs.Program.{Program}
use Rattle.sym_machine.specs.State.{PlainCore}
use Rattle.sym_machine.specs.Step.{PlainStep, is_set, item_step, needs_stack, plain_step}
use Rattle.sym_machine.proofs.StateLaws.{step_of, step_without}
use Rattle.sym_machine.proofs.StepLaws.{set_found, set_lacking, step_past_exit}
use Rattle.sym_machine.proofs.state.State.step.Goals as goal
use Rattle.sym_machine.proofs.state.State.step.Goals.{After-at}

pub returns-in-Some : goal.returns-in-Some
returns-in-Some c =
    let exited = sym (ap (λ (w : Working). w.core.exit) c.self.view_is) ∙ c.in-Some.is in
    inr (exited, refl, step_past_exit [] (program_of (parsed c.args.cut.now)) c.args.self.now.core c.in-Some.status exited)

-- a step of the definition, by what stands at the place
step_here : (c : After-at)
    → (needs_stack ((program_of (parsed c.args.cut.now)).item c.self.inside.place) && not (is_set c.args.self.now.map c.args.self.now.core)) ≡ false
    → plain_step (program_of (parsed c.args.cut.now)) c.args.self.now.core
    ≡ (let p = program_of (parsed c.args.cut.now) in
    item_step [] c.args.self.now.map p (p.item c.self.inside.place) c.args.self.now.core (p.next c.self.inside.place))
step_here c found =
    let p : Program = program_of (parsed c.args.cut.now) in
    let s : PlainCore = c.args.self.now.core in
    let i = c.self.inside in
    let running : s.exit ≡ None = sym (ap (λ (w : Working). w.core.exit) c.self.view_is) ∙ c.in_default.is in
    let of = ap (λ (w : Working). extents_of w.core.memory) c.self.view_is ∙ c.requires in
    let map : i.memory.map ≡ c.args.self.now.map = ap (λ (w : Working). w.map) c.self.view_is in
    let place : s.place ≡ i.place = ap (λ (w : Working). w.core.place) (sym c.self.view_is) in
    step_of i.memory c.self.invariant.kept p of s running ((λ j. needs_stack (p.item (place j)) && not (is_set (map j) s)) ∙ found) ∙ (λ j. item_step [] (map j) p (p.item (place j)) s (p.next (place j)))

pub returns-in_default-at : goal.returns-in_default-at
unfolding program_of
returns-in_default-at c =
    let p : Program = program_of (parsed c.args.cut.now) in
    let s : PlainCore = c.args.self.now.core in
    let none : p.item c.self.inside.place ≡ None = no_item (parsed c.args.cut.now) c.self.inside.place c.in_default-at.ensures in
    let found = ap (λ o. needs_stack o && not (is_set c.args.self.now.map s)) none in
    let is = step_here (goal.at.returns-in_default-at c).After-at found ∙ ap (λ o. item_step [] c.args.self.now.map p o s (p.next c.self.inside.place)) none in
    subst (λ (st : PlainStep). StepAnswers st c.stuck.result s s) (sym is) c.stuck.ensures

pub returns-in_default-item : goal.returns-in_default-item
unfolding program_of
returns-in_default-item c =
    let p : Program = program_of (parsed c.args.cut.now) in
    let s : PlainCore = c.args.self.now.core in
    let none : p.item c.self.inside.place ≡ None = sym (ap (λ w. w.item) c.in-Some-at.ensures.1) ∙ c.in_default-item.is in
    let found = ap (λ o. needs_stack o && not (is_set c.args.self.now.map s)) none in
    let is = step_here (goal.at.returns-in_default-item c).After-at found ∙ ap (λ o. item_step [] c.args.self.now.map p o s (p.next c.self.inside.place)) none in
    subst (λ (st : PlainStep). StepAnswers st c.stuck-in_default-item.result s s) (sym is) c.stuck-in_default-item.ensures

pub returns-then-lacks_stack : goal.returns-then-lacks_stack
unfolding program_of
returns-then-lacks_stack c =
    let p : Program = program_of (parsed c.args.cut.now) in
    let s : PlainCore = c.args.self.now.core in
    let i = c.self.inside in
    let here : p.item i.place ≡ Some c.in-Some-item.item = sym (ap (λ w. w.item) c.in-Some-at.ensures.1) ∙ c.in-Some-item.is in
    let running : s.exit ≡ None = sym (ap (λ (w : Working). w.core.exit) c.self.view_is) ∙ c.in_default.is in
    let of = ap (λ (w : Working). extents_of w.core.memory) c.self.view_is ∙ c.requires in
    let map : i.memory.map ≡ c.args.self.now.map = ap (λ (w : Working). w.map) c.self.view_is in
    let place : s.place ≡ i.place = ap (λ (w : Working). w.core.place) (sym c.self.view_is) in
    let lacks = set_lacking (needs_stack (Some c.in-Some-item.item)) (is_set c.args.self.now.map s) (sym c.lacks_stack.ensures ∙ c.if-lacks_stack.true) in
    let is = step_without i.memory c.self.invariant.kept p of [] s running ((λ j. needs_stack (p.item (place j))) ∙ ap needs_stack here ∙ lacks.0) (ap (λ m. is_set m s) map ∙ lacks.1) in
    subst (λ (st : PlainStep). StepAnswers st c.stuck-then-lacks_stack.result s s) (sym is) c.stuck-then-lacks_stack.ensures

pub step_item-requires-clause-stack : goal.step_item-requires-clause-stack
step_item-requires-clause-stack c =
    set_found (needs_stack (Some c.in-Some-item.item)) (is_set c.args.self.now.map c.args.self.now.core) (sym c.lacks_stack.ensures ∙ c.if-lacks_stack.false)

pub overflow_add-next : goal.overflow_add-next
overflow_add-next c =
    let inputs = c.args.cut.now in
    let q = c.self.inside.place in
    let none = (faultless inputs c.recall_invariant.ensures.faultless).gathered in
    let here : item_at (parsed inputs) q ≡ Some c.in-Some-item.item = sym (ap (λ w. w.item) c.in-Some-at.ensures.1) ∙ c.in-Some-item.is in
    omega (arith, (item_sized inputs none q c.in-Some-item.item here).inside, c.from.ensures, ap (λ w. w.size) c.in-Some-at.ensures.1)

pub returns : goal.returns
unfolding program_of
returns c =
    let p : Program = program_of (parsed c.args.cut.now) in
    let s : PlainCore = c.args.self.now.core in
    let q = c.self.inside.place in
    let item = c.in-Some-item.item in
    let to : Place = record { object = q.object; section = q.section; offset = q.offset + c.from.result } in
    let here : p.item q ≡ Some item = sym (ap (λ w. w.item) c.in-Some-at.ensures.1) ∙ c.in-Some-item.is in
    let next : p.next q ≡ to =
    λ j. record { object = q.object; section = q.section; offset = q.offset + sym (c.from.ensures ∙ ap (λ w. w.size) c.in-Some-at.ensures.1) j } in
    let found = ap (λ o. needs_stack o && not (is_set c.args.self.now.map s)) here ∙ sym c.lacks_stack.ensures ∙ c.if-lacks_stack.false in
    let is = step_here (goal.at.returns c).After-at found ∙ (λ j. item_step [] c.args.self.now.map p (here j) s (next j)) in
    subst (λ (st : PlainStep). Makes c.step_item.result st s c.step_item.new.self.core) (sym is) c.step_item.ensures
