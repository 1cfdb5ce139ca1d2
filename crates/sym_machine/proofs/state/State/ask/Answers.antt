-- Devices are asked by what stands at the place.
use Rattle.std.proofs.Common.{◌≡◌, ◌+◌, [], None, Option, Some, Bool, true, false, ap, sym, ◌∙◌, refl, List, subst, arith}
use Rattle.std.specs.Prelude.{not, ◌&&◌}
use Rattle.psabi_sym.specs.Inputs.{parsed}
use Rattle.rv_decode.specs.Devices.{Device}
use Rattle.rv_decode.specs.Memory.{extents_of}
use Rattle.zc_base.specs.declared.place.Place.{Place}
use Rattle.block_cut.specs.Items.{item_at}
use Rattle.block_cut.proofs.FaultLaws.{faultless}
use Rattle.block_cut.proofs.SizeLaws.{item_sized}
use Rattle.block_cut.proofs.WordLaws.{no_item}
use Rattle.sym_machine.specs.declared.answer.SymStep.{SymStep}
use Rattle.sym_machine.specs.declared.why.Why.TheVariants.{StackPointer}
use Rattle.sym_machine.specs.Answer.{DevicesAnswer}
use Rattle.sym_machine.specs.Kept.{Working}
use Rattle.sym_machine.specs.Objects.{program_of}
use Rattle.sym_machine.specs.Program.{Program}
use Rattle.sym_machine.specs.State.{PlainCore}
use Rattle.sym_machine.specs.Step.{PlainStep, Stuck, is_set, item_step, needs_stack, plain_step, step_with}
use Rattle.sym_machine.proofs.DeviceLaws.{item_alone}
use Rattle.sym_machine.proofs.StateLaws.{step_with_of, step_without}
use Rattle.sym_machine.proofs.StepLaws.{set_lacking, step_past_exit}
use Rattle.sym_machine.proofs.state.State.ask.Goals as goal
use Rattle.sym_machine.proofs.state.State.ask.Goals.{After-at}

pub returns-in-Some : goal.returns-in-Some
returns-in-Some c =
    let p : Program = program_of (parsed c.args.cut.now) in
    let s : PlainCore = c.args.self.now.core in
    let exited = sym (ap (λ (w : Working). w.core.exit) c.self.view_is) ∙ c.in-Some.is in
    (refl, step_past_exit c.args.devices.now.all p s _ exited ∙ sym (step_past_exit [] p s _ exited))

-- a step of the definition, by what stands at the place
step_here : (c : After-at) (devices : List Device)
    → (needs_stack ((program_of (parsed c.args.cut.now)).item c.self.inside.place) && not (is_set c.args.self.now.map c.args.self.now.core)) ≡ false
    → step_with devices (program_of (parsed c.args.cut.now)) c.args.self.now.core
    ≡ (let p = program_of (parsed c.args.cut.now) in
    item_step devices c.args.self.now.map p (p.item c.self.inside.place) c.args.self.now.core (p.next c.self.inside.place))
step_here c devices found =
    let p : Program = program_of (parsed c.args.cut.now) in
    let s : PlainCore = c.args.self.now.core in
    let i = c.self.inside in
    let running : s.exit ≡ None = sym (ap (λ (w : Working). w.core.exit) c.self.view_is) ∙ c.in_default.is in
    let of = ap (λ (w : Working). extents_of w.core.memory) c.self.view_is ∙ c.requires in
    let map : i.memory.map ≡ c.args.self.now.map = ap (λ (w : Working). w.map) c.self.view_is in
    let place : s.place ≡ i.place = ap (λ (w : Working). w.core.place) (sym c.self.view_is) in
    step_with_of i.memory c.self.invariant.kept p of devices s running ((λ j. needs_stack (p.item (place j)) && not (is_set (map j) s)) ∙ found)
    ∙ (λ j. item_step devices (map j) p (p.item (place j)) s (p.next (place j)))

-- where nothing stands, no device answers
nothing_here : (c : After-at) → (program_of (parsed c.args.cut.now)).item c.self.inside.place ≡ None
    → step_with c.args.devices.now.all (program_of (parsed c.args.cut.now)) c.args.self.now.core ≡ plain_step (program_of (parsed c.args.cut.now)) c.args.self.now.core
nothing_here c none =
    let p : Program = program_of (parsed c.args.cut.now) in
    let s : PlainCore = c.args.self.now.core in
    let next = p.next c.self.inside.place in
    let devices = c.args.devices.now.all in
    let map = c.args.self.now.map in
    let found = ap (λ o. needs_stack o && not (is_set map s)) none in
    step_here c devices found ∙ ap (λ o. item_step devices map p o s next) none ∙ item_alone devices map p None s next (λ ds. refl)
    ∙ sym (step_here c [] found ∙ ap (λ o. item_step [] map p o s next) none)

-- what devices answer to what stands here they answer to the step, where sp is set or needn't be; else they answer nothing, and the
-- step is stuck in either case
by_stack :
    (devices : List Device) (p : Program) (s s' : PlainCore) (lacks : Bool) (asked alone : PlainStep) (r : Option SymStep)
    → (lacks ≡ false → (step_with devices p s ≡ asked) × (plain_step p s ≡ alone)) → (lacks ≡ true → (step_with devices p s ≡ Stuck StackPointer) × (plain_step p s ≡ Stuck StackPointer))
    → (lacks ≡ true → r ≡ None) → DevicesAnswer asked alone r s s' → DevicesAnswer (step_with devices p s) (plain_step p s) r s s'
by_stack devices p s s' false asked alone r steps stuck none told =
    let is = steps refl in
    subst (λ (st : PlainStep). DevicesAnswer st (plain_step p s) r s s') (sym is.0) (subst (λ (st : PlainStep). DevicesAnswer asked st r s s') (sym is.1) told)
by_stack devices p s s' true asked alone r steps stuck none told =
    let is = stuck refl in
    let same = subst (λ (o : Option SymStep). DevicesAnswer asked alone o s s') (none refl) told in
    subst (λ (o : Option SymStep). DevicesAnswer (step_with devices p s) (plain_step p s) o s s') (sym (none refl)) (same.0, is.0 ∙ sym is.1)

pub returns-in_default-at : goal.returns-in_default-at
unfolding program_of
returns-in_default-at c = (refl, nothing_here (goal.at.returns-in_default-at c).After-at (no_item (parsed c.args.cut.now) c.self.inside.place c.in_default-at.ensures))

pub returns-in_default-item : goal.returns-in_default-item
unfolding program_of
returns-in_default-item c =
    (refl, nothing_here (goal.at.returns-in_default-item c).After-at (sym (ap (λ w. w.item) c.in-Some-at.ensures.1) ∙ c.in_default-item.is))

pub overflow_add-next : goal.overflow_add-next
overflow_add-next c =
    let inputs = c.args.cut.now in
    let q = c.self.inside.place in
    let none = (faultless inputs c.recall_invariant.ensures.faultless).gathered in
    let here : item_at (parsed inputs) q ≡ Some c.in-Some-item.item = sym (ap (λ w. w.item) c.in-Some-at.ensures.1) ∙ c.in-Some-item.is in
    omega (arith, (item_sized inputs none q c.in-Some-item.item here).inside, c.from.ensures, ap (λ w. w.size) c.in-Some-at.ensures.1)

pub returns : goal.returns
unfolding program_of
returns c =
    let p : Program = program_of (parsed c.args.cut.now) in
    let s : PlainCore = c.args.self.now.core in
    let s' : PlainCore = c.ask_item.new.self.core in
    let i = c.self.inside in
    let q = i.place in
    let item = c.in-Some-item.item in
    let devices = c.args.devices.now.all in
    let map = c.args.self.now.map in
    let to : Place = record { object = q.object; section = q.section; offset = q.offset + c.from.result } in
    let here : p.item q ≡ Some item = sym (ap (λ w. w.item) c.in-Some-at.ensures.1) ∙ c.in-Some-item.is in
    let next : p.next q ≡ to =
    λ j. record { object = q.object; section = q.section; offset = q.offset + sym (c.from.ensures ∙ ap (λ w. w.size) c.in-Some-at.ensures.1) j } in
    let at = (goal.at.returns c).After-at in
    let running : s.exit ≡ None = sym (ap (λ (w : Working). w.core.exit) c.self.view_is) ∙ c.in_default.is in
    let of = ap (λ (w : Working). extents_of w.core.memory) c.self.view_is ∙ c.requires in
    let map_is : i.memory.map ≡ map = ap (λ (w : Working). w.map) c.self.view_is in
    let place : s.place ≡ q = ap (λ (w : Working). w.core.place) (sym c.self.view_is) in
    let lacks = needs_stack (Some item) && not (is_set map s) in
    let there = λ (ds : List Device) (found : (needs_stack (Some item) && not (is_set map s)) ≡ false).
    step_here at ds (ap (λ o. needs_stack o && not (is_set map s)) here ∙ found) ∙ (λ j. item_step ds map p (here j) s (next j)) in
    let stuck = λ (ds : List Device) (is : (needs_stack (Some item) && not (is_set map s)) ≡ true).
    let both = set_lacking (needs_stack (Some item)) (is_set map s) is in
    step_without i.memory c.self.invariant.kept p of ds s running ((λ j. needs_stack (p.item (place j))) ∙ ap needs_stack here ∙ both.0) (ap (λ m. is_set m s) map_is ∙ both.1) in
    by_stack devices p s s' lacks (item_step devices map p (Some item) s to) (item_step [] map p (Some item) s to) c.ask_item.result
    (λ found. (there devices found, there [] found)) (λ is. (stuck devices is, stuck [] is))
    (λ is. c.ask_item.ensures.none (set_lacking (needs_stack (Some item)) (is_set map s) is).0) c.ask_item.ensures.answered
