-- Where sp is set a step is what stands at the place.
use Rattle.std.proofs.Common.{[], ap, sym, ◌∙◌}
use Rattle.rv_decode.specs.Memory.{extents_of}
use Rattle.sym_machine.specs.Kept.{Working}
use Rattle.sym_machine.specs.Step.{is_set, item_step, needs_stack}
use Rattle.sym_machine.proofs.StateLaws.{set_is, step_of}
use Rattle.sym_machine.proofs.StepLaws.{never_lacks}
use Rattle.sym_machine.proofs.state.State.place.Goals as goal

pub returns-clause-set : goal.returns-clause-set
returns-clause-set c = λ p of.
    let i = c.self.inside in
    let s = c.args.self.now.core in
    set_is i.memory c.self.invariant.kept p (ap (λ (w : Working). extents_of w.core.memory) c.self.view_is ∙ of) s
    ∙ ap (λ (w : Working). is_set w.map s) c.self.view_is

pub returns-clause-step : goal.returns-clause-step
returns-clause-step c = λ p of running set.
    let i = c.self.inside in
    let s = c.args.self.now.core in
    let within = ap (λ (w : Working). extents_of w.core.memory) c.self.view_is ∙ of in
    step_of i.memory c.self.invariant.kept p within s running
    (never_lacks (needs_stack (p.item s.place)) (is_set i.memory.map s) (sym (set_is i.memory c.self.invariant.kept p within s) ∙ set))
    ∙ (λ j. item_step [] (c.self.view_is j).map p (p.item (sym c.self.view_is j).core.place) s (p.next (sym c.self.view_is j).core.place))
