-- sp is the address from which on the stack is kept.
use Rattle.std.proofs.Common.{ℕ, Some, ap, ◌∙◌, subst, sym}
use Rattle.sym_machine.specs.Invariants.Frames.{HasStack}
use Rattle.sym_machine.specs.Kept.{Working}
use Rattle.sym_machine.proofs.MemoryLaws.{settled_stays}
use Rattle.sym_machine.specs.Step.{is_set}
use Rattle.sym_machine.proofs.StateLaws.{core_of}
use Rattle.sym_machine.proofs.StepLaws.{set_some}
use Rattle.sym_machine.proofs.state.State.sp.Goals as goal

pub returns : goal.returns
returns c =
    let i = c.self.inside in
    let is = c.self.invariant in
    let s = core_of i.place i.registers i.memory i.answers i.exit in
    let at = set_some i.memory.map s (ap (λ (w : Working). is_set w.map w.core) c.self.view_is ∙ c.requires) in
    subst (λ (w : Working). HasStack w.map c.kept_from.result w.core) c.self.view_is
    (subst (λ (n : ℕ). HasStack i.memory.map n s) (sym c.kept_from.ensures)
    (record { count = is.registers_are.count; number = at.is ∙ ap Some (sym at.mark ∙ sym is.mark); low = is.kept.low; high = is.kept.high; settled = settled_stays i.memory is.kept }))
