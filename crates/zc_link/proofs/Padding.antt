-- Padding. Its instructions do nothing, so the states stay alike from one to the next, whatever interrupts come between them.
use Rattle.std.proofs.Common.{◌≡◌, ℕ, zero, suc, ◌+◌, List, Some, Ok, refl, sym, ap, ◌∙◌, subst}
use Rattle.zc_base.specs.declared.place.Place.{Place}
use Rattle.interrupt_plan.specs.Plan.{AreInterrupts, Interrupt}
use Rattle.rv_decode.specs.Effect.{onward}
use Rattle.rv_decode.specs.Run.{◌>>=◌}
use Rattle.rv_decode.specs.State.{ZcCore, ZcState}
use Rattle.sym_machine.specs.Change.{Change, Goes, continues, item_does}
use Rattle.sym_machine.specs.Program.{Program}
use Rattle.sym_machine.specs.State.{PlainCore, PlainState}
use Rattle.sym_machine.specs.Step.{after_change}
use Rattle.zc_machine.specs.Run.{zc_turns}
use Rattle.zc_link.specs.Image.{Image}
use Rattle.zc_link.specs.Invariants.Stretches.{AlignLaid, Nops}
use Rattle.zc_link.specs.Invariants.Room.{Room}
use Rattle.zc_link.specs.IsSimulation.{Comes}
use Rattle.zc_link.specs.Sound.{Alike, Ready}
use Rattle.zc_link.proofs.Commits.{after_cuts}
use Rattle.zc_link.proofs.Instrs.{IsQuiet}
use Rattle.zc_link.proofs.Ready.{alike_moved, ready_moved}
use Rattle.zc_link.proofs.Singles.{FromSound, below_top, comes_after}

-- after `count` commits the state is still alike, at an address
record Padded (p : Program) (Named : Place → Type 0) (e : Image) (s : PlainCore) (cuts : ℕ → List Interrupt) (count b : ℕ) (z : ZcState) : Type 0 where
  after : ZcCore
  runs : zc_turns cuts count z ≡ Ok (record z { core = after })
  alike : Alike p Named e s after
  pc : after.pc ≡ b

module _ {p : Program} {Named : Place → Type 0} {e : Image} (room : Room p e) (s : PlainCore) where
  nops_run : (count b : ℕ) (cuts : ℕ → List Interrupt) (z : ZcState) → AreInterrupts cuts → Nops e z.core.pc count b → Alike p Named e s z.core → Padded p Named e s cuts count b z
  nops_run zero b cuts z are nops al = record { after = z.core; runs = refl; alike = al; pc = sym nops }
  nops_run (suc count) b cuts z are nops al =
      let at = nops.0 in
      let w = after_cuts room (cuts 0) (are 0) at al in
      let y : ZcCore = onward w.now at.size w.now.regs in
      let pc : z.core.pc + at.size ≡ y.pc = below_top z.core.pc w.now.pc at.size w.pc at.small in
      let rest =
      nops_run count b (λ k. cuts (suc k)) (record z { core = y }) (λ k. are (suc k)) (subst (λ a. Nops e a count b) pc nops.1)
      (alike_moved y.pc y.commits w.alike) in
      record { after = rest.after; runs = ap (λ t. t >>= zc_turns (λ k. cuts (suc k)) count) w.turn ∙ rest.runs; alike = rest.alike; pc = rest.pc }

-- an ALIGN
pub align_comes :
    {p : Program} {Named : Place → Type 0} {e : Image} {r r' : PlainState} {cuts : ℕ → List Interrupt} {z : ZcState} (count : ℕ) → Room p e → (from : FromSound p Named e r r' cuts z)
    → AlignLaid p e r.core.place z.core.pc count → Comes p Named e cuts count z r'
align_comes {p} {Named} {e} {r} {r'} {cuts} {z} count room from laid =
    let next = p.next r.core.place in
    let pad = nops_run room r.core count laid.end cuts z from.are laid.nops from.sound.alike in
    let does : item_does p (p.item r.core.place) r.core next ≡ Goes (continues next) = ap (λ o. item_does p o r.core next) laid.item in
    let same : Goes (continues next) ≡ Goes from.step.change = sym does ∙ from.step.does in
    let is : continues next ≡ from.step.change = cc in
    let ready : Ready p Named e (after_change (continues next) r.core) pad.after = ready_moved pad.alike.ready next pad.after.pc pad.after.commits in
    comes_after from count pad.after pad.runs (subst (λ c. Ready p Named e (after_change c r.core) pad.after) is ready)
    (subst IsQuiet is (record { events = refl; taken = refl }))
    (ap (λ (c : Change). e.address c.place) (sym is) ∙ laid.next ∙ ap Some (sym pad.pc))
