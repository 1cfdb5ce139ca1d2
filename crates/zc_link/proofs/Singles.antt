-- An item that is one instruction is one commit, whatever interrupts come before it: the state after them is alike, the law of
-- the instruction goes on from there, and the step's end makes the states sound again.
use Rattle.std.proofs.Common.{◌≡◌, ℕ, ◌+◌, ◌%◌, ◌^◌, ◌<◌, List, ◌++◌, map, Some, Ok, ap, ◌∙◌, inl, arith, drop}
use Rattle.std.proofs.lemmas.List.{append-nil}
use Rattle.zc_base.specs.declared.place.Place.{Place}
use Rattle.interrupt_plan.specs.Plan.{AreInterrupts, Interrupt}
use Rattle.rv_decode.specs.declared.instr.Instr.{Instr}
use Rattle.rv_decode.specs.Effect.{Commits, effect}
use Rattle.rv_decode.specs.State.{ZcCore, ZcState}
use Rattle.sym_machine.specs.Events.{event_in}
use Rattle.sym_machine.specs.Program.{Program}
use Rattle.sym_machine.specs.State.{PlainState}
use Rattle.sym_machine.specs.Step.{after_change}
use Rattle.zc_machine.specs.Run.{committed, zc_turn, zc_turns}
use Rattle.zc_machine.specs.Step.{effect_step}
use Rattle.zc_link.specs.Image.{Image}
use Rattle.zc_link.specs.Invariants.Stretches.{AloneLaid}
use Rattle.zc_link.specs.Invariants.Room.{Room}
use Rattle.zc_link.specs.IsSimulation.{Comes}
use Rattle.zc_link.specs.Sound.{Alike, Ready, Sound}
use Rattle.zc_link.proofs.Commits.{after_cuts, zc_turns-one}
use Rattle.sym_machine.proofs.RunLaws.{Stepped}
use Rattle.zc_link.proofs.Ends.{ends_alike}
use Rattle.zc_link.proofs.EventLaws.{events_kept}
use Rattle.zc_link.proofs.Instrs.{IsQuiet, Moves}

-- a sound pair, a step of the program from it, and interrupts before each commit
pub record FromSound (p : Program) (Named : Place → Type 0) (e : Image) (r r' : PlainState) (cuts : ℕ → List Interrupt) (z : ZcState) : Type 0 where
  pub sound : Sound p Named e r.core z
  pub same : z.events ≡ map (event_in e.address) r.events
  pub are : AreInterrupts cuts
  pub step : Stepped p r r'

-- an address below 2^32 doesn't come round
pub below_top : (a b size : ℕ) → b ≡ a → a + size < 2 ^ 32 → a + size ≡ (b + size) % 2 ^ 32
below_top a b size same small = omega arith

-- some commits, of which the last leaves states that are ready after the step's change, at a listed place
pub comes_after :
    {p : Program} {Named : Place → Type 0} {e : Image} {r r' : PlainState} {cuts : ℕ → List Interrupt} {z : ZcState} (from : FromSound p Named e r r' cuts z) (k : ℕ) (y : ZcCore)
    → zc_turns cuts k z ≡ Ok (record z { core = y }) → Ready p Named e (after_change from.step.change r.core) y → IsQuiet from.step.change
    → e.address from.step.change.place ≡ Some y.pc → Comes p Named e cuts k z r'
comes_after {e = e} {r = r} {r' = r'} {z = z} from k y runs ready quiet place = record {
  after = record z { core = y };
  runs = runs;
  together = inl record {
    alike = ends_alike from.step.end ready;
    input = ap (λ s. s.input) from.step.end.state ∙ ap (λ n. drop n r.core.input) quiet.taken ∙ from.sound.input;
    place = ap (λ s. e.address s.place) from.step.end.state ∙ place;
  };
  events =
      events_kept e.address r.events r'.events z.events from.same
      (from.step.events ∙ ap (λ l. r.events ++ l) quiet.events ∙ append-nil r.events);
}

-- an instruction that moves to a listed place, from every state that the interrupts may leave
pub single_comes :
    {p : Program} {Named : Place → Type 0} {e : Image} {r r' : PlainState} {cuts : ℕ → List Interrupt} {z : ZcState} {i : Instr}
    → Room p e → (from : FromSound p Named e r r' cuts z) → (laid : AloneLaid p e r.core.place z.core.pc i)
    → ((y : ZcCore) → y.pc ≡ z.core.pc → Alike p Named e r.core y → e.address (p.next r.core.place) ≡ Some ((y.pc + laid.at.size) % 2 ^ 32)
    → Moves p Named e i laid.at.size from.step.change r.core y)
    → Comes p Named e cuts 1 z r'
single_comes {p} {e} {r} {r'} {cuts} {z} room from laid law =
    let w = after_cuts room (cuts 0) (from.are 0) laid.at from.sound.alike in
    let moves = law w.now w.pc w.alike (laid.next ∙ ap Some (below_top z.core.pc w.now.pc laid.at.size w.pc laid.at.small)) in
    let after = moves.made.after in
    let does : effect laid.here laid.at.size w.now ≡ Commits after = laid.same laid.at.size w.now ∙ moves.made.commits in
    let turn : zc_turn (cuts 0) z ≡ Ok (record z { core = after }) = w.turn ∙ ap (λ x. committed (effect_step x w.now) (record z { core = w.now })) does in
    comes_after from 1 after (zc_turns-one cuts z (record z { core = after }) turn) moves.made.ready moves.made.quiet moves.place
