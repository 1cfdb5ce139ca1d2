-- Where a group's commits end: states that are alike, at the place behind its items, are sound again, with the same events.
use Rattle.std.proofs.Common.{◌≡◌, ℕ, ◌<◌, List, [], map, Some, Ok, ap, ◌∙◌, arith, eqb, inl}
use Rattle.std.specs.Prelude.{All}
use Rattle.std.proofs.lemmas.Bool.{cond-false, cond-true, eq-eqb, ne_eqb}
use Rattle.zc_base.specs.declared.place.Place.{Place}
use Rattle.interrupt_plan.specs.Plan.{AreInterrupts, Interrupt, IsInterrupt}
use Rattle.rv_decode.specs.Effect.{Commits}
use Rattle.rv_decode.specs.State.{ZcCore, ZcState}
use Rattle.sym_machine.specs.Events.{event_in}
use Rattle.sym_machine.specs.Program.{Program}
use Rattle.sym_machine.specs.State.{PlainState}
use Rattle.zc_decode.specs.Accesses.{accesses_of}
use Rattle.zc_decode.specs.Effect.{short_effect}
use Rattle.zc_decode.specs.declared.short.Short.{Short}
use Rattle.zc_machine.specs.Run.{committed, zc_turn, zc_turns}
use Rattle.zc_machine.specs.Step.{effect_step}
use Rattle.zc_link.specs.Invariants.Groups.{frame_commits, rest_of}
use Rattle.zc_link.specs.Image.{Image}
use Rattle.zc_link.specs.IsSimulation.{Comes}
use Rattle.zc_link.specs.Invariants.Room.{Room}
use Rattle.zc_link.specs.Sound.{Alike, Sound}
use Rattle.zc_link.specs.Invariants.Stretches.{OneAt}
use Rattle.zc_link.proofs.EventLaws.{events_kept}
use Rattle.zc_link.proofs.FrameCuts.{Behind, IsReady, SpoiledSlots, behind, without_accesses}
use Rattle.zc_link.proofs.OnStack.{free_end}
use Rattle.zc_link.proofs.Straight.{CameTo}

-- a sound pair with the same events, and interrupts before each commit
pub record FromPlace (p : Program) (Named : Place → Type 0) (e : Image) (r : PlainState) (cuts : ℕ → List Interrupt) (z : ZcState) : Type 0 where
  pub sound : Sound p Named e r.core z
  pub same : z.events ≡ map (event_in e.address) r.events
  pub are : AreInterrupts cuts

-- the program came to a listed place, and the machine to its address
pub arrives :
    {p : Program} {Named : Place → Type 0} {e : Image} {r : PlainState} {cuts : ℕ → List Interrupt} {z : ZcState} → FromPlace p Named e r cuts z → (k : ℕ) (q : Place) (r' : PlainState) (y : ZcCore)
    → CameTo q r r' → e.address q ≡ Some y.pc → Alike p Named e r'.core y → zc_turns cuts k z ≡ Ok (record z { core = y }) → Comes p Named e cuts k z r'
arrives {e = e} {r = r} {z = z} from k q r' y came at al runs = record {
  after = record z { core = y };
  runs = runs;
  together = inl record { alike = al; input = came.input ∙ from.sound.input; place = ap e.address came.place ∙ at };
  events = events_kept e.address r.events r'.events z.events from.same came.events;
}

-- ---- an instruction that is no push or pop

module _ {p : Program} {e : Image} (room : Room p e) where
  -- an instruction without accesses, behind the interrupts before its commit: no register differs
  pub behind_one :
      (short : Short) (cuts : List Interrupt) → ((sp : ℕ) → accesses_of short sp ≡ []) → All IsInterrupt cuts → (z : ZcState) → IsReady room z.core → (at : OneAt e z.core.pc short)
      → Behind room [] short at.size cuts z
  behind_one short cuts none are z is at =
      behind room [] (λ d m. absurd m) short cuts are z is at (without_accesses (SpoiledSlots p.map.stack_low (free_end p.map z.core) [] z.core) short at.size none)

-- the turn, if the effect commits
pub turn_commits :
    (cuts : List Interrupt) (z : ZcState) (now y : ZcCore) (short : Short) (size : ℕ)
    → zc_turn cuts z ≡ committed (effect_step (short_effect short size now) now) (record z { core = now }) → short_effect short size now ≡ Commits y
    → zc_turn cuts z ≡ Ok (record z { core = y })
turn_commits cuts z now y short size turn does = turn ∙ ap (λ x. committed (effect_step x now) (record z { core = now })) does

-- ---- the commits of a frame

pub one_commit : (list frame : ℕ) → rest_of list frame ≡ 0 → frame_commits list frame ≡ 1
one_commit list frame none = cond-true (eqb (rest_of list frame) 0) 1 2 (eq-eqb (rest_of list frame) 0 none)

pub two_commits : (list frame : ℕ) → 0 < rest_of list frame → frame_commits list frame ≡ 2
two_commits list frame some = cond-false (eqb (rest_of list frame) 0) 1 2 (ne_eqb (rest_of list frame) 0 (λ none. absurd (omega (arith, none, some))))
