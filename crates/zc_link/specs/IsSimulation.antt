-- A forward simulation: from each sound pair, a number of steps of the program is matched by a number of commits of the machine,
-- whatever interrupts come before them. So the image keeps step with the program.
use Rattle.std.specs.Prelude.{◌≡◌, ℕ, ◌*◌, ◌<◌, ◌≤◌, ◌⊎◌, List, [], map, All, IsSome, None, Ok}
use Rattle.zc_base.specs.declared.place.Place.{Place}
use Rattle.interrupt_plan.specs.Plan.{AreInterrupts, Interrupt}
use Rattle.rv_decode.specs.Devices.{AreOutside}
use Rattle.rv_decode.specs.Run.{iterate}
use Rattle.rv_decode.specs.State.{ZcCore, ZcState}
use Rattle.sym_machine.specs.Events.{event_in}
use Rattle.sym_machine.specs.Program.{Program}
use Rattle.sym_machine.specs.Run.{plain_turn}
use Rattle.sym_machine.specs.State.{PlainCore, PlainState, start_plain}
use Rattle.zc_machine.specs.Run.{first_state_with, zc_turns}
use Rattle.zc_link.specs.DataApart.{CellsLie, CommitsApart, CutsApart, FromLoad, FromPair}
use Rattle.zc_link.specs.Image.{Image, IsFirstState}
use Rattle.zc_link.specs.Pace.{Pace, lead_of}
use Rattle.zc_link.specs.Setting.{Setting}
use Rattle.zc_link.specs.Sound.{Sound, Together}

-- ---- where steps and commits lead

-- k commits from z, with these interrupts before them, end in a state that is together with r, after the same events
pub record Comes (p : Program) (Named : Place → Type 0) (e : Image) (cuts : ℕ → List Interrupt) (k : ℕ) (z : ZcState) (r : PlainState) : Type 0 where
  pub after : ZcState
  pub runs : zc_turns cuts k z ≡ Ok after
  pub together : Together p Named e r.core after
  pub events : after.events ≡ map (event_in e.address) r.events

-- some steps of the program, but fewer than its span, come to a place that isn't listed, without an event
pub record IsInside (e : Image) (r r' : PlainState) : Type 0 where
  pub events : r'.events ≡ r.events
  pub running : r'.core.exit ≡ None
  pub unlisted : e.address r'.core.place ≡ None

-- a stretch is at most 16 steps; and it takes a commit, or else it is one ALIGN without padding, of which there are
-- `aligns`, and behind it fewer lie ahead
pub record IsPaced (p : Program) (pace : Pace) (aligns : ℕ) : Type 0 where
  pub short : (q : Place) → pace.span q ≤ 16
  pub ahead : Place → ℕ
  pub few : (q : Place) → ahead q ≤ aligns
  pub moves :
      (r r' : PlainState) → r.core.exit ≡ None → iterate (plain_turn p) (pace.span r.core.place) r ≡ Ok r'
      → (0 < pace.weight r.core) ⊎ ((pace.span r.core.place ≡ 1) × (ahead r'.core.place < ahead r.core.place))

-- ---- the whole

pub record IsSimulation (p : Program) (Named : Place → Type 0) (e : Image) (pace : Pace) : Type 0 where
  pub some : (q : Place) → 0 < pace.span q
  pub few : (s : PlainCore) → pace.weight s ≤ 64 * pace.span s.place
  -- from every sound pair, the steps of the place's span are matched by the commits of the state's weight
  pub step :
      (r r' : PlainState) → iterate (plain_turn p) (pace.span r.core.place) r ≡ Ok r'
      → (cuts : ℕ → List Interrupt) → AreInterrupts cuts → (z : ZcState) → Sound p Named e r.core z
      → z.events ≡ map (event_in e.address) r.events
      → z.devices ≡ r.devices → AreOutside p.map r.devices → Comes p Named e cuts (pace.weight r.core) z r'
  -- within the span the program makes no events and doesn't exit, and its place isn't listed
  pub inside :
      (k : ℕ) (r r' : PlainState) → 0 < k → k < pace.span r.core.place → IsSome (e.address r.core.place) → r.core.exit ≡ None
      → iterate (plain_turn p) k r ≡ Ok r' → IsInside e r r'
  -- the machine comes to a state that is together with the program's start, by the stub's commits if there is a stub
  pub start :
      (w : Setting) (first : ZcCore) → IsFirstState w.sp_set e first → All (λ b. b < 256) w.input
      → (cuts : ℕ → List Interrupt) → AreInterrupts cuts
      → Comes p Named e cuts (lead_of p e) (first_state_with first w.devices w.input)
      (record { core = start_plain w.sp_set p w.input; events = []; devices = w.devices })
  -- each address of data is one of the image's data alone, and below the stack
  pub cells : CellsLie p e
  -- between sound pairs an interrupt does the same whatever data hold; so does each commit, if there are several steps or several
  -- commits, and then only the last may be the exit
  pub cuts_apart : (r : PlainState) → CutsApart p (FromPair p Named e pace r)
  pub commits_apart :
      (r : PlainState) → (1 < pace.span r.core.place) ⊎ (1 < pace.weight r.core) → CommitsApart p (FromPair p Named e pace r)
  -- before the program's start interrupts and commits do the same whatever data hold
  pub lead_cuts_apart : CutsApart p (FromLoad p e)
  pub lead_commits_apart : CommitsApart p (FromLoad p e)
