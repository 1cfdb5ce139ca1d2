-- A step that a device answers: the answer leaves states that are sound again, with one event more.
use Rattle.std.proofs.Common.{◌≡◌, ℕ, ◌+◌, ◌^◌, ◌<◌, ◌≤◌, List, [], ◌∷◌, ◌++◌, length, map, drop, Some, Ok, sym, ap, ◌∙◌, subst, inl, arith}
use Rattle.std.specs.Prelude.{All}
use Rattle.std.proofs.lemmas.List.Elements.{All-head, All-tail}
use Rattle.zc_base.specs.declared.place.Place.{Place}
use Rattle.interrupt_plan.specs.Plan.{AreInterrupts, Interrupt}
use Rattle.rv_decode.specs.Devices.{AreOutside, number_from}
use Rattle.rv_decode.specs.State.{ZcCore, ZcState}
use Rattle.sym_machine.specs.Change.{Change, Goes}
use Rattle.sym_machine.specs.Events.{SymEvent, event_in}
use Rattle.sym_machine.specs.Program.{Program}
use Rattle.sym_machine.specs.State.{PlainState}
use Rattle.sym_machine.specs.Step.{after_change, is_set}
use Rattle.sym_machine.proofs.RunLaws.{Answered}
use Rattle.sym_machine.proofs.StepLaws.{Ended}
use Rattle.zc_machine.specs.Run.{zc_turn}
use Rattle.zc_link.specs.Image.{Image}
use Rattle.zc_link.specs.IsSimulation.{Comes}
use Rattle.zc_link.specs.Sound.{Ready, Sound}
use Rattle.zc_link.proofs.Commits.{zc_turns-one}
use Rattle.zc_link.proofs.Ends.{ends_alike}
use Rattle.zc_link.proofs.EventLaws.{events_added}

-- what a step comes to
pub goes_same : (a b : Change) → Goes a ≡ Goes b → a ≡ b
goes_same a b h = cc

-- ---- numbers that are answered

abbrev IsByte : ℕ → Type 0
IsByte b = b < 256

pub number_below : (bytes : List ℕ) → All (λ b. b < 256) bytes → (length bytes ≤ 1 → number_from bytes < 256) × (length bytes ≤ 2 → number_from bytes < 65536) × (length bytes ≤ 4 → number_from bytes < 2 ^ 32)
number_below [] are = (λ _. omega arith, λ _. omega arith, λ _. omega arith)
number_below (a ∷ []) are = let x = All-head IsByte a [] are in (λ _. omega (arith, x), λ _. omega (arith, x), λ _. omega (arith, x))
number_below (a ∷ b ∷ []) are =
    let x = All-head IsByte a (b ∷ []) are in
    let y = All-head IsByte b [] (All-tail IsByte a (b ∷ []) are) in
    (λ few. absurd (omega (arith, few)), λ _. omega (arith, x, y), λ _. omega (arith, x, y))
number_below (a ∷ b ∷ c ∷ []) are =
    let x = All-head IsByte a (b ∷ c ∷ []) are in
    let rest = All-tail IsByte a (b ∷ c ∷ []) are in
    let y = All-head IsByte b (c ∷ []) rest in
    let z = All-head IsByte c [] (All-tail IsByte b (c ∷ []) rest) in
    (λ few. absurd (omega (arith, few)), λ few. absurd (omega (arith, few)), λ _. omega (arith, x, y, z))
number_below (a ∷ b ∷ c ∷ d ∷ []) are =
    let x = All-head IsByte a (b ∷ c ∷ d ∷ []) are in
    let rest = All-tail IsByte a (b ∷ c ∷ d ∷ []) are in
    let y = All-head IsByte b (c ∷ d ∷ []) rest in
    let last = All-tail IsByte b (c ∷ d ∷ []) rest in
    let z = All-head IsByte c (d ∷ []) last in
    let w = All-head IsByte d [] (All-tail IsByte c (d ∷ []) last) in
    (λ few. absurd (omega (arith, few)), λ few. absurd (omega (arith, few)), λ _. omega (arith, x, y, z, w))
number_below (a ∷ b ∷ c ∷ d ∷ x ∷ rest) are = (λ few. absurd (omega (arith, few)), λ few. absurd (omega (arith, few)), λ few. absurd (omega (arith, few)))

-- ---- the step of both

-- a sound pair, a step from it that a device answers, and interrupts before each commit
pub record FromAnswered (p : Program) (Named : Place → Type 0) (e : Image) (r r' : PlainState) (cuts : ℕ → List Interrupt) (z : ZcState) : Type 0 where
  pub sound : Sound p Named e r.core z
  pub same : z.events ≡ map (event_in e.address) r.events
  pub devices : z.devices ≡ r.devices
  pub outside : AreOutside p.map r.devices
  pub are : AreInterrupts cuts
  pub step : Answered p r r'

module _
    {p : Program} {Named : Place → Type 0} {e : Image} {r r' : PlainState} {cuts : ℕ → List Interrupt} {z : ZcState}
    (from : FromAnswered p Named e r r' cuts z) where
  -- the answer leaves states that are ready, with an event
  pub answer_comes :
      (c : Change) (event : SymEvent) (core : ZcCore) (left : List ℕ) → c ≡ from.step.change → c.place ≡ p.next r.core.place → c.events ≡ event ∷ []
      → zc_turn (cuts 0) z ≡ Ok (record z { core = core; input = left; events = z.events ++ event_in e.address event ∷ [] })
      → e.address (p.next r.core.place) ≡ Some core.pc → drop c.taken r.core.input ≡ left → Ready p Named e (after_change c r.core) core → Comes p Named e cuts 1 z r'
  answer_comes c event core left made place events turn listed input ready =
      let end = subst (λ x. Ended p.map (is_set p.map r.core) (after_change x r.core) r'.core) (sym made) from.step.end in
      let z1 : ZcState = record z { core = core; input = left; events = z.events ++ event_in e.address event ∷ [] } in
      record {
        after = z1;
        runs = zc_turns-one cuts z z1 turn;
        together = inl record {
          alike = ends_alike end ready;
          input = ap (λ s. s.input) end.state ∙ input;
          place = ap (λ s. e.address s.place) end.state ∙ ap e.address place ∙ listed;
        };
        events =
            events_added e.address r.events r'.events z.events from.same (event ∷ [])
            (from.step.events ∙ ap (λ (x : Change). r.events ++ x.events) (sym made) ∙ ap (λ l. r.events ++ l) events);
      }
