-- Turns of the machine, one after another.
use Rattle.std.proofs.Common.{◌≡◌, ℕ, zero, suc, ◌+◌, List, Option, Some, None, Result, Ok, Err, Bool, true, false, cond, refl, sym, ap, ap₂, ◌∙◌, arith}
use Rattle.std.specs.Option.{option_map_or}
use Rattle.interrupt_plan.specs.Plan.{Interrupt}
use Rattle.rv_decode.specs.Run.{◌>>=◌}
use Rattle.rv_decode.specs.State.{ZcCore, ZcState}
use Rattle.rv_decode.specs.declared.device_access.DeviceAccess.TheVariants as access
use Rattle.rv_decode.proofs.RunLaws.{bind_assoc, bind_ok}
use Rattle.zc_machine.specs.declared.reason.Reason.{Reason}
use Rattle.zc_machine.specs.Interrupt.{all_interrupted}
use Rattle.zc_machine.specs.declared.answer.EnvCall.TheVariants as call
use Rattle.zc_machine.specs.declared.reason.Reason.TheVariants.{BadAccess, Illegal}
use Rattle.zc_machine.specs.Run.{committed, device_answers, turn, turns, zc_turn, zc_turns}
use Rattle.zc_machine.specs.Step.{ZcStep, Committed, Wants, Ended, Stopped, Asks, zc_step}

-- ---- whatever happens between commits

-- before the exit a turn is the step that follows what happens
pub turn-running :
    (happens : ZcCore → ZcCore) (r : ZcState) → r.core.exit ≡ None → turn happens r ≡ committed (zc_step (happens r.core)) (record r { core = happens r.core })
unfolding turn
turn-running happens r running =
    ap (λ x. option_map_or (λ _. Ok r) x (committed (zc_step (happens r.core)) (record r { core = happens r.core }))) running

-- m turns and then n are m + n
pub turns-add :
    (happens : ℕ → ZcCore → ZcCore) (m n : ℕ) (r : ZcState) → turns happens (m + n) r ≡ (turns happens m r >>= turns (λ k. happens (m + k)) n)
turns-add happens zero n r =
    let same : (k : ℕ) → k ≡ 0 + k = λ k. omega arith in
    let all : 0 + n ≡ n = omega arith in
    ap₂ (λ h k. turns h k r) (λ i k. happens (same k i)) all
turns-add happens (suc m) n r =
    let rest : ℕ → ZcCore → ZcCore = λ k. happens (suc k) in
    let same : (k : ℕ) → suc (m + k) ≡ suc m + k = λ k. omega arith in
    let all : suc m + n ≡ suc (m + n) = omega arith in
    ap (λ k. turns happens k r) all
    ∙ bind_assoc (turn (happens 0) r) (turns rest m) (turns (λ k. happens (suc m + k)) n) (turns rest (m + n))
    (λ y. turns-add rest m n y ∙ ap (λ h. turns rest m y >>= turns h n) (λ i k. happens (same k i)))

-- one turn more
turns-next :
    (happens : ℕ → ZcCore → ZcCore) (m : ℕ) (r y : ZcState) (next : Result ZcState Reason) → turns happens m r ≡ Ok y → turn (happens m) y ≡ next
    → turns happens (m + 1) r ≡ (next >>= turns (λ k. happens (m + suc k)) 0)
turns-next happens m r y next so_far made =
    let same : m + 0 ≡ m = omega arith in
    turns-add happens m 1 r
    ∙ ap (λ q. q >>= turns (λ k. happens (m + k)) 1) so_far
    ∙ ap (λ q. q >>= turns (λ k. happens (m + suc k)) 0) (ap (λ k. turn (happens k) y) same ∙ made)

pub turns-more :
    (happens : ℕ → ZcCore → ZcCore) (m : ℕ) (r y z : ZcState) → turns happens m r ≡ Ok y → turn (happens m) y ≡ Ok z → turns happens (m + 1) r ≡ Ok z
turns-more happens m r y z so_far made = turns-next happens m r y (Ok z) so_far made

pub turns-stop :
    (happens : ℕ → ZcCore → ZcCore) (m : ℕ) (r y : ZcState) (stop : Reason) → turns happens m r ≡ Ok y → turn (happens m) y ≡ Err stop
    → turns happens (m + 1) r ≡ Err stop
turns-stop happens m r y stop so_far made = turns-next happens m r y (Err stop) so_far made

-- ---- devices

-- a turn leaves them where they are
turn_devices : (happens : ZcCore → ZcCore) (r s : ZcState) → turn happens r ≡ Ok s → s.devices ≡ r.devices
unfolding turn
turn_devices happens r s h = by_exit r.core.exit h
  where
    here : ZcState
    here = record r { core = happens r.core }

    same : (t : ZcState) → t.devices ≡ r.devices → ◌≡◌ {A = Result ZcState Reason} (Ok t) (Ok s) → s.devices ≡ r.devices
    same t kept g = let is : t ≡ s = cc in ap (λ x. x.devices) (sym is) ∙ kept

    answered : (b : Bool) (why : Reason) (t : ZcState) → t.devices ≡ r.devices → cond b (Ok t) (Err why) ≡ Ok s → s.devices ≡ r.devices
    answered true why t kept g = same t kept g
    answered false why t kept g = absurd cc

    by_step : (t : ZcStep) → committed t here ≡ Ok s → s.devices ≡ r.devices
    by_step (Committed z) g = same (record r { core = z }) refl g
    by_step (Wants (call.Exit status)) g = same _ refl g
    by_step (Wants (call.Read at len)) g = same _ refl g
    by_step (Wants (call.Write fd at len)) g = same _ refl g
    by_step (Ended status) g = same here refl g
    by_step (Stopped reason) g = absurd cc
    by_step (Asks (access.Load op a rd size)) g = answered _ BadAccess (device_answers (access.Load op a rd size) here) refl g
    by_step (Asks (access.Store op a word size)) g = answered _ BadAccess (device_answers (access.Store op a word size) here) refl g
    by_step (Asks (access.System word operand)) g = answered _ Illegal (device_answers (access.System word operand) here) refl g

    by_exit : (o : Option ℕ) → option_map_or (λ _. Ok r) o (committed (zc_step (happens r.core)) here) ≡ Ok s → s.devices ≡ r.devices
    by_exit None g = by_step (zc_step (happens r.core)) g
    by_exit (Some status) g = same r refl g

turns_devices : (happens : ℕ → ZcCore → ZcCore) (m : ℕ) (r s : ZcState) → turns happens m r ≡ Ok s → s.devices ≡ r.devices
turns_devices happens zero r s h = let is : r ≡ s = cc in ap (λ x. x.devices) (sym is)
turns_devices happens (suc m) r s h =
    let first = bind_ok (turn (happens 0) r) (turns (λ k. happens (suc k)) m) s h in
    turns_devices (λ k. happens (suc k)) m first.0 s first.2 ∙ turn_devices (happens 0) r first.0 first.1

-- ---- the same of interrupts

pub zc_turns_devices : (cuts : ℕ → List Interrupt) (m : ℕ) (r s : ZcState) → zc_turns cuts m r ≡ Ok s → s.devices ≡ r.devices
zc_turns_devices cuts m r s h = turns_devices (λ k. all_interrupted (cuts k)) m r s h

pub zc_turn-running : (cuts : List Interrupt) (r : ZcState) → r.core.exit ≡ None → zc_turn cuts r ≡ committed (zc_step (all_interrupted cuts r.core)) (record r { core = all_interrupted cuts r.core })
zc_turn-running cuts r running = turn-running (all_interrupted cuts) r running

pub zc_turns-add : (cuts : ℕ → List Interrupt) (m n : ℕ) (r : ZcState) → zc_turns cuts (m + n) r ≡ (zc_turns cuts m r >>= zc_turns (λ k. cuts (m + k)) n)
zc_turns-add cuts m n r = turns-add (λ k. all_interrupted (cuts k)) m n r

pub zc_turns-more : (cuts : ℕ → List Interrupt) (m : ℕ) (r y z : ZcState) → zc_turns cuts m r ≡ Ok y → zc_turn (cuts m) y ≡ Ok z → zc_turns cuts (m + 1) r ≡ Ok z
zc_turns-more cuts m r y z so_far made = turns-more (λ k. all_interrupted (cuts k)) m r y z so_far made

pub zc_turns-stop : (cuts : ℕ → List Interrupt) (m : ℕ) (r y : ZcState) (stop : Reason) → zc_turns cuts m r ≡ Ok y → zc_turn (cuts m) y ≡ Err stop → zc_turns cuts (m + 1) r ≡ Err stop
zc_turns-stop cuts m r y stop so_far made = turns-stop (λ k. all_interrupted (cuts k)) m r y stop so_far made
