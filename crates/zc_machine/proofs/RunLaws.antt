-- A run by its turns: how far it has come, and where each kind of step leads.
use Rattle.std.proofs.Common.{◌≡◌, ℕ, zero, suc, ◌+◌, ◌<◌, List, [], ◌∷◌, ◌++◌, true, false, eqb, take, drop, cond, Some, None, Ok, Err, refl, sym, ap, ap₂, subst, ◌≤◌, ◌∙◌, arith}
use Rattle.std.proofs.lemmas.Bool.{cond-false, cond-true, eq-eqb, eqb-true}
use Rattle.rv_decode.specs.State as event
use Rattle.rv_decode.specs.State.{Event, ZcCore, ZcState}
use Rattle.rv_decode.specs.EventBytes.{shown_bytes, written_to}
use Rattle.rv_decode.proofs.EventLaws.{written_to-more}
use Rattle.zc_outside.specs.Course.{EndsEarly, WrotePart, WroteTo}
use Rattle.zc_outside.specs.Desk.{Desk, OnlyWrites, WriteCause, Wrote}
use Rattle.zc_outside.specs.declared.console.ConsoleFault.{ConsoleFault}
use Rattle.zc_outside.proofs.Desk.{OnlyWrites-refl, OnlyWrites-trans, WriteCause-after, Wrote-none}
use Rattle.zc_machine.specs.declared.answer.EnvCall.{EnvCall}
use Rattle.zc_machine.specs.declared.answer.EnvCall.TheVariants.{Exit, Read, Write}
use Rattle.zc_machine.specs.declared.answer.Step.{Step}
use Rattle.zc_machine.specs.declared.answer.Step.TheVariants as answer
use Rattle.zc_machine.specs.declared.reason.Reason.{Reason}
use Rattle.zc_machine.specs.declared.run.RunEnd.TheVariants as end
use Rattle.zc_machine.specs.Advance.{AdvancesTo, CommitsTo}
use Rattle.zc_machine.specs.Answer.{answer_of, core_after, exited, has_read, has_written}
use Rattle.zc_machine.specs.Buffer.{bytes_at}
use Rattle.rv_decode.specs.declared.device_access.DeviceAccess.{DeviceAccess}
use Rattle.rv_decode.specs.declared.device_access.DeviceAccess.TheVariants as access
use Rattle.devices.specs.Environment.{Environment}
use Rattle.rv_decode.specs.Devices.{Device, sent_bytes}
use Rattle.rv_decode.specs.Effect.{load_width}
use Rattle.rv_decode.specs.System.{system_width}
use Rattle.zc_machine.specs.Run.{committed, device_answers, first_state_with, is_answered, machine_after_with, turn, unanswered}
use Rattle.zc_machine.specs.Shown.{shown_by}
use Rattle.zc_machine.specs.RunEnd.{Ran, course_of}
use Rattle.zc_machine.specs.Step.{ZcStep, Committed, Wants, Ended, Stopped, Asks, zc_step}
use Rattle.zc_machine.proofs.OutputLaws.{Wrote-event}
use Rattle.zc_machine.proofs.RegionLaws.{same_tests}
use Rattle.zc_machine.proofs.StepLaws.{Shows, step_shows}
use Rattle.zc_machine.proofs.TurnLaws.{turn-running, turns-more, turns-stop}

-- ---- what a step's answer says of the step

pub wants_step : (s : ZcStep) (c : EnvCall) → answer.Wants c ≡ answer_of s → s ≡ Wants c
wants_step (Committed z) c e = absurd cc
wants_step (Wants c') c e = cc
wants_step (Ended status) c e = absurd cc
wants_step (Stopped reason) c e = absurd cc
wants_step (Asks x) c e = absurd cc

pub asks_step : (s : ZcStep) (x : DeviceAccess) → answer.Asks x ≡ answer_of s → s ≡ Asks x
asks_step (Committed z) x e = absurd cc
asks_step (Wants c) x e = absurd cc
asks_step (Ended status) x e = absurd cc
asks_step (Stopped reason) x e = absurd cc
asks_step (Asks x') x e = cc

-- this step changes nothing
pub record Unmoved (z z2 : ZcCore) (s : ZcStep) : Type 0 where
  pub is : zc_step z ≡ s
  pub stays : z2 ≡ z

-- a step that wants a call wants it again
pub wanted : (z z2 : ZcCore) (c : EnvCall) → answer.Wants c ≡ answer_of (zc_step z) → z2 ≡ core_after (zc_step z) z → Unmoved z z2 (Wants c)
wanted z z2 c answers left =
    let wants = wants_step (zc_step z) c answers in
    record { is = wants; stays = left ∙ ap (λ s. core_after s z) wants }

-- and one that asks a device asks it again
pub asking : (z z2 : ZcCore) (x : DeviceAccess) → answer.Asks x ≡ answer_of (zc_step z) → z2 ≡ core_after (zc_step z) z → Unmoved z z2 (Asks x)
asking z z2 x answers left =
    let asks = asks_step (zc_step z) x answers in
    record { is = asks; stays = left ∙ ap (λ s. core_after s z) asks }

-- a step that stops changes nothing, and with these devices the run stops
pub record Stops (devices : List Device) (s : ZcStep) (reason : Reason) : Type 0 where
  pub made : (r : ZcState) → r.devices ≡ devices → committed s r ≡ Err reason
  pub stays : (z : ZcCore) → core_after s z ≡ z

pub stopped_step : (devices : List Device) (s : ZcStep) (reason : Reason) → answer.Stopped reason ≡ answer_of s → Stops devices s reason
stopped_step devices (Committed z) reason e = absurd cc
stopped_step devices (Wants c) reason e = absurd cc
stopped_step devices (Ended status) reason e = absurd cc
stopped_step devices (Stopped reason') reason e = record { made = λ r same. cc e; stays = λ z. refl }
stopped_step devices (Asks x) reason e = absurd cc

-- what asks a device stops if there is none
pub unanswered_step : (devices : List Device) (s : ZcStep) (x : DeviceAccess) → answer.Asks x ≡ answer_of s → is_answered devices x ≡ false → Stops devices s (unanswered x)
unanswered_step devices s x e none =
    let asks = asks_step s x e in
    record {
      made = λ r same. ap (λ t. committed t r) asks ∙ cond-false (is_answered r.devices x) (Ok (device_answers x r)) (Err (unanswered x)) (ap (λ ds. is_answered ds x) same ∙ none);
      stays = λ z. ap (λ t. core_after t z) asks;
    }

-- only the exit ends, so a program that runs doesn't
ended_shows : (z : ZcCore) (s : ZcStep) (status : ℕ) → Shows z s → answer.Ended status ≡ answer_of s → z.exit ≡ Some status
ended_shows z (Committed z') status h e = absurd cc
ended_shows z (Wants c) status h e = absurd cc
ended_shows z (Ended status') status h e = cc
ended_shows z (Stopped reason) status h e = absurd cc
ended_shows z (Asks x) status h e = absurd cc

-- a commit's state, and that it counts
pub record Commits (z z' : ZcCore) (s : ZcStep) : Type 0 where
  pub made : (r : ZcState) → committed s r ≡ Ok (record r { core = z' })
  pub counts : z'.commits ≡ z.commits + 1
  pub exit : z'.exit ≡ z.exit

committed_step : (z : ZcCore) (s : ZcStep) → Shows z s → answer.Committed ≡ answer_of s → Commits z (core_after s z) s
committed_step z (Committed z') h e = record { made = λ r. refl; counts = h.0; exit = h.1 }
committed_step z (Wants c) h e = absurd cc
committed_step z (Ended status) h e = absurd cc
committed_step z (Stopped reason) h e = absurd cc
committed_step z (Asks x) h e = absurd cc

-- a step that commits is one commit more
pub record One (z z2 : ZcCore) : Type 0 where
  pub is : zc_step z ≡ Committed z2
  pub counts : z2.commits ≡ z.commits + 1

pub committed_one : (z z2 : ZcCore) → answer.Committed ≡ answer_of (zc_step z) → z2 ≡ core_after (zc_step z) z → One z z2
committed_one z z2 answers left = by (zc_step z) refl (step_shows z)
  where
    by : (s : ZcStep) → zc_step z ≡ s → Shows z s → One z z2
    by (Committed z') is shown =
        let same : z2 ≡ z' = left ∙ ap (λ s. core_after s z) is in
        record { is = is ∙ ap Committed (sym same); counts = ap (λ y. y.commits) same ∙ shown.0 }
    by (Wants c) is shown = let wrong = answers ∙ ap answer_of is in absurd cc
    by (Ended status) is shown = let wrong = answers ∙ ap answer_of is in absurd cc
    by (Stopped reason) is shown = let wrong = answers ∙ ap answer_of is in absurd cc
    by (Asks x) is shown = let wrong = answers ∙ ap answer_of is in absurd cc

-- ---- standard output's number

one_first : (n : ℕ) → eqb n 1 ≡ eqb 1 n
one_first n = same_tests (eqb n 1) (eqb 1 n) (λ h. eq-eqb 1 n (sym (eqb-true n 1 h))) (λ h. eq-eqb n 1 (sym (eqb-true 1 n h)))

-- ---- how far a run has come

machine_after-none : (first : ZcCore) (e : Environment) (happens : ℕ → ZcCore → ZcCore) → machine_after_with first e.devices.all e.input happens 0 ≡ Ok (first_state_with first e.devices.all e.input)
unfolding machine_after_with
machine_after-none first e happens = refl

-- the run has come to this machine, which hasn't exited, with this much of its input left; what it has written stands
pub record Came (first : ZcCore) (e : Environment) (happens : ℕ → ZcCore → ZcCore) (z : ZcCore) (left : List ℕ) (before now : Desk) : Type 0 where
  pub events : List Event
  pub so_far : machine_after_with first e.devices.all e.input happens z.commits ≡ Ok (record { core = z; input = left; events = events; devices = e.devices.all })
  pub running : z.exit ≡ None
  pub wrote : Wrote (written_to e.devices.outputs 1 events) (written_to e.devices.outputs 2 events) before now
  pub only : OnlyWrites before now

-- a run begins at its first machine
pub Came-start :
    (first : ZcCore) (e : Environment) (happens : ℕ → ZcCore → ZcCore) (desk : Desk) → first.exit ≡ None → first.commits ≡ 0 → Came first e happens first e.input desk desk
Came-start first e happens desk running start = record {
  events = [];
  so_far = ap (machine_after_with first e.devices.all e.input happens) start ∙ machine_after-none first e happens;
  running = running;
  wrote = Wrote-none desk;
  only = OnlyWrites-refl desk;
}

-- the run came to this machine by one commit more
pub record Next (first : ZcCore) (e : Environment) (happens : ℕ → ZcCore → ZcCore) (z z2 : ZcCore) (left : List ℕ) (before now : Desk) : Type 0 where
  pub counts : z2.commits ≡ z.commits + 1
  pub came : Came first e happens z2 left before now

-- what happens before the next commit leads to this machine, and is no commit itself
pub record Happened (happens : ℕ → ZcCore → ZcCore) (z z' : ZcCore) : Type 0 where
  pub made : z' ≡ happens z.commits z
  pub commits : z'.commits ≡ z.commits
  pub exit : z'.exit ≡ z.exit

-- ---- a turn from there, where what happens leads to z'

module _
    {first : ZcCore} {e : Environment} {happens : ℕ → ZcCore → ZcCore} {z : ZcCore} {left : List ℕ} {before now : Desk} (came : Came first e happens z left before now)
    {z' : ZcCore} (had : Happened happens z z') where
  abbrev here : ZcState
  here = record { core = z; input = left; events = came.events; devices = e.devices.all }

  abbrev there : ZcState
  there = record { core = z'; input = left; events = came.events; devices = e.devices.all }

  -- the turn is the step that follows what happens
  turn_made : turn (happens z.commits) here ≡ committed (zc_step z') there
  turn_made =
      turn-running (happens z.commits) here came.running
      ∙ sym (ap (λ y. committed (zc_step y) (record { core = y; input = left; events = came.events; devices = e.devices.all })) had.made)

  after_more : (r : ZcState) → committed (zc_step z') there ≡ Ok r → machine_after_with first e.devices.all e.input happens (z.commits + 1) ≡ Ok r
  unfolding machine_after_with
  after_more r made = turns-more happens z.commits (first_state_with first e.devices.all e.input) here r came.so_far (turn_made ∙ made)

  after_stop : (reason : Reason) → committed (zc_step z') there ≡ Err reason → machine_after_with first e.devices.all e.input happens (z.commits + 1) ≡ Err reason
  unfolding machine_after_with
  after_stop reason made = turns-stop happens z.commits (first_state_with first e.devices.all e.input) here reason came.so_far (turn_made ∙ made)

  exit_kept : z'.exit ≡ None
  exit_kept = had.exit ∙ came.running

  -- a commit that leads to a state is one more
  goes_on :
      (r : ZcState) (desk : Desk) → r.devices ≡ e.devices.all → committed (zc_step z') there ≡ Ok r → r.core.commits ≡ z'.commits + 1 → r.core.exit ≡ z'.exit
      → Wrote (written_to e.devices.outputs 1 r.events) (written_to e.devices.outputs 2 r.events) before desk → OnlyWrites now desk → Next first e happens z r.core r.input before desk
  goes_on r desk none turn counts exit wrote only =
      let more = counts ∙ ap (λ k. k + 1) had.commits in
      record {
        counts = more;
        came = record {
          events = r.events;
          so_far = ap (machine_after_with first e.devices.all e.input happens) more ∙ after_more r turn ∙ ap (λ ds. Ok (record r { devices = ds })) none;
          running = exit ∙ exit_kept;
          wrote = wrote;
          only = OnlyWrites-trans came.only only;
        };
      }

  -- an access that a device answers
  device_made : (x : DeviceAccess) → zc_step z' ≡ Asks x → is_answered e.devices.all x ≡ true → committed (zc_step z') there ≡ Ok (device_answers x there)
  device_made x asks lies = ap (λ s. committed s there) asks ∙ cond-true (is_answered e.devices.all x) (Ok (device_answers x there)) (Err (unanswered x)) lies

  module _ (z2 : ZcCore) where
    -- an instruction that commits
    pub committed_next : answer.Committed ≡ answer_of (zc_step z') → z2 ≡ core_after (zc_step z') z' → Next first e happens z z2 left before now
    committed_next answers is =
        let q = committed_step z' (zc_step z') (step_shows z') answers in
        goes_on (record { core = z2; input = left; events = came.events; devices = e.devices.all }) now refl
        (q.made there ∙ sym (ap (λ y. Ok (record { core = y; input = left; events = came.events; devices = e.devices.all })) is))
        (ap (λ y. y.commits) is ∙ q.counts) (ap (λ y. y.exit) is ∙ q.exit) came.wrote (OnlyWrites-refl now)

    -- a read
    pub read_next :
        (at len : ℕ) (front rest : List ℕ) → zc_step z' ≡ Wants (Read at len) → front ≡ take len left → rest ≡ drop len left → z2 ≡ has_read front z'
        → Next first e happens z z2 rest before now
    read_next at len front rest wants taken others is =
        let events : List Event = came.events ++ event.Read (take len left) ∷ [] in
        goes_on (record { core = z2; input = rest; events = events; devices = e.devices.all }) now refl
        (ap (λ s. committed s there) wants
        ∙ sym (ap₂ (λ y left2. Ok (record { core = y; input = left2; events = events; devices = e.devices.all })) (is ∙ ap (λ bytes. has_read bytes z') taken) others))
        (ap (λ y. y.commits) is) (ap (λ y. y.exit) is)
        (Wrote-event e.devices.outputs came.events (event.Read (take len left)) before now now came.wrote (Wrote-none now)) (OnlyWrites-refl now)

    -- a write whose bytes stand
    pub write_next :
        (fd at len : ℕ) (desk : Desk) → zc_step z' ≡ Wants (Write fd at len) → z2 ≡ has_written z' → WroteTo fd (bytes_at z' at len) now desk → OnlyWrites now desk
        → Next first e happens z z2 left before desk
    write_next fd at len desk wants is wrote only =
        let events : List Event = came.events ++ event.Write fd (bytes_at z' at len) ∷ [] in
        goes_on (record { core = z2; input = left; events = events; devices = e.devices.all }) desk refl
        (ap (λ s. committed s there) wants ∙ sym (ap (λ y. Ok (record { core = y; input = left; events = events; devices = e.devices.all })) is))
        (ap (λ y. y.commits) is) (ap (λ y. y.exit) is)
        (Wrote-event e.devices.outputs came.events (event.Write fd (bytes_at z' at len)) before now desk came.wrote wrote) only

    -- a device's answer, whose bytes for the output stand
    pub device_next :
        (x : DeviceAccess) (rest : List ℕ) (desk : Desk) → zc_step z' ≡ Asks x → is_answered e.devices.all x ≡ true → z2 ≡ (device_answers x there).core → rest ≡ (device_answers x there).input
        → WroteTo 1 (shown_by e.devices.outputs x) now desk → OnlyWrites now desk → Next first e happens z z2 rest before desk
    device_next x rest desk asks lies is others wrote only =
        subst (λ y. Next first e happens z y rest before desk) (sym is) (subst (λ xs. Next first e happens z (device_answers x there).core xs before desk) (sym others)
        (by_access x (device_made x asks lies) wrote))
      where
        by_access :
            (x : DeviceAccess) → committed (zc_step z') there ≡ Ok (device_answers x there) → WroteTo 1 (shown_by e.devices.outputs x) now desk
            → Next first e happens z (device_answers x there).core (device_answers x there).input before desk
        by_access (access.Load op a rd size) made wrote =
            let loaded : Event = event.Load a (load_width op) (take (load_width op) left) in
            goes_on (device_answers (access.Load op a rd size) there) desk refl made refl refl (Wrote-event e.devices.outputs came.events loaded before now desk came.wrote wrote) only
        by_access (access.Store op a word size) made wrote =
            let stored : Event = event.Store a (sent_bytes op word) in
            goes_on (device_answers (access.Store op a word size) there) desk refl made refl refl (Wrote-event e.devices.outputs came.events stored before now desk came.wrote wrote) only
        by_access (access.System word operand) made wrote =
            let made_one : Event = event.System word operand (take (system_width word) left) in
            goes_on (device_answers (access.System word operand) there) desk refl made refl refl (Wrote-event e.devices.outputs came.events made_one before now desk came.wrote wrote) only

  -- a program that runs doesn't end without its exit
  pub none_ended : (status : ℕ) → answer.Ended status ≡ answer_of (zc_step z') → ⊥
  none_ended status answers =
      let shown = ended_shows z' (zc_step z') status (step_shows z') answers in
      let none = exit_kept in
      cc

  module _ (z2 : ZcCore) (steps : ℕ) (within : z.commits < steps) where
    abbrev early : EndsEarly (course_of first e happens steps) before now
    early = record { count = z.commits; within = within; made = record { last = here; state = came.so_far; running = came.running; wrote = came.wrote } }

    -- the exit
    pub exit_ran : (status : ℕ) → zc_step z' ≡ Wants (Exit status) → z2 ≡ exited status z' → Ran happens (course_of first e happens steps) (end.Exit status) z2 before now
    exit_ran status wants is =
        let last : ZcState = record { core = exited status z'; input = left; events = came.events ++ event.Exit status ∷ []; devices = e.devices.all } in (
          record {
            count = z.commits + 1;
            within = omega arith;
            last = last;
            state = after_more last (ap (λ s. committed s there) wants);
            exit = refl;
            wrote = Wrote-event e.devices.outputs came.events (event.Exit status) before now now came.wrote (Wrote-none now);
          },
          is,
        )

    -- a stop
    pub stop_ran : (reason : Reason) → Stops e.devices.all (zc_step z') reason → z2 ≡ z' → Ran happens (course_of first e happens steps) (end.Stopped reason) z2 before now
    stop_ran reason stops is = (record { early = early; next = after_stop reason (stops.made there refl) }, is ∙ had.made)

    -- a write that the console refused
    pub refused_ran :
        (fd at len : ℕ) (fault : ConsoleFault) (desk : Desk) → zc_step z' ≡ Wants (Write fd at len) → WrotePart fd (bytes_at z' at len) now desk
        → WriteCause now desk fault → Ran happens (course_of first e happens steps) (end.Console fault) z2 before desk
    refused_ran fd at len fault desk wants part cause =
        let bytes = bytes_at z' at len in
        let next : ZcState = record { core = has_written z'; input = left; events = came.events ++ event.Write fd bytes ∷ []; devices = e.devices.all } in
        record {
          between = now;
          early = early;
          next = next;
          state = after_more next (ap (λ s. committed s there) wants);
          stream = fd;
          bytes = bytes;
          write = λ stream. written_to-more e.devices.outputs stream came.events (event.Write fd bytes);
          wrote = part;
          cause = WriteCause-after before now desk fault came.only cause;
        }

    -- a store at an address for output whose bytes the console refused
    pub device_refused_ran :
        (x : DeviceAccess) (fault : ConsoleFault) (desk : Desk) → zc_step z' ≡ Asks x → is_answered e.devices.all x ≡ true → WrotePart 1 (shown_by e.devices.outputs x) now desk
        → WriteCause now desk fault → Ran happens (course_of first e happens steps) (end.Console fault) z2 before desk
    device_refused_ran x fault desk asks lies part cause = by_access x (device_made x asks lies) part
      where
        by_access :
            (x : DeviceAccess) → committed (zc_step z') there ≡ Ok (device_answers x there) → WrotePart 1 (shown_by e.devices.outputs x) now desk
            → Ran happens (course_of first e happens steps) (end.Console fault) z2 before desk
        by_access (access.Load op a rd size) made part = absurd (let none = part.part in omega (arith, none))
        by_access (access.System word operand) made part = absurd (let none = part.part in omega (arith, none))
        by_access (access.Store op a word size) made part =
            let next : ZcState = device_answers (access.Store op a word size) there in
            let shown : List ℕ = shown_bytes e.devices.outputs a (sent_bytes op word) in
            record {
              between = now;
              early = early;
              next = next;
              state = after_more next made;
              stream = 1;
              bytes = shown;
              write = λ stream. written_to-more e.devices.outputs stream came.events (event.Store a (sent_bytes op word)) ∙ ap (λ b. written_to e.devices.outputs stream came.events ++ cond b shown []) (one_first stream);
              wrote = part;
              cause = WriteCause-after before now desk fault came.only cause;
            }

-- ---- commits alone

-- the run has come to a machine, from this commit on, and what happens before its next commit leads to z2
record Stands (first : ZcCore) (e : Environment) (happens : ℕ → ZcCore → ZcCore) (from : ℕ) (z2 : ZcCore) (left : List ℕ) (before now : Desk) : Type 0 where
  last : ZcCore
  came : Came first e happens last left before now
  had : Happened happens last z2
  on : from ≤ last.commits

-- commits between which nothing happens lead a run on
stands_on :
    {first : ZcCore} {e : Environment} {happens : ℕ → ZcCore → ZcCore} {z z' : ZcCore} {left : List ℕ} {before now : Desk} (until : ℕ) → Came first e happens z left before now
    → Happened happens z z' → ((k : ℕ) (y : ZcCore) → z.commits < k → k < until → happens k y ≡ y) → (n : ℕ) (last : ZcCore) → CommitsTo n z' last → last.commits < until
    → Stands first e happens z.commits last left before now
stands_on {happens = happens} {z = z} until came had quiet zero last made within = record {
  last = z;
  came = came;
  had = subst (Happened happens z) (sym made) had;
  on = omega arith;
}
stands_on {first = first} {e = e} {happens = happens} {z = z} {left = left} {before = before} {now = now} until came had quiet (suc n) last (y, some, step) within =
    let counts = (subst (λ s. Shows y s) step (step_shows y)).0 in
    let so_far : Stands first e happens z.commits y left before now = stands_on until came had quiet n y some (omega (arith, counts)) in
    let next = committed_next so_far.came so_far.had last (sym (ap answer_of step)) (sym (ap (λ s. core_after s y) step)) in
    record {
      last = last;
      came = next.came;
      had = record { made = sym (quiet last.commits last (omega (arith, next.counts, so_far.on)) within); commits = refl; exit = refl };
      on = omega (arith, next.counts, so_far.on);
    }

-- what a turn of the run's loop says of its last step: `later` is what is still to happen
pub record Stepped (first : ZcCore) (e : Environment) (happens later : ℕ → ZcCore → ZcCore) (z2 : ZcCore) (left : List ℕ) (before now : Desk) (from until : ℕ) (step : Step) : Type 0 where
  pub last : ZcCore
  pub acted : ZcCore
  pub came : Came first e happens last left before now
  pub had : Happened happens last acted
  pub on : from ≤ last.commits
  pub within : last.commits < until
  pub answers : step ≡ answer_of (zc_step acted)
  pub left_as : z2 ≡ core_after (zc_step acted) acted
  pub all : step ≡ answer.Committed → z2.commits ≡ until
  pub goes_on : (k : ℕ) → last.commits < k → later k ≡ happens k

pub stepped :
    {first : ZcCore} {e : Environment} {happens made later : ℕ → ZcCore → ZcCore} {z z' z2 : ZcCore} {left : List ℕ} {before now : Desk} {next until : ℕ} {step : Step}
    → Came first e happens z left before now → ((k : ℕ) → z.commits ≤ k → made k ≡ happens k) → z' ≡ made z.commits z → z'.commits ≡ z.commits → z'.exit ≡ z.exit
    → ((k : ℕ) → z.commits < k → later k ≡ made k) → ((k : ℕ) (y : ZcCore) → k < next → later k y ≡ y) → until ≤ next → AdvancesTo z' z2 until step
    → Stepped first e happens later z2 left before now z.commits until step
stepped {happens = happens} {later = later} {z = z} {z' = z'} {until = until} came same made commits exit after none few adv =
    let goes_on : (k : ℕ) → z.commits < k → later k ≡ happens k = λ k lt. after k lt ∙ same k (omega arith) in
    let had : Happened happens z z' = record { made = made ∙ ap (λ h. h z) (same z.commits (omega arith)); commits = commits; exit = exit } in
    let s = stands_on until came had (λ k y lt below. sym (ap (λ h. h y) (goes_on k lt)) ∙ none k y (omega arith)) adv.count adv.last adv.commits adv.within in
    record {
      last = s.last;
      acted = adv.last;
      came = s.came;
      had = s.had;
      on = s.on;
      within = omega (arith, s.had.commits, adv.within);
      answers = adv.answers;
      left_as = adv.left;
      all = adv.all;
      goes_on = λ k lt. goes_on k (omega (arith, s.on));
    }

-- all steps were made
pub spent_ran :
    (first : ZcCore) (e : Environment) (happens : ℕ → ZcCore → ZcCore) (steps : ℕ) (z : ZcCore) (left : List ℕ) (before now : Desk) → Came first e happens z left before now
    → z.commits ≡ steps → Ran happens (course_of first e happens steps) end.Spent z before now
spent_ran first e happens steps z left before now came all = (
  record {
    last = record { core = z; input = left; events = came.events; devices = e.devices.all };
    state = ap (machine_after_with first e.devices.all e.input happens) (sym all) ∙ came.so_far;
    running = came.running;
    wrote = came.wrote;
  },
  refl,
)
