-- How many commits a run makes. Until the exit each turn is one, and after it the state stays: so there are as many commits as
-- turns up to the exit. A run with an exit never stops, and one whose events have an exit has exited.
use Rattle.std.specs.List.{list_any}
use Rattle.std.specs.Option.{option_map_or}
use Rattle.std.specs.Prelude.{◌||◌}
use Rattle.std.proofs.Common.{◌≡◌, ℕ, zero, suc, ◌+◌, ◌-◌, ◌<◌, ◌≤◌, ⊎_elim, List, [], ◌∷◌, ◌++◌, take, drop, Bool, true, false, cond, Option, Some, None, Result, Ok, Err, refl, sym, ap, subst, ◌∙◌, arith}
use Rattle.std.proofs.lemmas.Bool.{cases_lt, false≢true}
use Rattle.std.proofs.lemmas.List.Folds.{list_any-append}
use Rattle.std.proofs.lemmas.Option.{none-some}
use Rattle.devices.specs.Environment.{only_input}
use Rattle.interrupt_plan.specs.Plan.{Entry, interrupts_at}
use Rattle.rv_decode.specs.EventBytes.{written_to}
use Rattle.rv_decode.specs.Run.{◌>>=◌}
use Rattle.rv_decode.specs.Devices.{has_registers, in_devices, sent_bytes}
use Rattle.rv_decode.specs.declared.device_access.DeviceAccess.TheVariants as access
use Rattle.rv_decode.specs.Effect.{load_width, store_width}
use Rattle.rv_decode.specs.State.{Event, Exit, Load, Read, Store, System, Write, ZcCore, ZcState}
use Rattle.rv_decode.specs.System.{system_width}
use Rattle.rv_decode.proofs.RunLaws.{bind_ok}
use Rattle.zc_outside.specs.Course.{EndsWithStop, ExitsAt}
use Rattle.zc_outside.specs.Desk.{Desk}
use Rattle.zc_outside.specs.Streams.{Adds}
use Rattle.zc_machine.specs.declared.answer.EnvCall.TheVariants as call
use Rattle.zc_machine.specs.declared.reason.Reason.{Reason}
use Rattle.zc_machine.specs.declared.run.RunEnd.TheVariants as end
use Rattle.zc_machine.specs.Answer.{exited, has_read, has_written}
use Rattle.zc_machine.specs.Buffer.{bytes_at}
use Rattle.zc_machine.specs.declared.reason.Reason.TheVariants.{BadAccess, Illegal}
use Rattle.zc_machine.specs.Run.{committed, device_answers, first_state, interrupts_by, machine_after, turn, turns, machine_after_with}
use Rattle.zc_machine.specs.RunEnd.{Ran, course_of}
use Rattle.zc_machine.specs.Step.{ZcStep, Committed, Wants, Ended, Stopped, Asks, zc_step}
use Rattle.zc_machine.proofs.CutLaws.{all_cuts_keep}
use Rattle.zc_machine.proofs.StepLaws.{Shows, step_shows}
use Rattle.zc_machine.proofs.TurnLaws.{turn-running, turns-add}

-- what happens between commits is no commit itself, and no exit
pub record KeepsCount (happens : ℕ → ZcCore → ZcCore) : Type 0 where
  pub commits : (k : ℕ) (z : ZcCore) → (happens k z).commits ≡ z.commits
  pub exit : (k : ℕ) (z : ZcCore) → (happens k z).exit ≡ z.exit

-- a plan's interrupts are none
pub plan_keeps : (plan : List Entry) → KeepsCount (interrupts_by plan)
plan_keeps plan = record {
  commits = λ k z. (all_cuts_keep (interrupts_at plan k) z).commits;
  exit = λ k z. (all_cuts_keep (interrupts_at plan k) z).exit;
}

-- from the next commit on
keeps_later : (happens : ℕ → ZcCore → ZcCore) → KeepsCount happens → KeepsCount (λ k. happens (suc k))
keeps_later happens keeps = record { commits = λ k. keeps.commits (suc k); exit = λ k. keeps.exit (suc k) }

-- ---- after the exit

turn-exited : (happens : ZcCore → ZcCore) (r : ZcState) (status : ℕ) → r.core.exit ≡ Some status → turn happens r ≡ Ok r
unfolding turn
turn-exited happens r status exited =
    ap (λ x. option_map_or (λ _. Ok r) x (committed (zc_step (happens r.core)) (record r { core = happens r.core }))) exited

-- the state stays
turns-exited : (happens : ℕ → ZcCore → ZcCore) (m : ℕ) (r : ZcState) (status : ℕ) → r.core.exit ≡ Some status → turns happens m r ≡ Ok r
turns-exited happens zero r status exited = refl
turns-exited happens (suc m) r status exited =
    ap (λ q. q >>= turns (λ k. happens (suc k)) m) (turn-exited (happens 0) r status exited) ∙ turns-exited (λ k. happens (suc k)) m r status exited

-- a program that hasn't exited hadn't exited before
running_before : (happens : ℕ → ZcCore → ZcCore) (m : ℕ) (r s : ZcState) → turns happens m r ≡ Ok s → s.core.exit ≡ None → r.core.exit ≡ None
running_before happens m r s came running = by r.core.exit refl
  where
    by : (e : Option ℕ) → r.core.exit ≡ e → r.core.exit ≡ None
    by None is = is
    by (Some status) is =
        let both : Ok r ≡ Ok s = sym (turns-exited happens m r status is) ∙ came in
        let same : r ≡ s = cc in
        ap (λ x. x.core.exit) same ∙ running

-- ---- one turn before it

abbrev is_exit : Event → Bool
is_exit (Read bytes) = false
is_exit (Write fd bytes) = false
is_exit (Exit status) = true
is_exit (Load a width bytes) = false
is_exit (Store a bytes) = false
is_exit (System word operand bytes) = false

-- an event more
none_more : (events : List Event) (e : Event) → (is_exit e || false) ≡ false → list_any is_exit events ≡ false → list_any is_exit (events ++ e ∷ []) ≡ false
none_more events e other none = list_any-append is_exit events (e ∷ []) ∙ ap (λ b. b || (is_exit e || false)) none ∙ other

-- a turn is a commit, and only with the exit itself do the events get an exit
record IsCommit (before : ℕ) (events : List Event) (s : ZcState) : Type 0 where
  counts : s.core.commits ≡ before + 1
  quiet : s.core.exit ≡ None → list_any is_exit events ≡ false → list_any is_exit s.events ≡ false

left_by : (before : ℕ) (events : List Event) (t s : ZcState) → ◌≡◌ {A = Result ZcState Reason} (Ok t) (Ok s) → IsCommit before events t → IsCommit before events s
left_by before events t s made is = let same : t ≡ s = cc in subst (λ x. IsCommit before events x) same is

commit_of : (z : ZcCore) (r s : ZcState) (step : ZcStep) → Shows z step → z.exit ≡ None → committed step (record r { core = z }) ≡ Ok s → IsCommit z.commits r.events s
commit_of z r s (Committed z') shown running made =
    left_by z.commits r.events (record r { core = z' }) s made (record { counts = shown.0; quiet = λ going none. none })
commit_of z r s (Wants (call.Exit status)) shown running made =
    left_by z.commits r.events (record { core = exited status z; input = r.input; events = r.events ++ Exit status ∷ []; devices = r.devices }) s made
    (record { counts = refl; quiet = λ going none. absurd (none-some status (sym going)) })
commit_of z r s (Wants (call.Read at len)) shown running made =
    let bytes = take len r.input in
    left_by z.commits r.events (record { core = has_read bytes z; input = drop len r.input; events = r.events ++ Read bytes ∷ []; devices = r.devices }) s made
    (record { counts = refl; quiet = λ going none. none_more r.events (Read bytes) refl none })
commit_of z r s (Wants (call.Write fd at len)) shown running made =
    let bytes = bytes_at z at len in
    left_by z.commits r.events (record { core = has_written z; input = r.input; events = r.events ++ Write fd bytes ∷ []; devices = r.devices }) s made
    (record { counts = refl; quiet = λ going none. none_more r.events (Write fd bytes) refl none })
commit_of z r s (Ended status) shown running made = absurd (none-some status (sym running ∙ shown))
commit_of z r s (Stopped reason) shown running made = absurd cc
commit_of z r s (Asks (access.Load op a rd size)) shown running made = answered (in_devices r.devices a (load_width op)) made
  where
    here : ZcState
    here = record r { core = z }

    answered : (b : Bool) → cond b (Ok (device_answers (access.Load op a rd size) here)) (Err BadAccess) ≡ Ok s → IsCommit z.commits r.events s
    answered true h =
        left_by z.commits r.events (device_answers (access.Load op a rd size) here) s h
        (record { counts = refl; quiet = λ going none. none_more r.events (Load a (load_width op) (take (load_width op) r.input)) refl none })
    answered false h = absurd cc
commit_of z r s (Asks (access.Store op a word size)) shown running made = answered (in_devices r.devices a (store_width op)) made
  where
    here : ZcState
    here = record r { core = z }

    answered : (b : Bool) → cond b (Ok (device_answers (access.Store op a word size) here)) (Err BadAccess) ≡ Ok s → IsCommit z.commits r.events s
    answered true h =
        left_by z.commits r.events (device_answers (access.Store op a word size) here) s h
        (record { counts = refl; quiet = λ going none. none_more r.events (Store a (sent_bytes op word)) refl none })
    answered false h = absurd cc
commit_of z r s (Asks (access.System word operand)) shown running made = answered (has_registers r.devices) made
  where
    here : ZcState
    here = record r { core = z }

    answered : (b : Bool) → cond b (Ok (device_answers (access.System word operand) here)) (Err Illegal) ≡ Ok s → IsCommit z.commits r.events s
    answered true h =
        left_by z.commits r.events (device_answers (access.System word operand) here) s h
        (record { counts = refl; quiet = λ going none. none_more r.events (System word operand (take (system_width word) r.input)) refl none })
    answered false h = absurd cc

turn_commits :
    (happens : ℕ → ZcCore → ZcCore) → KeepsCount happens → (r s : ZcState) → r.core.exit ≡ None → turn (happens 0) r ≡ Ok s
    → IsCommit r.core.commits r.events s
turn_commits happens keeps r s running made =
    let z = happens 0 r.core in
    let going : z.exit ≡ None = keeps.exit 0 r.core ∙ running in
    let is = commit_of z r s (zc_step z) (step_shows z) going (sym (turn-running (happens 0) r running) ∙ made) in
    subst (λ n. IsCommit n r.events s) (keeps.commits 0 r.core) is

-- ---- turns

-- m turns lead from one state to another; `made` of them are commits, and of these only the last may be the exit
pub record IsCounted (happens : ℕ → ZcCore → ZcCore) (m : ℕ) (r s : ZcState) : Type 0 where
  pub made : ℕ
  pub within : made ≤ m
  pub counts : s.core.commits ≡ r.core.commits + made
  pub state : turns happens made r ≡ Ok s
  pub first : (k : ℕ) (t : ZcState) → k < made → turns happens k r ≡ Ok t → t.core.exit ≡ None

-- if the program hasn't exited before a turn, nor before n turns after it, it hasn't before n + 1
first_before :
    (happens : ℕ → ZcCore → ZcCore) (r r1 : ZcState) → r.core.exit ≡ None → turn (happens 0) r ≡ Ok r1 → (n : ℕ)
    → ((k : ℕ) (t : ZcState) → k < n → turns (λ j. happens (suc j)) k r1 ≡ Ok t → t.core.exit ≡ None)
    → (k : ℕ) (t : ZcState) → k < suc n → turns happens k r ≡ Ok t → t.core.exit ≡ None
first_before happens r r1 running one n later zero t within came = let same : r ≡ t = cc in ap (λ x. x.core.exit) (sym same) ∙ running
first_before happens r r1 running one n later (suc k) t within came =
    later k t (omega (arith, within)) (sym (ap (λ q. q >>= turns (λ j. happens (suc j)) k) one) ∙ came)

counted : (happens : ℕ → ZcCore → ZcCore) → KeepsCount happens → (m : ℕ) (r s : ZcState) → r.core.exit ≡ None → turns happens m r ≡ Ok s → IsCounted happens m r s
counted happens keeps zero r s running came = record {
  made = 0;
  within = omega arith;
  counts = let same : r ≡ s = cc in let none : r.core.commits ≡ r.core.commits + 0 = omega arith in ap (λ x. x.core.commits) (sym same) ∙ none;
  state = came;
  first = λ k t lt at. absurd (omega (arith, lt));
}
counted happens keeps (suc m) r s running came =
    let rest : ℕ → ZcCore → ZcCore = λ j. happens (suc j) in
    let parts = bind_ok (turn (happens 0) r) (turns rest m) s came in
    by parts.0 parts.1 parts.2 (λ going. counted rest (keeps_later happens keeps) m parts.0 s going parts.2) parts.0.core.exit refl
  where
    rest : ℕ → ZcCore → ZcCore
    rest = λ j. happens (suc j)

    by :
        (r1 : ZcState) → turn (happens 0) r ≡ Ok r1 → turns rest m r1 ≡ Ok s → (r1.core.exit ≡ None → IsCounted rest m r1 s)
        → (e : Option ℕ) → r1.core.exit ≡ e → IsCounted happens (suc m) r s
    by r1 one others later None going =
        let turned = turn_commits happens keeps r r1 running one in
        let more = later going in
        record {
          made = suc more.made;
          within = omega (arith, more.within);
          counts = omega (arith, more.counts, turned.counts);
          state = ap (λ q. q >>= turns rest more.made) one ∙ more.state;
          first = first_before happens r r1 running one more.made more.first;
        }
    by r1 one others later (Some status) is =
        let turned = turn_commits happens keeps r r1 running one in
        let both = sym (turns-exited rest m r1 status is) ∙ others in
        let same : r1 ≡ s = cc in
        record {
          made = 1;
          within = omega arith;
          counts = ap (λ x. x.core.commits) (sym same) ∙ turned.counts;
          state = ap (λ q. q >>= turns rest 0) one ∙ both;
          first = first_before happens r r1 running one 0 (λ k t lt at. absurd (omega (arith, lt)));
        }

-- turns after which the program hasn't exited add no exit to the events
none_exited :
    (happens : ℕ → ZcCore → ZcCore) → KeepsCount happens → (m : ℕ) (r s : ZcState) → turns happens m r ≡ Ok s → s.core.exit ≡ None
    → list_any is_exit r.events ≡ false → list_any is_exit s.events ≡ false
none_exited happens keeps zero r s came running none = let same : r ≡ s = cc in ap (λ x. list_any is_exit x.events) (sym same) ∙ none
none_exited happens keeps (suc m) r s came running none =
    let rest : ℕ → ZcCore → ZcCore = λ j. happens (suc j) in
    let parts = bind_ok (turn (happens 0) r) (turns rest m) s came in
    let turned = turn_commits happens keeps r parts.0 (running_before happens (suc m) r s came running) parts.1 in
    none_exited rest (keeps_later happens keeps) m parts.0 s parts.2 running (turned.quiet (running_before rest m parts.0 s parts.2 running) none)

-- ---- runs without devices

module _ (first : ZcCore) (input : List ℕ) (happens : ℕ → ZcCore → ZcCore) where
  -- the machine's count at the end of a run is that of the commits up to the exit and with it
  pub exit_counted :
      KeepsCount happens → first.exit ≡ None → first.commits ≡ 0 → (steps status : ℕ) (now : ZcCore) (before after : Desk)
      → Ran happens (course_of first (only_input input) happens steps) (end.Exit status) now before after
      → (bytes : List ℕ) × ExitsAt (course_of first (only_input input) happens steps) now.commits (record { bytes = bytes; status = status }) × Adds before.out after.out bytes
  unfolding machine_after_with
  exit_counted keeps running start steps status now before after ran =
      let ended = ran.0 in
      let run = counted happens keeps ended.count (first_state first input) ended.last running ended.state in
      let bytes = written_to [] 1 ended.last.events in
      let number : now.commits ≡ run.made = ap (λ z. z.commits) ran.1 ∙ omega (arith, run.counts, start) in (
        bytes,
        subst (λ n. ExitsAt (course_of first (only_input input) happens steps) n (record { bytes = bytes; status = status })) (sym number) (record {
          within = omega (arith, run.within, ended.within);
          last = ended.last;
          state = run.state;
          status = ended.exit;
          bytes = refl;
          first = run.first;
        }),
        ended.wrote.out,
      )

  -- a run that comes to an exit isn't stopped
  pub never_stops :
      (m status : ℕ) (z : ZcState) (steps : ℕ) (reason : Reason) (before after : Desk) → machine_after first input happens m ≡ Ok z
      → z.core.exit ≡ Some status → EndsWithStop (course_of first (only_input input) happens steps) reason before after → ⊥
  unfolding machine_after_with
  never_stops m status z steps reason before after came exits stop = ⊎_elim stays over (cases_lt m (stop.early.count + 1))
    where
      start : ZcState
      start = first_state first input

      -- the exit comes before the stop, so the state stays until there
      stays : m < stop.early.count + 1 → ⊥
      stays lt =
          let count = stop.early.count in
          let later : ℕ → ZcCore → ZcCore = λ k. happens (m + k) in
          let sum : m + (count - m) ≡ count = omega (arith, lt) in
          let both : Ok stop.early.made.last ≡ Ok z =
          sym stop.early.made.state ∙ ap (λ n. turns happens n start) (sym sum) ∙ turns-add happens m (count - m) start
          ∙ ap (λ q. q >>= turns later (count - m)) came ∙ turns-exited later (count - m) z status exits in
          let same : stop.early.made.last ≡ z = cc in
          none-some status (sym stop.early.made.running ∙ ap (λ x. x.core.exit) same ∙ exits)

      -- no state comes after a stop
      over : stop.early.count + 1 ≤ m → ⊥
      over le =
          let count = stop.early.count + 1 in
          let sum : count + (m - count) ≡ m = omega (arith, le) in
          let none : Err reason ≡ Ok z =
          ap (λ q. q >>= turns (λ k. happens (count + k)) (m - count)) (sym stop.next) ∙ sym (turns-add happens count (m - count) start)
          ∙ ap (λ n. turns happens n start) sum ∙ came in
          cc

  -- a run whose events end with an exit has exited
  pub exit_told :
      KeepsCount happens → (m : ℕ) (z : ZcState) (events : List Event) (status : ℕ) → machine_after first input happens m ≡ Ok z
      → z.events ≡ events ++ Exit status ∷ [] → (code : ℕ) × (z.core.exit ≡ Some code)
  unfolding machine_after_with
  exit_told keeps m z events status came told = by z.core.exit refl
    where
      or_true : (b : Bool) → (b || true) ≡ true
      or_true true = refl
      or_true false = refl

      some : list_any is_exit z.events ≡ true
      some = ap (list_any is_exit) told ∙ list_any-append is_exit events (Exit status ∷ []) ∙ or_true (list_any is_exit events)

      by : (e : Option ℕ) → z.core.exit ≡ e → (code : ℕ) × (z.core.exit ≡ Some code)
      by (Some code) is = (code, is)
      by None is = absurd (false≢true (sym (none_exited happens keeps m (first_state first input) z came is refl) ∙ some))
