-- Runs of the symbolic machine, one step at a time.
use Rattle.std.specs.Option.{option_map_or}
use Rattle.std.specs.Prelude.{◌⊎◌}
use Rattle.std.proofs.Common.{◌≡◌, ℕ, zero, suc, ◌+◌, ◌-◌, ◌<◌, ◌≤◌, List, [], ◌∷◌, ◌++◌, Option, Some, None, Result, Ok, Err, refl, ap, sym, ◌∙◌, inl, inr, ⊎_elim, arith, true, false, cond, eqb}
use Rattle.std.proofs.lemmas.Bool.{ne_eqb}
use Rattle.std.proofs.lemmas.Bool.Decides.{eqb_tells}
use Rattle.std.proofs.lemmas.List.{append-nil}
use Rattle.zc_base.specs.declared.mem_map.MemMap.{MemMap}
use Rattle.zc_base.specs.declared.place.Place.{Place}
use Rattle.block_cut.specs.declared.item.Item.{Item}
use Rattle.rv_decode.specs.declared.instr.Instr.{Instr}
use Rattle.rv_decode.specs.Devices.{Device}
use Rattle.rv_decode.specs.Run.{iterate, ◌>>=◌}
use Rattle.rv_decode.specs.State.{Exit, Load, Read, Store, System, Write}
use Rattle.rv_decode.specs.System.{system_width}
use Rattle.rv_decode.specs.EventBytes.{shown_bytes}
use Rattle.rv_decode.proofs.RunLaws.{bind_ok, iterate-add, iterate-one}
use Rattle.devices.specs.Environment.{DeviceMap}
use Rattle.zc_outside.specs.Course.{EndsAfter, EndsEarly, WrotePart, WroteTo, sent}
use Rattle.zc_outside.specs.Desk.{Desk, WriteCause, Wrote}
use Rattle.zc_outside.specs.declared.console.ConsoleFault.{ConsoleFault}
use Rattle.zc_outside.proofs.Desk.{Wrote-append, Wrote-none}
use Rattle.sym_machine.specs.declared.run.TraceEnd.TheVariants as end
use Rattle.sym_machine.specs.declared.why.Why.{Why}
use Rattle.sym_machine.specs.declared.known.Known.{Known}
use Rattle.sym_machine.specs.declared.known.Known.TheVariants.{Number, Code, Unknown}
use Rattle.sym_machine.specs.Answer.{RunsOn, answer_bytes, system_event}
use Rattle.sym_machine.specs.Change.{Change, Does, Goes, Stops, item_does}
use Rattle.sym_machine.specs.Devices.{device_does, does_with}
use Rattle.sym_machine.specs.Advance.{RunsTo}
use Rattle.sym_machine.specs.Events.{SymEvent, HandsCode, Numeric, StoresCode, sym_bytes_to, sym_written_to}
use Rattle.sym_machine.specs.Kept.{IsOf}
use Rattle.sym_machine.specs.Program.{Program}
use Rattle.sym_machine.specs.Run.{plain_turn, program_after_with, recorded}
use Rattle.sym_machine.specs.RunEnd.{IsCounted, Traced, plain_course}
use Rattle.sym_machine.specs.State.{PlainCore, PlainState}
use Rattle.sym_machine.specs.Expansions.{item_expansion}
use Rattle.sym_machine.specs.Step.{PlainStep, Went, Stuck, after_change, ends, applied, in_turn, is_set, item_step, plain_step, step_with}
use Rattle.sym_machine.proofs.EventLaws.{sym_written-more}
use Rattle.sym_machine.proofs.StepLaws.{Ended, does_there, ended, extents-step, found_stack, goes_with, lacks_stack, set_stays, step_past_exit, step_expansion, step_single}

-- ---- a turn, taken apart

-- a step that went on, with its events
record Recorded (s : PlainCore) (events : List SymEvent) (r r' : PlainState) : Type 0 where
  core : s ≡ r'.core
  told : r'.events ≡ r.events ++ events
  devices : r'.devices ≡ r.devices

recorded_went : (s : PlainCore) (events : List SymEvent) (r r' : PlainState) → recorded (Went s events) r ≡ Ok r' → Recorded s events r r'
recorded_went s events r r' h =
    let same : record r { core = s; events = r.events ++ events } ≡ r' = cc in
    record { core = ap (λ x. x.core) same; told = ap (λ x. x.events) (sym same); devices = ap (λ x. x.devices) (sym same) }

recorded_stuck : {A : Type 0} (why : Why) (r r' : PlainState) → recorded (Stuck why) r ≡ Ok r' → A
recorded_stuck why r r' h = absurd cc

-- a turn leaves devices where they are
pub turn_devices : (p : Program) (r r' : PlainState) → plain_turn p r ≡ Ok r' → r'.devices ≡ r.devices
unfolding plain_turn
turn_devices p r r' h = by (step_with r.devices p r.core) h
  where
    by : (t : PlainStep) → recorded t r ≡ Ok r' → r'.devices ≡ r.devices
    by (Went s events) g = (recorded_went s events r r' g).devices
    by (Stuck why) g = recorded_stuck why r r' g

pub turns_devices : (p : Program) (n : ℕ) (r r' : PlainState) → iterate (plain_turn p) n r ≡ Ok r' → r'.devices ≡ r.devices
turns_devices p zero r r' h = let same : r ≡ r' = cc in ap (λ x. x.devices) (sym same)
turns_devices p (suc n) r r' h =
    let first = bind_ok (plain_turn p r) (iterate (plain_turn p) n) r' h in
    turns_devices p n first.0 r' first.2 ∙ turn_devices p r first.0 first.1

-- what stands at the place makes a change, the step ends, and the change's events are added; what needs sp to be set found it set
pub record Stepped (p : Program) (r r' : PlainState) : Type 0 where
  pub change : Change
  pub does : item_does p (p.item r.core.place) r.core (p.next r.core.place) ≡ Goes change
  pub end : Ended p.map (is_set p.map r.core) (after_change change r.core) r'.core
  pub found : lacks_stack p r.core ≡ false
  pub events : r'.events ≡ r.events ++ change.events

-- or a device answers it, and makes the change
pub record Answered (p : Program) (r r' : PlainState) : Type 0 where
  pub change : Change
  pub does : device_does r.devices p (p.item r.core.place) r.core (p.next r.core.place) ≡ Some (Goes change)
  pub end : Ended p.map (is_set p.map r.core) (after_change change r.core) r'.core
  pub found : lacks_stack p r.core ≡ false
  pub events : r'.events ≡ r.events ++ change.events

-- what does something with devices does it without them, or a device answers
with_either :
    (ds : List Device) (p : Program) (o : Option Item) (s : PlainCore) (next : Place) (d : Does) (c : Change) → does_with ds p o s next d ≡ Goes c
    → (d ≡ Goes c) ⊎ (device_does ds p o s next ≡ Some (Goes c))
with_either [] p o s next d c h = inl h
with_either (x ∷ ds) p o s next (Goes c') c h = inl h
with_either (x ∷ ds) p o s next (Stops why) c h = by (device_does (x ∷ ds) p o s next) refl h
  where
    by : (a : Option Does) → device_does (x ∷ ds) p o s next ≡ a → option_map_or (λ does. does) a (Stops why) ≡ Goes c
        → (Stops why ≡ Goes c) ⊎ (device_does (x ∷ ds) p o s next ≡ Some (Goes c))
    by None is g = inl g
    by (Some does) is g = inr (is ∙ ap Some g)

-- a turn of a program that runs found sp set where that is needed
pub turn_found : (p : Program) (r r' : PlainState) → r.core.exit ≡ None → plain_turn p r ≡ Ok r' → lacks_stack p r.core ≡ false
unfolding plain_turn
turn_found p r r' running h = by (step_with r.devices p r.core) refl h
  where
    by : (t : PlainStep) → step_with r.devices p r.core ≡ t → recorded t r ≡ Ok r' → lacks_stack p r.core ≡ false
    by (Went s events) is g = found_stack r.devices p r.core s events running is
    by (Stuck why) is g = recorded_stuck why r r' g

-- and where it was set it stays set
pub turn_set : (p : Program) (r r' : PlainState) → plain_turn p r ≡ Ok r' → is_set p.map r.core ≡ true → is_set p.map r'.core ≡ true
unfolding plain_turn
turn_set p r r' h set = by (step_with r.devices p r.core) refl h
  where
    by : (t : PlainStep) → step_with r.devices p r.core ≡ t → recorded t r ≡ Ok r' → is_set p.map r'.core ≡ true
    by (Went s events) is g = ap (is_set p.map) (sym (recorded_went s events r r' g).core) ∙ set_stays r.devices p r.core s events is set
    by (Stuck why) is g = recorded_stuck why r r' g

pub turns_set : (p : Program) (n : ℕ) (r r' : PlainState) → iterate (plain_turn p) n r ≡ Ok r' → is_set p.map r.core ≡ true → is_set p.map r'.core ≡ true
turns_set p zero r r' h set = let same : r ≡ r' = cc in ap (λ (t : PlainState). is_set p.map t.core) (sym same) ∙ set
turns_set p (suc n) r r' h set =
    let first = bind_ok (plain_turn p r) (iterate (plain_turn p) n) r' h in
    turns_set p n first.0 r' first.2 (turn_set p r first.0 first.1 set)

pub stepped_either :
    (p : Program) (r r' : PlainState) → r.core.exit ≡ None → item_expansion (p.item r.core.place) ≡ None → plain_turn p r ≡ Ok r' → Stepped p r r' ⊎ Answered p r r'
unfolding plain_turn
stepped_either p r r' running single h =
    by_item (does_there r.devices p r.core) refl (ap (λ t. recorded t r) (sym (step_single r.devices p r.core running found single)) ∙ h)
  where
    found : lacks_stack p r.core ≡ false
    found = turn_found p r r' running h

    by_end :
        (c : Change) (t : PlainStep) → does_there r.devices p r.core ≡ Goes c → ends p.map (is_set p.map r.core) (after_change c r.core) c.events ≡ t → recorded t r ≡ Ok r'
        → Stepped p r r' ⊎ Answered p r r'
    by_end c (Went s events) is end g =
        let left = recorded_went s events r r' g in
        let q = ended p.map (is_set p.map r.core) (after_change c r.core) r'.core c.events events (end ∙ ap (λ t. Went t events) left.core) in
        let told = left.told ∙ ap (λ l. r.events ++ l) q.1 in
        ⊎_elim
        (λ own. inl (record { change = c; does = own; end = q.0; found = found; events = told }))
        (λ device. inr (record { change = c; does = device; end = q.0; found = found; events = told }))
        (with_either r.devices p (p.item r.core.place) r.core (p.next r.core.place) (item_does p (p.item r.core.place) r.core (p.next r.core.place)) c is)
    by_end c (Stuck why) is end g = recorded_stuck why r r' g

    by_item : (d : Does) → does_there r.devices p r.core ≡ d → recorded (applied p.map r.core d) r ≡ Ok r' → Stepped p r r' ⊎ Answered p r r'
    by_item (Stops why) is g = recorded_stuck why r r' g
    by_item (Goes c) is g = by_end c (ends p.map (is_set p.map r.core) (after_change c r.core) c.events) is refl g

-- where what stands at the place is nothing that a device answers, the step is the machine's own
pub stepped :
    (p : Program) (r r' : PlainState) → r.core.exit ≡ None → item_expansion (p.item r.core.place) ≡ None
    → device_does r.devices p (p.item r.core.place) r.core (p.next r.core.place) ≡ None → plain_turn p r ≡ Ok r' → Stepped p r r'
stepped p r r' running single none h = ⊎_elim (λ own. own) (λ device. absurd (let does = device.does in cc)) (stepped_either p r r' running single h)

-- what stands at the place is several instructions, which go on one after another, and these events are added
pub record SteppedExpansion (p : Program) (is : List Instr) (r r' : PlainState) : Type 0 where
  pub made : List SymEvent
  pub went : in_turn p.map is (p.next r.core.place) r.core ≡ Went r'.core made
  pub found : lacks_stack p r.core ≡ false
  pub events : r'.events ≡ r.events ++ made
  pub devices : r'.devices ≡ r.devices

pub stepped_expansion :
    (p : Program) (is : List Instr) (r r' : PlainState) → r.core.exit ≡ None → item_expansion (p.item r.core.place) ≡ Some is → plain_turn p r ≡ Ok r' → SteppedExpansion p is r r'
unfolding plain_turn
stepped_expansion p is r r' running are h =
    by (in_turn p.map is (p.next r.core.place) r.core) refl (ap (λ t. recorded t r) (sym (step_expansion r.devices p r.core is running found are)) ∙ h)
  where
    found : lacks_stack p r.core ≡ false
    found = turn_found p r r' running h

    by : (t : PlainStep) → in_turn p.map is (p.next r.core.place) r.core ≡ t → recorded t r ≡ Ok r' → SteppedExpansion p is r r'
    by (Went s events) went g =
        let left = recorded_went s events r r' g in
        record { made = events; went = went ∙ ap (λ t. Went t events) left.core; found = found; events = left.told; devices = left.devices }
    by (Stuck why) went g = recorded_stuck why r r' g

-- after the exit the state stays
pub stays : (p : Program) (r r' : PlainState) (status : ℕ) → r.core.exit ≡ Some status → plain_turn p r ≡ Ok r' → (r'.core ≡ r.core) × (r'.events ≡ r.events)
unfolding plain_turn
stays p r r' status exited h =
    let left = recorded_went r.core [] r r' (ap (λ t. recorded t r) (sym (step_past_exit r.devices p r.core status exited)) ∙ h) in
    (sym left.core, left.told ∙ append-nil r.events)

-- after the exit the state stays over any number of steps
pub all_stay : (p : Program) (n : ℕ) (r r' : PlainState) (status : ℕ) → r.core.exit ≡ Some status → iterate (plain_turn p) n r ≡ Ok r' → (r'.core ≡ r.core) × (r'.events ≡ r.events)
all_stay p zero r r' status exited h = let same : r ≡ r' = cc in (ap (λ x. x.core) (sym same), ap (λ x. x.events) (sym same))
all_stay p (suc n) r r' status exited h =
    let first = bind_ok (plain_turn p r) (iterate (plain_turn p) n) r' h in
    let one = stays p r first.0 status exited first.1 in
    let rest = all_stay p n first.0 r' status (ap (λ s. s.exit) one.0 ∙ exited) first.2 in
    (rest.0 ∙ one.0, rest.1 ∙ one.1)

-- ---- a turn, put together

-- a state of a run with devices
abbrev pub state_in : DeviceMap → PlainCore → List SymEvent → PlainState
state_in e s events = record { core = s; events = events; devices = e.all }

-- the state of a run from a first state with devices after some steps
abbrev pub after_in : Program → PlainCore → DeviceMap → ℕ → Result PlainState (Place × Why)
after_in p first e count = program_after_with p first e.all count

-- a step with devices
abbrev pub step_in : Program → DeviceMap → PlainCore → PlainStep
step_in p e s = step_with e.all p s

-- a program that hasn't exited after some steps hadn't before
pub running_before :
    (p : Program) (first : PlainCore) (e : DeviceMap) (count k : ℕ) (r s : PlainState) → after_in p first e count ≡ Ok r → r.core.exit ≡ None → k ≤ count
    → after_in p first e k ≡ Ok s → s.core.exit ≡ None
unfolding program_after_with
running_before p first e count k r s at running within before =
    let start : PlainState = state_in e first [] in
    let sum : k + (count - k) ≡ count = omega (arith, within) in
    let rest : iterate (plain_turn p) (count - k) s ≡ Ok r =
    sym (ap (λ q. q >>= iterate (plain_turn p) (count - k)) before) ∙ sym (iterate-add (plain_turn p) k (count - k) start)
    ∙ ap (λ n. iterate (plain_turn p) n start) sum ∙ at in
    by rest s.core.exit refl
  where
    by : iterate (plain_turn p) (count - k) s ≡ Ok r → (o : Option ℕ) → s.core.exit ≡ o → s.core.exit ≡ None
    by rest None is = is
    by rest (Some status) is = let same = all_stay p (count - k) s r status is rest in ap (λ c. c.exit) (sym same.0) ∙ running

-- a step with its events
went_turn : (p : Program) (e : DeviceMap) (s s' : PlainCore) (before events : List SymEvent) → step_in p e s ≡ Went s' events → plain_turn p (state_in e s before) ≡ Ok (state_in e s' (before ++ events))
unfolding plain_turn
went_turn p e s s' before events went = ap (λ t. recorded t (state_in e s before)) went

-- a step that is stuck
stuck_turn : (p : Program) (e : DeviceMap) (s : PlainCore) (before : List SymEvent) (why : Why) → step_in p e s ≡ Stuck why → plain_turn p (state_in e s before) ≡ Err (s.place, why)
unfolding plain_turn
stuck_turn p e s before why stuck = ap (λ t. recorded t (state_in e s before)) stuck

-- if step n + 1 is made, the run goes on to its state
plain_more : (p : Program) (first : PlainCore) (e : DeviceMap) (n : ℕ) (s s' : PlainState) → after_in p first e n ≡ Ok s → plain_turn p s ≡ Ok s' → after_in p first e (n + 1) ≡ Ok s'
unfolding program_after_with
plain_more p first e n s s' before turn =
    iterate-add (plain_turn p) n 1 (state_in e first [])
    ∙ ap (λ r. r >>= iterate (plain_turn p) 1) before ∙ iterate-one (plain_turn p) s s' turn

-- if step n + 1 isn't made, the run stops there
plain_stuck : (p : Program) (first : PlainCore) (e : DeviceMap) (n : ℕ) (s : PlainState) (stop : Place × Why) → after_in p first e n ≡ Ok s → plain_turn p s ≡ Err stop → after_in p first e (n + 1) ≡ Err stop
unfolding program_after_with
plain_stuck p first e n s stop before turn =
    iterate-add (plain_turn p) n 1 (state_in e first [])
    ∙ ap (λ r. r >>= iterate (plain_turn p) 1) before ∙ ap (λ r. r >>= iterate (plain_turn p) 0) turn

-- ---- what events write

-- what events write with devices
abbrev pub wrote_in : DeviceMap → ℕ → List SymEvent → List ℕ
wrote_in e stream events = sym_written_to e.outputs stream events

wrote_more : (e : DeviceMap) (events : List SymEvent) (x : SymEvent) (a b c : Desk) → Wrote (wrote_in e 1 events) (wrote_in e 2 events) a b
    → Wrote (sym_bytes_to e.outputs 1 x) (sym_bytes_to e.outputs 2 x) b c → Wrote (wrote_in e 1 (events ++ x ∷ [])) (wrote_in e 2 (events ++ x ∷ [])) a c
wrote_more e events x a b c first second =
    rw (sym_written-more e.outputs 1 events x, sym_written-more e.outputs 2 events x) (Wrote-append first second)

-- an event that writes these bytes to one stream, if any
pub record Writes (e : DeviceMap) (x : SymEvent) (stream : ℕ) (bytes : List ℕ) : Type 0 where
  pub each : (number : ℕ) → sym_bytes_to e.outputs number x ≡ sent stream bytes number

writes_one : (e : DeviceMap) (x : SymEvent) (stream : ℕ) (bytes : List ℕ) (a b : Desk) → Writes e x stream bytes → WroteTo stream bytes a b
    → Wrote (sym_bytes_to e.outputs 1 x) (sym_bytes_to e.outputs 2 x) a b
writes_one e x stream bytes a b writes wrote = rw (writes.each 1, writes.each 2) wrote

pub write_writes : (e : DeviceMap) (fd : ℕ) (bytes : List ℕ) → Writes e (Numeric (Write fd bytes)) fd bytes
write_writes e fd bytes = record { each = λ number. refl }

-- the number of standard output
is_one : (number : ℕ) → eqb number 1 ≡ eqb 1 number
is_one number = ⊎_elim (λ yes. yes.0 ∙ sym (ap (eqb 1) yes.1)) (λ no. no.0 ∙ sym (ne_eqb 1 number (λ e. no.1 (sym e)))) (eqb_tells number 1)

-- what appears of a store does so on standard output
pub store_writes : (e : DeviceMap) (at : ℕ) (bytes : List ℕ) → Writes e (Numeric (Store at bytes)) 1 (shown_bytes e.outputs at bytes)
store_writes e at bytes = record { each = λ number. ap (λ b. cond b (shown_bytes e.outputs at bytes) []) (is_one number) }

-- ---- runs

-- the run has come to this state after `count` steps, and has written what its events write
pub record Came (p : Program) (first : PlainCore) (e : DeviceMap) (count : ℕ) (s : PlainCore) (before now : Desk) : Type 0 where
  pub events : List SymEvent
  pub so_far : after_in p first e count ≡ Ok (state_in e s events)
  pub running : s.exit ≡ None
  pub of : IsOf p s
  pub wrote : Wrote (wrote_in e 1 events) (wrote_in e 2 events) before now

pub came_first : (p : Program) (e : DeviceMap) (s : PlainCore) (desk : Desk) → IsOf p s → s.exit ≡ None → Came p s e 0 s desk desk
unfolding program_after_with
came_first p e s desk of running = record { events = []; so_far = refl; running = running; of = of; wrote = Wrote-none desk }

-- ---- steps without an event

-- a state comes to itself by none
pub RunsTo-refl : (p : Program) (s : PlainCore) → IsOf p s → RunsTo p s s 0
RunsTo-refl p s of = record {
  exit = refl;
  of = of;
  runs = λ first devices count events so_far. let same : count + 0 ≡ count = omega arith in ap (program_after_with p first devices) same ∙ so_far;
}

-- one step more, without an event, after k steps without one
pub RunsTo-more :
    (p : Program) (s last s2 : PlainCore) (k : ℕ) → RunsTo p s last k → s2.exit ≡ last.exit → plain_step p last ≡ Went s2 [] → RunsTo p s s2 (k + 1)
RunsTo-more p s last s2 k so_far exit went = record {
  exit = exit ∙ so_far.exit;
  of = extents-step [] p last s2 [] went ∙ so_far.of;
  runs = λ first devices count events came.
      let e : DeviceMap = record { all = devices; outputs = [] } in
      let same : count + (k + 1) ≡ count + k + 1 = omega arith in
      ap (program_after_with p first devices) same
      ∙ plain_more p first e (count + k) (state_in e last events) (state_in e s2 events) (so_far.runs first devices count events came)
      (went_turn p e last s2 events [] (goes_with devices p last s2 [] went) ∙ ap (λ l. Ok (state_in e s2 l)) (append-nil events));
}

-- one step more that is made by the item at the place
pub RunsTo-made :
    (p : Program) (map : MemMap) (s last s2 : PlainCore) (k : ℕ) (q next : Place) (item : Item)
    → plain_step p last ≡ item_step [] map p (p.item q) last (p.next q) → p.item q ≡ Some item → p.next q ≡ next
    → RunsOn (item_step [] map p (Some item) last next) [] last s2 → RunsTo p s last k → RunsTo p s s2 (k + 1)
RunsTo-made p map s last s2 k q next item step here after made so_far =
    RunsTo-more p s last s2 k so_far (made.1 ∙ sym made.0) (step ∙ (λ j. item_step [] map p (here j) last (after j)) ∙ made.2)

-- a run that has come to a state comes to where that comes by them, and has written no more
pub Came-on :
    (p : Program) (first : PlainCore) (e : DeviceMap) (count : ℕ) (s last : PlainCore) (k : ℕ) (before now : Desk) → Came p first e count s before now → RunsTo p s last k
    → Came p first e (count + k) last before now
Came-on p first e count s last k before now came on = record {
  events = came.events;
  so_far = on.runs first e.all count came.events came.so_far;
  running = on.exit ∙ came.running;
  of = on.of;
  wrote = came.wrote;
}

module _ (p : Program) (first : PlainCore) (e : DeviceMap) (count : ℕ) (s : PlainCore) (before now : Desk) (came : Came p first e count s before now) where
  -- a step with one event
  more : (s' : PlainCore) (x : SymEvent) → step_in p e s ≡ Went s' (x ∷ []) → after_in p first e (count + 1) ≡ Ok (state_in e s' (came.events ++ x ∷ []))
  more s' x went =
      plain_more p first e count (state_in e s came.events) (state_in e s' (came.events ++ x ∷ [])) came.so_far (went_turn p e s s' came.events (x ∷ []) went)

  -- a step without an event
  pub came_done : (s' : PlainCore) → s'.exit ≡ None → step_in p e s ≡ Went s' [] → Came p first e (count + 1) s' before now
  came_done s' running went = record {
    events = came.events;
    so_far = plain_more p first e count (state_in e s came.events) (state_in e s' came.events) came.so_far
        (went_turn p e s s' came.events [] went ∙ ap (λ l. Ok (state_in e s' l)) (append-nil came.events));
    running = running;
    of = extents-step e.all p s s' [] went ∙ came.of;
    wrote = came.wrote;
  }

  -- an event that writes nothing
  came_silent : (s' : PlainCore) (x : SymEvent) → ((stream : ℕ) → sym_bytes_to e.outputs stream x ≡ []) → s'.exit ≡ None → step_in p e s ≡ Went s' (x ∷ [])
      → Came p first e (count + 1) s' before now
  came_silent s' x silent running went = record {
    events = came.events ++ x ∷ [];
    so_far = more s' x went;
    running = running;
    of = extents-step e.all p s s' (x ∷ []) went ∙ came.of;
    wrote = wrote_more e came.events x before now now came.wrote (rw (silent 1, silent 2) (Wrote-none now));
  }

  -- as a read, a load, and a store of a place's address
  pub came_read : (s' : PlainCore) (bytes : List ℕ) → RunsOn (step_in p e s) (Numeric (Read bytes) ∷ []) s s' → Came p first e (count + 1) s' before now
  came_read s' bytes m = came_silent s' (Numeric (Read bytes)) (λ stream. refl) m.1 m.2

  pub came_loaded : (s' : PlainCore) (at width : ℕ) (bytes : List ℕ) → RunsOn (step_in p e s) (Numeric (Load at width bytes) ∷ []) s s' → Came p first e (count + 1) s' before now
  came_loaded s' at width bytes m = came_silent s' (Numeric (Load at width bytes)) (λ stream. refl) m.1 m.2

  pub came_stored : (s' : PlainCore) (at : ℕ) (q : Place) → RunsOn (step_in p e s) (StoresCode at q ∷ []) s s' → Came p first e (count + 1) s' before now
  came_stored s' at q m = came_silent s' (StoresCode at q) (λ stream. refl) m.1 m.2

  -- and an instruction of the system, which has an event unless its operand is unknown
  pub came_system : (s' : PlainCore) (word : ℕ) (operand : Known) → RunsOn (step_in p e s) (system_event word operand (answer_bytes (system_width word) s)) s s'
      → Came p first e (count + 1) s' before now
  came_system s' word (Number n) m = came_silent s' (Numeric (System word n (answer_bytes (system_width word) s))) (λ stream. refl) m.1 m.2
  came_system s' word (Code q) m = came_silent s' (HandsCode word q (answer_bytes (system_width word) s)) (λ stream. refl) m.1 m.2
  came_system s' word Unknown m = came_done s' m.1 m.2

  -- an event whose bytes the console took
  pub came_wrote : (s' : PlainCore) (x : SymEvent) (stream : ℕ) (bytes : List ℕ) (after : Desk) → Writes e x stream bytes → s'.exit ≡ None
      → step_in p e s ≡ Went s' (x ∷ []) → WroteTo stream bytes now after → Came p first e (count + 1) s' before after
  came_wrote s' x stream bytes after writes running went wrote = record {
    events = came.events ++ x ∷ [];
    so_far = more s' x went;
    running = running;
    of = extents-step e.all p s s' (x ∷ []) went ∙ came.of;
    wrote = wrote_more e came.events x before now after came.wrote (writes_one e x stream bytes now after writes wrote);
  }

  module _ (steps : ℕ) where
    -- so far
    abbrev pub traced : EndsAfter (plain_course p first e steps) count before now
    traced = record { last = state_in e s came.events; state = came.so_far; running = came.running; wrote = came.wrote }

    module _ (within : count < steps) where
      abbrev early : EndsEarly (plain_course p first e steps) before now
      early = record { count = count; within = within; made = traced }

      -- an event whose bytes the console refused
      pub refused : (s' : PlainCore) (x : SymEvent) (stream : ℕ) (bytes : List ℕ) (after : Desk) (fault : ConsoleFault) → Writes e x stream bytes
          → step_in p e s ≡ Went s' (x ∷ []) → WrotePart stream bytes now after → WriteCause before after fault
          → Traced (plain_course p first e steps) (end.Console fault) before after
      refused s' x stream bytes after fault writes went part cause = record {
        between = now;
        early = early;
        next = state_in e s' (came.events ++ x ∷ []);
        state = more s' x went;
        stream = stream;
        bytes = bytes;
        write = λ number. sym_written-more e.outputs number came.events x ∙ ap (λ l. wrote_in e number came.events ++ l) (writes.each number);
        wrote = part;
        cause = cause;
      }

      -- the exit
      pub exited : (s' : PlainCore) (status : ℕ) → s'.exit ≡ Some status → step_in p e s ≡ Went s' (Numeric (Exit status) ∷ [])
          → Traced (plain_course p first e steps) (end.Exited status) before now
      exited s' status exit went = record {
        count = count + 1;
        within = omega arith;
        last = state_in e s' (came.events ++ Numeric (Exit status) ∷ []);
        state = more s' (Numeric (Exit status)) went;
        exit = exit;
        wrote = wrote_more e came.events (Numeric (Exit status)) before now now came.wrote (Wrote-none now);
      }

      -- and no step before it was one
      pub counted : (s' : PlainCore) (status : ℕ) → s'.exit ≡ Some status → step_in p e s ≡ Went s' (Numeric (Exit status) ∷ [])
          → IsCounted (plain_course p first e steps) (count + 1) status before now
      counted s' status exit went = record {
        bytes = wrote_in e 1 (came.events ++ Numeric (Exit status) ∷ []);
        exits = record {
          within = omega arith;
          last = state_in e s' (came.events ++ Numeric (Exit status) ∷ []);
          state = more s' (Numeric (Exit status)) went;
          status = exit;
          bytes = refl;
          first = λ k r earlier after. running_before p first e count k (state_in e s came.events) r came.so_far came.running (omega (arith, earlier)) after;
        };
        events = came.events;
        event = refl;
        wrote = (wrote_more e came.events (Numeric (Exit status)) before now now came.wrote (Wrote-none now)).out;
      }

      -- a step that is stuck
      pub stuck : (place : Place) (why : Why) → place ≡ s.place → step_in p e s ≡ Stuck why → Traced (plain_course p first e steps) (end.Stuck place why) before now
      stuck place why at is = record {
        early = early;
        next = plain_stuck p first e count (state_in e s came.events) (place, why) came.so_far
            (stuck_turn p e s came.events why is ∙ ap (λ q. Err (q, why)) (sym at));
      }
