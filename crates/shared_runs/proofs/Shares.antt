-- An image that keeps step with the program does so if interrupts write shared data, too. Before a stretch the cells of all its commits
-- may be written in both machines; a run that ends inside a stretch has made none of its commits, so only the events are claimed.
use Rattle.std.proofs.Common.{◌≡◌, ℕ, zero, suc, ◌+◌, ◌-◌, ◌*◌, ◌<◌, ◌≤◌, List, [], ◌∷◌, ◌++◌, map, Bool, true, false, cond, Option, Some, None, Result, Ok, refl, sym, ap, ap₂, ◌∙◌, subst, inr, ⊎_elim, arith, eqb}
use Rattle.std.specs.Prelude.{All, IsSome}
use Rattle.std.specs.Option.{is_some}
use Rattle.std.proofs.lemmas.Bool.{cond-false, cond-true, eqb-false, eqb-true, false≢true, ne_eqb}
use Rattle.std.proofs.lemmas.List.Elements.{All-cons, All-filter, All-head, All-nil, All-tail}
use Rattle.zc_base.specs.declared.place.Place.{Place}
use Rattle.interrupt_plan.specs.Plan.{IsInterrupt}
use Rattle.interrupt_plan.specs.SharedPlan.{IsSharedPlan, SharedEntry, shared_at}
use Rattle.rv_decode.specs.Devices.{AreOutside, IsOutside}
use Rattle.rv_decode.specs.Memory.{Region, changed, written}
use Rattle.rv_decode.specs.Run.{◌>>=◌, iterate}
use Rattle.rv_decode.specs.State.{ZcState}
use Rattle.rv_decode.proofs.RunLaws.{bind_ok, iterate-add, iterate-one}
use Rattle.shared_cells.specs.SharedRun.{in_ranges, shared_by}
use Rattle.sym_machine.specs.declared.word.SymByte.{SymByte}
use Rattle.sym_machine.specs.declared.word.SymByte.TheVariants.{Num}
use Rattle.sym_machine.specs.Events.{event_in}
use Rattle.sym_machine.specs.Program.{Program}
use Rattle.sym_machine.specs.Run.{plain_turn}
use Rattle.sym_machine.specs.State.{PlainCore, PlainState, first_plain}
use Rattle.sym_machine.proofs.RunLaws.{turns_devices}
use Rattle.zc_machine.specs.declared.reason.Reason.{Reason}
use Rattle.zc_machine.specs.Run.{first_state, machine_after, turns, zc_turns, machine_after_with}
use Rattle.zc_machine.proofs.TurnLaws.{turns-add, zc_turns_devices}
use Rattle.zc_link.specs.DataApart.{CellsLie, FromLoad, FromPair, IsCell, Starts, all_poked, poked_plain}
use Rattle.zc_link.specs.Image.{Image, loaded_core}
use Rattle.zc_link.specs.IsSimulation.{IsInside, IsSimulation}
use Rattle.zc_link.specs.Pace.{Pace, lead_from, lead_of}
use Rattle.zc_link.specs.Setting.{Setting}
use Rattle.zc_link.specs.Sound.{Over, Sound, Together}
use Rattle.zc_link.specs.Stands.{Stands}
use Rattle.zc_link.proofs.EventLaws.{events_kept}
use Rattle.zc_link.proofs.Start.{loaded_first}
use Rattle.shared_runs.specs.SharedPlain.{SharedState, Sharing, after_step, cells_from, shared_after, shared_start, shared_step, step_within, stretch_begun}
use Rattle.shared_runs.specs.SharesCells.{KeepsPace, SharesCells}
use Rattle.shared_runs.proofs.Regions.{one_result}
use Rattle.shared_runs.proofs.Turns.{AreEntries, IsEntry, cells_are, cells_first, cells_in, cells_last, cells_of, cuts_in}
use Rattle.shared_runs.proofs.Written.{IsWrite, all_written, poked_devices, poked_events, poked_exit, poked_place, written_devices, written_events, written_sound}

-- an image that starts at the program's start has no commits before it, and another three
lead_few : (o : Option ℕ) (entry : ℕ) → lead_from o entry ≤ 3
lead_few None entry = omega arith
lead_few (Some start) entry = either (eqb start entry)
  where
    either : (b : Bool) → cond b 0 3 ≤ 3
    either true = omega arith
    either false = omega arith

cuts_are : (es : List SharedEntry) → All IsEntry es → All IsInterrupt (cuts_in es)
cuts_are [] is = All-nil IsInterrupt
cuts_are (x ∷ es) is = All-cons IsInterrupt x.entry.cut (cuts_in es) (All-head IsEntry x es is).0 (cuts_are es (All-tail IsEntry x es is))

-- the entries from a commit on
abbrev entries_from : List SharedEntry → ℕ → ℕ → List SharedEntry
entries_from plan k j = shared_at plan (k + j)

entries_are : (plan : List SharedEntry) (k : ℕ) → IsSharedPlan plan → AreEntries (entries_from plan k)
entries_are plan k is j = All-filter (λ (x : SharedEntry). eqb x.entry.at (k + j)) IsEntry plan is

module _ (p : Program) (Named : Place → Type 0) (e : Image) (pace : Pace) (law : IsSimulation p Named e pace) (ranges : List (ℕ × ℕ))
    (within : (a : ℕ) → in_ranges ranges a ≡ true → IsCell p a)
    -- a stretch takes as many commits whatever memory holds
    (steady : (s : PlainCore) (memory : List (Region SymByte)) → pace.weight (record s { memory = memory }) ≡ pace.weight s) where
  lie : CellsLie p e
  lie = law.cells

  weight_poked : (cs : List (ℕ × ℕ)) (r : PlainState) → pace.weight (all_poked cs r).core ≡ pace.weight r.core
  weight_poked [] r = refl
  weight_poked (c ∷ cs) r = weight_poked cs (poked_plain c r) ∙ steady r.core (changed (written c.0 1 (λ _. Num c.1)) r.core.memory)

  from_same : (plan : List SharedEntry) (k w : ℕ) → cells_from ranges plan k w ≡ cells_of lie ranges within (entries_from plan k) w
  from_same plan k zero = refl
  from_same plan k (suc w) =
      let first : k ≡ k + 0 = omega arith in
      let same : (j : ℕ) → suc k + j ≡ k + suc j = λ j. omega arith in
      ap₂ (λ xs ys. xs ++ ys) (ap (λ n. cells_in lie ranges within (shared_at plan n)) first)
      (from_same plan (suc k) w ∙ (λ i. cells_of lie ranges within (λ j. shared_at plan (same j i)) w))

  from_start : (plan : List SharedEntry) (w : ℕ) → cells_from ranges plan 0 w ≡ cells_of lie ranges within (shared_at plan) w
  from_start plan w =
      let same : (j : ℕ) → 0 + j ≡ j = λ j. omega arith in
      from_same plan 0 w ∙ (λ i. cells_of lie ranges within (λ j. shared_at plan (same j i)) w)

  module _ (plan : List SharedEntry) (is : IsSharedPlan plan) where
    -- ---- a stretch

    -- the commits of a stretch, with what happens before each
    record Came (k count : ℕ) (z : ZcState) (r' : PlainState) : Type 0 where
      after : ZcState
      runs : turns (λ j. shared_by ranges plan (k + j)) count z ≡ Ok after
      together : Together p Named e r'.core after
      events : after.events ≡ map (event_in e.address) r'.events
      none : after.devices ≡ []

    abbrev begun : ℕ → PlainState → PlainState
    begun k r = all_poked (cells_from ranges plan k (pace.weight r.core)) r

    stretch :
        (k : ℕ) (r r' : PlainState) (z : ZcState) → Sound p Named e r.core z → z.events ≡ map (event_in e.address) r.events → z.devices ≡ [] → r.devices ≡ []
        → iterate (plain_turn p) (pace.span r.core.place) (begun k r) ≡ Ok r' → Came k (pace.weight r.core) z r'
    stretch k r r' z so events none bare h =
        let w = pace.weight r.core in
        let entries = entries_from plan k in
        let entries_ok = entries_are plan k is in
        let cs = cells_of lie ranges within entries w in
        let are = cells_are lie ranges within w entries entries_ok in
        let steps : iterate (plain_turn p) (pace.span r.core.place) (all_poked cs r) ≡ Ok r' =
        ap (λ ds. iterate (plain_turn p) (pace.span r.core.place) (all_poked ds r)) (sym (from_same plan k w)) ∙ h in
        let without : (all_poked cs r).devices ≡ [] = poked_devices cs r ∙ bare in
        let no_device : (all_written cs z).devices ≡ [] = written_devices cs z ∙ none in
        let comes =
        law.step (all_poked cs r) r' (ap (λ q. iterate (plain_turn p) (pace.span q) (all_poked cs r)) (poked_place cs r) ∙ steps)
        (λ j. cuts_in (entries j)) (λ j. cuts_are (entries j) (entries_ok j)) (all_written cs z) (written_sound lie cs r z are so)
        (events_kept e.address r.events (all_poked cs r).events (all_written cs z).events (written_events cs z ∙ events) (poked_events cs r)) (no_device ∙ sym without)
        (subst (AreOutside p.map) (sym without) (All-nil (IsOutside p.map))) in
        let from : FromPair p Named e pace r w z = record { commits = refl; sound = so; cells = cs; are = are; after = r'; steps = steps } in
        record {
          after = comes.after;
          runs = cells_first lie ranges within (law.cuts_apart r) w entries z comes.after entries_ok (Starts w z from)
              (record { regions = so.alike.extents; bytes = λ a _. so.alike.core.bytes a }) so.alike.going (λ more. law.commits_apart r (inr more))
              (ap (λ n. zc_turns (λ j. cuts_in (entries j)) n (all_written cs z)) (sym (weight_poked cs r)) ∙ comes.runs);
          together = comes.together;
          events = comes.events;
          none = zc_turns_devices (λ j. cuts_in (entries j)) (pace.weight (all_poked cs r).core) (all_written cs z) comes.after comes.runs ∙ no_device;
        }

    module _ (input : List ℕ) (bytes : All (λ b. b < 256) input) where
      abbrev w : Sharing
      w = record { program = p; image = e; pace = pace; ranges = ranges; plan = plan }

      abbrev run : ℕ → Result ZcState Reason
      run m = machine_after (loaded_core e) input (shared_by ranges plan) m

      further : (k count : ℕ) (z z' : ZcState) → run k ≡ Ok z → turns (λ j. shared_by ranges plan (k + j)) count z ≡ Ok z' → run (k + count) ≡ Ok z'
      unfolding machine_after_with
      further k count z z' first rest =
          turns-add (shared_by ranges plan) k count (first_state (loaded_core e) input)
          ∙ ap (λ o. o >>= turns (λ j. shared_by ranges plan (k + j)) count) first ∙ rest

      -- ---- where the program is

      -- the machine after these commits is sound with a state of the program
      record Pair (commits : ℕ) (r : PlainState) : Type 0 where
        z : ZcState
        runs : run commits ≡ Ok z
        sound : Sound p Named e r.core z
        events : z.events ≡ map (event_in e.address) r.events
        none : z.devices ≡ []
        bare : r.devices ≡ []

      -- k steps of the stretch from r have been made, and more are left
      record Within (n : ℕ) (r : PlainState) (k : ℕ) (s : SharedState) : Type 0 where
        pair : Pair s.commits r
        steps : iterate (plain_turn p) k (begun s.commits r) ≡ Ok s.plain
        sum : k + s.left ≡ pace.span r.core.place
        more : 0 < s.left
        after : s.after ≡ s.commits + pace.weight r.core
        few : s.commits + 64 * k ≤ 64 * n + 3

      -- both have exited
      record Exited (s : SharedState) : Type 0 where
        z : ZcState
        runs : run s.commits ≡ Ok z
        over : Over p e s.plain.core z
        events : z.events ≡ map (event_in e.address) s.plain.events

      -- between two stretches, inside one, or after the exit
      data Reached (n : ℕ) (s : SharedState) : Type 0 where
        Between : Pair s.commits s.plain → s.left ≡ 0 → s.commits ≤ 64 * n + 3 → Reached n s
        Inside : (r : PlainState) (k : ℕ) → 0 < k → Within n r k s → Reached n s
        Ended : Exited s → s.commits ≤ 64 * n + 3 → Reached n s

      -- ---- one step

      -- inside a stretch there are no events, and the place isn't listed
      is_inside : (n : ℕ) (r : PlainState) (k : ℕ) (s : SharedState) → 0 < k → Within n r k s → IsInside e (begun s.commits r) s.plain
      is_inside n r k s some wi =
          let cs = cells_from ranges plan s.commits (pace.weight r.core) in
          let place = poked_place cs r in
          let sum = wi.sum in
          let more = wi.more in
          let short : k < pace.span r.core.place = omega (arith, sum, more) in
          law.inside k (begun s.commits r) s.plain some (subst (λ q. k < pace.span q) (sym place) short)
          (subst (λ q. IsSome (e.address q)) (sym place) (rw wi.pair.sound.place refl)) (poked_exit cs r ∙ wi.pair.sound.alike.running) wi.steps

      -- the last step of a stretch
      completed :
          (n : ℕ) (r : PlainState) (k : ℕ) (s : SharedState) (q : PlainState) → Within n r k s → s.left ≡ 1 → plain_turn p s.plain ≡ Ok q
          → Reached (suc n) (record { plain = q; commits = s.after; left = 0; after = s.after })
      completed n r k s q wi one turn =
          let sum = wi.sum in
          let few = wi.few in
          let span : pace.span r.core.place ≡ k + 1 = omega (arith, sum, one) in
          let weight = law.few r.core in
          let after = wi.after in
          let fewer : s.after ≤ 64 * suc n + 3 = omega (arith, few, span, weight, after) in
          let steps : iterate (plain_turn p) (pace.span r.core.place) (begun s.commits r) ≡ Ok q =
          ap (λ m. iterate (plain_turn p) m (begun s.commits r)) span ∙ iterate-add (plain_turn p) k 1 (begun s.commits r)
          ∙ ap (λ o. o >>= iterate (plain_turn p) 1) wi.steps ∙ iterate-one (plain_turn p) s.plain q turn in
          let came = stretch s.commits r q wi.pair.z wi.pair.sound wi.pair.events wi.pair.none wi.pair.bare steps in
          let kept : q.devices ≡ [] =
          turns_devices p (pace.span r.core.place) (begun s.commits r) q steps ∙ poked_devices (cells_from ranges plan s.commits (pace.weight r.core)) r ∙ wi.pair.bare in
          let runs : run s.after ≡ Ok came.after = ap run after ∙ further s.commits (pace.weight r.core) wi.pair.z came.after wi.pair.runs came.runs in
          ⊎_elim
          (λ so. Between (record { z = came.after; runs = runs; sound = so; events = came.events; none = came.none; bare = kept }) refl fewer)
          (λ over. Ended (record { z = came.after; runs = runs; over = over; events = came.events }) fewer)
          came.together

      step_on :
          (n : ℕ) (r : PlainState) (k : ℕ) (s : SharedState) (q : PlainState) → Within n r k s → plain_turn p s.plain ≡ Ok q → Reached (suc n) (after_step s q)
      step_on n r k s q wi turn = by (eqb s.left 1) refl
        where
          by :
              (b : Bool) → eqb s.left 1 ≡ b
              → Reached (suc n) (cond b (record { plain = q; commits = s.after; left = 0; after = s.after }) (record { plain = q; commits = s.commits; left = s.left - 1; after = s.after }))
          by true is = completed n r k s q wi (eqb-true s.left 1 is) turn
          by false not_last =
              let other = eqb-false s.left 1 not_last in
              let sum = wi.sum in
              let more = wi.more in
              let few = wi.few in
              Inside r (k + 1) (omega arith) (record {
                pair = wi.pair;
                steps = iterate-add (plain_turn p) k 1 (begun s.commits r) ∙ ap (λ o. o >>= iterate (plain_turn p) 1) wi.steps ∙ iterate-one (plain_turn p) s.plain q turn;
                sum = omega (arith, sum, more);
                more = omega (arith, more, other);
                after = wi.after;
                few = omega (arith, few);
              })

      -- a step within a stretch, of any state that is one
      go_on : (n : ℕ) (r : PlainState) (k : ℕ) (s s' : SharedState) → Within n r k s → step_within p s ≡ Ok s' → Reached (suc n) s'
      go_on n r k s s' wi h =
          let step = bind_ok (plain_turn p s.plain) (λ q. Ok (after_step s q)) s' h in
          let same = one_result (step_within p s) (after_step s step.0) s' (ap (λ o. o >>= (λ q. Ok (after_step s q))) step.1) h in
          subst (Reached (suc n)) same (step_on n r k s step.0 wi step.1)

      advance : (n : ℕ) (s s' : SharedState) → Reached n s → shared_step w s ≡ Ok s' → Reached (suc n) s'
      unfolding shared_step
      advance n s s' (Between pair left few) h =
          let b = stretch_begun w s in
          let running : is_some s.plain.core.exit ≡ false = ap is_some pair.sound.alike.running in
          let some = law.some s.plain.core.place in
          go_on n s.plain 0 b s'
          (record { pair = pair; steps = refl; sum = omega arith; more = some; after = refl; few = omega (arith, few) })
          (ap (λ x. step_within p x) (sym (cond-true (eqb s.left 0) b s (ap (λ k. eqb k 0) left))) ∙ sym (cond-false (is_some s.plain.core.exit) (Ok s) _ running) ∙ h)
      advance n s s' (Inside r k some wi) h =
          let running : is_some s.plain.core.exit ≡ false = ap is_some (is_inside n r k s some wi).running in
          let more = wi.more in
          go_on n r k s s' wi
          (ap (λ x. step_within p x) (sym (cond-false (eqb s.left 0) (stretch_begun w s) s (ne_eqb s.left 0 (λ is. omega (arith, is, more))))) ∙ sym (cond-false (is_some s.plain.core.exit) (Ok s) _ running) ∙ h)
      advance n s s' (Ended ex few) h =
          let exited : is_some s.plain.core.exit ≡ true = ap is_some ex.over.exited in
          subst (Reached (suc n)) (one_result (shared_step w s) s s' (cond-true (is_some s.plain.core.exit) (Ok s) _ exited) h) (Ended ex (omega (arith, few)))

      advance_all : (m n : ℕ) (s s' : SharedState) → Reached n s → iterate (shared_step w) m s ≡ Ok s' → Reached (n + m) s'
      advance_all zero n s s' at h = let same : s ≡ s' = cc in let sum : n ≡ n + 0 = omega arith in subst (Reached (n + 0)) same (subst (λ k. Reached k s) sum at)
      advance_all (suc m) n s s' at h =
          let step = bind_ok (shared_step w s) (iterate (shared_step w) m) s' h in
          let sum : suc n + m ≡ n + suc m = omega arith in
          subst (λ k. Reached k s') sum (advance_all m (suc n) step.0 s' (advance n s step.0 at step.1) step.2)

      -- ---- the start

      started : Reached 0 (shared_start w input)
      unfolding machine_after_with
      started =
          let lead = lead_of p e in
          let short : lead ≤ 3 = lead_few (e.address p.entry) e.entry in
          let first : PlainState = record { core = first_plain p input; events = []; devices = [] } in
          let z0 = first_state (loaded_core e) input in
          let entries_ok : AreEntries (shared_at plan) = λ k. All-filter (λ (x : SharedEntry). eqb x.entry.at k) IsEntry plan is in
          let setting : Setting = record { sp_set = true; devices = []; input = input } in
          let comes = law.start setting (loaded_core e) (loaded_first e) bytes (λ k. cuts_in (shared_at plan k)) (λ k. cuts_are (shared_at plan k) (entries_ok k)) in
          let cs = cells_of lie ranges within (shared_at plan) lead in
          let are = cells_are lie ranges within lead (shared_at plan) entries_ok in
          let from : FromLoad p e lead z0 = record { commits = refl; setting = setting; bytes = bytes; first = loaded_core e; starts = loaded_first e; loads = refl } in
          let runs = cells_last lie ranges within law.lead_cuts_apart law.lead_commits_apart lead (shared_at plan) [] z0 comes.after entries_ok (All-nil (IsWrite p)) (Starts lead z0 from) refl comes.runs in
          ⊎_elim
          (λ so. Between (record {
            z = all_written cs comes.after;
            runs = runs;
            sound = subst (λ ds. Sound p Named e (all_poked ds first).core (all_written cs comes.after)) (sym (from_start plan lead)) (written_sound lie cs first comes.after are so);
            events =
                events_kept e.address first.events (all_poked (cells_from ranges plan 0 lead) first).events (all_written cs comes.after).events (written_events cs comes.after ∙ comes.events)
                (poked_events (cells_from ranges plan 0 lead) first);
            none = written_devices cs comes.after ∙ zc_turns_devices (λ k. cuts_in (shared_at plan k)) lead z0 comes.after comes.runs;
            bare = poked_devices (cells_from ranges plan 0 lead) first;
          }) refl (omega (arith, short)))
          (λ over. absurd (let none : None ≡ Some over.status = over.exited in cc))
          comes.together

      -- ---- what is claimed

      sound_stands : (s : PlainCore) (z : ZcState) → Sound p Named e s z → Stands p e.address s z
      sound_stands s z so = record { registers = so.alike.registers; memory = so.alike.memory; input = so.input; place = λ _. so.place }

      claims : (n : ℕ) (s : SharedState) → Reached n s → KeepsPace w input n s
      claims n s (Between pair left few) =
          record { state = pair.z; runs = pair.runs; follows = record { events = pair.events; stands = λ _. sound_stands s.plain.core pair.z pair.sound }; few = few }
      claims n s (Inside r k some wi) =
          let way = is_inside n r k s some wi in
          let few = wi.few in
          record {
            state = wi.pair.z;
            runs = wi.pair.runs;
            follows = record {
              events =
                  events_kept e.address r.events s.plain.events wi.pair.z.events wi.pair.events
                  (way.events ∙ poked_events (cells_from ranges plan s.commits (pace.weight r.core)) r);
              stands = λ claim. absurd (⊎_elim (λ listed. false≢true (rw way.unlisted at listed)) (λ exited. false≢true (rw way.running at exited)) claim);
            };
            few = omega (arith, few);
          }
      claims n s (Ended ex few) = record { state = ex.z; runs = ex.runs; follows = record { events = ex.events; stands = λ _. ex.over.stands }; few = few }

      kept : (n : ℕ) (s : SharedState) → shared_after w input n ≡ Ok s → KeepsPace w input n s
      kept n s h = let sum : 0 + n ≡ n = omega arith in subst (λ k. KeepsPace w input k s) sum (claims (0 + n) s (advance_all n 0 (shared_start w input) s started h))

  pub shares_cells : SharesCells p e pace ranges
  shares_cells input plan n s bytes is h = kept plan is input bytes n s h
