-- The induction over the number of steps: what keeps step with the program follows it under every plan. The number of commits is
-- taken from the program's run alone, before any plan is named. A run that ends inside a stretch has made no commit of that stretch,
-- so no interrupt of it either, and only the events are claimed.
use Rattle.std.proofs.Common.{◌≡◌, ℕ, zero, suc, ◌+◌, ◌-◌, ◌*◌, ◌<◌, ◌≤◌, List, [], map, Bool, true, false, cond, Option, Some, None, Ok, Err, Result, refl, sym, ap, ◌∙◌, subst, inl, inr, ⊎_elim, arith, eqb, ltb}
use Rattle.std.specs.Prelude.{◌⊎◌, IsSome}
use Rattle.std.proofs.lemmas.List.Elements.{All-nil}
use Rattle.std.proofs.lemmas.Bool.{false≢true, ltb-false, ltb-true}
use Rattle.zc_base.specs.declared.place.Place.{Place}
use Rattle.interrupt_plan.specs.Plan.{AreInterrupts, Interrupt, interrupts_at}
use Rattle.interrupt_plan.proofs.PlanLaws.{interrupts_at-bytes}
use Rattle.rv_decode.specs.Devices.{AreOutside, IsOutside}
use Rattle.rv_decode.specs.Run.{◌>>=◌, iterate}
use Rattle.rv_decode.specs.State.{ZcState}
use Rattle.rv_decode.proofs.RunLaws.{bind_ok, iterate-add}
use Rattle.psabi_sym.specs.Inputs.{parsed}
use Rattle.sym_machine.specs.declared.why.Why.{Why}
use Rattle.sym_machine.specs.Events.{event_in}
use Rattle.sym_machine.specs.Objects.{program_of}
use Rattle.sym_machine.specs.Program.{Program}
use Rattle.sym_machine.specs.Run.{plain_turn, program_after_with}
use Rattle.sym_machine.specs.State.{PlainCore, PlainState, start_plain}
use Rattle.sym_machine.proofs.RunLaws.{all_stay, turns_devices}
use Rattle.zc_machine.specs.Run.{first_state_with, zc_turns, machine_after_with}
use Rattle.zc_machine.proofs.TurnLaws.{zc_turns-add, zc_turns_devices}
use Rattle.zc_link.specs.Image.{Image, image_in, loaded_core}
use Rattle.zc_link.specs.Preserves.{Follows, FollowsAlways, FollowsWithin, Preserves, aligns_of}
use Rattle.zc_link.specs.Pace.{lead_from, lead_of, Pace, pace_of}
use Rattle.zc_link.specs.IsSimulation.{IsPaced, IsSimulation}
use Rattle.moved_runs.specs.Leads.{IsNamed}
use Rattle.zc_link.specs.Sound.{Sound, Together}
use Rattle.zc_link.specs.Stands.{Stands}
use Rattle.zc_link.specs.TextLayout.{TextLayout, stretch_in}
use Rattle.zc_link.proofs.EventLaws.{events_kept}
use Rattle.zc_link.proofs.Start.{loaded_first}

-- ---- what is known at the ends

together_stands : (p : Program) (Named : Place → Type 0) (e : Image) (s : PlainCore) (z : ZcState) → Together p Named e s z → Stands p e.address s z
together_stands p Named e s z (inl so) = record { registers = so.alike.registers; memory = so.alike.memory; input = so.input; place = λ _. so.place }
together_stands p Named e s z (inr over) = over.stands

sound_listed : (p : Program) (Named : Place → Type 0) (e : Image) (s : PlainCore) (z : ZcState) → Sound p Named e s z → IsSome (e.address s.place)
sound_listed p Named e s z so = rw so.place refl

-- an image that starts at the program's start has no commits before it, and another three
lead_few : (o : Option ℕ) (entry : ℕ) → lead_from o entry ≤ 3
lead_few None entry = omega arith
lead_few (Some start) entry = either (eqb start entry)
  where
    either : (b : Bool) → cond b 0 3 ≤ 3
    either true = omega arith
    either false = omega arith

-- ---- commits

module _ (p : Program) (pace : Pace) where
  -- the commits of a stretch and of what follows it
  abbrev with_rest : (ℕ → PlainState → ℕ) → ℕ → PlainState → Result PlainState (Place × Why) → ℕ
  with_rest more n r (Ok r1) = pace.weight r.core + more (n - pace.span r.core.place) r1
  with_rest more n r (Err why) = 0

  -- none after the exit, nor if the steps end inside the stretch
  abbrev counted : (ℕ → PlainState → ℕ) → ℕ → PlainState → Option ℕ → Bool → ℕ
  counted more n r (Some status) within = 0
  counted more n r None true = 0
  counted more n r None false = with_rest more n r (iterate (plain_turn p) (pace.span r.core.place) r)

  -- those of n steps from a state on
  walked : ℕ → ℕ → PlainState → ℕ
  walked zero n r = 0
  walked (suc fuel) n r = counted (walked fuel) n r r.core.exit (ltb n (pace.span r.core.place))

  walked_rises : (f g n k : ℕ) (r : PlainState) → f ≤ g → n ≤ k → walked f n r ≤ walked g k r
  unfolding walked
  walked_rises zero g n k r le few = omega arith
  walked_rises (suc f) zero n k r le few = absurd (omega (arith, le))
  walked_rises (suc f) (suc g) n k r le few =
      by (λ r1. walked_rises f g (n - pace.span r.core.place) (k - pace.span r.core.place) r1 (omega (arith, le)) (omega (arith, few)))
      r.core.exit (ltb n (pace.span r.core.place)) (ltb k (pace.span r.core.place)) refl refl
    where
      Later : Type 0
      Later = (r1 : PlainState) → walked f (n - pace.span r.core.place) r1 ≤ walked g (k - pace.span r.core.place) r1

      rest : Later → (o : Result PlainState (Place × Why)) → with_rest (walked f) n r o ≤ with_rest (walked g) k r o
      rest later (Ok r1) = let more = later r1 in omega (arith, more)
      rest later (Err why) = omega arith

      by :
          Later → (e : Option ℕ) (b c : Bool) → ltb n (pace.span r.core.place) ≡ b → ltb k (pace.span r.core.place) ≡ c
          → counted (walked f) n r e b ≤ counted (walked g) k r e c
      by later (Some status) b c at_n at_k = omega arith
      by later None true c at_n at_k = omega arith
      by later None false true at_n at_k =
          absurd (omega (arith, ltb-true k (pace.span r.core.place) at_k, ltb-false n (pace.span r.core.place) at_n, few))
      by later None false false at_n at_k = rest later (iterate (plain_turn p) (pace.span r.core.place) r)

  walked_few : ((s : PlainCore) → pace.weight s ≤ 64 * pace.span s.place) → (f n : ℕ) (r : PlainState) → walked f n r ≤ 64 * n
  unfolding walked
  walked_few few zero n r = omega arith
  walked_few few (suc f) n r =
      by (λ r1. walked_few few f (n - pace.span r.core.place) r1) r.core.exit (ltb n (pace.span r.core.place)) refl
    where
      Later : Type 0
      Later = (r1 : PlainState) → walked f (n - pace.span r.core.place) r1 ≤ 64 * (n - pace.span r.core.place)

      rest : Later → pace.span r.core.place ≤ n → (o : Result PlainState (Place × Why)) → with_rest (walked f) n r o ≤ 64 * n
      rest later enough (Ok r1) = let more = later r1 in let here = few r.core in omega (arith, more, here, enough)
      rest later enough (Err why) = omega arith

      by : Later → (e : Option ℕ) (b : Bool) → ltb n (pace.span r.core.place) ≡ b → counted (walked f) n r e b ≤ 64 * n
      by later (Some status) b at = omega arith
      by later None true at = omega arith
      by later None false at = rest later (ltb-false n (pace.span r.core.place) at) (iterate (plain_turn p) (pace.span r.core.place) r)

-- a product with a sum
times_more : (x w y : ℕ) → 0 < w → x * y + x ≤ x * (w + y)
times_more x w y some =
    let all : x * (w + y) ≡ x * y + x + x * (w - 1) = (let sum : w + y ≡ y + 1 + (w - 1) = omega (arith, some) in ap (λ k. x * k) sum ∙ spread x y (w - 1)) in
    omega (arith, all)
  where
    spread : (x y v : ℕ) → x * (y + 1 + v) ≡ x * y + x + x * v
    spread x y v = grind arith

times_rises : (x y v : ℕ) → x * y ≤ x * (v + y)
times_rises x y zero = omega arith
times_rises x y (suc v) = let more = times_more x (suc v) y (omega arith) in omega (arith, more)

-- ---- the induction

module _ (p : Program) (Named : Place → Type 0) (e : Image) (pace : Pace) (law : IsSimulation p Named e pace) (aligns : ℕ) (paced : IsPaced p pace aligns) where
  -- what m commits come to with these interrupts
  record Ran (cuts : ℕ → List Interrupt) (m : ℕ) (r : PlainState) (z : ZcState) : Type 0 where
    after : ZcState
    runs : zc_turns cuts m z ≡ Ok after
    follows : Follows p e r after

  -- n steps of the program are m commits, the same number for all interrupts and all states that belong together; and these aren't
  -- too few
  record Runs (m n : ℕ) (r r' : PlainState) : Type 0 where
    ran :
        (cuts : ℕ → List Interrupt) → AreInterrupts cuts → (z : ZcState) → Together p Named e r.core z → z.events ≡ map (event_in e.address) r.events
        → z.devices ≡ r.devices → AreOutside p.map r.devices → Ran cuts m r' z
    goes_on : IsSome r'.core.exit ⊎ (n ≤ (aligns + 16) * m + paced.ahead r.core.place + 15)

  -- no commit is made: the program has exited, or has made no step
  waits : (n : ℕ) (r r' : PlainState) → r'.core ≡ r.core → r'.events ≡ r.events → IsSome r'.core.exit ⊎ (n ≤ 15) → Runs 0 n r r'
  waits n r r' core events few = record {
    ran = λ cuts are z t same devices outside. record {
      after = z;
      runs = refl;
      follows = record { events = events_kept e.address r.events r'.events z.events same events; stands = λ _. subst (λ s. Stands p e.address s z) (sym core) (together_stands p Named e r.core z t) };
    };
    goes_on = ⊎_elim (λ exited. inl exited) (λ (small : n ≤ 15). inr (omega (arith, small))) few;
  }

  -- nor if it is inside a stretch
  is_inside : (n : ℕ) (r r' : PlainState) → r.core.exit ≡ None → 0 < n → n < pace.span r.core.place → iterate (plain_turn p) n r ≡ Ok r' → Runs 0 n r r'
  is_inside n r r' running some within h = record {
    ran = λ cuts are z t same devices outside. ⊎_elim
        (λ so.
        let way = law.inside n r r' some within (sound_listed p Named e r.core z so) running h in
        record {
          after = z;
          runs = refl;
          follows = record { events = events_kept e.address r.events r'.events z.events same way.events; stands = λ claim. absurd (no_claim r' way.unlisted way.running claim) };
        })
        (λ over. absurd (let x : None ≡ Some over.status = sym running ∙ over.exited in cc))
        t;
    goes_on = inr (let short = paced.short r.core.place in omega (arith, short, within));
  }
    where
      no_claim : (r' : PlainState) → e.address r'.core.place ≡ None → r'.core.exit ≡ None → IsSome (e.address r'.core.place) ⊎ IsSome r'.core.exit → ⊥
      no_claim r' unlisted running (inl listed) = false≢true (rw unlisted at listed)
      no_claim r' unlisted running (inr exited) = false≢true (rw running at exited)

  -- a piece's steps, and the rest
  then_rest :
      (n k m : ℕ) (r r1 r' : PlainState) → n ≡ pace.span r.core.place + k → r.core.exit ≡ None
      → iterate (plain_turn p) (pace.span r.core.place) r ≡ Ok r1 → Runs m k r1 r' → Runs (pace.weight r.core + m) n r r'
  then_rest n k m r r1 r' sum running first rest =
      let weight = pace.weight r.core in record {
        ran = λ cuts are z t same devices outside. ⊎_elim
            (λ so.
            let later : ℕ → List Interrupt = λ j. cuts (weight + j) in
            let a = law.step r r1 first cuts are z so same devices outside in
            let left = turns_devices p (pace.span r.core.place) r r1 first in
            let b = rest.ran later (λ j. are (weight + j)) a.after a.together a.events
            (zc_turns_devices cuts weight z a.after a.runs ∙ devices ∙ sym left) (subst (AreOutside p.map) (sym left) outside) in
            record { after = b.after; runs = zc_turns-add cuts weight m z ∙ ap (λ x. x >>= zc_turns later m) a.runs ∙ b.runs; follows = b.follows })
            (λ over. absurd (let x : None ≡ Some over.status = sym running ∙ over.exited in cc))
            t;
        goes_on = ⊎_elim (λ exited. inl exited) (λ few. inr (enough few (paced.moves r r1 running first))) rest.goes_on;
      }
    where
      enough :
          k ≤ (aligns + 16) * m + paced.ahead r1.core.place + 15
          → (0 < pace.weight r.core) ⊎ ((pace.span r.core.place ≡ 1) × (paced.ahead r1.core.place < paced.ahead r.core.place))
          → n ≤ (aligns + 16) * (pace.weight r.core + m) + paced.ahead r.core.place + 15
      enough few (inl some) =
          let more = times_more (aligns + 16) (pace.weight r.core) m some in
          let short = paced.short r.core.place in
          let ahead = paced.few r1.core.place in
          omega (arith, more, short, ahead, few, sum)
      enough few (inr none) =
          let more = times_rises (aligns + 16) m (pace.weight r.core) in
          omega (arith, more, few, sum, none.0, none.1)

  -- by the exit, and by where the stretch ends
  some_steps :
      (fuel n : ℕ) (r r' : PlainState) → n ≤ suc fuel → iterate (plain_turn p) n r ≡ Ok r'
      → ((k : ℕ) (r1 : PlainState) → k ≤ fuel → iterate (plain_turn p) k r1 ≡ Ok r' → Runs (walked p pace fuel k r1) k r1 r')
      → (o : Option ℕ) → r.core.exit ≡ o → (b : Bool) → ltb n (pace.span r.core.place) ≡ b → Runs (counted p pace (walked p pace fuel) n r o b) n r r'
  some_steps fuel n r r' within h again (Some status) exited b at =
      let same = all_stay p n r r' status exited h in
      waits n r r' same.0 same.1 (inl (rw (same.0, exited) refl))
  some_steps fuel zero r r' within h again None running true at =
      let same : r ≡ r' = cc in waits 0 r r' (ap (λ x. x.core) (sym same)) (ap (λ x. x.events) (sym same)) (inr (omega arith))
  some_steps fuel (suc n) r r' within h again None running true at = is_inside (suc n) r r' running (omega arith) (ltb-true (suc n) (pace.span r.core.place) at) h
  some_steps fuel n r r' within h again None running false at =
      let some = law.some r.core.place in
      let span = pace.span r.core.place in
      let outer = ltb-false n span at in
      let sum : n ≡ span + (n - span) = omega (arith, outer) in
      let split : iterate (plain_turn p) (span + (n - span)) r ≡ Ok r' = ap (λ k. iterate (plain_turn p) k r) (sym sum) ∙ h in
      let both = sym (iterate-add (plain_turn p) span (n - span) r) ∙ split in
      let parts = bind_ok (iterate (plain_turn p) span r) (iterate (plain_turn p) (n - span)) r' both in
      subst (λ x. Runs (with_rest p pace (walked p pace fuel) n r x) n r r') (sym parts.1)
      (then_rest n (n - span) (walked p pace fuel (n - span) parts.0) r parts.0 r' sum running parts.1 (again (n - span) parts.0 (omega (arith, some, outer, within)) parts.2))

  all_steps : (fuel n : ℕ) (r r' : PlainState) → n ≤ fuel → iterate (plain_turn p) n r ≡ Ok r' → Runs (walked p pace fuel n r) n r r'
  unfolding walked
  all_steps zero zero r r' within h = let same : r ≡ r' = cc in waits 0 r r' (ap (λ x. x.core) (sym same)) (ap (λ x. x.events) (sym same)) (inr (omega arith))
  all_steps zero (suc n) r r' within h = absurd (omega (arith, within))
  all_steps (suc fuel) n r r' within h = some_steps fuel n r r' within h (λ k r1 le g. all_steps fuel k r1 r' le g) r.core.exit refl (ltb n (pace.span r.core.place)) refl

  pub follows : FollowsAlways p aligns e
  unfolding program_after_with machine_after_with
  follows w outside bytes =
      let lead = lead_of p e in
      let short : lead ≤ 3 = lead_few (e.address p.entry) e.entry in
      let start : PlainState = record { core = start_plain w.sp_set p w.input; events = []; devices = w.devices } in
      record {
        commits = λ n. lead + walked p pace n n start;
        follows = λ n s h first is plan is_plan.
            let all = all_steps n n start s (omega arith) h in
            let m = walked p pace n n start in
            let cuts = interrupts_at plan in
            let are = interrupts_at-bytes plan is_plan in
            let later : ℕ → List Interrupt = λ j. cuts (lead + j) in
            let a = law.start w first is bytes cuts are in
            let b = all.ran later (λ j. are (lead + j)) a.after a.together a.events
            (zc_turns_devices cuts lead (first_state_with first w.devices w.input) a.after a.runs) outside in
            (b.after, zc_turns-add cuts lead m (first_state_with first w.devices w.input) ∙ ap (λ x. x >>= zc_turns later m) a.runs ∙ b.runs, b.follows);
        rises = λ n k le. let more = walked_rises p pace n k n k start le le in omega (arith, more);
        goes_on = λ n s h. ⊎_elim
            (λ exited. inl exited)
            (λ few. inr (
            let ahead = paced.few start.core.place in
            let more = times_more (aligns + 16) 1 (lead + walked p pace n n start) (omega arith) in
            let rises = times_rises (aligns + 16) (walked p pace n n start) lead in
            let turned : (aligns + 16) * (lead + walked p pace n n start + 1) ≡ (aligns + 16) * (1 + (lead + walked p pace n n start)) = ap (λ k. (aligns + 16) * k) (omega arith) in
            omega (arith, few, ahead, more, rises, turned)))
            (all_steps n n start s (omega arith) h).goes_on;
        at_most = λ n. let few = walked_few p pace law.few n n start in omega (arith, few, short);
      }

-- without devices, from the state that is loaded, where sp is set
pub without_devices : (p : Program) (aligns : ℕ) (e : Image) → FollowsAlways p aligns e → FollowsWithin 64 p e
without_devices p aligns e always input n s bytes runs =
    let all = always (record { sp_set = true; devices = []; input = input }) (All-nil (IsOutside p.map)) bytes in
    (all.commits n, all.at_most n, λ plan is_plan. all.follows n s runs (loaded_core e) (loaded_first e) plan is_plan)

-- ---- files

-- a file that does the steps of the objects' program preserves it
pub preserves :
    (L : TextLayout) (elf : List ℕ) (e : Image) → image_in elf L.inputs.map ≡ Some e
    → IsSimulation (program_of (parsed L.inputs)) (IsNamed (parsed L.inputs)) e (pace_of (program_of (parsed L.inputs)) (stretch_in L))
    → IsPaced (program_of (parsed L.inputs)) (pace_of (program_of (parsed L.inputs)) (stretch_in L)) (aligns_of (parsed L.inputs)) → Preserves L.inputs elf
preserves L elf e read steps paced =
    let inputs = parsed L.inputs in
    record { image = e; read = read; follows = follows (program_of inputs) (IsNamed inputs) e (pace_of (program_of inputs) (stretch_in L)) steps (aligns_of inputs) paced }
