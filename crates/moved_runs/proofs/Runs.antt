-- Runs under a map of places: step for step, stuck ones too, where the same items stand; and within twice the steps where jumps to
-- the same operations may stand in their place.
use Rattle.std.proofs.Common.{◌≡◌, ℕ, zero, suc, ◌+◌, ◌-◌, ◌*◌, ◌≤◌, List, [], ◌∷◌, ◌++◌, map, Result, Ok, Err, Option, Some, None, refl, sym, ap, ◌∙◌, subst, arith, ⊎_elim, inl, inr, replicate}
use Rattle.std.specs.Prelude.{◌⊎◌, All}
use Rattle.std.proofs.lemmas.List.{append-nil}
use Rattle.std.proofs.lemmas.List.Elements.{All-cons, All-nil, All-replicate}
use Rattle.zc_base.specs.declared.place.Place.{Place}
use Rattle.block_cut.specs.declared.item.Item.{Item}
use Rattle.rv_decode.specs.Memory.{Region, Data, Stack, blank, changed}
use Rattle.rv_decode.specs.Run.{◌>>=◌, iterate}
use Rattle.rv_decode.proofs.RunLaws.{bind_ok, iterate-add, iterate-one}
use Rattle.sym_machine.specs.declared.why.Why.{Why}
use Rattle.sym_machine.specs.declared.why.Why.TheVariants.{NoInstruction}
use Rattle.sym_machine.specs.declared.word.SymByte.{SymByte}
use Rattle.sym_machine.specs.declared.word.SymByte.TheVariants.{Undef}
use Rattle.sym_machine.specs.Words.{number_word, undef_word}
use Rattle.sym_machine.specs.Events.{SymEvent}
use Rattle.sym_machine.specs.Program.{Program, start_memory}
use Rattle.sym_machine.specs.Run.{plain_turn, program_after, recorded, program_after_with}
use Rattle.sym_machine.specs.State.{PlainCore, PlainState, first_plain}
use Rattle.sym_machine.specs.Step.{PlainStep, Went, Stuck, plain_step, undefined_below}
use Rattle.sym_machine.proofs.RunLaws.{all_stay, turn_devices, turns_devices}
use Rattle.sym_machine.proofs.StepLaws.{set_to, step_past_exit}
use Rattle.sym_machine.proofs.WordLaws.{number_back}
use Rattle.moved_runs.specs.Moved.{landing, moved_at, moved_byte, moved_result, moved_state, moved_step}
use Rattle.moved_runs.specs.Named.{IsNamedByte, IsNamedWord}
use Rattle.moved_runs.specs.Moves.{IsDead, IsMovedState, ItemLeads, KeepsItem, KeepsRuns, Moves, MovesExactly, MovesSharing, SameRuns, SharesItem, StartsQuiet}
use Rattle.moved_runs.proofs.Words.{number-named, undef-named}
use Rattle.moved_runs.proofs.Ends.{Fit, Quiet}
use Rattle.moved_runs.proofs.States.{NamedCore}
use Rattle.moved_runs.proofs.Steps.{at-went, dead-stops, keeps-step, leads-on, shares-jump, shares-step, step-at, turn_goes, turn_is, turn_ok}

-- ---- the start

module _ (K V : Place → Type 0) (M : Place → Place) (p p' : Program) (law : Moves K V M p p') where
  blank-moved : (n : ℕ) → map (moved_byte M) (replicate n Undef) ≡ replicate n Undef
  blank-moved zero = refl
  blank-moved (suc n) = ap (λ t. Undef ∷ t) (blank-moved n)

  pub first-moved : (input : List ℕ) → first_plain p' input ≡ moved_at M (M p.entry) (first_plain p input)
  unfolding blank
  first-moved input =
      let cells = law.bytes in
      let low = sym (blank-moved (p.map.stack_high - p.map.stack_low)) in
      (λ i. record {
        place = law.entry i;
        regs = number_word 0 ∷ undef_word ∷ number_word (law.map i).stack_high ∷ replicate 29 undef_word;
        memory = record { kind = Data; at = (law.map i).data_low; cells = cells i } ∷ record { kind = Stack; at = (law.map i).stack_low; cells = replicate ((law.map i).stack_high - (law.map i).stack_low) Undef } ∷ [];
        input = input;
        exit = None;
      })
      ∙ (λ i. record {
        place = M p.entry;
        regs = number_word 0 ∷ undef_word ∷ number_word p.map.stack_high ∷ replicate 29 undef_word;
        memory = record { kind = Data; at = p.map.data_low; cells = map (moved_byte M) p.bytes } ∷ record { kind = Stack; at = p.map.stack_low; cells = low i } ∷ [];
        input = input;
        exit = None;
      })

  pub first-fit : (input : List ℕ) → Fit K V (first_plain p input)
  unfolding blank
  first-fit input = record {
    named = record {
      regs = All-cons (IsNamedWord K) (number_word 0) (undef_word ∷ number_word p.map.stack_high ∷ replicate 29 undef_word) (number-named K 0) (All-cons (IsNamedWord K) undef_word (number_word p.map.stack_high ∷ replicate 29 undef_word) (undef-named K) (All-cons (IsNamedWord K) (number_word p.map.stack_high) (replicate 29 undef_word) (number-named K p.map.stack_high) (All-replicate (IsNamedWord K) 29 undef_word (undef-named K))));
      memory = All-cons (λ (r : Region SymByte). All (IsNamedByte K) r.cells) (record { kind = Data; at = p.map.data_low; cells = p.bytes }) (record { kind = Stack; at = p.map.stack_low; cells = replicate (p.map.stack_high - p.map.stack_low) Undef } ∷ []) law.named
          (All-cons (λ (r : Region SymByte). All (IsNamedByte K) r.cells) (record { kind = Stack; at = p.map.stack_low; cells = replicate (p.map.stack_high - p.map.stack_low) Undef }) [] (All-replicate (IsNamedByte K) (p.map.stack_high - p.map.stack_low) Undef tt) (All-nil (λ (r : Region SymByte). All (IsNamedByte K) r.cells)));
    };
    visits = λ _. law.visited;
  }

pub first-quiet : (p : Program) → StartsQuiet p → (input : List ℕ) → Quiet p.map (first_plain p input)
first-quiet p starts input =
    let is = number_back p.map.stack_high (let small = starts.below in omega (arith, small)) in
    let at = set_to p.map p.map.stack_high (first_plain p input) is starts.ordered (omega arith) in
    ap (λ mark. changed (undefined_below p.map mark) (start_memory p)) at.mark ∙ starts.quiet

-- ---- step for step

module _ (K V : Place → Type 0) (M : Place → Place) (p p' : Program) (exact : MovesExactly K V M p p') where
  lands : (s s' : PlainCore) → (s'.exit ≡ None) ⊎ (s'.place ≡ s.place) → landing M (M s.place) s'.exit s'.place ≡ M s'.place
  lands s s' (inl e) = ap (λ o. landing M (M s.place) o s'.place) e
  lands s s' (inr e) = by s'.exit
    where
      by : (o : Option ℕ) → landing M (M s.place) o s'.place ≡ M s'.place
      by None = refl
      by (Some status) = ap M (sym e)

  record Turned (r : PlainState) (o : Result PlainState (Place × Why)) : Type 0 where
    same : plain_turn p' (moved_state M r) ≡ moved_result M o
    fit : (r' : PlainState) → o ≡ Ok r' → Fit K V r'.core × (r'.devices ≡ r.devices)

  answered :
      (r : PlainState) (i : Item) (t : PlainStep) → r.devices ≡ [] → Fit K V r.core → r.core.exit ≡ None → p.item r.core.place ≡ Some i → plain_step p r.core ≡ t
      → Turned r (recorded t r)
  answered r i (Went s' events) none fit running here h =
      let k = exact.keeps r.core.place i (fit.visits running) here in
      let on = leads-on K V M p p' exact.moves r.core s' events i fit (fit.visits running) running here k.leads h in
      record {
        same = turn_is p' (moved_state M r) none
            ∙ ap (λ t. recorded t (moved_state M r)) (keeps-step K V M p p' exact.moves r.core i fit running here k ∙ ap (moved_step M (M r.core.place)) h)
            ∙ ap (λ q. Ok (record r { core = moved_at M q s'; events = r.events ++ events })) (lands r.core s' on.1);
        fit = λ r' e.
            let here : record r { core = s'; events = r.events ++ events } ≡ r' = cc in
            (subst (λ x. Fit K V x.core) here on.0, ap (λ x. x.devices) (sym here));
      }
  answered r i (Stuck why) none fit running here h =
      let k = exact.keeps r.core.place i (fit.visits running) here in
      record {
        same = turn_is p' (moved_state M r) none
            ∙ ap (λ t. recorded t (moved_state M r)) (keeps-step K V M p p' exact.moves r.core i fit running here k ∙ ap (moved_step M (M r.core.place)) h);
        fit = λ r' e. absurd cc;
      }

  turned : (r : PlainState) → r.devices ≡ [] → Fit K V r.core → Turned r (plain_turn p r)
  turned r none fit = subst (Turned r) (sym (turn_is p r none)) (by-exit r.core.exit refl)
    where
      by-item : r.core.exit ≡ None → (o : Option Item) → p.item r.core.place ≡ o → Turned r (recorded (plain_step p r.core) r)
      by-item running (Some i) here = answered r i (plain_step p r.core) none fit running here refl
      by-item running None here =
          let stuck = step-at p r.core None running here in
          subst (λ t. Turned r (recorded t r)) (sym stuck) (record {
            same = turn_is p' (moved_state M r) none ∙ ap (λ t. recorded t (moved_state M r)) (step-at p' (moved_at M (M r.core.place) r.core) None running (exact.nowhere r.core.place (fit.visits running) here));
            fit = λ r' e. absurd cc;
          })

      by-exit : (o : Option ℕ) → r.core.exit ≡ o → Turned r (recorded (plain_step p r.core) r)
      by-exit None running = by-item running (p.item r.core.place) refl
      by-exit (Some status) exited =
          let stays = step_past_exit [] p r.core status exited in
          subst (λ t. Turned r (recorded t r)) (sym stays) (record {
            same = turn_is p' (moved_state M r) none ∙ ap (λ t. recorded t (moved_state M r)) (step_past_exit [] p' (moved_at M (M r.core.place) r.core) status exited);
            fit = λ r' e.
                let here : record r { core = r.core; events = r.events ++ [] } ≡ r' = cc in
                (subst (λ x. Fit K V x.core) here fit, ap (λ x. x.devices) (sym here));
          })

  turns : (n : ℕ) (r : PlainState) → r.devices ≡ [] → Fit K V r.core → iterate (plain_turn p') n (moved_state M r) ≡ moved_result M (iterate (plain_turn p) n r)
  turns zero r none fit = refl
  turns (suc n) r none fit = let t = turned r none fit in ap (λ x. x >>= iterate (plain_turn p') n) t.same ∙ rest (plain_turn p r) t.fit (λ r' bare f. turns n r' bare f)
    where
      rest :
          (o : Result PlainState (Place × Why)) → ((r' : PlainState) → o ≡ Ok r' → Fit K V r'.core × (r'.devices ≡ r.devices))
          → ((r' : PlainState) → r'.devices ≡ [] → Fit K V r'.core → iterate (plain_turn p') n (moved_state M r') ≡ moved_result M (iterate (plain_turn p) n r'))
          → (moved_result M o >>= iterate (plain_turn p') n) ≡ moved_result M (o >>= iterate (plain_turn p) n)
      rest (Ok r') fit again = let f = fit r' refl in again r' (f.1 ∙ none) f.0
      rest (Err e) fit again = refl

  pub same-runs : SameRuns M p p'
  unfolding program_after_with
  same-runs input n =
      ap (λ s. iterate (plain_turn p') n (record { core = s; events = []; devices = [] })) (first-moved K V M p p' exact.moves input)
      ∙ turns n (record { core = first_plain p input; events = []; devices = [] }) refl (first-fit K V M p p' exact.moves input)

  fits : (n : ℕ) (r r' : PlainState) → r.devices ≡ [] → Fit K V r.core → iterate (plain_turn p) n r ≡ Ok r' → Fit K V r'.core
  fits zero r r' none fit h = let same : r ≡ r' = cc in subst (λ x. Fit K V x.core) same fit
  fits (suc n) r r' none fit h =
      let first = bind_ok (plain_turn p r) (iterate (plain_turn p) n) r' h in
      let turn = (turned r none fit).fit first.0 first.1 in
      fits n first.0 r' (turn.1 ∙ none) turn.0 first.2

  -- the places in the state that a run comes to are named
  pub after-named : (input : List ℕ) (n : ℕ) (r : PlainState) → program_after p input n ≡ Ok r → NamedCore K r.core
  unfolding program_after_with
  after-named input n r h =
      let fit = fits n (record { core = first_plain p input; events = []; devices = [] }) r refl (first-fit K V M p p' exact.moves input) h in
      fit.named

-- ---- within twice the steps

module _ (K V : Place → Type 0) (M : Place → Place) (p p' : Program) (shared : MovesSharing K V M p p') where
  pub record Onward (r' t : PlainState) : Type 0 where
    pub steps : ℕ
    pub few : steps ≤ 2
    pub after : PlainState
    pub runs : iterate (plain_turn p') steps t ≡ Ok after
    pub moved : IsMovedState M r' after
    pub fit : Fit K V r'.core
    pub quiet : Quiet p.map r'.core

  at-own-place : (r t : PlainState) → r.core.exit ≡ None → IsMovedState M r t → t ≡ moved_state M r
  at-own-place r t running h =
      let core : t.core ≡ moved_at M (M r.core.place) r.core = h.core ∙ ap (λ q. moved_at M q r.core) (h.place running) in
      let events = h.events in
      let devices = h.devices in
      λ i. record { core = core i; events = events i; devices = devices i }

  one-turn : (r r' : PlainState) → r.devices ≡ [] → Fit K V r.core → Quiet p.map r.core → r.core.exit ≡ None → plain_turn p r ≡ Ok r' → Onward r' (moved_state M r)
  one-turn r r' none fit quiet running h = at-item (p.item r.core.place) refl
    where
      s : PlainCore
      s = r.core

      t0 : PlainState
      t0 = moved_state M r

      turned2 : (events : List SymEvent) × (plain_step p r.core ≡ Went r'.core events) × (r'.events ≡ r.events ++ events) × (r'.devices ≡ r.devices)
      turned2 = turn_ok p r r' none h

      ends-moved : (q : Place) → IsMovedState M r' (record r { core = moved_at M (landing M q r'.core.exit r'.core.place) r'.core; events = r.events ++ turned2.0 })
      ends-moved q = record { core = refl; place = λ e. ap (λ o. landing M q o r'.core.place) e; events = sym turned2.2; devices = sym turned2.3 }

      keeps : (i : Item) → p.item s.place ≡ Some i → KeepsItem K V M p p' s.place i → Onward r' t0
      keeps i here k =
          let on = leads-on K V M p p' shared.moves s r'.core turned2.0 i fit (fit.visits running) running here k.leads turned2.1 in
          record {
            steps = 1;
            few = omega arith;
            after = record r { core = moved_at M (landing M (M s.place) r'.core.exit r'.core.place) r'.core; events = r.events ++ turned2.0 };
            runs = iterate-one (plain_turn p') _ _ (turn_goes p' t0 (moved_at M (landing M (M s.place) r'.core.exit r'.core.place) r'.core) turned2.0 none (keeps-step K V M p p' shared.moves s i fit running here k ∙ ap (moved_step M (M s.place)) turned2.1));
            moved = ends-moved (M s.place);
            fit = on.0;
            quiet = on.2;
          }

      shares : (i : Item) → p.item s.place ≡ Some i → SharesItem K M p p' s.place i → Onward r' t0
      shares i here k =
          let t1 : PlainState = record r { core = moved_at M k.host s } in
          let t2 : PlainState = record r { core = moved_at M (landing M k.host r'.core.exit r'.core.place) r'.core; events = r.events ++ turned2.0 } in
          let one : plain_turn p' t0 ≡ Ok t1 = turn_goes p' t0 (moved_at M k.host s) [] none (shares-jump K V M p p' shared.moves s i quiet running k) ∙ ap (λ e. Ok (record r { core = moved_at M k.host s; events = e })) (append-nil r.events) in
          let two : plain_turn p' t1 ≡ Ok t2 = turn_goes p' t1 t2.core turned2.0 none (shares-step K V M p p' shared.moves s i fit running here k ∙ ap (moved_step M k.host) turned2.1) in
          let leads : ItemLeads K V p s.place i = subst (ItemLeads K V p s.place) (sym k.is) k.leads in
          let on = leads-on K V M p p' shared.moves s r'.core turned2.0 i fit (fit.visits running) running here leads turned2.1 in
          record {
            steps = 2;
            few = omega arith;
            after = t2;
            runs = ap (λ x. x >>= iterate (plain_turn p') 1) one ∙ iterate-one (plain_turn p') t1 t2 two;
            moved = ends-moved k.host;
            fit = on.0;
            quiet = on.2;
          }

      dead : (i : Item) → p.item s.place ≡ Some i → IsDead i → Onward r' t0
      dead i here d = absurd
          (dead-stops i p s r'.core (p.next s.place) turned2.0 d (at-went p (Some i) s r'.core (p.next s.place) turned2.0 (sym (step-at p s (Some i) running here) ∙ turned2.1)))

      at-item : (o : Option Item) → p.item s.place ≡ o → Onward r' t0
      at-item None here = absurd (let e : Stuck NoInstruction ≡ Went r'.core turned2.0 = sym (step-at p s None running here) ∙ turned2.1 in cc)
      at-item (Some i) here = ⊎_elim (keeps i here) (λ rest. ⊎_elim (shares i here) (dead i here) rest) (shared.items s.place i (fit.visits running) here)

  abbrev Comes : ℕ → PlainState → PlainState → Type 0
  Comes n r' t = (m : ℕ) × (m ≤ 2 * n) × (t' : PlainState) × (iterate (plain_turn p') m t ≡ Ok t') × IsMovedState M r' t'

  all-turns : (n : ℕ) (r r' t : PlainState) → r.devices ≡ [] → Fit K V r.core → Quiet p.map r.core → IsMovedState M r t → iterate (plain_turn p) n r ≡ Ok r' → Comes n r' t
  all-turns zero r r' t none fit quiet moved h = let same : r ≡ r' = cc in (0, omega arith, t, refl, subst (λ x. IsMovedState M x t) same moved)
  all-turns (suc n) r r' t none fit quiet moved h = by-exit r.core.exit refl (λ r1 none1 fit1 quiet1 t1 moved1 rest. all-turns n r1 r' t1 none1 fit1 quiet1 moved1 rest)
    where
      by-exit :
          (o : Option ℕ) → r.core.exit ≡ o
          → ((r1 : PlainState) → r1.devices ≡ [] → Fit K V r1.core → Quiet p.map r1.core → (t1 : PlainState) → IsMovedState M r1 t1 → iterate (plain_turn p) n r1 ≡ Ok r' → Comes n r' t1)
          → Comes (suc n) r' t
      by-exit (Some status) exited again =
          let same = all_stay p (suc n) r r' status exited h in
          (0, omega arith, t, refl, record { core = moved.core ∙ ap (moved_at M t.core.place) (sym same.0); place = λ e. absurd (let x : None ≡ Some status = sym e ∙ ap (λ s. s.exit) same.0 ∙ exited in cc); events = moved.events ∙ sym same.1; devices = moved.devices ∙ sym (turns_devices p (suc n) r r' h) })
      by-exit None running again =
          let first = bind_ok (plain_turn p r) (iterate (plain_turn p) n) r' h in
          let start = at-own-place r t running moved in
          let one = one-turn r first.0 none fit quiet running first.1 in
          let rest = again first.0 (turn_devices p r first.0 first.1 ∙ none) one.fit one.quiet one.after one.moved first.2 in
          let few = one.few in (
            one.steps + rest.0,
            omega (arith, rest.1, few),
            rest.2,
            iterate-add (plain_turn p') one.steps rest.0 t ∙ ap (λ x. x >>= iterate (plain_turn p') rest.0) (ap (iterate (plain_turn p') one.steps) start ∙ one.runs) ∙ rest.3,
            rest.4,
          )

  pub keeps-runs : KeepsRuns M p p'
  unfolding program_after_with
  keeps-runs input n r h =
      let first : PlainState = record { core = first_plain p input; events = []; devices = [] } in
      all-turns n first r (record { core = first_plain p' input; events = []; devices = [] }) refl (first-fit K V M p p' shared.moves input) (first-quiet p shared.starts input)
      (record { core = first-moved K V M p p' shared.moves input ∙ ap (λ q. moved_at M q (first_plain p input)) (sym shared.moves.entry); place = λ _. shared.moves.entry; events = refl; devices = refl }) h

  fits-on : (n : ℕ) (r r' : PlainState) → r.devices ≡ [] → Fit K V r.core → Quiet p.map r.core → iterate (plain_turn p) n r ≡ Ok r' → Fit K V r'.core
  fits-on zero r r' none fit quiet h = let same : r ≡ r' = cc in subst (λ x. Fit K V x.core) same fit
  fits-on (suc n) r r' none fit quiet h = by-exit r.core.exit refl (λ r1 none1 fit1 quiet1 rest. fits-on n r1 r' none1 fit1 quiet1 rest)
    where
      by-exit :
          (o : Option ℕ) → r.core.exit ≡ o
          → ((r1 : PlainState) → r1.devices ≡ [] → Fit K V r1.core → Quiet p.map r1.core → iterate (plain_turn p) n r1 ≡ Ok r' → Fit K V r'.core) → Fit K V r'.core
      by-exit (Some status) exited again = let same = all_stay p (suc n) r r' status exited h in subst (Fit K V) (sym same.0) fit
      by-exit None running again =
          let first = bind_ok (plain_turn p r) (iterate (plain_turn p) n) r' h in
          let one = one-turn r first.0 none fit quiet running first.1 in
          again first.0 (turn_devices p r first.0 first.1 ∙ none) one.fit one.quiet first.2

  -- the places in the state that a run comes to are named
  pub sharing-named : (input : List ℕ) (n : ℕ) (r : PlainState) → program_after p input n ≡ Ok r → NamedCore K r.core
  unfolding program_after_with
  sharing-named input n r h =
      let fit = fits-on n (record { core = first_plain p input; events = []; devices = [] }) r refl (first-fit K V M p p' shared.moves input) (first-quiet p shared.starts input) h in
      fit.named
