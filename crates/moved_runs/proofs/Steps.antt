-- Steps of a program whose places are moved.
use Rattle.std.proofs.Common.{◌≡◌, ℕ, List, [], ◌++◌, Ok, Option, Some, None, Bool, true, false, cond, refl, sym, ap, ◌∙◌, subst, inl, inr}
use Rattle.std.specs.Prelude.{not, ◌&&◌, ◌⊎◌}
use Rattle.std.specs.Option.{option_map_or}
use Rattle.zc_base.specs.declared.mem_map.MemMap.{MemMap}
use Rattle.zc_base.specs.declared.place.Place.{Place}
use Rattle.rv_decode.specs.declared.instr.Instr.{Instr}
use Rattle.rv_decode.specs.declared.instr.Instr.TheVariants as instr
use Rattle.block_cut.specs.declared.item.Item.{Item}
use Rattle.block_cut.specs.declared.item.Item.TheVariants as item
use Rattle.rv_decode.specs.Memory.{changed}
use Rattle.sym_machine.specs.declared.why.Why.{Why}
use Rattle.sym_machine.specs.declared.why.Why.TheVariants.{NoInstruction, StackPointer}
use Rattle.sym_machine.specs.Change.{jump_does, op_does}
use Rattle.sym_machine.specs.Words.{code_of, sum_word}
use Rattle.sym_machine.specs.Events.{SymEvent}
use Rattle.sym_machine.specs.Program.{Program}
use Rattle.sym_machine.specs.Run.{plain_turn, recorded}
use Rattle.sym_machine.specs.State.{PlainCore, PlainState, reg_of}
use Rattle.sym_machine.specs.Step.{PlainStep, Went, Stuck, applied, ends, in_turn, is_set, item_step, needs_stack, plain_step, stack_mark, step_with, undefined_below}
use Rattle.sym_machine.proofs.StepLaws.{step_begun}
use Rattle.moved_runs.specs.Moved.{moved_at, moved_item, moved_memory, moved_step}
use Rattle.moved_runs.specs.Moves.{IsDead, IsReturn, ItemLeads, KeepsItem, Moves, OpReturns, SharesItem}
use Rattle.moved_runs.proofs.States.{below-moved, changed-moved}
use Rattle.moved_runs.proofs.Effects.{op-moved}
use Rattle.moved_runs.proofs.Expansions.{step-fit, step-moved}
use Rattle.moved_runs.proofs.Ends.{Fit, Quiet, applied-moved, ends-quiet, is_set-moved, mark-moved}

-- ---- steps and turns of any program

-- a step at an item, with the place after it: it is stuck if it needs sp to be set and sp isn't
abbrev pub step_at : Program → Option Item → PlainCore → Place → PlainStep
step_at p o s next = cond (needs_stack o && not (is_set p.map s)) (Stuck StackPointer) (item_step [] p.map p o s next)

-- a step that went wasn't stuck before
went-on : (b : Bool) (why : Why) (t : PlainStep) (s : PlainCore) (events : List SymEvent) → cond b (Stuck why) t ≡ Went s events → t ≡ Went s events
went-on true why t s events h = absurd cc
went-on false why t s events h = h

pub at-went : (p : Program) (o : Option Item) (s s' : PlainCore) (next : Place) (events : List SymEvent) → step_at p o s next ≡ Went s' events → item_step [] p.map p o s next ≡ Went s' events
at-went p o s s' next events h = went-on (needs_stack o && not (is_set p.map s)) StackPointer (item_step [] p.map p o s next) s' events h

pub recorded_ok :
    (t : PlainStep) (r r' : PlainState) → recorded t r ≡ Ok r' → (events : List SymEvent) × (t ≡ Went r'.core events) × (r'.events ≡ r.events ++ events) × (r'.devices ≡ r.devices)
recorded_ok (Went s events) r r' h =
    let same : record r { core = s; events = r.events ++ events } ≡ r' = cc in
    (events, ap (λ x. Went x.core events) same, ap (λ x. x.events) (sym same), ap (λ x. x.devices) (sym same))
recorded_ok (Stuck w) r r' h = absurd cc

module _ (p : Program) where
  -- without devices a turn is the step
  pub turn_is : (r : PlainState) → r.devices ≡ [] → plain_turn p r ≡ recorded (plain_step p r.core) r
  unfolding plain_turn
  turn_is r none = ap (λ ds. recorded (step_with ds p r.core) r) none

  pub turn_ok :
      (r r' : PlainState) → r.devices ≡ [] → plain_turn p r ≡ Ok r'
      → (events : List SymEvent) × (plain_step p r.core ≡ Went r'.core events) × (r'.events ≡ r.events ++ events) × (r'.devices ≡ r.devices)
  turn_ok r r' none h = recorded_ok (plain_step p r.core) r r' (sym (turn_is r none) ∙ h)

  pub turn_goes :
      (r : PlainState) (s : PlainCore) (events : List SymEvent) → r.devices ≡ [] → plain_step p r.core ≡ Went s events
      → plain_turn p r ≡ Ok (record r { core = s; events = r.events ++ events })
  turn_goes r s events none h = turn_is r none ∙ ap (λ t. recorded t r) h

  -- a step at a place, by what stands there
  pub step-at : (s : PlainCore) (o : Option Item) → s.exit ≡ None → p.item s.place ≡ o → plain_step p s ≡ step_at p o s (p.next s.place)
  step-at s o running here = step_begun [] p s running ∙ ap (λ i. step_at p i s (p.next s.place)) here

pub dead-stops : (i : Item) (p : Program) (s s' : PlainCore) (next : Place) (events : List SymEvent) → IsDead i → item_step [] p.map p (Some i) s next ≡ Went s' events → ⊥
dead-stops (item.Word t) p s s' next events d h = cc
dead-stops (item.Raw w) p s s' next events d h = cc
dead-stops (item.RawShort x) p s s' next events d h =
    let e : Stuck NoInstruction ≡ Went s' events = sym (ap (λ o. option_map_or (λ is. in_turn p.map is next s) o (Stuck NoInstruction)) d) ∙ h in cc
dead-stops (item.RawPair v w) p s s' next events d h = cc
dead-stops i p s s' next events d h = absurd d

-- a jump that keeps no link does nothing but go
jump-goes : (host : Place) (p : Program) (s : PlainCore) (next : Place) → Quiet p.map s → s.exit ≡ None → item_step [] p.map p (Some (item.Jump 0 host)) s next ≡ Went (record s { place = host }) []
jump-goes host p s next quiet running =
    ap (λ o. ends p.map (is_set p.map s) (record { place = host; regs = s.regs; memory = s.memory; input = s.input; exit = o }) []) (sym running)
    ∙ ends-quiet p.map (record s { place = host }) [] quiet

-- a return does the same whatever the next place
return-free : (i : Item) → IsReturn i → (m : MemMap) (p : Program) (s : PlainCore) (next other : Place) → item_step [] m p (Some i) s next ≡ item_step [] m p (Some i) s other
return-free (item.Op i) e m p s next other = op i e
  where
    at : (o : Option Place) → applied m s (jump_does o 0 next) ≡ applied m s (jump_does o 0 other)
    at None = refl
    at (Some q) = refl

    op : (i : Instr) → OpReturns i → applied m s (op_does i s next) ≡ applied m s (op_does i s other)
    op (instr.Jalr rd base imm) e =
        let w = sum_word (reg_of s base) imm in
        subst (λ rd. applied m s (jump_does (code_of w) rd next) ≡ applied m s (jump_does (code_of w) rd other)) (sym e) (at (code_of w))
    op i e = absurd e
return-free i e m p s next other = absurd e

-- what needs sp to be set does so wherever its places are
needs-moved : (M : Place → Place) (i : Item) → needs_stack (Some (moved_item M i)) ≡ needs_stack (Some i)
needs-moved M (item.Op i) = refl
needs-moved M (item.Hi i t) = refl
needs-moved M (item.Lo i t) = refl
needs-moved M (item.PcHi i t) = refl
needs-moved M (item.PcLo i q) = refl
needs-moved M (item.Branch op first second to) = refl
needs-moved M (item.Jump rd to) = refl
needs-moved M (item.Call rd temp to) = refl
needs-moved M (item.Align n) = refl
needs-moved M (item.Word t) = refl
needs-moved M (item.Raw w) = refl
needs-moved M (item.RawShort h) = refl
needs-moved M (item.RawPair v w) = refl

module _ (K V : Place → Type 0) (M : Place → Place) (p p' : Program) (law : Moves K V M p p') where
  onward-free : (i : Item) (at q : Place) (t : PlainCore) → (p'.next at ≡ M (p.next q)) ⊎ IsReturn i → step_at p' (Some i) t (p'.next at) ≡ step_at p' (Some i) t (M (p.next q))
  onward-free i at q t (inl e) = ap (step_at p' (Some i) t) e
  onward-free i at q t (inr r) =
      ap (cond (needs_stack (Some i) && not (is_set p'.map t)) (Stuck StackPointer)) (return-free i r p'.map p' t (p'.next at) (M (p.next q)))

  -- a step at an item is the moved one if it is so once sp is found set
  at-moved :
      (i i' : Item) (q : Place) (s : PlainCore) (next : Place) → needs_stack (Some i') ≡ needs_stack (Some i)
      → item_step [] p.map p' (Some i') (moved_at M q s) (M next) ≡ moved_step M q (item_step [] p.map p (Some i) s next)
      → step_at p' (Some i') (moved_at M q s) (M next) ≡ moved_step M q (step_at p (Some i) s next)
  at-moved i i' q s next needs same =
      let set = is_set-moved M p.map q s in
      ap (λ m. cond (needs_stack (Some i') && not (is_set m (moved_at M q s))) (Stuck StackPointer) (item_step [] m p' (Some i') (moved_at M q s) (M next))) law.map
      ∙ (λ j. cond (needs j && not (set j)) (Stuck StackPointer) (same j))
      ∙ either (needs_stack (Some i) && not (is_set p.map s))
    where
      either :
          (b : Bool)
          → cond b (Stuck StackPointer) (moved_step M q (item_step [] p.map p (Some i) s next)) ≡ moved_step M q (cond b (Stuck StackPointer) (item_step [] p.map p (Some i) s next))
      either true = refl
      either false = refl

  return-moved : {A : Type 0} (i : Item) → A ⊎ IsReturn i → A ⊎ IsReturn (moved_item M i)
  return-moved i (inl a) = inl a
  return-moved (item.Op i) (inr r) = inr r
  return-moved i (inr r) = absurd r

  quiet-moved : (q : Place) (s : PlainCore) → Quiet p.map s → Quiet p'.map (moved_at M q s)
  quiet-moved q s z = subst (λ m. Quiet m (moved_at M q s)) (sym law.map) here
    where
      mark : ℕ
      mark = stack_mark p.map s

      here : Quiet p.map (moved_at M q s)
      here =
          ap (λ n. changed (undefined_below p.map n) (moved_memory M s.memory)) (mark-moved M p.map q s)
          ∙ changed-moved M (undefined_below p.map mark) (undefined_below p.map mark) (below-moved M p.map mark) s.memory ∙ ap (moved_memory M) z

  -- a step where the same item stands, one that gets stuck too
  pub keeps-step : (s : PlainCore) (i : Item) → Fit K V s → s.exit ≡ None → p.item s.place ≡ Some i → KeepsItem K V M p p' s.place i → plain_step p' (moved_at M (M s.place) s) ≡ moved_step M (M s.place) (plain_step p s)
  keeps-step s i fit running here k =
      let t = moved_at M (M s.place) s in
      step-at p' t (Some (moved_item M i)) running k.there
      ∙ onward-free (moved_item M i) (M s.place) s.place t (return-moved i k.onward)
      ∙ at-moved i (moved_item M i) (M s.place) s (p.next s.place) (needs-moved M i)
      (step-moved K V M p p' law p.map s fit.named running i (law.follows s.place i (fit.visits running) here) k.leads k.pc)
      ∙ ap (moved_step M (M s.place)) (sym (step-at p s (Some i) running here))

  -- where a jump stands in place of an operation: the jump, and then the same operation
  pub shares-jump : (s : PlainCore) (i : Item) → Quiet p.map s → s.exit ≡ None → (k : SharesItem K M p p' s.place i) → plain_step p' (moved_at M (M s.place) s) ≡ Went (moved_at M k.host s) []
  shares-jump s i quiet running k =
      let t = moved_at M (M s.place) s in
      step-at p' t (Some (item.Jump 0 k.host)) running k.jump ∙ jump-goes k.host p' t (p'.next (M s.place)) (quiet-moved (M s.place) s quiet) running

  pub shares-step : (s : PlainCore) (i : Item) → Fit K V s → s.exit ≡ None → p.item s.place ≡ Some i → (k : SharesItem K M p p' s.place i) → plain_step p' (moved_at M k.host s) ≡ moved_step M k.host (plain_step p s)
  shares-step s i fit running here k =
      let t = moved_at M k.host s in
      step-at p' t (Some (item.Op k.op)) running k.same
      ∙ onward-free (item.Op k.op) k.host s.place t (subst (λ x. (p'.next k.host ≡ M (p.next s.place)) ⊎ IsReturn x) k.is k.onward)
      ∙ at-moved (item.Op k.op) (item.Op k.op) k.host s (p.next s.place) refl
      (ap (applied p.map t) (op-moved K V M p p' law k.host k.op s (p.next s.place) fit.named) ∙ applied-moved M p.map k.host s (op_does k.op s (p.next s.place)))
      ∙ ap (moved_step M k.host) (ap (λ x. step_at p (Some x) s (p.next s.place)) (sym k.is) ∙ sym (step-at p s (Some i) running here))

  -- what a step leads to
  pub leads-on : (s s' : PlainCore) (events : List SymEvent) (i : Item) → Fit K V s → V s.place → s.exit ≡ None → p.item s.place ≡ Some i → ItemLeads K V p s.place i → plain_step p s ≡ Went s' events → Fit K V s' × ((s'.exit ≡ None) ⊎ (s'.place ≡ s.place)) × Quiet p.map s'
  leads-on s s' events i fit v running here leads h =
      step-fit K V M p p' law p.map s fit.named running i s' events (law.follows s.place i v here) leads
      (at-went p (Some i) s s' (p.next s.place) events (sym (step-at p s (Some i) running here) ∙ h))
