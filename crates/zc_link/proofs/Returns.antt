-- Pops, whatever their end: from each sound pair the group's steps are its commits, whatever interrupts come before them. Behind a pop
-- that returns the program goes to the place whose address ra's word is, and the machine to ra's number, which is that address.
use Rattle.std.proofs.Common.{◌≡◌, ℕ, ◌+◌, ◌*◌, ◌/◌, List, [], ◌∷◌, ◌++◌, length, length-append, Option, Some, None, Ok, true, drop, refl, sym, ap, ◌∙◌, subst, arith, ⊎_elim}
use Rattle.std.proofs.lemmas.List.{append-nil}
use Rattle.zc_base.specs.declared.place.Place.{Place}
use Rattle.interrupt_plan.specs.Plan.{Interrupt}
use Rattle.rv_decode.specs.Effect.{Commits, onward}
use Rattle.rv_decode.specs.Run.{iterate}
use Rattle.rv_decode.specs.State.{ZcCore, ZcState, reg_in}
use Rattle.rv_decode.proofs.RunLaws.{bind_ok, iterate-add}
use Rattle.block_cut.specs.declared.item.Item.TheVariants.{Op}
use Rattle.sym_machine.specs.Change.{Change, Goes, item_does, jump_does, sets}
use Rattle.sym_machine.specs.Devices.{device_does}
use Rattle.sym_machine.specs.Program.{Program}
use Rattle.sym_machine.specs.Run.{plain_turn}
use Rattle.sym_machine.specs.Expansions.{item_expansion}
use Rattle.sym_machine.specs.State.{PlainState, reg_of}
use Rattle.sym_machine.specs.Step.{after_change, is_set}
use Rattle.sym_machine.specs.Words.{code_of, code_word}
use Rattle.sym_machine.proofs.RunLaws.{stepped, turns_set}
use Rattle.sym_machine.proofs.StepLaws.{Ended}
use Rattle.zc_machine.specs.Fetch.{fetched_at}
use Rattle.rv_decode.specs.declared.instr.Instr.{Instr}
use Rattle.zc_link.specs.Invariants.Groups.{Ending, GoesOn, Returns, Slot, ZeroBeforeRaise, ZeroBeforeReturn, ZeroFirst, frame_adjust, frame_commits, slot_loads, ops_before_return, pop_kind, pop_ops, raise_sp, return_ops, return_to_ra, zero_a0}
use Rattle.zc_link.specs.Image.{Image, loaded_core}
use Rattle.zc_link.specs.IsSimulation.{Comes}
use Rattle.zc_link.specs.Invariants.Room.{Room}
use Rattle.zc_link.specs.Sound.{Alike, Ready}
use Rattle.zc_link.specs.Invariants.Stretches.{AreOps, OneAt, PopAt, place_items_on}
use Rattle.zc_link.proofs.Addresses.{code_is}
use Rattle.zc_link.proofs.Ends.{ends_alike}
use Rattle.zc_link.proofs.Frames.{ended}
use Rattle.zc_link.proofs.GroupEnds.{FromPlace, arrives, one_commit, two_commits}
use Rattle.zc_link.proofs.OnStack.{on_stack}
use Rattle.zc_link.proofs.Pops.{Before, PopRun, split_before, whole_before}
use Rattle.zc_link.proofs.Ready.{alike_moved, ready_moved}
use Rattle.zc_link.proofs.Singles.{below_top}
use Rattle.zc_link.proofs.Slots.{FrameFacts}
use Rattle.zc_link.proofs.StackFound.{finds_set, pop_finds}
use Rattle.zc_link.proofs.Straight.{AreStraight, CameTo, Follow, all_follow, on_way, one_turn, ops_first, ops_last, straight_both}
use Rattle.zc_link.proofs.Zeroed.{WithoutZero, final_regs, without_zero}

-- ---- the items

loads_straight : (ds : List Slot) → AreStraight (slot_loads ds)
loads_straight [] = tt
loads_straight (d ∷ ds) = (omega arith, loads_straight ds)

pop_straight : (frame : ℕ) (order : List Slot) → AreStraight (pop_ops frame order)
pop_straight frame order = straight_both (slot_loads order) (raise_sp frame ∷ []) (loads_straight order) (omega arith, tt)

pub before_straight : (ending : Ending) (frame : ℕ) (order : List Slot) → AreStraight (ops_before_return ending frame order)
before_straight GoesOn frame order = pop_straight frame order
before_straight Returns frame order = pop_straight frame order
before_straight ZeroFirst frame order = (omega arith, pop_straight frame order)
before_straight ZeroBeforeRaise frame order = straight_both (slot_loads order) (zero_a0 ∷ raise_sp frame ∷ []) (loads_straight order) (omega arith, (omega arith, tt))
before_straight ZeroBeforeReturn frame order = straight_both (pop_ops frame order) (zero_a0 ∷ []) (pop_straight frame order) (omega arith, tt)

-- the steps of two lists of items, one after the other
pub steps_apart :
    (p : Program) (is js : List Instr) (r r' : PlainState) → iterate (plain_turn p) (length (is ++ js)) r ≡ Ok r'
    → (m : PlainState) × (iterate (plain_turn p) (length is) r ≡ Ok m) × (iterate (plain_turn p) (length js) m ≡ Ok r')
steps_apart p is js r r' h =
    bind_ok (iterate (plain_turn p) (length is) r) (iterate (plain_turn p) (length js)) r'
    (sym (iterate-add (plain_turn p) (length is) (length js) r) ∙ ap (λ k. iterate (plain_turn p) k r) (sym (length-append is js)) ∙ h)

came_both : {q1 q2 : Place} {r m r' : PlainState} → CameTo q1 r m → CameTo q2 m r' → CameTo q2 r r'
came_both a b = record { place = b.place; events = b.events ∙ a.events; input = b.input ∙ a.input; running = b.running }

-- ---- the return

-- the program came to the place whose address is in ra
pub record Lands (p : Program) (Named : Place → Type 0) (e : Image) (m r' : PlainState) (y : ZcCore) : Type 0 where
  pub to : Place
  pub came : CameTo to m r'
  pub address : e.address to ≡ Some (reg_in y 1)
  pub alike : (commits : ℕ) → Alike p Named e r'.core (record y { pc = reg_in y 1 / 2 * 2; commits = commits })

-- where a pop that returns leads
pub return_ended :
    (ending : Ending) → return_ops ending ≡ return_to_ra ∷ [] → (z : ZcCore) (size : ℕ) (regs : List ℕ)
    → (let y = record z { regs = final_regs ending regs } in ended ending (onward z size regs) ≡ record y { pc = reg_in y 1 / 2 * 2; commits = z.commits + 1 })
return_ended GoesOn is z size regs = absurd cc
return_ended Returns is z size regs = refl
return_ended ZeroFirst is z size regs = refl
return_ended ZeroBeforeRaise is z size regs = refl
return_ended ZeroBeforeReturn is z size regs = refl

module _ {p : Program} {Named : Place → Type 0} {e : Image} (room : Room p e) where
  -- by the change of its step
  pub jump_lands :
      (m r' : PlainState) (y : ZcCore) (next : Place) (change : Change) → Alike p Named e m.core y → jump_does (code_of (reg_of m.core 1)) 0 next ≡ Goes change
      → Ended p.map (is_set p.map m.core) (after_change change m.core) r'.core → r'.events ≡ m.events ++ change.events → Lands p Named e m r' y
  jump_lands m r' y next change al does end events = known (code_of (reg_of m.core 1)) refl does
    where
      known : (o : Option Place) → code_of (reg_of m.core 1) ≡ o → jump_does o 0 next ≡ Goes change → Lands p Named e m r' y
      known None is g = absurd cc
      known (Some q) is g =
          let c : Change = sets 0 (code_word next) q in
          let same : c ≡ change = cc in
          record {
            to = q;
            came = record {
              place = ap (λ s. s.place) end.state ∙ ap (λ (x : Change). x.place) (sym same);
              events = events ∙ ap (λ (x : Change). m.events ++ x.events) (sym same) ∙ append-nil m.events;
              input = ap (λ s. s.input) end.state ∙ ap (λ (x : Change). drop x.taken m.core.input) (sym same);
              running = ap (λ s. s.exit) end.state ∙ ap (λ (x : Change). x.exit) (sym same);
            };
            address = code_is room (reg_of m.core 1) (reg_in y 1) q (al.core.words 1) (al.registers 1 (omega arith)) is;
            alike = λ commits.
                ends_alike end
                (subst (λ x. Ready p Named e (after_change x m.core) (record y { pc = reg_in y 1 / 2 * 2; commits = commits })) same
                (ready_moved al.ready q (reg_in y 1 / 2 * 2) commits));
          }

  return_lands : (m r' : PlainState) (y : ZcCore) → Alike p Named e m.core y → p.item m.core.place ≡ Some (Op return_to_ra) → plain_turn p m ≡ Ok r' → Lands p Named e m r' y
  return_lands m r' y al item h =
      let step = stepped p m r' al.running (ap item_expansion item) (ap (λ o. device_does m.devices p o m.core (p.next m.core.place)) item) h in
      let next = p.next m.core.place in
      jump_lands m r' y next step.change al (ap (λ o. item_does p o m.core next) (sym item) ∙ step.does) step.end step.events

  -- ---- the end of the group

  module _
      {list frame k pc : ℕ} {q : Place} {r r' : PlainState} {cuts : ℕ → List Interrupt} {z : ZcState} (from : FromPlace p Named e r cuts z) (ending : Ending) (half : OneAt e pc (pop_kind ending list (frame_adjust list frame)))
      {m : PlainState} (came : CameTo q r m) (b : Before p Named e ending list frame half.size k pc m.core cuts z) where
    -- a pop that goes on
    pub goes_ends :
        ended ending (onward b.now half.size b.done.regs) ≡ onward b.now half.size b.done.regs → final_regs ending b.done.regs ≡ b.done.regs → m ≡ r'
        → e.address q ≡ Some (pc + half.size) → Comes p Named e cuts k z r'
    goes_ends end regs same next =
        let y : ZcCore = onward b.now half.size b.done.regs in
        let al : Alike p Named e m.core (record b.now { regs = b.done.regs }) = subst (λ l. Alike p Named e m.core (record b.now { regs = l })) regs b.done.alike in
        let al1 : Alike p Named e r'.core y = subst (λ (x : PlainState). Alike p Named e x.core y) same (alike_moved y.pc y.commits al) in
        let pc1 : pc + half.size ≡ y.pc = below_top pc b.now.pc half.size b.at half.small in
        let came1 = subst (λ (x : PlainState). CameTo q r x) same came in
        arrives from k q r' y came1 (next ∙ ap Some pc1) al1 (b.runs y (b.done.does ∙ ap Commits end))

    -- a pop that returns
    pub lands_ends :
        (let y = record b.now { regs = final_regs ending b.done.regs } in
        ended ending (onward b.now half.size b.done.regs) ≡ record y { pc = reg_in y 1 / 2 * 2; commits = b.now.commits + 1 })
        → Lands p Named e m r' (record b.now { regs = final_regs ending b.done.regs }) → Comes p Named e cuts k z r'
    lands_ends end lands =
        let y : ZcCore = record b.now { regs = final_regs ending b.done.regs } in
        let y' : ZcCore = record y { pc = reg_in y 1 / 2 * 2; commits = b.now.commits + 1 } in
        let even = (room.even lands.to (reg_in y 1) lands.address).0 in
        let is : reg_in y 1 ≡ reg_in y 1 / 2 * 2 = omega (arith, even) in
        arrives from k lands.to r' y' (came_both came lands.came) (lands.address ∙ ap Some is) (lands.alike (b.now.commits + 1)) (b.runs y' (b.done.does ∙ ap Commits end))

    return_ends :
        (let y = record b.now { regs = final_regs ending b.done.regs } in
        ended ending (onward b.now half.size b.done.regs) ≡ record y { pc = reg_in y 1 / 2 * 2; commits = b.now.commits + 1 })
        → p.item q ≡ Some (Op return_to_ra) → iterate (plain_turn p) 1 m ≡ Ok r' → Comes p Named e cuts k z r'
    return_ends end item h =
        let y : ZcCore = record b.now { regs = final_regs ending b.done.regs } in
        lands_ends end (return_lands m r' y b.done.alike (ap p.item came.place ∙ item) (one_turn p m r' h))

-- ---- all ends

module _ {p : Program} {Named : Place → Type 0} {e : Image} (room : Room p e) {list frame : ℕ} {order : List Slot} (facts : FrameFacts list frame order) where
  module _ {r r' : PlainState} {cuts : ℕ → List Interrupt} {z : ZcState} (from : FromPlace p Named e r cuts z) where
    -- by how it ends
    ends_by :
        (ending : Ending) (k pc : ℕ) (half : OneAt e pc (pop_kind ending list (frame_adjust list frame))) (m : PlainState)
        → CameTo (place_items_on p r.core.place (length (ops_before_return ending frame order))) r m → Before p Named e ending list frame half.size k pc m.core cuts z
        → AreOps p (place_items_on p r.core.place (length (ops_before_return ending frame order))) (return_ops ending) → iterate (plain_turn p) (length (return_ops ending)) m ≡ Ok r'
        → e.address (place_items_on p r.core.place (length (ops_before_return ending frame order ++ return_ops ending))) ≡ Some (pc + half.size) → Comes p Named e cuts k z r'
    ends_by GoesOn k pc half m came b ops h next =
        goes_ends room from GoesOn half came b refl refl (let same : m ≡ r' = cc in same)
        (ap (λ is. e.address (place_items_on p r.core.place (length is))) (sym (append-nil (pop_ops frame order))) ∙ next)
    ends_by Returns k pc half m came b ops h next = return_ends room from Returns half came b refl ops.0 h
    ends_by ZeroFirst k pc half m came b ops h next = return_ends room from ZeroFirst half came b refl ops.0 h
    ends_by ZeroBeforeRaise k pc half m came b ops h next = return_ends room from ZeroBeforeRaise half came b refl ops.0 h
    ends_by ZeroBeforeReturn k pc half m came b ops h next = return_ends room from ZeroBeforeReturn half came b refl ops.0 h

    pub pop_comes :
        {end : ℕ} (ending : Ending) → PopAt e z.core.pc ending list frame end → AreOps p r.core.place (ops_before_return ending frame order ++ return_ops ending)
        → e.address (place_items_on p r.core.place (length (ops_before_return ending frame order ++ return_ops ending))) ≡ Some end
        → iterate (plain_turn p) (length (ops_before_return ending frame order ++ return_ops ending)) r ≡ Ok r' → Comes p Named e cuts (frame_commits list frame) z r'
    pop_comes ending at ops next h = ⊎_elim
        (λ whole.
        let half : OneAt e z.core.pc (pop_kind ending list (frame_adjust list frame)) =
        record { size = at.half.size; here = ap (fetched_at (loaded_core e)) (sym whole.1) ∙ at.half.here; small = (let s = at.half.small in let m = whole.1 in omega (arith, s, m)) } in
        subst (λ k. Comes p Named e cuts k z r') (sym (one_commit list frame whole.0))
        (ends_by ending 1 z.core.pc half m came (whole_before room facts run whole.0 half) last steps.2 (next ∙ ap Some (at.ends ∙ ap (λ a. a + at.half.size) whole.1))))
        (λ split.
        let form = split.1 in
        let half : OneAt e (z.core.pc + form.at.size) (pop_kind ending list (frame_adjust list frame)) =
        record { size = at.half.size; here = ap (fetched_at (loaded_core e)) (sym split.2) ∙ at.half.here; small = (let s = at.half.small in let m = split.2 in omega (arith, s, m)) } in
        subst (λ k. Comes p Named e cuts k z r') (sym (two_commits list frame split.0))
        (ends_by ending 2 (z.core.pc + form.at.size) half m came (split_before room facts run form half) last steps.2 (next ∙ ap Some (at.ends ∙ ap (λ a. a + at.half.size) split.2))))
        at.rest
      where
        is : List Instr
        is = ops_before_return ending frame order

        steps : (m : PlainState) × (iterate (plain_turn p) (length is) r ≡ Ok m) × (iterate (plain_turn p) (length (return_ops ending)) m ≡ Ok r')
        steps = steps_apart p is (return_ops ending) r r' h

        m : PlainState
        m = steps.0

        own : AreOps p r.core.place is
        own = ops_first p r.core.place is (return_ops ending) ops

        last : AreOps p (place_items_on p r.core.place (length is)) (return_ops ending)
        last = ops_last p r.core.place is (return_ops ending) ops

        came : CameTo (place_items_on p r.core.place (length is)) r m
        came = on_way p is (length is) r m (omega arith) own (before_straight ending frame order) from.sound.alike.running steps.1

        set : is_set p.map r.core ≡ true
        set = finds_set p is r m (pop_finds ending frame order) own from.sound.alike.running steps.1

        f : Follow p Named e is m z.core
        f = all_follow room is r m z.core own (before_straight ending frame order) steps.1 from.sound.alike

        wz : WithoutZero ending frame order z.core f.after
        wz = without_zero frame order (λ d among. facts.no_a0 d among) (λ d among. (facts.register d among).no_sp) z.core from.sound.alike.core.count ending f.after f.effects

        run : PopRun p Named e ending frame order r.core m.core cuts z
        run = record {
          are = from.are;
          before = on_stack from.sound.alike set;
          zp = wz.zp;
          zf = f.after;
          after = on_stack f.alike (turns_set p (length is) r m steps.1 set);
          effects = wz.effects;
          final = wz.final;
        }
