-- On the way of a group, interrupts come and cells of data are written between its commits. As long as commits are left, one of its
-- instructions stands at pc, and its accesses lie in the stack, by sp (OnGroup). So interrupts and commits do the same whatever data hold.
use Rattle.std.specs.Option.{option_map_or}
use Rattle.std.proofs.Common.{◌≡◌, ℕ, zero, suc, ◌+◌, ◌-◌, ◌*◌, ◌%◌, ◌^◌, ◌<◌, ◌≤◌, List, [], ◌∷◌, length, None, Ok, refl, sym, ap, ◌∙◌, subst, arith, ℤ, negsuc, eqb}
use Rattle.interrupt_plan.specs.Plan.{Interrupt, IsInterrupt}
use Rattle.rv_decode.specs.declared.instr.Instr.{Instr}
use Rattle.rv_decode.specs.declared.instr.Instr.TheVariants.{WithImm}
use Rattle.rv_decode.specs.declared.instr.ImmOp.TheVariants.{Addi}
use Rattle.rv_decode.specs.declared.instr.RegOp.TheVariants.{Add}
use Rattle.rv_decode.specs.Bits.{add32}
use Rattle.rv_decode.specs.Effect.{BadAccess, Break, Call, Commits, Effect, Misaligned, Outside}
use Rattle.rv_decode.specs.Memory.{extents_of, is_data, lies_in, written}
use Rattle.rv_decode.specs.Normal.{SameEffect}
use Rattle.rv_decode.specs.Results.{reg_result}
use Rattle.rv_decode.specs.State.{ZcCore, ZcState, reg_in}
use Rattle.rv_decode.proofs.MemoryLaws.{cell_kept}
use Rattle.std.proofs.lemmas.Bool.{cond_both}
use Rattle.sym_machine.specs.Program.{Program}
use Rattle.zc_decode.specs.Accesses.{Access, accesses_of, words_below}
use Rattle.zc_decode.specs.Effect.{reaching_all, short_effect}
use Rattle.zc_decode.specs.Lists.{registers_of}
use Rattle.zc_decode.specs.declared.short.Short.{Short}
use Rattle.zc_decode.specs.declared.short.Short.TheVariants.{Base, MoveAs, MoveSa, Push}
use Rattle.zc_machine.specs.Fetch.{Found, fetched_at}
use Rattle.zc_machine.specs.Interrupt.{all_dirtied, done_of, interrupted}
use Rattle.zc_machine.specs.Run.{committed, zc_turn}
use Rattle.zc_machine.specs.Step.{Ended, effect_step, made, zc_step}
use Rattle.zc_machine.proofs.FetchLaws.{SameText, fetched_same}
use Rattle.zc_machine.proofs.TurnLaws.{zc_turn-running}
use Rattle.zc_link.specs.DataApart.{CommitsApart, Cuts, CutsApart, IsCell, OnWay, Pokes, Starts, Turns, poked}
use Rattle.zc_link.specs.Invariants.Groups.{Ending, GoesOn, Returns, Slot, ZeroBeforeRaise, ZeroBeforeReturn, ZeroFirst, frame_adjust, pop_kind, slots_below}
use Rattle.zc_link.specs.Image.{Image, loaded_core}
use Rattle.zc_link.specs.Invariants.Room.{Room}
use Rattle.zc_link.specs.Invariants.Stretches.{OneAt}
use Rattle.zc_link.proofs.NoAccess.{poked_kept}
use Rattle.zc_link.proofs.Cuts.{stack_within}
use Rattle.zc_link.proofs.Effects.{commits_same}
use Rattle.zc_link.proofs.FrameCuts.{AvoidSp, IsReady, SpoiledSlots, interrupt_kept, itself, pop_accesses, pop_kept, push_kept, text_kept, without_accesses}
use Rattle.zc_link.proofs.Frames.{below_is}
use Rattle.zc_link.proofs.OnStack.{free_end}
use Rattle.zc_link.proofs.Pops.{no_sp}
use Rattle.zc_link.proofs.Slots.{FrameFacts}
use Rattle.zc_link.proofs.WithByte.{AreAbove, IsOfGroup, all_dirtied_with, done_with, effect_with, with_byte}

-- ---- what stands at pc

-- an instruction of a group, by sp: a push or a pop whose frame lies in the stack, a move, or a sum of sp
pub data StandsBy (p : Program) (sp : ℕ) : Short → Type 0 where
  APush :
      (list frame : ℕ) (order : List Slot) → FrameFacts list frame order → p.map.stack_low + frame ≤ sp → sp ≤ p.map.stack_high
      → StandsBy p sp (Push list (frame_adjust list frame))
  APop :
      (ending : Ending) (list frame : ℕ) (order : List Slot) → FrameFacts list frame order → (base : ℕ) → p.map.stack_low ≤ base → sp + frame_adjust list frame ≡ base + frame
      → base + frame < 2 ^ 32 → StandsBy p sp (pop_kind ending list (frame_adjust list frame))
  AMoveSa : (first second : ℕ) → StandsBy p sp (MoveSa first second)
  AMoveAs : (first second : ℕ) → StandsBy p sp (MoveAs first second)
  ASum : (i : Instr) (imm : ℤ) → SameEffect i (WithImm Addi 2 2 imm) → StandsBy p sp (Base i)

-- the slots whose registers an interrupt may load
loaded_slots : {p : Program} {sp : ℕ} (s : Short) → StandsBy p sp s → List Slot
loaded_slots _ (APush list frame order facts deep high) = []
loaded_slots _ (APop ending list frame order facts base low top small) = slots_below frame (registers_of list)
loaded_slots _ (AMoveSa first second) = []
loaded_slots _ (AMoveAs first second) = []
loaded_slots _ (ASum i imm same) = []

avoid_sp : {p : Program} {sp : ℕ} (s : Short) (st : StandsBy p sp s) → AvoidSp (loaded_slots s st)
unfolding loaded_slots
avoid_sp _ (APush list frame order facts deep high) d m = absurd m
avoid_sp _ (APop ending list frame order facts base low top small) d m = no_sp facts d m
avoid_sp _ (AMoveSa first second) d m = absurd m
avoid_sp _ (AMoveAs first second) d m = absurd m
avoid_sp _ (ASum i imm same) d m = absurd m

-- accesses one below the other, with the last at or above the stack's begin, lie above an address of data
words_above : (a b low base : ℕ) (rs : List ℕ) (top : ℕ) → a < low → low ≤ base → 4 * length rs ≤ top → base + top < 2 ^ 32 → AreAbove a b (words_below (base + top) rs)
words_above a b low base [] top under over room small = tt
words_above a b low base (r ∷ rs) top under over room small =
    let is : add32 (base + top) (negsuc 3) ≡ base + (top - 4) = below_is base top (omega (arith, room)) small in (
      omega (arith, is, under, over),
      subst (λ t. AreAbove a b (words_below t rs)) (sym is) (words_above a b low base rs (top - 4) under over (omega (arith, room)) (omega (arith, small))),
    )

above_data : {p : Program} {sp : ℕ} (a b : ℕ) (s : Short) → sp < 2 ^ 32 → a < p.map.stack_low → StandsBy p sp s → AreAbove a b (accesses_of s sp)
above_data {p} {sp} a b _ words under (APush list frame order facts deep high) =
    let whole : sp - frame + frame ≡ sp = omega (arith, deep) in
    subst (λ t. AreAbove a b (words_below t (registers_of list))) whole
    (words_above a b p.map.stack_low (sp - frame) (registers_of list) frame under (omega (arith, deep)) facts.room (omega (arith, whole, words)))
above_data {p} {sp} a b _ words under (APop ending list frame order facts base low top small) =
    let at : reg_result Add sp (frame_adjust list frame) ≡ base + frame = omega (arith, top, small) in
    subst (AreAbove a b) (sym (pop_accesses ending list (frame_adjust list frame) sp ∙ ap (λ t. words_below t (registers_of list)) at))
    (words_above a b p.map.stack_low base (registers_of list) frame under low facts.room small)
above_data a b _ words under (AMoveSa first second) = tt
above_data a b _ words under (AMoveAs first second) = tt
above_data a b _ words under (ASum i imm same) = tt

-- ---- commits

-- the effect of such an instruction with another byte of data
stands_with :
    {p : Program} (a b : ℕ) (s : Short) (size : ℕ) (y y' : ZcCore) → reg_in y 2 < 2 ^ 32 → a < p.map.stack_low → StandsBy p (reg_in y 2) s → short_effect s size y ≡ Commits y'
    → short_effect s size (with_byte a b y) ≡ Commits (with_byte a b y')
stands_with {p} a b s size y y' words under st h = by s st (above_data a b s words under st) h
  where
    pop_of_group : (ending : Ending) (list adjust : ℕ) → IsOfGroup a b (pop_kind ending list adjust)
    pop_of_group GoesOn list adjust = tt
    pop_of_group Returns list adjust = tt
    pop_of_group ZeroFirst list adjust = tt
    pop_of_group ZeroBeforeRaise list adjust = tt
    pop_of_group ZeroBeforeReturn list adjust = tt

    by : (t : Short) → StandsBy p (reg_in y 2) t → AreAbove a b (accesses_of t (reg_in y 2)) → short_effect t size y ≡ Commits y' → short_effect t size (with_byte a b y) ≡ Commits (with_byte a b y')
    by _ (APush list frame order facts deep high) all g = effect_with a b (Push list (frame_adjust list frame)) size y y' tt all g
    by _ (APop ending list frame order facts base low top small) all g =
        effect_with a b (pop_kind ending list (frame_adjust list frame)) size y y' (pop_of_group ending list (frame_adjust list frame)) all g
    by _ (AMoveSa first second) all g = effect_with a b (MoveSa first second) size y y' tt all g
    by _ (AMoveAs first second) all g = effect_with a b (MoveAs first second) size y y' tt all g
    by _ (ASum i imm same) all g =
        same size (with_byte a b y) ∙ ap (λ x. Commits (with_byte a b x)) (sym (commits_same _ y' (sym (same size y) ∙ g)))

-- an effect that isn't a call of the environment, nor an access to a device
abbrev NoCall : Effect → Type 0
NoCall (Commits z) = Unit {0}
NoCall Misaligned = Unit {0}
NoCall BadAccess = Unit {0}
NoCall (Outside x) = ⊥
NoCall Break = Unit {0}
NoCall Call = ⊥

reaching_calls : (xs : List Access) (y : ZcCore) (go : Effect) → NoCall go → NoCall (reaching_all xs y go)
reaching_calls [] y go none = none
reaching_calls (x ∷ xs) y go none =
    cond_both (eqb (x.at % 4) 0) _ Misaligned NoCall
    (λ _. cond_both (lies_in is_data (extents_of y.memory) x.at 4) (reaching_all xs y go) BadAccess NoCall (λ _. reaching_calls xs y go none) (λ _. tt)) (λ _. tt)

stands_calls : {p : Program} {sp : ℕ} (s : Short) (size : ℕ) (y : ZcCore) → StandsBy p sp s → NoCall (short_effect s size y)
stands_calls _ size y (APush list frame order facts deep high) = reaching_calls (accesses_of (Push list (frame_adjust list frame)) (reg_in y 2)) y _ tt
stands_calls _ size y (APop ending list frame order facts base low top small) = by ending
  where
    by : (k : Ending) → NoCall (short_effect (pop_kind k list (frame_adjust list frame)) size y)
    by GoesOn = reaching_calls (accesses_of (pop_kind GoesOn list (frame_adjust list frame)) (reg_in y 2)) y _ tt
    by Returns = reaching_calls (accesses_of (pop_kind Returns list (frame_adjust list frame)) (reg_in y 2)) y _ tt
    by ZeroFirst = reaching_calls (accesses_of (pop_kind ZeroFirst list (frame_adjust list frame)) (reg_in y 2)) y _ tt
    by ZeroBeforeRaise = reaching_calls (accesses_of (pop_kind ZeroBeforeRaise list (frame_adjust list frame)) (reg_in y 2)) y _ tt
    by ZeroBeforeReturn = reaching_calls (accesses_of (pop_kind ZeroBeforeReturn list (frame_adjust list frame)) (reg_in y 2)) y _ tt
stands_calls _ size y (AMoveSa first second) = tt
stands_calls _ size y (AMoveAs first second) = tt
stands_calls _ size y (ASum i imm same) = subst NoCall (sym (same size y)) tt

-- a turn of it is a commit
record TurnOf (s : Short) (size : ℕ) (y : ZcCore) (z z' : ZcState) : Type 0 where
  left : ZcCore
  does : short_effect s size y ≡ Commits left
  is : z' ≡ record z { core = left }

turn_of : (s : Short) (size : ℕ) (y : ZcCore) (z z' : ZcState) → NoCall (short_effect s size y) → committed (effect_step (short_effect s size y) y) z ≡ Ok z' → TurnOf s size y z z'
turn_of s size y z z' none h = by (short_effect s size y) refl none h
  where
    by : (f : Effect) → short_effect s size y ≡ f → NoCall f → committed (effect_step f y) z ≡ Ok z' → TurnOf s size y z z'
    by (Commits left) is calm g = record { left = left; does = is; is = cc }
    by Misaligned is calm g = absurd cc
    by BadAccess is calm g = absurd cc
    by (Outside x) is calm g = absurd calm
    by Break is calm g = absurd cc
    by Call is calm g = absurd calm

module _ {p : Program} {e : Image} (room : Room p e) where
  -- ---- what is left to commit

  -- with this sp and pc this many instructions are left, one after another: after each but the last such a state holds again
  abbrev pub Left : ℕ → ℕ → ℕ → Type 0
  Left zero sp pc = Unit {0}
  Left (suc k) sp pc =
      (s : Short) × (at : OneAt e pc s) × StandsBy p sp s
      × (0 < k → (y y' : ZcCore) → IsReady room y → length y.regs ≡ 32 → reg_in y 2 ≡ sp → y.pc ≡ pc → short_effect s at.size y ≡ Commits y'
      → IsReady room y' × (length y'.regs ≡ 32) × Left k (reg_in y' 2) y'.pc)

-- a state in which k instructions of a group are left
pub record OnGroup {p : Program} {e : Image} (room : Room p e) (k : ℕ) (y : ZcCore) : Type 0 where
  pub ready : IsReady room y
  pub long : length y.regs ≡ 32
  pub left : Left room k (reg_in y 2) y.pc

module _ {p : Program} {e : Image} (room : Room p e) where
  -- accesses that were done of it
  stands_kept :
      (s : Short) (size : ℕ) (y : ZcCore) → IsReady room y → (st : StandsBy p (reg_in y 2) s) → (js : List ℕ) (x : ZcCore) → SpoiledSlots p.map.stack_low (free_end p.map y) (loaded_slots s st) y x
      → SpoiledSlots p.map.stack_low (free_end p.map y) (loaded_slots s st) y (done_of (Found s size) js x)
  unfolding loaded_slots
  stands_kept _ size y is (APush list frame order facts deep high) js x k =
      push_kept p.map.stack_low p.map.stack_high [] (λ d m. absurd m) y (stack_within room y is.text.extents) facts (frame_adjust list frame) size deep high is.word js x k
  stands_kept _ size y is (APop ending list frame order facts base low top small) js x k =
      pop_kept p.map.stack_low p.map.stack_high (slots_below frame (registers_of list)) (no_sp facts) y (stack_within room y is.text.extents) facts ending base size (λ d m. m) top small js x k
  stands_kept _ size y is (AMoveSa first second) js x k =
      without_accesses (SpoiledSlots p.map.stack_low (free_end p.map y) [] y) (MoveSa first second) size (λ sp. refl) js x k
  stands_kept _ size y is (AMoveAs first second) js x k =
      without_accesses (SpoiledSlots p.map.stack_low (free_end p.map y) [] y) (MoveAs first second) size (λ sp. refl) js x k
  stands_kept _ size y is (ASum i imm same) js x k = without_accesses (SpoiledSlots p.map.stack_low (free_end p.map y) [] y) (Base i) size (λ sp. refl) js x k

  -- ---- interrupts, cells and commits

  -- an interrupt keeps it
  cut_on : (k : ℕ) (y : ZcCore) (c : Interrupt) → IsInterrupt c → OnGroup room (suc k) y → OnGroup room (suc k) (interrupted c y)
  cut_on k y c bytes on =
      let s = on.left.0 in
      let at = on.left.1 in
      let st = on.left.2 in
      let ds = loaded_slots s st in
      let avoid = avoid_sp s st in
      let kept = interrupt_kept room ds avoid y on.ready s at (stands_kept s at.size y on.ready st) c y bytes (itself room ds avoid y on.ready) in
      let sp = kept.registers 2 avoid in
      record {
        ready = record {
          going = ap (λ x. x.exit) kept.rest ∙ on.ready.going;
          text = text_kept room ds avoid y on.ready (interrupted c y) kept;
          are_bytes = kept.are_bytes;
          word = (let word = on.ready.word in omega (arith, word, sp));
        };
        long = kept.long ∙ on.long;
        left = subst (λ n. Left room (suc k) n (interrupted c y).pc) (sym sp) (subst (Left room (suc k) (reg_in y 2)) (ap (λ x. x.pc) (sym kept.rest)) on.left);
      }

  -- a cell of data that is written does
  poke_on : (k a b : ℕ) (z : ZcState) → IsCell p a → b < 256 → OnGroup room k z.core → OnGroup room k (poked a b z).core
  poke_on k a b z cell small on = record {
    ready = record {
      going = on.ready.going;
      text = (poked_kept room a b z cell on.ready.text).text;
      are_bytes = cell_kept (written a 1 (λ _. b)) z.core.memory 0 (λ c. c < 256) (λ x c lt. cond_both _ b c (λ v. v < 256) (λ _. small) (λ _. lt)) (omega arith) on.ready.are_bytes;
      word = on.ready.word;
    };
    long = on.long;
    left = on.left;
  }

  -- the turn of the instruction at pc
  group_turn :
      (s : Short) (z : ZcState) → z.core.exit ≡ None → SameText (loaded_core e) z.core → (at : OneAt e z.core.pc s)
      → zc_turn [] z ≡ committed (effect_step (short_effect s at.size z.core) z.core) z
  unfolding zc_step
  group_turn s z going text at =
      zc_turn-running [] z going
      ∙ ap (λ o. committed (option_map_or Ended o (made (fetched_at z.core z.core.pc) z.core)) z) going
      ∙ ap (λ f. committed (made f z.core) z) (fetched_same (loaded_core e) z.core text z.core.pc ∙ at.here)

  -- what its commit comes to
  commit_on : (k : ℕ) (z z' : ZcState) → (on : OnGroup room (suc k) z.core) → zc_turn [] z ≡ Ok z' → TurnOf on.left.0 on.left.1.size z.core z z'
  commit_on k z z' on turn =
      let s = on.left.0 in
      let at = on.left.1 in
      turn_of s at.size z.core z z' (stands_calls s at.size z.core on.left.2) (sym (group_turn s z on.ready.going on.ready.text at) ∙ turn)

  -- ---- on the way

  module _ {From : ℕ → ZcState → Type 0} (from : (k : ℕ) (z : ZcState) → From k z → 0 < k → OnGroup room k z.core) where
    on_way : {k : ℕ} {z : ZcState} → OnWay p From k z → 0 < k → OnGroup room k z.core
    on_way (Starts k z is) some = from k z is some
    on_way (Cuts k z c is way) some = cut_on k z.core c is (on_way way some)
    on_way (Pokes k z a b is small way) some = poke_on (suc k) a b z is small (on_way way some)
    on_way (Turns k z z' way turn) some =
        let on = on_way way (omega arith) in
        let t = commit_on k z z' on turn in
        let next = on.left.3 some z.core t.left on.ready on.long refl refl t.does in
        subst (λ (x : ZcState). OnGroup room k x.core) (sym t.is) (record { ready = next.0; long = next.1; left = next.2 })

    -- a cell of data lies below the stack
    under_stack : (a : ℕ) → IsCell p a → a < p.map.stack_low
    under_stack a cell = let high = cell.high in let under = room.under in omega (arith, high, under)

    pub group_cuts_apart : CutsApart p From
    group_cuts_apart k z way c is a b cell small =
        let y = z.core in
        let on = on_way way (omega arith) in
        let s = on.left.0 in
        let at = on.left.1 in
        let st = on.left.2 in
        let other = (poked_kept room a b z cell on.ready.text).text in
        let under = under_stack a cell in
        let fetch : fetched_at y y.pc ≡ Found s at.size = fetched_same (loaded_core e) y on.ready.text y.pc ∙ at.here in
        let fetch_with : fetched_at (with_byte a b y) y.pc ≡ Found s at.size = fetched_same (loaded_core e) (with_byte a b y) other y.pc ∙ at.here in
        let ds = loaded_slots s st in
        let avoid = avoid_sp s st in
        let kept = stands_kept s at.size y on.ready st c.done y (itself room ds avoid y on.ready) in
        ap (λ f. all_dirtied c.dirt (done_of f c.done (with_byte a b y))) fetch_with
        ∙ ap (all_dirtied c.dirt) (done_with a b s at.size c.done y (above_data a b s on.ready.word under st))
        ∙ all_dirtied_with a b c.dirt (done_of (Found s at.size) c.done y) (λ x h same.
        let within = stack_within room (done_of (Found s at.size) c.done y) (kept.extents ∙ on.ready.text.extents) x h in
        omega (arith, within.0, same, under))
        ∙ ap (λ f. with_byte a b (all_dirtied c.dirt (done_of f c.done y))) (sym fetch)

    group_commit_same :
        (k : ℕ) (z z' : ZcState) → OnWay p From (suc k) z → zc_turn [] z ≡ Ok z' → (a b : ℕ) → IsCell p a → b < 256 → zc_turn [] (poked a b z) ≡ Ok (poked a b z')
    group_commit_same k z z' way turn a b cell small =
        let y = z.core in
        let on = on_way way (omega arith) in
        let s = on.left.0 in
        let at = on.left.1 in
        let t = commit_on k z z' on turn in
        let other = (poked_kept room a b z cell on.ready.text).text in
        group_turn s (poked a b z) on.ready.going other at
        ∙ ap (λ f. committed (effect_step f (with_byte a b y)) (poked a b z)) (stands_with a b s at.size y t.left on.ready.word (under_stack a cell) on.left.2 t.does)
        ∙ ap (λ (x : ZcState). Ok (poked a b x)) (sym t.is)

    pub group_commits_apart : CommitsApart p From
    group_commits_apart = record { running = λ k z way. (on_way way (omega arith)).ready.going; same = group_commit_same }
