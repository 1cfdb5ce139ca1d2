-- Pops up to their last commit, whole and split, whatever their end. A pop that was interrupted has loaded registers, and loads them
-- again: the words of its slots lie at or above the sp of every interrupt, so what it then leaves is alike with what its items leave one
-- after another from the state before the interrupts.
use Rattle.std.proofs.Common.{◌≡◌, ◌≢◌, ℕ, ◌+◌, ◌^◌, ◌<◌, ◌≤◌, List, [], ◌∷◌, length, Ok, refl, sym, ap, ◌∙◌, arith, pos}
use Rattle.zc_base.specs.declared.place.Place.{Place}
use Rattle.interrupt_plan.specs.Plan.{AreInterrupts, Interrupt}
use Rattle.rv_decode.specs.Bits.{add32}
use Rattle.rv_decode.specs.Effect.{Commits, onward}
use Rattle.rv_decode.specs.Memory.{cell_at, extents_of}
use Rattle.rv_decode.specs.State.{ZcCore, ZcState, byte_in, reg_in, set_reg, word_at}
use Rattle.rv_decode.proofs.RegisterLaws.{length-set_reg, reads-set_reg_other, reads-set_reg_same}
use Rattle.sym_machine.specs.Program.{Program}
use Rattle.sym_machine.specs.State.{PlainCore}
use Rattle.zc_decode.specs.Effect.{short_effect}
use Rattle.zc_decode.specs.Lists.{registers_of}
use Rattle.zc_decode.specs.declared.short.Short.{Short}
use Rattle.zc_decode.specs.declared.short.Short.TheVariants.{Base}
use Rattle.zc_machine.specs.Fetch.{fetched_at}
use Rattle.zc_machine.specs.Run.{zc_turn, zc_turns}
use Rattle.zc_machine.proofs.TurnLaws.{zc_turns-more}
use Rattle.zc_link.specs.Invariants.Groups.{Ending, Slot, frame_adjust, slot_loads, pop_kind, pop_ops, raise_sp, rest_of, slots_below}
use Rattle.zc_link.specs.Image.{Image, loaded_core}
use Rattle.zc_link.specs.Invariants.Room.{Room}
use Rattle.zc_link.specs.Sound.{Alike}
use Rattle.zc_link.specs.Invariants.Stretches.{FormAt, OneAt}
use Rattle.zc_link.proofs.Commits.{zc_turns-one}
use Rattle.zc_link.proofs.Cuts.{stack_within}
use Rattle.zc_link.proofs.Effects.{Effects, KeepsRest, effects_apart, loads_sp, sum_is}
use Rattle.zc_link.proofs.FrameCuts.{AvoidSp, Behind, IsReady, LooksLike, alike_ready, behind, looks_alike, pop_kept, spoiled_alike}
use Rattle.zc_link.proofs.Frames.{ended, pop_made}
use Rattle.zc_link.proofs.GroupEnds.{behind_one, turn_commits}
use Rattle.zc_link.proofs.OnStack.{OnStack}
use Rattle.zc_link.proofs.Pushes.{two_some}
use Rattle.zc_link.proofs.Singles.{below_top}
use Rattle.zc_link.proofs.Slots.{FrameFacts, IsOneOf}
use Rattle.zc_link.proofs.Zeroed.{Final, final_regs, final_same, final_sp, length_final}

-- ---- what a pop leaves

-- a state right before a pop's own commit, beside the state z before the group: sp is raised by the rest of the frame; bytes below it may
-- hold anything, and so may the slots' registers
pub record BeforePop (low list frame rest : ℕ) (z y : ZcCore) : Type 0 where
  pub keeps : KeepsRest z y
  pub long : length y.regs ≡ 32
  pub sp : reg_in y 2 ≡ reg_in z 2 + rest
  pub registers : (r : ℕ) → r ≢ 2 → ((d : Slot) → IsOneOf d (slots_below frame (registers_of list)) → d.register ≢ r) → reg_in y r ≡ reg_in z r
  pub extents : extents_of y.memory ≡ extents_of z.memory
  pub bytes : (x : ℕ) → (low ≤ x → reg_in z 2 + rest ≤ x) → byte_in y x ≡ byte_in z x
  pub are_bytes : (x : ℕ) → byte_in y x < 256

-- the pop's effect from such a state, and with the registers that it leaves the state is alike with the program's
pub record PopDone (p : Program) (Named : Place → Type 0) (e : Image) (ending : Ending) (list frame size : ℕ) (s' : PlainCore) (y : ZcCore) : Type 0 where
  pub regs : List ℕ
  pub does : short_effect (pop_kind ending list (frame_adjust list frame)) size y ≡ Commits (ended ending (onward y size regs))
  pub alike : Alike p Named e s' (record y { regs = final_regs ending regs })

-- the state behind all interrupts, right before the pop's own commit, which is the k-th of the group
pub record Before (p : Program) (Named : Place → Type 0) (e : Image) (ending : Ending) (list frame size k pc : ℕ) (s' : PlainCore) (cuts : ℕ → List Interrupt) (z : ZcState) : Type 0 where
  pub now : ZcCore
  pub at : now.pc ≡ pc
  pub done : PopDone p Named e ending list frame size s' now
  pub runs : (y : ZcCore) → short_effect (pop_kind ending list (frame_adjust list frame)) size now ≡ Commits y → zc_turns cuts k z ≡ Ok (record z { core = y })

-- the slots of a pop have no sp
pub no_sp : {list frame : ℕ} {order : List Slot} → FrameFacts list frame order → AvoidSp (slots_below frame (registers_of list))
no_sp facts d m = (facts.register d (facts.same.back d m)).no_sp

-- the run of a pop's items without interrupts, up to its return, where sp is set: from states that are alike to such, by
-- the state zp with a0 as it was
pub record PopRun (p : Program) (Named : Place → Type 0) (e : Image) (ending : Ending) (frame : ℕ) (order : List Slot) (s s' : PlainCore) (cuts : ℕ → List Interrupt) (z : ZcState) : Type 0 where
  pub are : AreInterrupts cuts
  pub before : OnStack p Named e s z.core
  pub zp : ZcCore
  pub zf : ZcCore
  pub after : OnStack p Named e s' zf
  pub effects : Effects (pop_ops frame order) z.core zp
  pub final : Final ending zp zf

module _ {p : Program} {Named : Place → Type 0} {e : Image} (room : Room p e) {list frame : ℕ} {order : List Slot} (facts : FrameFacts list frame order) where
  -- a frame that is popped ends within the stack
  pub pop_top :
      (s : PlainCore) (z zp : ZcCore) → OnStack p Named e s z → p.map.stack_low ≤ reg_in zp 2 → Effects (pop_ops frame order) z zp
      → (reg_in z 2 + frame < 2 ^ 32) × (reg_in zp 2 ≡ reg_in z 2 + frame)
  pop_top s z zp al low ef =
      let parts = effects_apart (slot_loads order) (raise_sp frame ∷ []) z zp ef in
      let ye : ZcCore = parts.0 in
      let ld = loads_sp order z ye (λ d m. (facts.register d m).no_sp) parts.1 in
      let last = sum_is 2 2 (pos frame) ye zp parts.2 in
      let v : ℕ = add32 (reg_in ye 2) (pos frame) in
      let long : length ye.regs ≡ 32 = ld.1 ∙ al.core.count in
      let is : reg_in zp 2 ≡ v = ap (λ x. reg_in x 2) last.1 ∙ reads-set_reg_same 0 0 ye.regs 2 v two_some (omega (arith, long)) in
      let deep = room.deep in
      let top = room.top in
      let most = facts.most in
      let sp = ld.0 in
      let high = al.high in
      let small : reg_in z 2 + frame < 2 ^ 32 = omega (arith, sp, is, deep, top, most, high, low) in
      (small, omega (arith, sp, is, small))

  pop_done :
      (ending : Ending) (size rest : ℕ) (s s' : PlainCore) (z zp zf y : ZcCore) → rest + frame_adjust list frame ≡ frame → OnStack p Named e s z → OnStack p Named e s' zf
      → Effects (pop_ops frame order) z zp → Final ending zp zf → BeforePop p.map.stack_low list frame rest z y → PopDone p Named e ending list frame size s' y
  pop_done ending size rest s s' z zp zf y sum al alf ef fin rd =
      let n = reg_in z 2 in
      let sp : reg_in zf 2 ≡ reg_in zp 2 = fin.registers 2 ∙ final_sp ending zp.regs in
      let low = alf.low in
      let top = pop_top s z zp al (omega (arith, sp, low)) ef in
      let mk = pop_made facts ending size rest z y zp al.core.count rd.long sum top.0 rd.sp rd.extents same_word ef in
      let regs : List ℕ = final_regs ending mk.regs in
      let same = final_same ending mk.regs zp.regs (mk.long ∙ sym mk.long_f) (λ r. mk.same r (rd.registers r)) in
      let memory : zf.memory ≡ z.memory = fin.memory ∙ mk.memory_f in
      let like : LooksLike p.map.stack_low (n + rest) zf (record y { regs = regs }) = record {
        exit = rd.keeps.exit ∙ sym mk.rest_f.exit ∙ sym fin.rest.exit;
        jvt = rd.keeps.jvt ∙ sym mk.rest_f.jvt ∙ sym fin.rest.jvt;
        long = length_final ending mk.regs ∙ mk.long ∙ sym mk.long_f ∙ sym fin.long;
        registers = λ r. same r ∙ sym (fin.registers r);
        extents = rd.extents ∙ ap extents_of (sym memory);
        bytes = λ x out. rd.bytes x out ∙ ap (λ m. cell_at 0 m x) (sym memory);
        are_bytes = rd.are_bytes;
      } in
      let top_is = top.1 in
      let high = alf.high in
      record {
        regs = mk.regs;
        does = mk.does;
        alike = looks_alike room (n + rest) (omega (arith, sum, top_is, sp, high)) (λ a l lt. alf.under a l (omega (arith, lt, top_is, sp, sum))) like alf.alike;
      }
    where
      same_word : (d : Slot) → IsOneOf d (slots_below frame (registers_of list)) → word_at y (reg_in z 2 + d.offset) ≡ word_at z (reg_in z 2 + d.offset)
      same_word d m =
          let v = facts.over d (facts.same.back d m) in
          let a : ℕ = reg_in z 2 + d.offset in
          let e0 = rd.bytes a (λ _. omega (arith, v, sum)) in
          let e1 = rd.bytes (a + 1) (λ _. omega (arith, v, sum)) in
          let e2 = rd.bytes (a + 2) (λ _. omega (arith, v, sum)) in
          let e3 = rd.bytes (a + 3) (λ _. omega (arith, v, sum)) in
          omega (arith, e0, e1, e2, e3)

  -- ---- the way to its own commit

  module _ {ending : Ending} {s s' : PlainCore} {cuts : ℕ → List Interrupt} {z : ZcState} (run : PopRun p Named e ending frame order s s' cuts z) where
    abbrev slots : List Slot
    slots = slots_below frame (registers_of list)

    abbrev short : Short
    short = pop_kind ending list (frame_adjust list frame)

    sp_f : reg_in run.zf 2 ≡ reg_in run.zp 2
    sp_f = run.final.registers 2 ∙ final_sp ending run.zp.regs

    ends_at : (reg_in z.core 2 + frame < 2 ^ 32) × (reg_in run.zp 2 ≡ reg_in z.core 2 + frame)
    ends_at = let low = run.after.low in pop_top s z.core run.zp run.before (omega (arith, sp_f, low)) run.effects

    -- whole: the group's one commit
    pub whole_before : rest_of list frame ≡ 0 → (half : OneAt e z.core.pc short) → Before p Named e ending list frame half.size 1 z.core.pc s' cuts z
    whole_before none half =
        let sum = facts.sum in
        let small = ends_at.0 in
        let bh = behind room slots (no_sp facts) short (cuts 0) (run.are 0) z (alike_ready room run.before.alike) half
        (pop_kept p.map.stack_low p.map.stack_high slots (no_sp facts) z.core (stack_within room z.core run.before.extents) facts ending (reg_in z.core 2) half.size (λ d m. m) (omega (arith, none, sum)) small) in
        record {
          now = bh.now;
          at = ap (λ x. x.pc) bh.spoiled.rest;
          done = pop_done ending half.size 0 s s' z.core run.zp run.zf bh.now (omega (arith, none, sum)) run.before run.after run.effects run.final (record {
            keeps = record { exit = ap (λ x. x.exit) bh.spoiled.rest; jvt = ap (λ x. x.jvt) bh.spoiled.rest };
            long = bh.spoiled.long ∙ run.before.core.count;
            sp = bh.spoiled.registers 2 (no_sp facts) ∙ omega arith;
            registers = λ r _ avoid. bh.spoiled.registers r avoid;
            extents = bh.spoiled.extents;
            bytes = λ x out. bh.spoiled.bytes x (λ l. let o = out l in omega (arith, o));
            are_bytes = bh.spoiled.are_bytes;
          });
          runs = λ y does. zc_turns-one cuts z (record z { core = y }) (turn_commits (cuts 0) z bh.now y short half.size bh.turn does);
        }

    -- split: the rest of the frame is the first commit, and then an interrupt may write all bytes below the middle sp
    module _ (form : FormAt e z.core.pc (raise_sp (rest_of list frame))) where
      abbrev rest : ℕ
      rest = rest_of list frame

      abbrev first : Behind room [] (Base form.here) form.at.size (cuts 0) z
      first = behind_one room (Base form.here) (cuts 0) (λ sp. refl) (run.are 0) z (alike_ready room run.before.alike) form.at

      first_alike : Alike p Named e s first.now
      first_alike = spoiled_alike room first.spoiled run.before.alike

      abbrev raised : ZcCore
      raised = onward first.now form.at.size (set_reg first.now.regs 2 (reg_in z.core 2 + rest))

      abbrev after_first : ZcState
      after_first = record z { core = raised }

      first_turn : zc_turn (cuts 0) z ≡ Ok after_first
      first_turn =
          let sp = first.spoiled.registers 2 (λ d m. absurd m) in
          let small = ends_at.0 in
          let sum = facts.sum in
          let v : add32 (reg_in first.now 2) (pos rest) ≡ reg_in z.core 2 + rest = omega (arith, sp, small, sum) in
          turn_commits (cuts 0) z first.now raised (Base form.here) form.at.size first.turn
          (form.same form.at.size first.now ∙ ap (λ w. Commits (onward first.now form.at.size (set_reg first.now.regs 2 w))) v)

      raised_sp : reg_in raised 2 ≡ reg_in z.core 2 + rest
      raised_sp = let long = first_alike.core.count in reads-set_reg_same 0 0 first.now.regs 2 (reg_in z.core 2 + rest) two_some (omega (arith, long))

      raised_pc : z.core.pc + form.at.size ≡ raised.pc
      raised_pc = below_top z.core.pc first.now.pc form.at.size (ap (λ x. x.pc) first.spoiled.rest) form.at.small

      raised_ready : IsReady room raised
      raised_ready =
          let f = first_alike in
          let small = ends_at.0 in
          let sum = facts.sum in
          record {
            going = f.going;
            text = record { extents = f.extents; text = f.text };
            are_bytes = f.core.bytes;
            word = omega (arith, raised_sp, small, sum);
          }

      pub split_before : (half : OneAt e (z.core.pc + form.at.size) short) → Before p Named e ending list frame half.size 2 (z.core.pc + form.at.size) s' cuts z
      split_before half =
          let sum = facts.sum in
          let small = ends_at.0 in
          let at_half : OneAt e raised.pc short = record { size = half.size; here = ap (fetched_at (loaded_core e)) (sym raised_pc) ∙ half.here; small = (let s = half.small in omega (arith, s, raised_pc)) } in
          let f = first.spoiled in
          let bh = behind room slots (no_sp facts) short (cuts 1) (run.are 1) after_first raised_ready at_half
          (pop_kept p.map.stack_low p.map.stack_high slots (no_sp facts) raised (stack_within room raised raised_ready.text.extents) facts ending (reg_in z.core 2) half.size (λ d m. m) (omega (arith, raised_sp, sum)) small) in
          record {
            now = bh.now;
            at = ap (λ x. x.pc) bh.spoiled.rest ∙ sym raised_pc;
            done = pop_done ending half.size rest s s' z.core run.zp run.zf bh.now sum run.before run.after run.effects run.final (record {
              keeps = record { exit = ap (λ x. x.exit) bh.spoiled.rest ∙ ap (λ x. x.exit) f.rest; jvt = ap (λ x. x.jvt) bh.spoiled.rest ∙ ap (λ x. x.jvt) f.rest };
              long = bh.spoiled.long ∙ length-set_reg first.now.regs 2 (reg_in z.core 2 + rest) ∙ first_alike.core.count;
              sp = bh.spoiled.registers 2 (no_sp facts) ∙ raised_sp;
              registers = λ r other avoid.
                  bh.spoiled.registers r avoid ∙ reads-set_reg_other 0 0 first.now.regs 2 (reg_in z.core 2 + rest) r other ∙ f.registers r (λ d m. absurd m);
              extents = bh.spoiled.extents ∙ f.extents;
              bytes = λ x out. bh.spoiled.bytes x (λ l. let o = out l in omega (arith, o, raised_sp)) ∙ f.bytes x (λ l. let o = out l in omega (arith, o));
              are_bytes = bh.spoiled.are_bytes;
            });
            runs = λ y does.
                zc_turns-more cuts 1 z after_first (record z { core = y }) (zc_turns-one cuts z after_first first_turn)
                (turn_commits (cuts 1) after_first bh.now y short half.size bh.turn does);
          }
