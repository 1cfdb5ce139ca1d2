-- Pushes, whole and split: from each sound pair the group's steps are its commits, whatever interrupts come before them. The push goes
-- on from the state behind the interrupts as its items do, one after another; between the two instructions of a split push an
-- interrupt may write all bytes below the middle sp, which the program doesn't know.
use Rattle.std.proofs.Common.{◌≡◌, ◌≢◌, ℕ, ◌+◌, ◌-◌, ◌%◌, ◌^◌, ◌<◌, ◌≤◌, List, [], ◌∷◌, length, Some, Ok, true, refl, sym, ap, ◌∙◌, subst, arith, pos, negsuc, ⊎_elim, inl, inr}
use Rattle.std.specs.Prelude.{All}
use Rattle.std.proofs.lemmas.Bool.{cases_eq}
use Rattle.zc_base.specs.declared.place.Place.{Place}
use Rattle.interrupt_plan.specs.Plan.{Interrupt, IsInterrupt}
use Rattle.rv_decode.specs.Bits.{add32}
use Rattle.rv_decode.specs.Effect.{Commits, onward, stored}
use Rattle.rv_decode.specs.Memory.{extents_of}
use Rattle.rv_decode.specs.Run.{iterate}
use Rattle.rv_decode.specs.State.{ZcCore, ZcState, byte_in, reg_in, set_reg}
use Rattle.rv_decode.proofs.RegisterLaws.{length-set_reg, reads, reads-set_reg_other, reads-set_reg_same}
use Rattle.sym_machine.specs.Program.{Program}
use Rattle.sym_machine.specs.Run.{plain_turn}
use Rattle.sym_machine.specs.State.{PlainState}
use Rattle.sym_machine.specs.Step.{is_set}
use Rattle.sym_machine.proofs.RunLaws.{turns_set}
use Rattle.zc_decode.specs.declared.short.Short.TheVariants.{Base, Push}
use Rattle.zc_machine.specs.Fetch.{fetched_at}
use Rattle.zc_machine.specs.Run.{zc_turn}
use Rattle.zc_machine.proofs.TurnLaws.{zc_turns-more}
use Rattle.zc_link.specs.Invariants.Groups.{Slot, frame_adjust, frame_commits, lower_sp, push_ops, rest_of, stores_of}
use Rattle.zc_link.specs.Image.{Image, loaded_core}
use Rattle.zc_link.specs.IsSimulation.{Comes}
use Rattle.zc_link.specs.Invariants.Room.{Room}
use Rattle.zc_link.specs.Sound.{Alike}
use Rattle.zc_link.specs.Invariants.Stretches.{AreOps, FormAt, OneAt, PushAt, place_items_on}
use Rattle.zc_link.proofs.Commits.{zc_turns-one}
use Rattle.zc_link.proofs.Effects.{Effects, commits_same, reached_by}
use Rattle.zc_link.proofs.FrameCuts.{IsReady, LooksLike, alike_ready, behind, looks_alike, push_kept, spoiled_alike}
use Rattle.zc_link.proofs.Cuts.{stack_within}
use Rattle.zc_link.proofs.Frames.{push_made}
use Rattle.zc_link.proofs.GroupEnds.{FromPlace, arrives, behind_one, one_commit, turn_commits, two_commits}
use Rattle.zc_link.proofs.OnStack.{OnStack, on_stack}
use Rattle.zc_link.proofs.Singles.{below_top}
use Rattle.zc_link.proofs.Slots.{FrameFacts, IsOneOf}
use Rattle.zc_link.proofs.StackFound.{finds_set, push_finds}
use Rattle.zc_link.proofs.Straight.{AreStraight, Follow, all_follow, on_way}
use Rattle.zc_link.proofs.Unknown.{push_keeps}

pub two_some : ◌≢◌ {A = ℕ} 2 0
two_some none = omega (arith, none)

-- ---- what the items' own run says of sp

stores_regs : (ds : List Slot) (y z : ZcCore) → Effects (stores_of ds) y z → z.regs ≡ y.regs
stores_regs [] y z h = ap (λ x. x.regs) h
stores_regs (d ∷ ds) y z h =
    let a : ℕ = add32 (reg_in y 2) (pos d.offset) in
    let ok = reached_by a y (onward (stored 4 a (reg_in y d.register) y) h.0 y.regs) h.1 _ h.2 in
    stores_regs ds h.1 z h.3 ∙ ap (λ x. x.regs) ok.0

-- where sp is within the stack before a push and after it, the frame is
pub push_deep :
    (low high frame : ℕ) (order : List Slot) (z zf : ZcCore) → 2048 ≤ low → high < 2 ^ 32 → 16 ≤ frame → frame ≤ 2032 → length z.regs ≡ 32 → low ≤ reg_in z 2 → reg_in z 2 ≤ high
    → low ≤ reg_in zf 2 → reg_in zf 2 ≤ high → Effects (push_ops frame order) z zf → low + frame ≤ reg_in z 2
push_deep low high frame order z zf deep top some most long l h lf hf ef =
    let v : ℕ = add32 (reg_in z 2) (negsuc (frame - 1)) in
    let first = commits_same (onward z ef.0 (set_reg z.regs 2 v)) ef.1 ef.2 in
    let is : reg_in zf 2 ≡ v = ap (λ l. reads 0 0 l 2) (stores_regs order ef.1 zf ef.3 ∙ ap (λ x. x.regs) first) ∙ reads-set_reg_same 0 0 z.regs 2 v two_some (omega (arith, long)) in
    omega (arith, deep, top, some, most, l, h, lf, hf, is)

-- a push's items go on
stores_straight : (ds : List Slot) → ((d : Slot) → IsOneOf d ds → d.register < 32) → AreStraight (stores_of ds)
stores_straight [] low = tt
stores_straight (d ∷ ds) low = ((low d (inl refl), omega arith), stores_straight ds (λ c m. low c (inr m)))

pub push_straight : {list frame : ℕ} {order : List Slot} → FrameFacts list frame order → AreStraight (push_ops frame order)
push_straight {order = order} facts = (omega arith, stores_straight order (λ d m. (facts.register d m).under))

-- ---- the push itself

-- behind it, beside the state zf behind the items one after another, which is alike with the program's: they differ in sp, which the
-- push lowers by its own adjustment
pub record Pushed (p : Program) (Named : Place → Type 0) (e : Image) (list frame size : ℕ) (r' : PlainState) (cuts : List Interrupt) (z : ZcState) : Type 0 where
  pub after : ZcCore
  pub turn : zc_turn cuts z ≡ Ok (record z { core = after })
  pub zf : ZcCore
  pub alike : Alike p Named e r'.core zf
  pub before : List ℕ
  pub long : length before ≡ 32
  pub regs : after.regs ≡ set_reg before 2 (reg_in z.core 2 - frame_adjust list frame)
  pub regs_f : zf.regs ≡ set_reg before 2 (reg_in z.core 2 - frame)
  pub bytes : (x : ℕ) → byte_in after x ≡ byte_in zf x
  pub extents : extents_of after.memory ≡ extents_of zf.memory
  pub exit : after.exit ≡ zf.exit
  pub jvt : after.jvt ≡ zf.jvt
  pub pc : after.pc ≡ (z.core.pc + size) % 2 ^ 32
  pub deep : p.map.stack_low + frame ≤ reg_in z.core 2

module _ {p : Program} {Named : Place → Type 0} {e : Image} (room : Room p e) {list frame : ℕ} {order : List Slot} (facts : FrameFacts list frame order) where
  pub pushed :
      (r r' : PlainState) (cuts : List Interrupt) → All IsInterrupt cuts → (z : ZcState) → (half : OneAt e z.core.pc (Push list (frame_adjust list frame)))
      → ((y : ZcCore) → Alike p Named e r.core y → Follow p Named e (push_ops frame order) r' y) → OnStack p Named e r.core z.core → is_set p.map r'.core ≡ true
      → Pushed p Named e list frame half.size r' cuts z
  pushed r r' cuts are z half follow al set =
      let n = reg_in z.core 2 in
      let adjust = frame_adjust list frame in
      let size = half.size in
      let f0 = follow z.core al.alike in
      let end = on_stack f0.alike set in
      let deep = push_deep p.map.stack_low p.map.stack_high frame order z.core f0.after room.deep room.top facts.some facts.most al.core.count al.low al.high end.low end.high f0.effects in
      let words = al.core.words 2 in
      let ready = alike_ready room al.alike in
      let bh = behind room [] (λ d m. absurd m) (Push list adjust) cuts are z ready half
      (push_kept p.map.stack_low p.map.stack_high [] (λ d m. absurd m) z.core (stack_within room z.core al.extents) facts adjust size deep al.high words) in
      let y = bh.now in
      let al1 = spoiled_alike room bh.spoiled al.alike in
      let f1 = follow y al1 in
      let sp : reg_in y 2 ≡ n = bh.spoiled.registers 2 (λ d m. absurd m) in
      let mk = push_made facts size y f1.after al1.core.count (omega (arith, sp, deep)) (al1.core.words 2) f1.effects in
      let y' : ZcCore = onward (record y { memory = mk.memory }) size (set_reg y.regs 2 (reg_in y 2 - adjust)) in
      record {
        after = y';
        turn = turn_commits cuts z y y' (Push list adjust) size bh.turn mk.does;
        zf = f1.after;
        alike = f1.alike;
        before = y.regs;
        long = al1.core.count;
        regs = ap (λ v. set_reg y.regs 2 (v - adjust)) sp;
        regs_f = mk.regs_f ∙ ap (λ v. set_reg y.regs 2 (v - frame)) sp;
        bytes = mk.bytes;
        extents = mk.extents ∙ sym mk.extents_f;
        exit = sym mk.rest_f.exit;
        jvt = sym mk.rest_f.jvt;
        pc = ap (λ x. (x.pc + size) % 2 ^ 32) bh.spoiled.rest;
        deep = deep;
      }

  -- ---- whole

  -- a push without a rest leaves what its items leave one after another
  pub whole_alike :
      {size : ℕ} {r' : PlainState} {cuts : List Interrupt} {z : ZcState} → rest_of list frame ≡ 0 → (ps : Pushed p Named e list frame size r' cuts z) → Alike p Named e r'.core ps.after
  whole_alike {z = z} none ps =
      let sum = facts.sum in
      let all : frame_adjust list frame ≡ frame = omega (arith, none, sum) in
      let regs : ps.after.regs ≡ ps.zf.regs = ps.regs ∙ ap (λ a. set_reg ps.before 2 (reg_in z.core 2 - a)) all ∙ sym ps.regs_f in
      let like : LooksLike p.map.stack_low 0 ps.zf ps.after = record {
        exit = ps.exit;
        jvt = ps.jvt;
        long = ap length regs;
        registers = λ x. ap (λ l. reads 0 0 l x) regs;
        extents = ps.extents;
        bytes = λ x _. ps.bytes x;
        are_bytes = λ x. rw (ps.bytes x) (ps.alike.core.bytes x);
      } in
      looks_alike room 0 (omega arith) (λ a l lt. absurd (omega (arith, lt))) like ps.alike

  module _
      {r r' : PlainState} {cuts : ℕ → List Interrupt} {z : ZcState} (from : FromPlace p Named e r cuts z) (half : OneAt e z.core.pc (Push list (frame_adjust list frame)))
      (ops : AreOps p r.core.place (push_ops frame order)) (h : iterate (plain_turn p) (length (push_ops frame order)) r ≡ Ok r') where
    abbrev behind_ops : Place
    behind_ops = place_items_on p r.core.place (length (push_ops frame order))

    set : is_set p.map r.core ≡ true
    set = finds_set p (push_ops frame order) r r' (push_finds frame order) ops from.sound.alike.running h

    on : OnStack p Named e r.core z.core
    on = on_stack from.sound.alike set

    abbrev first : Pushed p Named e list frame half.size r' (cuts 0) z
    first = pushed r r' (cuts 0) (from.are 0) z half (λ y al. all_follow room (push_ops frame order) r r' y ops (push_straight facts) h al) on
        (turns_set p (length (push_ops frame order)) r r' h set)

    first_pc : first.after.pc ≡ z.core.pc + half.size
    first_pc = let small = half.small in first.pc ∙ omega (arith, small)

    whole_comes : rest_of list frame ≡ 0 → e.address behind_ops ≡ Some (z.core.pc + half.size) → Comes p Named e cuts 1 z r'
    whole_comes none next =
        let ps = first in
        let alike = whole_alike none ps in
        arrives from 1 behind_ops r' ps.after (on_way p (push_ops frame order) (length (push_ops frame order)) r r' (omega arith) ops (push_straight facts) from.sound.alike.running h)
        (next ∙ ap Some (sym first_pc)) alike (zc_turns-one cuts z (record z { core = ps.after }) ps.turn)

    -- ---- split

    abbrev after_first : ZcState
    after_first = record z { core = first.after }

    abbrev middle_sp : ℕ
    middle_sp = reg_in z.core 2 - frame_adjust list frame

    -- the state behind the push is one that interrupts may come to
    first_sp : reg_in first.after 2 ≡ middle_sp
    first_sp =
        let long = first.long in
        ap (λ l. reads 0 0 l 2) first.regs ∙ reads-set_reg_same 0 0 first.before 2 middle_sp two_some (omega (arith, long))

    first_ready : IsReady room first.after
    first_ready =
        let ps = first in
        let words = from.sound.alike.core.words 2 in
        record {
          going = ps.exit ∙ ps.alike.going;
          text = record { extents = ps.extents ∙ ps.alike.extents; text = λ a t. ps.bytes a ∙ ps.alike.text a t };
          are_bytes = λ a. rw (ps.bytes a) (ps.alike.core.bytes a);
          word = omega (arith, first_sp, words);
        }

    split_comes :
        0 < rest_of list frame → (form : FormAt e (z.core.pc + half.size) (lower_sp (rest_of list frame))) → e.address behind_ops ≡ Some (z.core.pc + half.size + form.at.size)
        → Comes p Named e cuts 2 z r'
    split_comes some form next =
        let ps = first in
        let n = reg_in z.core 2 in
        let rest = rest_of list frame in
        let sum = facts.sum in
        let long = ps.long in
        let deep = ps.deep in
        let words = from.sound.alike.core.words 2 in
        let size = form.at.size in
        let at : OneAt e first.after.pc (Base form.here) = record { size = size; here = ap (fetched_at (loaded_core e)) first_pc ∙ form.at.here; small = (let small = form.at.small in omega (arith, small, first_pc)) } in
        let bh = behind_one room (Base form.here) (cuts 1) (λ sp. refl) (from.are 1) after_first first_ready at in
        let y = bh.now in
        let sp2 : reg_in y 2 ≡ middle_sp = bh.spoiled.registers 2 (λ d m. absurd m) ∙ first_sp in
        let v : add32 (reg_in y 2) (negsuc (rest - 1)) ≡ n - frame = omega (arith, sp2, some, deep, words, sum) in
        let y' : ZcCore = onward y size (set_reg y.regs 2 (n - frame)) in
        let turn2 = turn_commits (cuts 1) after_first y y' (Base form.here) size bh.turn (form.same size y ∙ ap (λ w. Commits (onward y size (set_reg y.regs 2 w))) v) in
        let long_y : length y.regs ≡ 32 = bh.spoiled.long ∙ ap length ps.regs ∙ length-set_reg ps.before 2 middle_sp ∙ long in
        let like : LooksLike p.map.stack_low middle_sp ps.zf y' = record {
          exit = ap (λ x. x.exit) bh.spoiled.rest ∙ ps.exit;
          jvt = ap (λ x. x.jvt) bh.spoiled.rest ∙ ps.jvt;
          long = length-set_reg y.regs 2 (n - frame) ∙ long_y ∙ sym ps.alike.core.count;
          registers = λ x. ⊎_elim
              (λ here.
              ap (reads 0 0 (set_reg y.regs 2 (n - frame))) here
              ∙ reads-set_reg_same 0 0 y.regs 2 (n - frame) two_some (omega (arith, long_y))
              ∙ sym (reads-set_reg_same 0 0 ps.before 2 (n - frame) two_some (omega (arith, long)))
              ∙ ap (λ l. reads 0 0 l 2) (sym ps.regs_f)
              ∙ ap (reg_in ps.zf) (sym here))
              (λ other.
              reads-set_reg_other 0 0 y.regs 2 (n - frame) x other
              ∙ bh.spoiled.registers x (λ d m. absurd m)
              ∙ ap (λ l. reads 0 0 l x) ps.regs
              ∙ reads-set_reg_other 0 0 ps.before 2 middle_sp x other
              ∙ sym (reads-set_reg_other 0 0 ps.before 2 (n - frame) x other)
              ∙ ap (λ l. reads 0 0 l x) (sym ps.regs_f))
              (cases_eq x 2);
          extents = bh.spoiled.extents ∙ ps.extents;
          bytes = λ x out. bh.spoiled.bytes x (λ l. let o = out l in omega (arith, o, first_sp)) ∙ ps.bytes x;
          are_bytes = bh.spoiled.are_bytes;
        } in
        let unknown = λ (a : ℕ) (l : p.map.stack_low ≤ a) (lt : a < middle_sp).
        push_keeps room frame order r r' z.core a ops (push_straight facts) h from.sound.alike (let big = facts.some in omega (arith, big)) (omega (arith, deep))
        (λ d m. let over = facts.over d m in let under = facts.under d m in (omega (arith, deep, words, under), omega (arith, over, lt, deep)))
        (on.under a l (omega (arith, lt))) in
        let alike = looks_alike room middle_sp (let high = on.high in omega (arith, high)) unknown like ps.alike in
        let pc : z.core.pc + half.size + size ≡ y'.pc = below_top (z.core.pc + half.size) y.pc size (ap (λ x. x.pc) bh.spoiled.rest ∙ first_pc) form.at.small in
        arrives from 2 behind_ops r' y' (on_way p (push_ops frame order) (length (push_ops frame order)) r r' (omega arith) ops (push_straight facts) from.sound.alike.running h)
        (next ∙ ap Some pc) alike (zc_turns-more cuts 1 z after_first (record z { core = y' }) (zc_turns-one cuts z after_first ps.turn) turn2)

  -- ---- both

  pub push_comes :
      {r r' : PlainState} {cuts : ℕ → List Interrupt} {z : ZcState} {end : ℕ} → FromPlace p Named e r cuts z → PushAt e z.core.pc list frame end
      → AreOps p r.core.place (push_ops frame order) → e.address (place_items_on p r.core.place (length (push_ops frame order))) ≡ Some end
      → iterate (plain_turn p) (length (push_ops frame order)) r ≡ Ok r' → Comes p Named e cuts (frame_commits list frame) z r'
  push_comes {r} {r'} {cuts} {z} {end} from at ops next h = ⊎_elim
      (λ whole. subst (λ k. Comes p Named e cuts k z r') (sym (one_commit list frame whole.0)) (whole_comes from at.half ops h whole.0 (next ∙ ap Some whole.1)))
      (λ split. subst (λ k. Comes p Named e cuts k z r') (sym (two_commits list frame split.0)) (split_comes from at.half ops h split.0 split.1 (next ∙ ap Some split.2)))
      at.rest
