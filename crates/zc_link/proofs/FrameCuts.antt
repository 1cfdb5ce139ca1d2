-- What interrupts may leave at a push or a pop, said of the machine alone: bytes of the stack below sp may hold anything, and so may
-- the registers of a pop's slots, which it has loaded; all else is as before (SpoiledSlots). So the instruction still stands at pc, and
-- its commit follows from the state behind the interrupts (Behind).
use Rattle.std.specs.Option.{option_map_or}
use Rattle.std.specs.Prelude.{◌⊎◌, All, slice_get, ◌&&◌}
use Rattle.std.proofs.Common.{◌≡◌, ◌≢◌, ℕ, zero, suc, ◌+◌, ◌-◌, ◌*◌, ◌/◌, ◌%◌, ◌^◌, ◌<◌, ◌≤◌, min, List, [], ◌∷◌, length, Option, Some, None, true, refl, sym, ap, ap₂, ◌∙◌, subst, arith, ltb, negsuc, ⊎_elim, inl, inr}
use Rattle.std.proofs.lemmas.Bool.{and_parts, cases_lt, cond_both, ltb-true}
use Rattle.std.proofs.lemmas.List.Elements.{All-head, All-tail}
use Rattle.zc_base.specs.declared.place.Place.{Place}
use Rattle.interrupt_plan.specs.Plan.{Interrupt, IsInterrupt}
use Rattle.rv_decode.specs.declared.instr.RegOp.TheVariants.{Add}
use Rattle.rv_decode.specs.Bits.{add32}
use Rattle.rv_decode.specs.Memory.{byte_of, changed, extents_of, is_stack, is_text, lies_in, written}
use Rattle.rv_decode.specs.Results.{reg_result}
use Rattle.rv_decode.specs.State.{ZcCore, ZcState, byte_in, reg_in, set_reg, word_at}
use Rattle.rv_decode.proofs.MemoryLaws.{extents-changed}
use Rattle.rv_decode.proofs.RegisterLaws.{length-set_reg, reads-set_reg_other}
use Rattle.sym_machine.specs.declared.word.SymByte.TheVariants.{Undef}
use Rattle.sym_machine.specs.Program.{Program}
use Rattle.sym_machine.specs.State.{PlainCore, cell_of}
use Rattle.zc_decode.specs.Accesses.{Access, accesses_of, words_below}
use Rattle.zc_decode.specs.Effect.{accessed, all_accessed, restored, saved, short_effect}
use Rattle.zc_decode.specs.Lists.{registers_of}
use Rattle.zc_decode.specs.declared.short.Short.{Short}
use Rattle.zc_decode.specs.declared.short.Short.TheVariants.{Push}
use Rattle.zc_machine.specs.Fetch.{Found, fetched_at}
use Rattle.zc_machine.specs.Interrupt.{all_dirtied, all_interrupted, dirtied, done_all, done_of, done_one, interrupted}
use Rattle.zc_machine.proofs.FrameLaws.{is_possible}
use Rattle.zc_machine.specs.Run.{committed, zc_turn}
use Rattle.zc_machine.specs.Step.{Ended, effect_step, made, zc_step}
use Rattle.zc_machine.proofs.FetchLaws.{SameText, fetched_same}
use Rattle.zc_machine.proofs.TurnLaws.{zc_turn-running}
use Rattle.zc_link.specs.Invariants.Groups.{Ending, GoesOn, Returns, Slot, ZeroBeforeRaise, ZeroBeforeReturn, ZeroFirst, frame_adjust, pop_kind, slots_below}
use Rattle.zc_link.specs.Image.{Image, loaded_core}
use Rattle.zc_link.specs.Invariants.Room.{Room}
use Rattle.zc_link.specs.Sound.{Alike}
use Rattle.zc_link.specs.Invariants.Stretches.{OneAt}
use Rattle.zc_link.proofs.Cuts.{all_cuts_kept, done-none, others_kept, stack_within, written_are}
use Rattle.zc_link.proofs.OnStack.{below_mark, free_end}
use Rattle.zc_link.proofs.Slots.{FrameFacts, IsOneOf}

-- z is y, but for bytes from low to below n, and for the registers of these slots
pub record SpoiledSlots (low n : ℕ) (ds : List Slot) (y z : ZcCore) : Type 0 where
  pub rest : z ≡ record y { regs = z.regs; memory = z.memory }
  pub long : length z.regs ≡ length y.regs
  pub registers : (r : ℕ) → ((d : Slot) → IsOneOf d ds → d.register ≢ r) → reg_in z r ≡ reg_in y r
  pub extents : extents_of z.memory ≡ extents_of y.memory
  pub bytes : (a : ℕ) → (low ≤ a → n ≤ a) → byte_in z a ≡ byte_in y a
  pub are_bytes : (a : ℕ) → byte_in z a < 256

-- a pop's slots have no sp, and a push has none whose registers change
abbrev pub AvoidSp : List Slot → Type 0
AvoidSp ds = (d : Slot) → IsOneOf d ds → d.register ≢ 2

-- ---- accesses are slots

slot_at :
    (base top : ℕ) (rs : List ℕ) (j : ℕ) (a : Access) → 4 * length rs ≤ top → base + top < 2 ^ 32 → slice_get (words_below (base + top) rs) j ≡ Some a
    → (base ≤ a.at) × IsOneOf (record { offset = a.at - base; register = a.register }) (slots_below top rs)
slot_at base top [] j a room small h = absurd cc
slot_at base top (r ∷ rs) zero a room small h =
    let b : add32 (base + top) (negsuc 3) ≡ base + (top - 4) = omega (arith, room, small) in
    let at : a.at ≡ base + (top - 4) = ap (λ (x : Access). x.at) (some_same h) ∙ b in
    let who : a.register ≡ r = ap (λ (x : Access). x.register) (some_same h) in
    let off : a.at - base ≡ top - 4 = omega (arith, at) in
    (omega (arith, at), inl (ap₂ {A = ℕ} {B = ℕ} {C = Slot} (λ x y. record { offset = x; register = y }) off who))
  where
    some_same : {x y : Access} → Some x ≡ Some y → y ≡ x
    some_same e = cc
slot_at base top (r ∷ rs) (suc j) a room small h =
    let b : add32 (base + top) (negsuc 3) ≡ base + (top - 4) = omega (arith, room, small) in
    let rest = slot_at base (top - 4) rs j a (omega (arith, room)) (omega (arith, small)) (ap (λ x. slice_get (words_below x rs) j) (sym b) ∙ h) in
    (rest.0, inr rest.1)

-- a pop's accesses, whatever its end
pub pop_accesses : (ending : Ending) (list adjust sp : ℕ) → accesses_of (pop_kind ending list adjust) sp ≡ words_below (reg_result Add sp adjust) (registers_of list)
pop_accesses GoesOn list adjust sp = refl
pop_accesses Returns list adjust sp = refl
pop_accesses ZeroFirst list adjust sp = refl
pop_accesses ZeroBeforeRaise list adjust sp = refl
pop_accesses ZeroBeforeReturn list adjust sp = refl

pub pop_accessed : (ending : Ending) (list adjust : ℕ) (a : Access) (z : ZcCore) → accessed (pop_kind ending list adjust) a z ≡ restored a z
pop_accessed GoesOn list adjust a z = refl
pop_accessed Returns list adjust a z = refl
pop_accessed ZeroFirst list adjust a z = refl
pop_accessed ZeroBeforeRaise list adjust a z = refl
pop_accessed ZeroBeforeReturn list adjust a z = refl

byte_below : (n i : ℕ) → byte_of n i < 256
byte_below n i = below (n / 256 ^ i)
  where
    below : (m : ℕ) → m % 256 < 256
    below m = omega arith

-- accesses that were done keep what each of those keeps that the instruction has
all_done :
    (K : ZcCore → Type 0) (s : Short) (xs : List Access) → ((j : ℕ) (a : Access) (z : ZcCore) → slice_get xs j ≡ Some a → K z → K (accessed s a z))
    → (js : List ℕ) (z : ZcCore) → K z → K (done_all s xs js z)
all_done K s xs each [] z k = k
all_done K s xs each (j ∷ js) z k = all_done K s xs each js (done_one s (slice_get xs j) z) (one (slice_get xs j) refl)
  where
    one : (o : Option Access) → slice_get xs j ≡ o → K (done_one s o z)
    one None is = k
    one (Some a) is = cond_both (is_possible a z) (accessed s a z) z K (λ _. each j a z is k) (λ _. k)

all_accesses :
    (K : ZcCore → Type 0) (s : Short) (xs : List Access) → ((j : ℕ) (a : Access) (z : ZcCore) → slice_get xs j ≡ Some a → K z → K (accessed s a z)) → (z : ZcCore) → K z
    → K (all_accessed s xs z)
all_accesses K s [] each z k = k
all_accesses K s (a ∷ xs) each z k = all_accesses K s xs (λ j x y is. each (suc j) x y is) (accessed s a z) (each 0 a z refl k)

-- ---- the machine alone

-- at a state y whose stack lies from low to below high
module _
    (low high : ℕ) (ds : List Slot) (no_sp : AvoidSp ds) (y : ZcCore) (stack : (a : ℕ) → lies_in is_stack (extents_of y.memory) a 1 ≡ true → (low ≤ a) × (a < high)) where
  abbrev K : ZcCore → Type 0
  K z = SpoiledSlots low (min (reg_in y 2) high) ds y z

  -- a write below sp and high
  write_kept :
      (at m : ℕ) (given : ℕ → ℕ) (z : ZcCore) → ((i : ℕ) → given i < 256) → low ≤ at → at + m ≤ min (reg_in y 2) high → K z
      → K (record z { memory = changed (written at m given) z.memory })
  write_kept at m given z are lower upper k = record {
    rest = ap {A = ZcCore} {B = ZcCore} (λ x. record x { regs = z.regs; memory = changed (written at m given) z.memory }) k.rest;
    long = k.long;
    registers = k.registers;
    extents = extents-changed (written at m given) z.memory ∙ k.extents;
    bytes = λ a out. others_kept low (min (reg_in y 2) high) at m given z lower upper a out ∙ k.bytes a out;
    are_bytes = written_are at m given z are k.are_bytes;
  }

  byte_kept : (d : ℕ × ℕ) (z : ZcCore) → d.1 < 256 → K z → K (dirtied d z)
  byte_kept d z is_byte k = cond_both (lies_in is_stack (extents_of z.memory) d.0 1 && ltb d.0 (reg_in z 2)) (record z { memory = changed (written d.0 1 (λ i. d.1)) z.memory }) z K
      (λ free.
      let q = and_parts (lies_in is_stack (extents_of z.memory) d.0 1) (ltb d.0 (reg_in z 2)) free in
      let under = ltb-true d.0 (reg_in z 2) q.1 in
      let sp = k.registers 2 no_sp in
      let within = stack d.0 (ap (λ es. lies_in is_stack es d.0 1) (sym k.extents) ∙ q.0) in
      write_kept d.0 1 (λ i. d.1) z (λ i. is_byte) within.0 (omega (arith, under, sp, within.1)) k)
      (λ _. k)

  all_bytes_kept : (bs : List (ℕ × ℕ)) (z : ZcCore) → All (λ d. d.1 < 256) bs → K z → K (all_dirtied bs z)
  all_bytes_kept [] z are k = k
  all_bytes_kept (d ∷ bs) z are k =
      all_bytes_kept bs (dirtied d z) (All-tail (λ (x : ℕ × ℕ). x.1 < 256) d bs are) (byte_kept d z (All-head (λ (x : ℕ × ℕ). x.1 < 256) d bs are) k)

  -- a push's accesses lie below sp, if that is an address of the stack, or its end
  push_each :
      {list frame : ℕ} {order : List Slot} → FrameFacts list frame order → low + frame ≤ reg_in y 2 → reg_in y 2 ≤ high → reg_in y 2 < 2 ^ 32 → (j : ℕ) (a : Access) (x : ZcCore)
      → slice_get (words_below (reg_in y 2) (registers_of list)) j ≡ Some a → K x → K (saved a x)
  push_each {list} {frame} facts deep top small j a x is k =
      let base : ℕ = reg_in y 2 - frame in
      let whole : reg_in y 2 ≡ base + frame = omega (arith, deep) in
      let m = slot_at base frame (registers_of list) j a facts.room (omega (arith, whole, small)) (ap (λ t. slice_get (words_below t (registers_of list)) j) (sym whole) ∙ is) in
      let v = facts.under (record { offset = a.at - base; register = a.register }) (facts.same.back (record { offset = a.at - base; register = a.register }) m.1) in
      write_kept a.at 4 (byte_of (reg_in x a.register)) x (byte_below (reg_in x a.register)) (omega (arith, m.0, deep)) (omega (arith, m.0, v, whole, top)) k

  pub push_kept :
      {list frame : ℕ} {order : List Slot} → FrameFacts list frame order → (adjust size : ℕ) → low + frame ≤ reg_in y 2 → reg_in y 2 ≤ high → reg_in y 2 < 2 ^ 32
      → (js : List ℕ) (z : ZcCore) → K z → K (done_of (Found (Push list adjust) size) js z)
  push_kept {list} facts adjust size deep top small js z k =
      subst (λ t. K (done_all (Push list adjust) (words_below t (registers_of list)) js z)) (sym (k.registers 2 no_sp))
      (all_done K (Push list adjust) (words_below (reg_in y 2) (registers_of list)) (push_each facts deep top small) js z k)

  -- after all of the interrupts before a push's commit its slots are as they were
  pub push_all_kept :
      {list frame : ℕ} {order : List Slot} → FrameFacts list frame order → (adjust : ℕ) → low + frame ≤ reg_in y 2 → reg_in y 2 ≤ high → reg_in y 2 < 2 ^ 32
      → K y → K (all_accessed (Push list adjust) (accesses_of (Push list adjust) (reg_in y 2)) y)
  push_all_kept {list} facts adjust deep top small k = all_accesses K (Push list adjust) (words_below (reg_in y 2) (registers_of list)) (push_each facts deep top small) y k

  -- a pop's load registers of its slots
  pub pop_kept :
      {list frame : ℕ} {order : List Slot} → FrameFacts list frame order → (ending : Ending) (base size : ℕ)
      → ((d : Slot) → IsOneOf d (slots_below frame (registers_of list)) → IsOneOf d ds) → reg_in y 2 + frame_adjust list frame ≡ base + frame → base + frame < 2 ^ 32
      → (js : List ℕ) (z : ZcCore) → K z → K (done_of (Found (pop_kind ending list (frame_adjust list frame)) size) js z)
  pop_kept {list} {frame} facts ending base size among top small js z k =
      let rs = registers_of list in
      let adjust = frame_adjust list frame in
      let short = pop_kind ending list adjust in
      let sp = k.registers 2 no_sp in
      let at : reg_result Add (reg_in z 2) adjust ≡ base + frame = omega (arith, sp, top, small) in
      subst (λ xs. K (done_all short xs js z)) (sym (pop_accesses ending list adjust (reg_in z 2) ∙ ap (λ t. words_below t rs) at))
      (all_done K short (words_below (base + frame) rs) (λ j a x is kx.
      let m = slot_at base frame rs j a facts.room small is in
      subst K (sym (pop_accessed ending list adjust a x)) (load_kept a x (a.at - base) (among (record { offset = a.at - base; register = a.register }) m.1) kx)) js z k)
    where
      load_kept : (a : Access) (x : ZcCore) (offset : ℕ) → IsOneOf (record { offset = offset; register = a.register }) ds → K x → K (restored a x)
      load_kept a x offset m kx = record {
        rest = ap {A = ZcCore} {B = ZcCore} (λ t. record t { regs = set_reg x.regs a.register (word_at x a.at) }) kx.rest;
        long = length-set_reg x.regs a.register (word_at x a.at) ∙ kx.long;
        registers = λ r none.
            reads-set_reg_other 0 0 x.regs a.register (word_at x a.at) r (λ is. none (record { offset = offset; register = a.register }) m (sym is)) ∙ kx.registers r none;
        extents = kx.extents;
        bytes = kx.bytes;
        are_bytes = kx.are_bytes;
      }

-- ---- both machines

-- z looks like y, but for bytes from low to below n; pc and the number of commits aside
pub record LooksLike (low n : ℕ) (y z : ZcCore) : Type 0 where
  pub exit : z.exit ≡ y.exit
  pub jvt : z.jvt ≡ y.jvt
  pub long : length z.regs ≡ length y.regs
  pub registers : (r : ℕ) → reg_in z r ≡ reg_in y r
  pub extents : extents_of z.memory ≡ extents_of y.memory
  pub bytes : (a : ℕ) → (low ≤ a → n ≤ a) → byte_in z a ≡ byte_in y a
  pub are_bytes : (a : ℕ) → byte_in z a < 256

-- if no slot's register may differ
pub spoiled_looks : {low n : ℕ} {y z : ZcCore} → SpoiledSlots low n [] y z → LooksLike low n y z
spoiled_looks sp = record {
  exit = ap (λ x. x.exit) sp.rest;
  jvt = ap (λ x. x.jvt) sp.rest;
  long = sp.long;
  registers = λ r. sp.registers r (λ d m. absurd m);
  extents = sp.extents;
  bytes = sp.bytes;
  are_bytes = sp.are_bytes;
}

module _ {p : Program} {e : Image} (room : Room p e) where
  -- an address of the text isn't one of the stack
  outside : (n a : ℕ) → n ≤ p.map.stack_high → lies_in is_text (extents_of (loaded_core e).memory) a 1 ≡ true → p.map.stack_low ≤ a → n ≤ a
  outside n a high text low = ⊎_elim
      (λ under. absurd (
      let none = room.apart a text in
      let held = room.reaches a 1 (omega arith) (inr (low, omega (arith, under, high))) in
      cc))
      (λ above. above)
      (cases_lt a n)

  -- whatever n is: the program must not know these bytes
  pub looks_alike :
      {Named : Place → Type 0} {s : PlainCore} {y z : ZcCore} (n : ℕ) → n ≤ p.map.stack_high → ((a : ℕ) → p.map.stack_low ≤ a → a < n → cell_of s a ≡ Undef)
      → LooksLike p.map.stack_low n y z → Alike p Named e s y → Alike p Named e s z
  looks_alike {s = s} {y = y} {z = z} n high unknown like al = record {
    ready = record {
      running = al.running;
      going = like.exit ∙ al.going;
      plain = al.plain;
      core = record { count = like.long ∙ al.core.count; words = λ r. rw (like.registers r) (al.core.words r); bytes = like.are_bytes };
      registers = λ r lt. rw (like.registers r) (al.registers r lt);
      memory = λ a m. ⊎_elim
          (λ inside. rw (unknown a inside.0 inside.1) tt)
          (λ out. rw (like.bytes a out) (al.memory a m))
          (where_is a);
      names = al.names;
      lies = al.lies;
      extents = like.extents ∙ al.extents;
      text = λ a text. like.bytes a (outside n a high text) ∙ al.text a text;
      table = λ elsewhere. like.jvt ∙ al.table elsewhere;
    };
    below = al.below;
  }
    where
      where_is : (a : ℕ) → ((p.map.stack_low ≤ a) × (a < n)) ⊎ (p.map.stack_low ≤ a → n ≤ a)
      where_is a = ⊎_elim
          (λ under. ⊎_elim (λ before. inr (λ l. absurd (omega (arith, before, l)))) (λ l. inl (l, under)) (cases_lt a p.map.stack_low))
          (λ above. inr (λ _. above))
          (cases_lt a n)

  -- what interrupts may write isn't known
  pub spoiled_alike :
      {Named : Place → Type 0} {s : PlainCore} {y z : ZcCore} → SpoiledSlots p.map.stack_low (free_end p.map y) [] y z → Alike p Named e s y → Alike p Named e s z
  spoiled_alike {y = y} sp al =
      looks_alike (free_end p.map y) (omega arith) (λ a low free. al.below a low (below_mark al a free)) (spoiled_looks sp) al

  -- ---- a commit

  -- what is asked of the state before the interrupts
  pub record IsReady (z : ZcCore) : Type 0 where
    pub going : z.exit ≡ None
    pub text : SameText (loaded_core e) z
    pub are_bytes : (a : ℕ) → byte_in z a < 256
    pub word : reg_in z 2 < 2 ^ 32

  pub alike_ready : {Named : Place → Type 0} {s : PlainCore} {z : ZcCore} → Alike p Named e s z → IsReady z
  alike_ready al = record { going = al.going; text = record { extents = al.extents; text = al.text }; are_bytes = al.core.bytes; word = al.core.words 2 }

  -- the state behind the interrupts before a commit, and what the turn then is
  pub record Behind (ds : List Slot) (short : Short) (size : ℕ) (cuts : List Interrupt) (z : ZcState) : Type 0 where
    pub now : ZcCore
    pub spoiled : SpoiledSlots p.map.stack_low (free_end p.map z.core) ds z.core now
    pub turn : zc_turn cuts z ≡ committed (effect_step (short_effect short size now) now) (record z { core = now })

  module _ (ds : List Slot) (no_sp : AvoidSp ds) (y : ZcCore) (is : IsReady y) where
    abbrev IsSpoiled : ZcCore → Type 0
    IsSpoiled z = SpoiledSlots p.map.stack_low (free_end p.map y) ds y z

    pub text_kept : (z : ZcCore) → IsSpoiled z → SameText (loaded_core e) z
    text_kept z k = record {
      extents = k.extents ∙ is.text.extents;
      text = λ a text. k.bytes a (outside (free_end p.map y) a (omega arith) text) ∙ is.text.text a text;
    }

    fetched_kept : (z : ZcCore) → IsSpoiled z → fetched_at z z.pc ≡ fetched_at (loaded_core e) y.pc
    fetched_kept z k = fetched_same (loaded_core e) z (text_kept z k) z.pc ∙ ap (λ x. fetched_at (loaded_core e) x.pc) k.rest

    -- an interrupt keeps what the accesses of the instruction at pc keep
    pub interrupt_kept :
        (short : Short) → (at : OneAt e y.pc short) → ((js : List ℕ) (z : ZcCore) → IsSpoiled z → IsSpoiled (done_of (Found short at.size) js z))
        → (c : Interrupt) (z : ZcCore) → IsInterrupt c → IsSpoiled z → IsSpoiled (interrupted c z)
    interrupt_kept short at done c z bytes k =
        subst (λ f. IsSpoiled (all_dirtied c.dirt (done_of f c.done z))) (sym (fetched_kept z k ∙ at.here))
        (all_bytes_kept p.map.stack_low p.map.stack_high ds no_sp y (stack_within room y is.text.extents) c.dirt (done_of (Found short at.size) c.done z) bytes (done c.done z k))

    pub itself : IsSpoiled y
    itself = record { rest = refl; long = refl; registers = λ r _. refl; extents = refl; bytes = λ a _. refl; are_bytes = is.are_bytes }

  pub behind :
      (ds : List Slot) → AvoidSp ds → (short : Short) (cuts : List Interrupt) → All IsInterrupt cuts → (z : ZcState) → (is : IsReady z.core) → (at : OneAt e z.core.pc short)
      → ((js : List ℕ) (x : ZcCore) → SpoiledSlots p.map.stack_low (free_end p.map z.core) ds z.core x → SpoiledSlots p.map.stack_low (free_end p.map z.core) ds z.core (done_of (Found short at.size) js x))
      → Behind ds short at.size cuts z
  unfolding zc_step
  behind ds no_sp short cuts are z is at done =
      let now : ZcCore = all_interrupted cuts z.core in
      let spoiled = all_cuts_kept (SpoiledSlots p.map.stack_low (free_end p.map z.core) ds z.core) (interrupt_kept ds no_sp z.core is short at done) cuts z.core are (itself ds no_sp z.core is) in
      record {
        now = now;
        spoiled = spoiled;
        turn = zc_turn-running cuts z is.going
            ∙ ap (λ o. committed (option_map_or Ended o (made (fetched_at now now.pc) now)) (record z { core = now })) (ap (λ x. x.exit) spoiled.rest ∙ is.going)
            ∙ ap (λ f. committed (made f now) (record z { core = now })) (fetched_kept ds no_sp z.core is now spoiled ∙ at.here);
      }

-- an instruction without accesses
pub without_accesses :
    (K : ZcCore → Type 0) (s : Short) (size : ℕ) → ((sp : ℕ) → accesses_of s sp ≡ []) → (js : List ℕ) (z : ZcCore) → K z → K (done_of (Found s size) js z)
without_accesses K s size none js z k = subst K (sym (done-none s size none js z)) k
