-- What interrupts may leave, said of the machine alone: bytes of the stack below sp may hold anything, and all else is as
-- before (Spoiled). The program doesn't know these bytes, whether its sp is set or not, so states that are alike stay so
-- (spoiled_below).
use Rattle.std.proofs.Common.{◌≡◌, ℕ, ◌+◌, ◌-◌, ◌<◌, ◌≤◌, min, List, [], ◌∷◌, length, true, refl, sym, ap, ◌∙◌, arith, ltb, leb, ⊎_elim, inl, inr}
use Rattle.std.specs.Prelude.{◌⊎◌, ◌&&◌, All}
use Rattle.std.proofs.lemmas.Bool.{and_parts, cases_Bool, cases_lt, cond_both, ltb-true}
use Rattle.std.proofs.lemmas.List.Elements.{All-head, All-tail}
use Rattle.zc_base.specs.declared.place.Place.{Place}
use Rattle.interrupt_plan.specs.Plan.{Interrupt, IsInterrupt}
use Rattle.rv_decode.specs.Memory.{cell_at, changed, extents_of, is_stack, lies_in, written}
use Rattle.rv_decode.specs.State.{ZcCore, byte_in, reg_in}
use Rattle.rv_decode.proofs.MemoryLaws.{cell-changed, cell-uncovered, cell_kept, extents-changed, is_covered, untouched}
use Rattle.sym_machine.specs.declared.word.SymByte.TheVariants.{Undef}
use Rattle.sym_machine.specs.Program.{Program}
use Rattle.sym_machine.specs.State.{PlainCore, cell_of}
use Rattle.zc_decode.specs.Accesses.{accesses_of}
use Rattle.zc_decode.specs.declared.short.Short.{Short}
use Rattle.zc_machine.specs.Fetch.{Fetched, Found, fetched_at}
use Rattle.zc_machine.specs.Interrupt.{all_dirtied, all_interrupted, dirtied, done_all, done_of, interrupted}
use Rattle.zc_machine.specs.Load.{first_core}
use Rattle.zc_machine.proofs.LoadLaws.{stack_bounds}
use Rattle.zc_link.specs.Image.{Image, loaded_core}
use Rattle.zc_link.specs.Invariants.Room.{Room}
use Rattle.zc_link.specs.Sound.{Alike}
use Rattle.zc_link.proofs.OnStack.{below_mark, free_end}

-- an instruction without accesses has none that an interrupt could do
pub done-none :
    (s : Short) (size : ℕ) → ((sp : ℕ) → accesses_of s sp ≡ []) → (done : List ℕ) (z : ZcCore)
    → done_of (Found s size) done z ≡ z
done-none s size none done z = ap (λ xs. done_all s xs done z) (none (reg_in z 2)) ∙ stays done
  where
    stays : (js : List ℕ) → done_all s [] js z ≡ z
    stays [] = refl
    stays (j ∷ js) = stays js

-- where what is fetched at pc has none, an interrupt only writes its bytes
pub cut-quiet :
    (c : Interrupt) (z : ZcCore) (f : Fetched) → ((done : List ℕ) (y : ZcCore) → done_of f done y ≡ y) → fetched_at z z.pc ≡ f
    → interrupted c z ≡ all_dirtied c.dirt z
cut-quiet c z f quiet here = ap (λ g. all_dirtied c.dirt (done_of g c.done z)) here ∙ ap (all_dirtied c.dirt) (quiet c.done z)

-- z is y, but for bytes from low to below n
pub record Spoiled (low n : ℕ) (y z : ZcCore) : Type 0 where
  pub rest : z ≡ record y { memory = z.memory }
  pub extents : extents_of z.memory ≡ extents_of y.memory
  pub bytes : (a : ℕ) → (low ≤ a → n ≤ a) → byte_in z a ≡ byte_in y a
  pub are_bytes : (a : ℕ) → byte_in z a < 256

pub unspoiled : (low n : ℕ) (y : ZcCore) → ((a : ℕ) → byte_in y a < 256) → Spoiled low n y y
unspoiled low n y are = record { rest = refl; extents = refl; bytes = λ a _. refl; are_bytes = are }

-- interrupts, one after another, keep what each keeps
pub all_cuts_kept :
    (K : ZcCore → Type 0) → ((c : Interrupt) (z : ZcCore) → IsInterrupt c → K z → K (interrupted c z)) → (cuts : List Interrupt) (z : ZcCore) → All IsInterrupt cuts → K z
    → K (all_interrupted cuts z)
all_cuts_kept K each [] z are kept = kept
all_cuts_kept K each (c ∷ cs) z are kept = all_cuts_kept K each cs (interrupted c z) (All-tail IsInterrupt c cs are) (each c z (All-head IsInterrupt c cs are) kept)

-- ---- a write

-- a write of bytes leaves memory made of bytes
pub written_are : (at m : ℕ) (given : ℕ → ℕ) (z : ZcCore) → ((i : ℕ) → given i < 256) → ((a : ℕ) → byte_in z a < 256) → (a : ℕ) → cell_at 0 (changed (written at m given) z.memory) a < 256
written_are at m given z are bytes = cell_kept (written at m given) z.memory 0 (λ c. c < 256) byte (omega arith) bytes
  where
    byte : (a c : ℕ) → c < 256 → written at m given a c < 256
    byte a c lt = cond_both (leb at a && ltb a (at + m)) (given (a - at)) c (λ v. v < 256) (λ _. are (a - at)) (λ _. lt)

-- from low to below n keeps all other bytes
pub others_kept :
    (low n at m : ℕ) (given : ℕ → ℕ) (z : ZcCore) → low ≤ at → at + m ≤ n → (a : ℕ) → (low ≤ a → n ≤ a)
    → cell_at 0 (changed (written at m given) z.memory) a ≡ byte_in z a
others_kept low n at m given z lower upper a out = ⊎_elim
    (λ held.
    cell-changed (written at m given) z.memory a 0 held
    ∙ untouched at m given a (byte_in z a) (λ l u. let above = out (omega (arith, l, lower)) in omega (arith, above, upper, u)))
    (λ free.
    let still = ap (λ es. is_covered es a) (extents-changed (written at m given) z.memory) ∙ free in
    cell-uncovered (changed (written at m given) z.memory) a 0 still ∙ sym (cell-uncovered z.memory a 0 free))
    (cases_Bool (is_covered (extents_of z.memory) a))

-- ---- the machine alone

-- at a state y whose stack lies from low to below high, interrupts write from low to below sp and high
module _ (low high : ℕ) (y : ZcCore) (stack : (a : ℕ) → lies_in is_stack (extents_of y.memory) a 1 ≡ true → (low ≤ a) × (a < high)) where
  abbrev IsSpoiled : ZcCore → Type 0
  IsSpoiled z = Spoiled low (min (reg_in y 2) high) y z

  written_spoiled :
      (at m : ℕ) (given : ℕ → ℕ) (z : ZcCore) → ((i : ℕ) → given i < 256) → low ≤ at → at + m ≤ min (reg_in y 2) high → IsSpoiled z
      → IsSpoiled (record z { memory = changed (written at m given) z.memory })
  written_spoiled at m given z are lower upper k = record {
    rest = ap {A = ZcCore} {B = ZcCore} (λ x. record x { memory = changed (written at m given) z.memory }) k.rest;
    extents = extents-changed (written at m given) z.memory ∙ k.extents;
    bytes = λ a out. others_kept low (min (reg_in y 2) high) at m given z lower upper a out ∙ k.bytes a out;
    are_bytes = written_are at m given z are k.are_bytes;
  }

  free_below : (a : ℕ) (z : ZcCore) → IsSpoiled z → (lies_in is_stack (extents_of z.memory) a 1 && ltb a (reg_in z 2)) ≡ true → (low ≤ a) × (a + 1 ≤ min (reg_in y 2) high)
  free_below a z k free =
      let q = and_parts (lies_in is_stack (extents_of z.memory) a 1) (ltb a (reg_in z 2)) free in
      let under = ltb-true a (reg_in z 2) q.1 in
      let sp : reg_in z 2 ≡ reg_in y 2 = ap (λ x. reg_in x 2) k.rest in
      let within = stack a (ap (λ es. lies_in is_stack es a 1) (sym k.extents) ∙ q.0) in
      (within.0, omega (arith, under, sp, within.1))

  dirtied_spoiled : (d : ℕ × ℕ) (z : ZcCore) → d.1 < 256 → IsSpoiled z → IsSpoiled (dirtied d z)
  dirtied_spoiled d z is_byte k = cond_both (lies_in is_stack (extents_of z.memory) d.0 1 && ltb d.0 (reg_in z 2)) (record z { memory = changed (written d.0 1 (λ i. d.1)) z.memory }) z IsSpoiled
      (λ free. let at = free_below d.0 z k free in written_spoiled d.0 1 (λ i. d.1) z (λ i. is_byte) at.0 at.1 k)
      (λ _. k)

  pub all_dirtied_spoiled : (ds : List (ℕ × ℕ)) (z : ZcCore) → All (λ d. d.1 < 256) ds → IsSpoiled z → IsSpoiled (all_dirtied ds z)
  all_dirtied_spoiled [] z are k = k
  all_dirtied_spoiled (d ∷ ds) z are k =
      all_dirtied_spoiled ds (dirtied d z) (All-tail (λ (x : ℕ × ℕ). x.1 < 256) d ds are)
      (dirtied_spoiled d z (All-head (λ (x : ℕ × ℕ). x.1 < 256) d ds are) k)

-- ---- both machines

module _ {p : Program} {e : Image} (room : Room p e) where
  -- the image's stack lies between the map's bounds
  pub stack_within :
      (z : ZcCore) → extents_of z.memory ≡ extents_of (loaded_core e).memory → (a : ℕ) → lies_in is_stack (extents_of z.memory) a 1 ≡ true
      → (p.map.stack_low ≤ a) × (a < p.map.stack_high)
  unfolding first_core
  stack_within z extents a h =
      let bounds = stack_bounds e.segments e.map a 1 (omega arith) (ap (λ es. lies_in is_stack es a 1) (sym extents) ∙ h) in
      (omega (arith, bounds.0, ap (λ m. m.stack_low) room.map), omega (arith, bounds.1, ap (λ m. m.stack_high) room.map))

  -- whatever n is: the program must not know these bytes
  pub spoiled_alike :
      {Named : Place → Type 0} {s : PlainCore} {y z : ZcCore} (n : ℕ) → n ≤ p.map.stack_high → ((a : ℕ) → p.map.stack_low ≤ a → a < n → cell_of s a ≡ Undef)
      → Spoiled p.map.stack_low n y z → Alike p Named e s y → Alike p Named e s z
  spoiled_alike {s} {y} {z} n high unknown sp al = record {
    ready = record {
      running = al.running;
      going = ap (λ x. x.exit) sp.rest ∙ al.going;
      plain = al.plain;
      core = record { count = ap (λ x. length x.regs) sp.rest ∙ al.core.count; words = λ r. rw (same r) (al.core.words r); bytes = sp.are_bytes };
      registers = λ r lt. rw (same r) (al.registers r lt);
      memory = λ a m. ⊎_elim
          (λ inside. rw (unknown a inside.0 inside.1) tt)
          (λ out. rw (sp.bytes a out) (al.memory a m))
          (where_is a);
      names = al.names;
      lies = al.lies;
      extents = sp.extents ∙ al.extents;
      text = λ a text. ⊎_elim
          (λ inside. absurd (
          let no_data = room.apart a text in
          let held = room.reaches a 1 (omega arith) (inr (inside.0, omega (arith, inside.1, high))) in
          cc))
          (λ out. sp.bytes a out ∙ al.text a text)
          (where_is a);
      table = λ elsewhere. ap (λ x. x.jvt) sp.rest ∙ al.table elsewhere;
    };
    below = al.below;
  }
    where
      same : (r : ℕ) → reg_in z r ≡ reg_in y r
      same r = ap (λ x. reg_in x r) sp.rest

      where_is : (a : ℕ) → ((p.map.stack_low ≤ a) × (a < n)) ⊎ (p.map.stack_low ≤ a → n ≤ a)
      where_is a = ⊎_elim
          (λ under. ⊎_elim (λ before. inr (λ l. absurd (omega (arith, before, l)))) (λ l. inl (l, under)) (cases_lt a p.map.stack_low))
          (λ above. inr (λ _. above))
          (cases_lt a n)

  -- what interrupts may write isn't known
  pub spoiled_below :
      {Named : Place → Type 0} {s : PlainCore} {y z : ZcCore} → Spoiled p.map.stack_low (free_end p.map y) y z → Alike p Named e s y → Alike p Named e s z
  spoiled_below {y = y} sp al =
      spoiled_alike (free_end p.map y) (omega arith) (λ a low free. al.below a low (below_mark al a free)) sp al
