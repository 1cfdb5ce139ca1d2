-- States stay Ready if memory changes in both, so that each byte stands for the machine's again: what a store writes, and what is
-- read into a buffer.
use Rattle.std.proofs.Common.{◌≡◌, ℕ, ◌+◌, ◌-◌, ◌<◌, ◌≤◌, Bool, true, false, cond, refl, ap, ◌∙◌, inl, inr, ⊎_elim, arith, leb, ltb}
use Rattle.std.specs.Prelude.{◌&&◌}
use Rattle.std.proofs.lemmas.Bool.{and_parts, cases_Bool, cond_both, leb-true, ltb-true}
use Rattle.zc_base.specs.declared.place.Place.{Place}
use Rattle.rv_decode.specs.Memory.{cell_at, changed, extents_of, is_data, is_text, lies_in, written}
use Rattle.rv_decode.specs.State.{ZcCore, byte_in}
use Rattle.rv_decode.proofs.MemoryLaws.{cell-changed, cell-uncovered, cell_kept, extents-changed, is_covered, lies_covered, lies_inside}
use Rattle.sym_machine.specs.declared.word.SymByte.{SymByte}
use Rattle.sym_machine.specs.declared.word.SymByte.TheVariants.{Undef}
use Rattle.sym_machine.specs.Program.{Program}
use Rattle.sym_machine.specs.State.{PlainCore, cell_of}
use Rattle.zc_link.specs.Image.{Image, loaded_core}
use Rattle.zc_link.specs.Invariants.Room.{Room, SpansMemory}
use Rattle.zc_link.specs.Sound.{NamesByte, Ready}
use Rattle.zc_link.specs.Stands.{ByteStands, IsMemory}
use Rattle.zc_link.specs.Values.{value_in}

-- what a change makes of a byte of the program's, and of the machine's
pub record Agrees (p : Program) (Named : Place → Type 0) (e : Image) (fs : ℕ → SymByte → SymByte) (fz : ℕ → ℕ → ℕ) : Type 0 where
  -- bytes that stand for each other do so again
  pub stands : (x : ℕ) (c : SymByte) (v : ℕ) → IsMemory p x → ByteStands (value_in p e.address) c v → ByteStands (value_in p e.address) (fs x c) (fz x v)
  pub names : (x : ℕ) (c : SymByte) → NamesByte Named c → NamesByte Named (fs x c)
  -- text stays, and bytes stay bytes
  pub text : (x v : ℕ) → lies_in is_text (extents_of (loaded_core e).memory) x 1 ≡ true → fz x v ≡ v
  pub small : (x v : ℕ) → v < 256 → fz x v < 256

module _ {p : Program} {e : Image} (room : Room p e) where
  -- an address within some that span memory
  pub within : (n a x : ℕ) → SpansMemory p a n → a ≤ x → x < a + n → IsMemory p x
  within n a x (inl d) low high = inl (omega (arith, d.0, low), omega (arith, d.1, high))
  within n a x (inr k) low high = inr (omega (arith, k.0, low), omega (arith, k.1, high))

  pub ready_changed :
      {Named : Place → Type 0} {s : PlainCore} {z : ZcCore} (fs : ℕ → SymByte → SymByte) (fz : ℕ → ℕ → ℕ) → Agrees p Named e fs fz → Ready p Named e s z
      → Ready p Named e (record s { memory = changed fs s.memory }) (record z { memory = changed fz z.memory })
  ready_changed {Named} {s} {z} fs fz agrees ready = record {
    running = ready.running;
    going = ready.going;
    plain = record { count = ready.plain.count; input = ready.plain.input };
    core = record { count = ready.core.count; words = ready.core.words; bytes = cell_kept fz z.memory 0 (λ c. c < 256) agrees.small (omega arith) ready.core.bytes };
    registers = ready.registers;
    memory = memory;
    names = record { registers = ready.names.registers; memory = named };
    lies = extents-changed fs s.memory ∙ ready.lies;
    extents = extents-changed fz z.memory ∙ ready.extents;
    text = text;
    table = ready.table;
  }
    where
      -- a cell of the program's, if a region has it, and else an undefined one
      cell : (P : SymByte → Type 0) (x : ℕ) → P (fs x (cell_of s x)) → P Undef → P (cell_at Undef (changed fs s.memory) x)
      cell P x changes undefined = ⊎_elim
          (λ yes. rw (cell-changed fs s.memory x Undef yes) changes)
          (λ no.
          let gone : is_covered (extents_of (changed fs s.memory)) x ≡ false = ap (λ es. is_covered es x) (extents-changed fs s.memory) ∙ no in
          rw (cell-uncovered (changed fs s.memory) x Undef gone) undefined)
          (cases_Bool (is_covered (extents_of s.memory) x))

      memory : (x : ℕ) → IsMemory p x → ByteStands (value_in p e.address) (cell_at Undef (changed fs s.memory) x) (cell_at 0 (changed fz z.memory) x)
      memory x m =
          let one : SpansMemory p x 1 = ⊎_elim (λ d. inl (d.0, omega (arith, d.1))) (λ k. inr (k.0, omega (arith, k.1))) m in
          let here : is_covered (extents_of z.memory) x ≡ true = ap (λ es. is_covered es x) ready.extents ∙ lies_covered is_data (extents_of (loaded_core e).memory) x (room.reaches x 1 (omega arith) one) in
          rw (cell-changed fz z.memory x 0 here)
          (cell (λ c. ByteStands (value_in p e.address) c (fz x (byte_in z x))) x (agrees.stands x (cell_of s x) (byte_in z x) m (ready.memory x m)) tt)

      named : (x : ℕ) → IsMemory p x → NamesByte Named (cell_at Undef (changed fs s.memory) x)
      named x m = cell (NamesByte Named) x (agrees.names x (cell_of s x) (ready.names.memory x m)) tt

      text : (x : ℕ) → lies_in is_text (extents_of (loaded_core e).memory) x 1 ≡ true → cell_at 0 (changed fz z.memory) x ≡ byte_in (loaded_core e) x
      text x t =
          let yes : is_covered (extents_of z.memory) x ≡ true = ap (λ es. is_covered es x) ready.extents ∙ lies_covered is_text (extents_of (loaded_core e).memory) x t in
          cell-changed fz z.memory x 0 yes ∙ agrees.text x (byte_in z x) t ∙ ready.text x t

  -- n bytes from an address of memory on are written, and the given ones stand for each other
  pub written_agrees :
      {Named : Place → Type 0} (a n : ℕ) (f : ℕ → SymByte) (g : ℕ → ℕ) → SpansMemory p a n
      → ((i : ℕ) → i < n → ByteStands (value_in p e.address) (f i) (g i)) → ((i : ℕ) → i < n → NamesByte Named (f i)) → ((i : ℕ) → i < n → g i < 256)
      → Agrees p Named e (written a n f) (written a n g)
  written_agrees {Named} a n f g spans stands names small = record {
    stands = λ x c v m st. by_stands x c v st;
    names = λ x c named. cond_both (leb a x && ltb x (a + n)) (f (x - a)) c (NamesByte Named) (λ t. names (x - a) (index x t)) (λ _. named);
    text = λ x v text. cond_both (leb a x && ltb x (a + n)) (g (x - a)) v (λ y. y ≡ v) (λ t. absurd (no_text x text t)) (λ _. refl);
    small = λ x v lt. cond_both (leb a x && ltb x (a + n)) (g (x - a)) v (λ y. y < 256) (λ t. small (x - a) (index x t)) (λ _. lt);
  }
    where
      index : (x : ℕ) → (leb a x && ltb x (a + n)) ≡ true → x - a < n
      index x t = let q = and_parts (leb a x) (ltb x (a + n)) t in omega (arith, leb-true a x q.0, ltb-true x (a + n) q.1)

      by_stands : (x : ℕ) (c : SymByte) (v : ℕ) → ByteStands (value_in p e.address) c v → ByteStands (value_in p e.address) (written a n f x c) (written a n g x v)
      by_stands x c v st = either (leb a x && ltb x (a + n)) refl
        where
          either : (b : Bool) → (leb a x && ltb x (a + n)) ≡ b → ByteStands (value_in p e.address) (cond b (f (x - a)) c) (cond b (g (x - a)) v)
          either true t = stands (x - a) (index x t)
          either false t = st

      -- memory lies apart from text
      no_text : (x : ℕ) → lies_in is_text (extents_of (loaded_core e).memory) x 1 ≡ true → (leb a x && ltb x (a + n)) ≡ true → ⊥
      no_text x text t =
          let q = and_parts (leb a x) (ltb x (a + n)) t in
          let low = leb-true a x q.0 in
          let high = ltb-true x (a + n) q.1 in
          let none = room.apart x text in
          let all = lies_inside is_data (extents_of (loaded_core e).memory) a n x 1 (room.reaches a n (omega (arith, low, high)) spans) low (omega (arith, high)) in
          cc
