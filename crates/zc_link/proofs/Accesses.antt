-- Loads and stores. An access that the program makes is one of the image's, at the same address. What a load gives stands for what
-- the machine loads, byte by byte, with signs or zeros above; and the bytes that a store writes stand for the machine's.
use Rattle.std.proofs.Common.{◌≡◌, ℕ, zero, suc, ◌+◌, ◌-◌, ◌*◌, ◌/◌, ◌%◌, ◌^◌, ◌<◌, ◌≤◌, length, Option, Some, None, Bool, true, false, cond, refl, sym, ap, ◌∙◌, subst, arith, pos, negsuc, eqb, ltb, get_or}
use Rattle.std.proofs.lemmas.Bool.{cond-true, eq-eqb, eqb-true, ltb-false, ltb-true}
use Rattle.zc_base.specs.declared.place.Place.{Place}
use Rattle.rv_decode.specs.declared.instr.LoadOp.{LoadOp}
use Rattle.rv_decode.specs.declared.instr.LoadOp.TheVariants.{Lb, Lh, Lw, Lbu, Lhu}
use Rattle.rv_decode.specs.declared.instr.StoreOp.{StoreOp}
use Rattle.rv_decode.specs.declared.instr.StoreOp.TheVariants.{Sb, Sh, Sw}
use Rattle.rv_decode.specs.Bits.{as_word}
use Rattle.rv_decode.specs.Effect.{Effect, attempting, load_result, load_width, store_width}
use Rattle.rv_decode.specs.Memory.{byte_of, extents_of, is_data, lies_in, written}
use Rattle.rv_decode.specs.State.{ZcCore, byte_in, half_at, word_at}
use Rattle.sym_machine.specs.declared.why.Why.TheVariants.{BadAddress, Misaligned}
use Rattle.sym_machine.specs.declared.word.SymByte.{SymByte}
use Rattle.sym_machine.specs.declared.word.SymByte.TheVariants.{Num, Part, Undef}
use Rattle.sym_machine.specs.declared.word.SymWord.{SymWord}
use Rattle.sym_machine.specs.declared.word.Value.{Value}
use Rattle.sym_machine.specs.Change.{Change, Does, Goes, Stops, in_memory, load_word, accessing, stored_bytes}
use Rattle.sym_machine.specs.Program.{Program}
use Rattle.sym_machine.specs.State.{PlainCore, cell_of}
use Rattle.sym_machine.specs.Words.{byte_word, half_word, number_of, sign_of}
use Rattle.zc_link.specs.Image.{Image}
use Rattle.zc_link.specs.Invariants.Room.{Room, SpansMemory}
use Rattle.zc_link.specs.Sound.{NamesByte, NamesWord, Ready}
use Rattle.zc_link.specs.Stands.{ByteStands, WordStands}
use Rattle.zc_link.specs.Values.{value_in}
use Rattle.zc_link.proofs.Buffers.{buffer_lies}
use Rattle.zc_link.proofs.Words.{number_is}
use Rattle.zc_link.proofs.Writes.{Agrees, within, written_agrees}

-- ---- where an access lies

-- an access at an address that goes on: it is aligned, and lies in memory
pub record Reached (p : Program) (n a : ℕ) (does : Does) (c : Change) : Type 0 where
  pub goes : does ≡ Goes c
  pub aligned : a % n ≡ 0
  pub spans : SpansMemory p a n

module _ {p : Program} {Named : Place → Type 0} {e : Image} {s : PlainCore} {z : ZcCore} (room : Room p e) (ready : Ready p Named e s z) where
  abbrev V : Value → Option ℕ
  V = value_in p e.address

  -- the program's access, by a word that stands for its address
  pub reached :
      (n : ℕ) (w : SymWord) (a : ℕ) (go : ℕ → Does) (c : Change) → a < 2 ^ 32 → WordStands V w a → accessing n (number_of w) s go ≡ Goes c
      → Reached p n a (go a) c
  reached n w a go c small stands h = known (number_of w) refl h
    where
      tested :
          (m : ℕ) (x y : Bool) → m ≡ a → eqb (m % n) 0 ≡ x → in_memory s m n ≡ y
          → cond x (cond y (go m) (Stops BadAddress)) (Stops Misaligned) ≡ Goes c → Reached p n a (go a) c
      tested m true true same aligned lies g =
          subst (λ k. Reached p n k (go k) c) same
          (record { goes = g; aligned = eqb-true (m % n) 0 aligned; spans = buffer_lies room s m n ready.lies lies })
      tested m true false same aligned lies g = absurd cc
      tested m false y same aligned lies g = absurd cc

      known : (o : Option ℕ) → number_of w ≡ o → accessing n o s go ≡ Goes c → Reached p n a (go a) c
      known None is g = absurd cc
      known (Some m) is g = tested m (eqb (m % n) 0) (in_memory s m n) (number_is V w a m small stands is) refl refl g

  -- an access that lies in memory and is aligned is made by the machine
  pub made_there : (n a : ℕ) (other go : Effect) → 0 < n → a % n ≡ 0 → SpansMemory p a n → attempting n a z other go ≡ go
  made_there n a other go some aligned spans =
      cond-true (eqb (a % n) 0) _ _ (eq-eqb (a % n) 0 aligned)
      ∙ cond-true (lies_in is_data (extents_of z.memory) a n) _ _ (ap (λ es. lies_in is_data es a n) ready.extents ∙ room.reaches a n some spans)

  -- ---- loads

  -- a byte of those that are accessed
  at_byte : (n a x m : ℕ) → SpansMemory p a n → a ≤ x → x < a + n → m ≡ byte_in z x → ByteStands V (cell_of s x) m
  at_byte n a x m spans low high same = subst (ByteStands V (cell_of s x)) (sym same) (ready.memory x (within room n a x spans low high))

  -- a byte's sign stands for the bytes above it
  sign_stands : (c : SymByte) (b m : ℕ) → ByteStands V c b → (b < 128 → m ≡ 0) → (128 ≤ b → m ≡ 255) → ByteStands V (sign_of c) m
  sign_stands (Num n) b m h low high = either (ltb n 128) refl
    where
      either : (t : Bool) → ltb n 128 ≡ t → m ≡ cond t 0 255
      either true t = low (omega (arith, h, ltb-true n 128 t))
      either false t = high (omega (arith, h, ltb-false n 128 t))
  sign_stands (Part v i) b m h low high = tt
  sign_stands Undef b m h low high = tt

  as_low : (n : ℕ) → n < 2 ^ 31 → as_word (pos n) ≡ n
  as_low n lt = omega (arith, lt)

  as_high : (m n : ℕ) → n < m → m < 2 ^ 31 → as_word (negsuc (m - n - 1)) ≡ 2 ^ 32 - m + n
  as_high m n lt small = omega (arith, lt, small)

  byte_stands :
      (c : SymByte) (b : ℕ) (t : Bool) → ltb b 128 ≡ t → b < 256 → ByteStands V c b
      → WordStands V (byte_word c (sign_of c)) (as_word (cond t (pos b) (negsuc (256 - b - 1))))
  byte_stands c b true t lt h =
      let l = ltb-true b 128 t in
      let sign : ByteStands V (sign_of c) 0 = sign_stands c b 0 h (λ _. refl) (λ g. absurd (omega (arith, l, g))) in
      rw (as_low b (omega (arith, l))) (record {
        b0 = subst (ByteStands V c) (omega (arith, l)) h;
        b1 = subst (ByteStands V (sign_of c)) (omega (arith, l)) sign;
        b2 = subst (ByteStands V (sign_of c)) (omega (arith, l)) sign;
        b3 = subst (ByteStands V (sign_of c)) (omega (arith, l)) sign;
      })
  byte_stands c b false t lt h =
      let l = ltb-false b 128 t in
      let sign : ByteStands V (sign_of c) 255 = sign_stands c b 255 h (λ g. absurd (omega (arith, l, g))) (λ _. refl) in
      rw (as_high 256 b lt (omega arith)) (record {
        b0 = subst (ByteStands V c) (omega (arith, l, lt)) h;
        b1 = subst (ByteStands V (sign_of c)) (omega (arith, l, lt)) sign;
        b2 = subst (ByteStands V (sign_of c)) (omega (arith, l, lt)) sign;
        b3 = subst (ByteStands V (sign_of c)) (omega (arith, l, lt)) sign;
      })

  half_stands :
      (c d : SymByte) (x y n : ℕ) (t : Bool) → n ≡ x + 256 * y → ltb n 32768 ≡ t → x < 256 → y < 256 → ByteStands V c x → ByteStands V d y
      → WordStands V (half_word c d (sign_of d)) (as_word (cond t (pos n) (negsuc (65536 - n - 1))))
  half_stands c d x y n true is t lx ly hx hy =
      let l = ltb-true n 32768 t in
      let sign : ByteStands V (sign_of d) 0 = sign_stands d y 0 hy (λ _. refl) (λ g. absurd (omega (arith, l, g, is))) in
      rw (as_low n (omega (arith, l))) (record {
        b0 = subst (ByteStands V c) (omega (arith, is, lx, ly)) hx;
        b1 = subst (ByteStands V d) (omega (arith, is, lx, ly)) hy;
        b2 = subst (ByteStands V (sign_of d)) (omega (arith, l, is, lx)) sign;
        b3 = subst (ByteStands V (sign_of d)) (omega (arith, l, is, lx)) sign;
      })
  half_stands c d x y n false is t lx ly hx hy =
      let l = ltb-false n 32768 t in
      let sign : ByteStands V (sign_of d) 255 = sign_stands d y 255 hy (λ g. absurd (omega (arith, l, g, is, lx))) (λ _. refl) in
      rw (as_high 65536 n (omega (arith, is, lx, ly)) (omega arith)) (record {
        b0 = subst (ByteStands V c) (omega (arith, l, is, lx, ly)) hx;
        b1 = subst (ByteStands V d) (omega (arith, l, is, lx, ly)) hy;
        b2 = subst (ByteStands V (sign_of d)) (omega (arith, l, is, lx, ly)) sign;
        b3 = subst (ByteStands V (sign_of d)) (omega (arith, l, is, lx, ly)) sign;
      })

  pub load_stands : (op : LoadOp) (a : ℕ) → SpansMemory p a (load_width op) → WordStands V (load_word op s a) (load_result op z a)
  load_stands Lb a spans =
      byte_stands (cell_of s a) (byte_in z a) (ltb (byte_in z a) 128) refl (ready.core.bytes a) (at_byte 1 a a (byte_in z a) spans (omega arith) (omega arith) refl)
  load_stands Lh a spans =
      half_stands (cell_of s a) (cell_of s (a + 1)) (byte_in z a) (byte_in z (a + 1)) (half_at z a) (ltb (half_at z a) 32768) refl refl
      (ready.core.bytes a) (ready.core.bytes (a + 1)) (at_byte 2 a a (byte_in z a) spans (omega arith) (omega arith) refl)
      (at_byte 2 a (a + 1) (byte_in z (a + 1)) spans (omega arith) (omega arith) refl)
  load_stands Lw a spans =
      let b = ready.core.bytes in
      record {
        b0 = at_byte 4 a a (byte_of (word_at z a) 0) spans (omega arith) (omega arith) (omega (arith, b a, b (a + 1), b (a + 2), b (a + 3)));
        b1 = at_byte 4 a (a + 1) (byte_of (word_at z a) 1) spans (omega arith) (omega arith) (omega (arith, b a, b (a + 1), b (a + 2), b (a + 3)));
        b2 = at_byte 4 a (a + 2) (byte_of (word_at z a) 2) spans (omega arith) (omega arith) (omega (arith, b a, b (a + 1), b (a + 2), b (a + 3)));
        b3 = at_byte 4 a (a + 3) (byte_of (word_at z a) 3) spans (omega arith) (omega arith) (omega (arith, b a, b (a + 1), b (a + 2), b (a + 3)));
      }
  load_stands Lbu a spans =
      let x = ready.core.bytes a in
      record {
        b0 = at_byte 1 a a (byte_of (byte_in z a) 0) spans (omega arith) (omega arith) (omega (arith, x));
        b1 = omega (arith, x);
        b2 = omega (arith, x);
        b3 = omega (arith, x);
      }
  load_stands Lhu a spans =
      let x = ready.core.bytes a in
      let y = ready.core.bytes (a + 1) in
      record {
        b0 = at_byte 2 a a (byte_of (half_at z a) 0) spans (omega arith) (omega arith) (omega (arith, x, y));
        b1 = at_byte 2 a (a + 1) (byte_of (half_at z a) 1) spans (omega arith) (omega arith) (omega (arith, x, y));
        b2 = omega (arith, x, y);
        b3 = omega (arith, x, y);
      }

  pub load_below : (op : LoadOp) (a : ℕ) → load_result op z a < 2 ^ 32
  load_below Lb a = omega arith
  load_below Lh a = omega arith
  load_below Lw a = let b = ready.core.bytes in omega (arith, b a, b (a + 1), b (a + 2), b (a + 3))
  load_below Lbu a = omega (arith, ready.core.bytes a)
  load_below Lhu a = omega (arith, ready.core.bytes a, ready.core.bytes (a + 1))

  -- signs and zeros name no places
  sign_names : (c : SymByte) → NamesByte Named (sign_of c)
  sign_names (Num n) = tt
  sign_names (Part v i) = tt
  sign_names Undef = tt

  byte_names : (n a x : ℕ) → SpansMemory p a n → a ≤ x → x < a + n → NamesByte Named (cell_of s x)
  byte_names n a x spans low high = ready.names.memory x (within room n a x spans low high)

  pub load_names : (op : LoadOp) (a : ℕ) → SpansMemory p a (load_width op) → NamesWord Named (load_word op s a)
  load_names Lb a spans =
      let sign = sign_names (cell_of s a) in
      (byte_names 1 a a spans (omega arith) (omega arith), sign, sign, sign)
  load_names Lh a spans =
      let sign = sign_names (cell_of s (a + 1)) in
      (byte_names 2 a a spans (omega arith) (omega arith), byte_names 2 a (a + 1) spans (omega arith) (omega arith), sign, sign)
  load_names Lw a spans = (
    byte_names 4 a a spans (omega arith) (omega arith),
    byte_names 4 a (a + 1) spans (omega arith) (omega arith),
    byte_names 4 a (a + 2) spans (omega arith) (omega arith),
    byte_names 4 a (a + 3) spans (omega arith) (omega arith),
  )
  load_names Lbu a spans = (byte_names 1 a a spans (omega arith) (omega arith), tt, tt, tt)
  load_names Lhu a spans = (byte_names 2 a a spans (omega arith) (omega arith), byte_names 2 a (a + 1) spans (omega arith) (omega arith), tt, tt)

-- ---- stores

byte_below : (m i : ℕ) → byte_of m i < 256
byte_below m i = below (m / 256 ^ i)
  where
    below : (k : ℕ) → k % 256 < 256
    below k = omega arith

module _ {p : Program} {e : Image} (room : Room p e) where
  -- what a store writes in both
  pub stored_agrees :
      {Named : Place → Type 0} (op : StoreOp) (w : SymWord) (n a : ℕ) → SpansMemory p a (store_width op) → WordStands (value_in p e.address) w n → NamesWord Named w
      → Agrees p Named e (written a (length (stored_bytes op w)) (λ i. get_or (stored_bytes op w) i Undef)) (written a (store_width op) (byte_of n))
  stored_agrees {Named} Sb w n a spans st names =
      written_agrees room a 1 (λ i. get_or (stored_bytes Sb w) i Undef) (byte_of n) spans stands named (λ i _. byte_below n i)
    where
      stands : (i : ℕ) → i < 1 → ByteStands (value_in p e.address) (get_or (stored_bytes Sb w) i Undef) (byte_of n i)
      stands zero lt = st.b0
      stands (suc i) lt = absurd (omega (arith, lt))

      named : (i : ℕ) → i < 1 → NamesByte Named (get_or (stored_bytes Sb w) i Undef)
      named zero lt = names.0
      named (suc i) lt = absurd (omega (arith, lt))
  stored_agrees {Named} Sh w n a spans st names =
      written_agrees room a 2 (λ i. get_or (stored_bytes Sh w) i Undef) (byte_of n) spans stands named (λ i _. byte_below n i)
    where
      stands : (i : ℕ) → i < 2 → ByteStands (value_in p e.address) (get_or (stored_bytes Sh w) i Undef) (byte_of n i)
      stands zero lt = st.b0
      stands (suc zero) lt = st.b1
      stands (suc (suc i)) lt = absurd (omega (arith, lt))

      named : (i : ℕ) → i < 2 → NamesByte Named (get_or (stored_bytes Sh w) i Undef)
      named zero lt = names.0
      named (suc zero) lt = names.1
      named (suc (suc i)) lt = absurd (omega (arith, lt))
  stored_agrees {Named} Sw w n a spans st names =
      written_agrees room a 4 (λ i. get_or (stored_bytes Sw w) i Undef) (byte_of n) spans stands named (λ i _. byte_below n i)
    where
      stands : (i : ℕ) → i < 4 → ByteStands (value_in p e.address) (get_or (stored_bytes Sw w) i Undef) (byte_of n i)
      stands zero lt = st.b0
      stands (suc zero) lt = st.b1
      stands (suc (suc zero)) lt = st.b2
      stands (suc (suc (suc zero))) lt = st.b3
      stands (suc (suc (suc (suc i)))) lt = absurd (omega (arith, lt))

      named : (i : ℕ) → i < 4 → NamesByte Named (get_or (stored_bytes Sw w) i Undef)
      named zero lt = names.0
      named (suc zero) lt = names.1
      named (suc (suc zero)) lt = names.2
      named (suc (suc (suc zero))) lt = names.3
      named (suc (suc (suc (suc i)))) lt = absurd (omega (arith, lt))
