-- What is fetched from the text of an image: the instruction of a word, or one with the same effect whose short form a halfword
-- is; padding; and words that are no instruction.
use Rattle.std.proofs.Common.{◌≡◌, ◌≢◌, ℕ, zero, suc, pos, ◌+◌, ◌-◌, ◌*◌, ◌/◌, ◌%◌, ◌^◌, ◌<◌, ◌≤◌, inl, inr, List, [], ◌++◌, length, drop, Option, Some, None, Bool, true, false, cond, eqb, refl, sym, ap, ◌∙◌, subst, arith, get_or, length-append}
use Rattle.std.specs.Option.{option_flatten, option_map}
use Rattle.std.proofs.lemmas.Bool.{cond-true, eq-eqb, eqb-false, eqb-true}
use Rattle.std.proofs.lemmas.List.{get_or-append-add, get_or_append_left, get_or-drop, get_or-take, length-drop, length-take-le}
use Rattle.zc_base.specs.Fields.{half_bytes, word_bytes}
use Rattle.elf32_write.specs.Parts.{Parts}
use Rattle.rv_decode.specs.Bits.{field}
use Rattle.rv_decode.specs.Decode.{decoded, row_of}
use Rattle.rv_decode.specs.Normal.{SameEffect}
use Rattle.rv_decode.specs.Memory.{extents_of, is_text, lies_in}
use Rattle.rv_decode.specs.State.{ZcCore, byte_in, half_at, word_at}
use Rattle.rv_decode.specs.declared.instr.Instr.{Instr}
use Rattle.rv_decode.specs.declared.instr.Instr.TheVariants as instr
use Rattle.rv_decode.specs.declared.instr.ImmOp.TheVariants.{Addi}
use Rattle.rv_decode.proofs.DecodeLaws.{decoded-low_bits}
use Rattle.rv_decode.proofs.MemoryLaws.{lies_inside}
use Rattle.rv_decode.proofs.RowLaws.{row_found}
use Rattle.sym_machine.specs.Program.{Program}
use Rattle.zc_decode.specs.Fields.{group_of}
use Rattle.zc_decode.specs.Halfwords.{decoded16, spelled}
use Rattle.zc_decode.specs.Rows.{form_of, groups}
use Rattle.zc_decode.specs.declared.form.Form.{Form}
use Rattle.zc_decode.specs.declared.short.Short.{Short}
use Rattle.zc_decode.specs.declared.short.Short.TheVariants.{Base}
use Rattle.zc_machine.specs.declared.reason.Reason.TheVariants.{Illegal}
use Rattle.zc_machine.specs.Fetch.{Missing, fetched_at, found}
use Rattle.zc_machine.proofs.FetchLaws.{fetched_long, fetched_short}
use Rattle.zc_link.specs.Copied.{bytes_from}
use Rattle.zc_link.specs.Image.{Image, loaded_core}
use Rattle.zc_link.specs.Pace.{padding_commits}
use Rattle.zc_link.specs.Invariants.Stretches.{Nops, OneAt, UnreadAt}
use Rattle.zc_link.specs.Written.{IsSpelled, SpellsWord, copies, nop, padding, short_nop}
use Rattle.zc_link.proofs.ImageMemory.{AreLaidOut, image_of, text_byte, text_lies}

-- ---- halfwords

-- a group of halfwords whose two low bits aren't both set
IsShortGroup : ℕ → Option Form → Type 0
IsShortGroup n row = eqb (n % 4) 3 ≡ false

-- a halfword that is a short instruction isn't the first half of a word
pub short_low : (half : ℕ) (s : Short) → decoded16 half ≡ Some s → field half 0 2 ≢ 3
unfolding decoded16 form_of IsShortGroup
short_low half s is low = by (row_of (groups half) (group_of half)) refl is
  where
    set : group_of half % 4 ≡ 3
    set = omega (arith, low)

    by : (o : Option (Option Form)) → row_of (groups half) (group_of half) ≡ o → option_map (λ form. spelled form half) (option_flatten o) ≡ Some s → ⊥
    by None found h = absurd cc
    by (Some row) found h =
        let other : eqb (group_of half % 4) 3 ≡ false =
        row_found IsShortGroup (groups half) (group_of half) row
        (refl, (refl, (refl, (refl, (refl, (refl, (refl, (refl, (refl, (refl, (refl, (refl, (refl, (refl, (refl, (refl, (refl, tt))))))))))))))))) found in
        let same : eqb (group_of half % 4) 3 ≡ true = ap (λ n. eqb n 3) set in
        absurd (cc (other, same))

-- `addi x0,x0,0` is an instruction as a word
nop_spells : decoded nop ≡ Some (instr.WithImm Addi 0 0 (pos 0))
unfolding decoded
nop_spells = refl

-- the halfword that does nothing is `addi x0,x0,0`
short_nop_spells : decoded16 short_nop ≡ Some (Base (instr.WithImm Addi 0 0 (pos 0)))
unfolding decoded16 form_of
short_nop_spells = refl

-- ---- words that are no instruction

fetched_unread :
    (z : ZcCore) (a word : ℕ) → lies_in is_text (extents_of z.memory) a 4 ≡ true → word_at z a ≡ word → field (half_at z a) 0 2 ≡ 3 → decoded word ≡ None
    → fetched_at z a ≡ Missing Illegal
fetched_unread z a word here is low d =
    cond-true (lies_in is_text (extents_of z.memory) a 2) _ _ (lies_inside is_text (extents_of z.memory) a 4 a 2 here (omega arith) (omega arith))
    ∙ cond-true (eqb (field (half_at z a) 0 2) 3) _ _ (eq-eqb (field (half_at z a) 0 2) 3 low)
    ∙ cond-true (lies_in is_text (extents_of z.memory) a 4) _ _ here
    ∙ ap (λ w. found (option_map Base (decoded w)) 4) is
    ∙ ap (λ o. found (option_map Base o) 4) d

-- ---- bytes in the image

module _ (p : Program) (parts : Parts) (out : AreLaidOut p parts) where
  abbrev e : Image
  e = image_of p.map parts

  -- these bytes are in the text at an address
  pub record StandAt (a : ℕ) (bytes : List ℕ) : Type 0 where
    pub low : p.map.text ≤ a
    pub high : a + length bytes ≤ p.map.text + length parts.text
    pub each : (j : ℕ) → j < length bytes → byte_in (loaded_core e) (a + j) ≡ get_or bytes j 0

  -- bytes of the text are there at their address
  pub stand_at : (a n : ℕ) → p.map.text ≤ a → a + n ≤ p.map.text + length parts.text → StandAt a (bytes_from parts.text (a - p.map.text) n)
  stand_at a n low within =
      let at = a - p.map.text in
      let long : length (bytes_from parts.text at n) ≡ n = length-take-le n (drop at parts.text) (omega (arith, length-drop at parts.text)) in
      record {
        low = low;
        high = omega (arith, long);
        each = λ j lt.
            let inside : j < n = omega (arith, lt, long) in
            let index : a + j - p.map.text ≡ at + j = omega arith in
            text_byte p parts out (a + j) (omega arith) (omega arith) ∙ ap (λ k. get_or parts.text k 0) index ∙ sym (get_or-drop at parts.text j 0) ∙ sym (get_or-take n (drop at parts.text) j 0 inside);
      }

  -- the first bytes are there at the address
  pub stand_first : (a : ℕ) (xs ys : List ℕ) → StandAt a (xs ++ ys) → StandAt a xs
  stand_first a xs ys st = record {
    low = st.low;
    high = omega (arith, st.high, length-append xs ys);
    each = λ j lt. st.each j (omega (arith, lt, length-append xs ys)) ∙ get_or_append_left xs ys 0 j lt;
  }

  -- the bytes after the first ones are there, after these
  pub stand_next : (a : ℕ) (xs ys : List ℕ) → StandAt a (xs ++ ys) → StandAt (a + length xs) ys
  stand_next a xs ys st = record {
    low = omega (arith, st.low);
    high = omega (arith, st.high, length-append xs ys);
    each = λ j lt.
        let sum : a + length xs + j ≡ a + (length xs + j) = omega arith in
        ap (byte_in (loaded_core e)) sum ∙ st.each (length xs + j) (omega (arith, lt, length-append xs ys)) ∙ get_or-append-add xs ys j 0;
  }

  -- the bytes of a word: it stands there, and so does its low half
  pub record WordThere (a w : ℕ) : Type 0 where
    pub lies : lies_in is_text (extents_of (loaded_core e).memory) a 4 ≡ true
    pub is : word_at (loaded_core e) a ≡ w
    pub low : field w 0 2 ≡ 3 → field (half_at (loaded_core e) a) 0 2 ≡ 3
    pub small : a + 4 < 2 ^ 32

  pub word_there : (a w : ℕ) → StandAt a (word_bytes w) → w < 2 ^ 32 → WordThere a w
  word_there a w st small =
      let map = out.is_map in
      let short = out.short in
      let high = st.high in
      let b0 : byte_in (loaded_core e) a ≡ w % 256 = (let zero : a ≡ a + 0 = omega arith in ap (byte_in (loaded_core e)) zero ∙ st.each 0 (omega arith)) in
      let b1 : byte_in (loaded_core e) (a + 1) ≡ w / 256 % 256 = st.each 1 (omega arith) in
      let b2 : byte_in (loaded_core e) (a + 2) ≡ w / 65536 % 256 = st.each 2 (omega arith) in
      let b3 : byte_in (loaded_core e) (a + 3) ≡ w / 16777216 % 256 = st.each 3 (omega arith) in
      record {
        lies = text_lies p parts out a 4 st.low (omega (arith, high));
        is = omega (arith, b0, b1, b2, b3, small);
        low = λ low. omega (arith, b0, b1, low);
        small = omega (arith, high, short, map.code, map.room);
      }

  -- a word that is an instruction is fetched
  unfoldable pub one_at : (a : ℕ) (bytes : List ℕ) (i : Instr) → StandAt a bytes → SpellsWord bytes i → OneAt e a (Base i)
  one_at a bytes i st sp =
      let w = sp.word in
      let there = word_there a w (subst (StandAt a) sp.are st) sp.small in
      record {
        size = 4;
        here = fetched_long (loaded_core e) a w i there.lies there.is (there.low (decoded-low_bits w i sp.spells)) sp.spells;
        small = there.small;
      }

  -- one that is none isn't
  pub unread_at : (a w : ℕ) → StandAt a (word_bytes w) → w < 2 ^ 32 → field w 0 2 ≡ 3 → decoded w ≡ None → UnreadAt e a w
  unread_at a w st small low none =
      let there = word_there a w st small in
      record {
        lies = there.lies;
        is = there.is;
        here = fetched_unread (loaded_core e) a w there.lies there.is (there.low low) none;
        small = there.small;
      }

  -- a halfword that is an instruction is fetched
  unfoldable pub half_at_address : (a half : ℕ) (bytes : List ℕ) (s : Short) → StandAt a bytes → half < 2 ^ 16 → bytes ≡ half_bytes half → decoded16 half ≡ Some s → OneAt e a s
  half_at_address a half bytes s st small are spells =
      let two : length bytes ≡ 2 = ap length are in
      let map = out.is_map in
      let short = out.short in
      let high = st.high in
      let byte = λ (j : ℕ) (lt : j < 2). st.each j (omega (arith, lt, two)) ∙ ap (λ l. get_or l j 0) are in
      let b0 : byte_in (loaded_core e) a ≡ half % 256 = (let zero : a ≡ a + 0 = omega arith in ap (byte_in (loaded_core e)) zero ∙ byte 0 (omega arith)) in
      let b1 : byte_in (loaded_core e) (a + 1) ≡ half / 256 % 256 = byte 1 (omega arith) in
      let is : half_at (loaded_core e) a ≡ half = omega (arith, b0, b1, small) in
      record {
        size = 2;
        here = fetched_short (loaded_core e) a half s (text_lies p parts out a 2 st.low (omega (arith, high, two))) is (short_low half s spells) spells;
        small = omega (arith, high, two, short, map.code, map.room);
      }

  -- n bytes that are an instruction: it is fetched, or another one with its effect
  pub record SpelledAt (a n : ℕ) (i : Instr) : Type 0 where
    pub here : Instr
    pub same : SameEffect here i
    pub at : OneAt e a (Base here)
    pub long : at.size ≡ n

  -- an instruction in n bytes of the text is fetched
  pub spelled_at : (a n : ℕ) (bytes : List ℕ) (i : Instr) → StandAt a bytes → IsSpelled n bytes i → SpelledAt a n i
  unfolding one_at half_at_address
  spelled_at a n bytes i st (inl w) = record { here = i; same = λ size z. refl; at = one_at a bytes i st w.1; long = sym w.0 }
  spelled_at a n bytes i st (inr h) = record {
    here = h.1.same.0;
    same = h.1.same.2;
    at = half_at_address a h.1.half bytes (Base h.1.same.0) st h.1.small h.1.are h.1.same.1;
    long = sym h.0;
  }

  -- ---- padding

  -- words that do nothing
  words_at : (count a : ℕ) → StandAt a (copies nop count) → Nops e a count (a + 4 * count)
  unfolding one_at
  words_at zero a st = omega arith
  words_at (suc count) a st =
      let does_nothing : SpellsWord (word_bytes nop) (instr.WithImm Addi 0 0 (pos 0)) = record { word = nop; small = omega arith; are = refl; spells = nop_spells } in
      let first = one_at a (word_bytes nop) (instr.WithImm Addi 0 0 (pos 0)) (stand_first a (word_bytes nop) (copies nop count) st) does_nothing in
      let end : a + 4 + 4 * count ≡ a + 4 * suc count = omega arith in
      (first, subst (Nops e (a + 4) count) end (words_at count (a + 4) (stand_next a (word_bytes nop) (copies nop count) st)))

  -- padding is fetched as instructions that do nothing, with a halfword first if words don't fill the bytes
  pub nops_at : (a n : ℕ) (bytes : List ℕ) → n % 2 ≡ 0 → StandAt a bytes → bytes ≡ padding n → Nops e a (padding_commits n) (a + n)
  unfolding half_at_address
  nops_at a n bytes even st are = by (eqb (n % 4) 2) refl (subst (StandAt a) are st)
    where
      by : (b : Bool) → eqb (n % 4) 2 ≡ b → StandAt a (cond b (half_bytes short_nop) [] ++ copies nop (n / 4)) → Nops e a (padding_commits n) (a + n)
      by true is there =
          let half : n % 4 ≡ 2 = eqb-true (n % 4) 2 is in
          let count : suc (n / 4) ≡ padding_commits n = omega (arith, half) in
          let end : a + 2 + 4 * (n / 4) ≡ a + n = omega (arith, half) in
          let first = half_at_address a short_nop (half_bytes short_nop) (Base (instr.WithImm Addi 0 0 (pos 0))) (stand_first a (half_bytes short_nop) (copies nop (n / 4)) there) (omega arith) refl short_nop_spells in
          subst (λ c. Nops e a c (a + n)) count
          (first, subst (Nops e (a + 2) (n / 4)) end (words_at (n / 4) (a + 2) (stand_next a (half_bytes short_nop) (copies nop (n / 4)) there)))
      by false is there =
          let whole : n % 4 ≡ 0 = omega (arith, even, eqb-false (n % 4) 2 is) in
          let count : n / 4 ≡ padding_commits n = omega (arith, whole) in
          let end : a + 4 * (n / 4) ≡ a + n = omega (arith, whole) in
          subst (λ c. Nops e a c (a + n)) count (subst (Nops e a (n / 4)) end (words_at (n / 4) a there))
