-- What the item at a place is: it is that of a start of the section, and takes the bytes that its step goes, or it is padding.
use Rattle.std.proofs.Common.{◌≡◌, ℕ, zero, suc, ◌+◌, ◌%◌, ◌<◌, ◌≤◌, ℤ, pos, negsuc, List, Bool, true, false, cond, Option, Some, None, refl, sym, ap, subst, ◌∙◌, arith, eqb, ltb, eq-eqb}
use Rattle.std.specs.Prelude.{◌+ℤ◌}
use Rattle.std.specs.Option.{option_and_then, option_map_or}
use Rattle.std.proofs.lemmas.Bool.{and_parts, eqb-true, lt-ltb, ltb-true}
use Rattle.zc_base.specs.declared.place.Place.{Place}
use Rattle.elf32_read.specs.Parts.{ObjectParts, SectionParts, is_code_section}
use Rattle.elf32_read.specs.declared.reloc.Reloc.{Reloc}
use Rattle.psabi_sym.specs.Blocks.{aligned_up}
use Rattle.psabi_sym.specs.Faults.{align_room, power_above, reloc_room}
use Rattle.psabi_sym.specs.Inputs.{ParsedInputs}
use Rattle.psabi_sym.specs.declared.target.Target.{Target}
use Rattle.psabi_sym.specs.declared.target.Target.TheVariants.{Code, Number, Absent, Nowhere}
use Rattle.psabi_reloc.specs.Kinds.{field_length, kind_of, padding_length}
use Rattle.psabi_reloc.specs.declared.kind.RelocKind.{RelocKind}
use Rattle.psabi_reloc.specs.declared.kind.RelocKind.TheVariants as kind
use Rattle.rv_decode.specs.declared.instr.Instr.{Instr}
use Rattle.rv_decode.specs.declared.instr.Instr.TheVariants as instr
use Rattle.block_cut.specs.declared.item.Item.{Item}
use Rattle.block_cut.specs.declared.item.Item.TheVariants.{Branch, Jump, Align}
use Rattle.block_cut.specs.Items.{call_item, code_at, instr_item, is_target_at, item_at, item_in, item_under, known_item, place_on, raw_in, raw_pair, size_on, spelled_item, starts_on, target_away, target_of, to_place, transfer_item, transfer_under}
use Rattle.block_cut.specs.PlainLayout.{after_item, padding_of}
use Rattle.block_cut.specs.CodeSizes.{own_size, code_step}
use Rattle.block_cut.specs.Relocs.{field_of, fits_at, instr_in, is_bad_kind, is_ignored, is_padding, reloc_on}
use Rattle.psabi_sym.proofs.BlockLaws.{aligned_up-lt}
use Rattle.block_cut.proofs.SoundLaws.{sound_at}
use Rattle.block_cut.proofs.CodeSizeLaws.{step_even}
use Rattle.block_cut.proofs.RawLaws.{raw_by}

-- ---- the item at a place

-- an item is that of an item's start in the section of code
pub record IsItemAt (inputs : ParsedInputs) (q : Place) (i : Item) : Type 0 where
  pub section : SectionParts
  pub code : code_at inputs.objects q ≡ Some section
  pub start : starts_on section q.offset ≡ true
  pub item : item_in inputs section q ≡ i

pub item_found : (inputs : ParsedInputs) (q : Place) (i : Item) → item_at inputs q ≡ Some i → IsItemAt inputs q i
unfolding item_at
item_found inputs q i is = by (code_at inputs.objects q) refl is
  where
    by : (o : Option SectionParts) → code_at inputs.objects q ≡ o → option_and_then (λ s. cond (starts_on s q.offset) (Some (item_in inputs s q)) None) o ≡ Some i → IsItemAt inputs q i
    by None at is = absurd cc
    by (Some s) at is = starts (starts_on s q.offset) refl is
      where
        starts : (b : Bool) → starts_on s q.offset ≡ b → cond b (Some (item_in inputs s q)) None ≡ Some i → IsItemAt inputs q i
        starts true start is = let same : item_in inputs s q ≡ i = cc in record { section = s; code = at; start = start; item = same }
        starts false start is = absurd cc

-- at an item's start in a section of code there is an item
pub item_there : (inputs : ParsedInputs) (q : Place) (s : SectionParts) → code_at inputs.objects q ≡ Some s → starts_on s q.offset ≡ true → item_at inputs q ≡ Some (item_in inputs s q)
unfolding item_at
item_there inputs q s at start = ap (option_and_then (λ s. cond (starts_on s q.offset) (Some (item_in inputs s q)) None)) at ∙ ap (λ b. cond b (Some (item_in inputs s q)) None) start

pub item_at-code : (inputs : ParsedInputs) (q : Place) (s : SectionParts) → code_at inputs.objects q ≡ Some s → item_at inputs q ≡ cond (starts_on s q.offset) (Some (item_in inputs s q)) None
unfolding item_at
item_at-code inputs q s at = ap (option_and_then (λ s. cond (starts_on s q.offset) (Some (item_in inputs s q)) None)) at

pub item_at-none : (inputs : ParsedInputs) (q : Place) → code_at inputs.objects q ≡ None → item_at inputs q ≡ None
unfolding item_at
item_at-none inputs q at = ap (option_and_then (λ s. cond (starts_on s q.offset) (Some (item_in inputs s q)) None)) at

-- ---- the place where an item leads

-- a place at a distance from another, if there is one, is where code may lead
pub away_target : (objects : List ObjectParts) (q to : Place) (distance : ℤ) → target_away objects q distance ≡ Some to → is_target_at objects to ≡ true
away_target objects q to distance = from (place_on q (pos q.offset +ℤ distance))
  where
    only : (r : Place) (b : Bool) → is_target_at objects r ≡ b → cond b (Some r) None ≡ Some to → is_target_at objects to ≡ true
    only r true is h = let same : r ≡ to = cc in ap (is_target_at objects) (sym same) ∙ is
    only r false is h = absurd cc

    from : (o : Option Place) → option_and_then (λ r. cond (is_target_at objects r) (Some r) None) o ≡ Some to → is_target_at objects to ≡ true
    from None h = absurd cc
    from (Some r) h = only r (is_target_at objects r) refl h

-- ---- padding

-- padding of whole units has a power of two above it, from 4 to 256, and its relocation has that room
pub record IsPadded (n : ℕ) : Type 0 where
  pub some : 2 ≤ n
  pub even : n % 2 ≡ 0
  pub short : n ≤ 254
  pub power : power_above n % 4 ≡ 0
  pub above : n < power_above n
  pub most : power_above n ≤ 256

pub padded : (c : Bool) (n : ℕ) → is_padding c (pos n) ≡ true → IsPadded n
padded c n is =
    let two = and_parts (ltb 0 n) _ is in
    let rest = and_parts (ltb n 256) (eqb (n % code_step c) 0) two.1 in
    let short = ltb-true n 256 rest.0 in
    let even : n % 2 ≡ 0 = step_even c n (eqb-true (n % code_step c) 0 rest.1) in
    let some : 2 ≤ n = omega (arith, ltb-true 0 n two.0, even) in
    let power = powers n (ltb n 2) refl (ltb n 4) refl (ltb n 8) refl (ltb n 16) refl (ltb n 32) refl (ltb n 64) refl (ltb n 128) refl some short in
    record { some = some; even = even; short = omega (arith, short, even); power = power.0; above = power.1; most = power.2 }
  where
    powers : (n : ℕ) (b2 : Bool) → ltb n 2 ≡ b2 → (b4 : Bool) → ltb n 4 ≡ b4 → (b8 : Bool) → ltb n 8 ≡ b8 → (b16 : Bool) → ltb n 16 ≡ b16 → (b32 : Bool) → ltb n 32 ≡ b32 → (b64 : Bool) → ltb n 64 ≡ b64 → (b128 : Bool) → ltb n 128 ≡ b128
        → 2 ≤ n → n < 256
        → let p : ℕ = cond b2 2 (cond b4 4 (cond b8 8 (cond b16 16 (cond b32 32 (cond b64 64 (cond b128 128 256)))))) in (p % 4 ≡ 0) × (n < p) × (p ≤ 256)
    powers n true e2 b4 e4 b8 e8 b16 e16 b32 e32 b64 e64 b128 e128 some short = absurd (omega (arith, ltb-true n 2 e2))
    powers n false e2 true e4 b8 e8 b16 e16 b32 e32 b64 e64 b128 e128 some short = (refl, ltb-true n 4 e4, omega arith)
    powers n false e2 false e4 true e8 b16 e16 b32 e32 b64 e64 b128 e128 some short = (refl, ltb-true n 8 e8, omega arith)
    powers n false e2 false e4 false e8 true e16 b32 e32 b64 e64 b128 e128 some short = (refl, ltb-true n 16 e16, omega arith)
    powers n false e2 false e4 false e8 false e16 true e32 b64 e64 b128 e128 some short = (refl, ltb-true n 32 e32, omega arith)
    powers n false e2 false e4 false e8 false e16 false e32 true e64 b128 e128 some short = (refl, ltb-true n 64 e64, omega arith)
    powers n false e2 false e4 false e8 false e16 false e32 false e64 true e128 some short = (refl, ltb-true n 128 e128, omega arith)
    powers n false e2 false e4 false e8 false e16 false e32 false e64 false e128 some short = (refl, short, omega arith)

-- ALIGN is the one type of its kind
pub align_kind : (n : ℕ) → kind_of n ≡ Some kind.Align → n ≡ 43
align_kind n is =
    last (eqb n 43) (eqb n 44) (eqb n 45) refl
    (skip (eqb n 28) kind.Lo12S _ (λ e. cc) (skip (eqb n 27) kind.Lo12I _ (λ e. cc) (skip (eqb n 26) kind.Hi20 _ (λ e. cc)
    (skip (eqb n 25) kind.PcrelLo12S _ (λ e. cc) (skip (eqb n 24) kind.PcrelLo12I _ (λ e. cc) (skip (eqb n 23) kind.PcrelHi20 _ (λ e. cc)
    (skip (eqb n 19) kind.Call _ (λ e. cc) (skip (eqb n 18) kind.Call _ (λ e. cc) (skip (eqb n 17) kind.Jal _ (λ e. cc)
    (skip (eqb n 16) kind.Branch _ (λ e. cc) (skip (eqb n 1) kind.Word _ (λ e. cc) (skip (eqb n 51) kind.Ignored _ (λ e. cc)
    (skip (eqb n 0) kind.Ignored _ (λ e. cc) is)))))))))))))
  where
    skip : (b : Bool) (k : RelocKind) (rest : Option RelocKind) → (Some k ≡ Some kind.Align → ⊥) → cond b (Some k) rest ≡ Some kind.Align → rest ≡ Some kind.Align
    skip true k rest other h = absurd (other h)
    skip false k rest other h = h

    last : (b c d : Bool) → eqb n 43 ≡ b → cond b (Some kind.Align) (cond c (Some kind.RvcBranch) (cond d (Some kind.RvcJump) None)) ≡ Some kind.Align → n ≡ 43
    last true c d e h = eqb-true n 43 e
    last false true d e h = absurd cc
    last false false true e h = absurd cc
    last false false false e h = absurd cc

-- the room of a relocation that asks for padding is the power of two above it
room_is : (r : Reloc) (m : ℕ) → kind_of r.kind ≡ Some kind.Align → r.addend ≡ pos m → IsPadded m → reloc_room r ≡ power_above m
unfolding reloc_room
room_is r m align number padding =
    ap (λ b. cond b (align_room r.addend) 0) (eq-eqb r.kind 43 (align_kind r.kind align)) ∙ ap align_room number ∙ by m padding
  where
    by : (m : ℕ) → IsPadded m → align_room (pos m) ≡ power_above m
    by zero is = absurd (omega (arith, is.some))
    by (suc n) is = ap (λ b. cond b (power_above (suc n)) 256) (lt-ltb n 255 (omega (arith, is.short)))

-- ---- sizes

-- the n bytes that an item takes: the bytes of its step, or n bytes of padding
pub data Takes (i : Item) (n : ℕ) : Type 0 where
  Bytes : padding_of i ≡ None → Takes i n
  Padding : i ≡ Align n → IsPadded n → Takes i n

-- what isn't padding goes on by its bytes
pub after_plain : (a n : ℕ) (i : Item) → padding_of i ≡ None → after_item a n i ≡ a + n
after_plain a n i is = ap (λ o. option_map_or (λ bytes. aligned_up (power_above bytes) a) o (a + n)) is

-- what has no relocation isn't padding
own_plain : (objects : List ObjectParts) (q : Place) (size : ℕ) (bytes : List ℕ) → padding_of (spelled_item objects q (instr_in size bytes q.offset) (raw_in size bytes q.offset)) ≡ None
own_plain objects q size bytes = by (instr_in size bytes q.offset)
  where
    raw : Item
    raw = raw_in size bytes q.offset

    unread : padding_of raw ≡ None
    unread = raw_by (λ i. padding_of i ≡ None) (λ h. refl) (λ w. refl) size bytes q.offset

    goes : (o : Option Place) (f : Place → Item) → ((p : Place) → padding_of (f p) ≡ None) → padding_of (option_map_or f o raw) ≡ None
    goes None f is = unread
    goes (Some p) f is = is p

    of : (i : Instr) → padding_of (instr_item objects q i raw) ≡ None
    of (instr.Upper op rd imm) = refl
    of (instr.Jal rd distance) = goes (target_away objects q distance) (Jump rd) (λ p. refl)
    of (instr.Jalr rd base imm) = refl
    of (instr.Branch op first second distance) = goes (target_away objects q distance) (Branch op first second) (λ p. refl)
    of (instr.Load op rd base imm) = refl
    of (instr.Store op source base imm) = refl
    of (instr.WithImm op rd first imm) = refl
    of (instr.WithReg op rd first second) = refl
    of (instr.Fence rest) = refl
    of instr.Ecall = refl
    of instr.Ebreak = refl
    of (instr.Csrrw rd source) = unread

    by : (o : Option Instr) → padding_of (Rattle.block_cut.specs.Items.spelled_item objects q o raw) ≡ None
    by None = unread
    by (Some i) = of i

instr_plain : (o : Option Instr) (raw : Item) (f : Instr → Item) → padding_of raw ≡ None → ((i : Instr) → padding_of (f i) ≡ None) → padding_of (option_map_or f o raw) ≡ None
instr_plain None raw f stays is = stays
instr_plain (Some i) raw f stays is = is i

place_plain : (t : Target) (f : Place → Item) (other : Item) → ((p : Place) → padding_of (f p) ≡ None) → padding_of other ≡ None → padding_of (to_place t f other) ≡ None
place_plain (Code p) f other is stays = is p
place_plain (Number k) f other is stays = stays
place_plain (Absent k) f other is stays = stays
place_plain Nowhere f other is stays = stays

transfer_plain : (i : Instr) (other : Item) (p : Place) → padding_of other ≡ None → padding_of (transfer_item i other p) ≡ None
transfer_plain (instr.Upper op rd imm) other p is = is
transfer_plain (instr.Jal rd distance) other p is = refl
transfer_plain (instr.Jalr rd base imm) other p is = is
transfer_plain (instr.Branch op first second distance) other p is = refl
transfer_plain (instr.Load op rd base imm) other p is = is
transfer_plain (instr.Store op source base imm) other p is = is
transfer_plain (instr.WithImm op rd first imm) other p is = is
transfer_plain (instr.WithReg op rd first second) other p is = is
transfer_plain (instr.Fence rest) other p is = is
transfer_plain instr.Ecall other p is = is
transfer_plain instr.Ebreak other p is = is
transfer_plain (instr.Csrrw rd source) other p is = is

transfer_under_plain : (size : ℕ) (t : Target) (bytes : List ℕ) (n : ℕ) → padding_of (transfer_under size t bytes n) ≡ None
transfer_under_plain size t bytes n =
    let unread = raw_by (λ i. padding_of i ≡ None) (λ h. refl) (λ w. refl) size bytes n in
    instr_plain (instr_in size bytes n) (raw_in size bytes n) _ unread (λ i. place_plain t _ (raw_in size bytes n) (λ p. transfer_plain i (raw_in size bytes n) p unread) unread)

call_plain : (first second : Option Instr) (other : Item) (p : Place) → padding_of other ≡ None → padding_of (call_item first second other p) ≡ None
call_plain (Some (instr.Upper op temp upper)) (Some (instr.Jalr rd base lower)) other p is = refl
call_plain first second other p is = is

-- an item by its relocation's kind and addend takes the bytes of the field, or it is padding
data TakesBy (k : Option RelocKind) (addend : ℤ) (i : Item) : Type 0 where
  Field : padding_of i ≡ None → TakesBy k addend i
  Fill : (m : ℕ) → k ≡ Some kind.Align → addend ≡ pos m → i ≡ Align m → IsPadded m → TakesBy k addend i

module _ (s : SectionParts) (t : Target) (bytes : List ℕ) (n : ℕ) where
  -- with a relocation an item takes the bytes that this changes
  reloc_takes : (k : Option RelocKind) (addend : ℤ) → is_ignored k ≡ false → is_bad_kind s k ≡ false → fits_at s n addend k ≡ true
      → TakesBy k addend (known_item k addend t bytes n)
  reloc_takes None addend asks known fits = absurd cc
  reloc_takes (Some kind.Ignored) addend asks known fits = absurd cc
  reloc_takes (Some kind.Word) addend asks known fits = Field refl
  reloc_takes (Some kind.Branch) addend asks known fits = Field (transfer_under_plain 4 t bytes n)
  reloc_takes (Some kind.Jal) addend asks known fits = Field (transfer_under_plain 4 t bytes n)
  reloc_takes (Some kind.Call) addend asks known fits = Field (place_plain t _ (raw_pair bytes n) (λ p. call_plain (instr_in 4 bytes n) (instr_in 4 bytes (n + 4)) _ p refl) refl)
  reloc_takes (Some kind.PcrelHi20) addend asks known fits = Field (instr_plain (instr_in 4 bytes n) _ _ refl (λ i. refl))
  reloc_takes (Some kind.PcrelLo12I) addend asks known fits = Field (instr_plain (instr_in 4 bytes n) _ _ refl (λ i. place_plain t _ _ (λ p. refl) refl))
  reloc_takes (Some kind.PcrelLo12S) addend asks known fits = Field (instr_plain (instr_in 4 bytes n) _ _ refl (λ i. place_plain t _ _ (λ p. refl) refl))
  reloc_takes (Some kind.Hi20) addend asks known fits = Field (instr_plain (instr_in 4 bytes n) _ _ refl (λ i. refl))
  reloc_takes (Some kind.Lo12I) addend asks known fits = Field (instr_plain (instr_in 4 bytes n) _ _ refl (λ i. refl))
  reloc_takes (Some kind.Lo12S) addend asks known fits = Field (instr_plain (instr_in 4 bytes n) _ _ refl (λ i. refl))
  reloc_takes (Some kind.RvcBranch) addend asks known fits = Field (transfer_under_plain 2 t bytes n)
  reloc_takes (Some kind.RvcJump) addend asks known fits = Field (transfer_under_plain 2 t bytes n)
  reloc_takes (Some kind.Align) addend asks known fits = by addend fits
    where
      by : (z : ℤ) → is_padding s.compressed z ≡ true → TakesBy (Some kind.Align) z (Align (padding_length z))
      by (pos m) is = Fill m refl refl refl (padded s.compressed m is)
      by (negsuc m) is = absurd cc

-- the room that the relocation at an offset may take
abbrev pub room_at : SectionParts → ℕ → ℕ
room_at s n = option_map_or reloc_room (reloc_on s n) 0

module _ (inputs : ParsedInputs) (s : SectionParts) (q : Place) (code : is_code_section s ≡ true) where
  -- the item at an offset of a section of code takes the bytes of its step
  pub item_takes : Takes (item_in inputs s q) (size_on s q.offset)
  item_takes = by (reloc_on s q.offset) refl
    where
      of : (k : Option RelocKind) (addend : ℤ) (i : Item) → TakesBy k addend i → Takes i (field_length k addend)
      of k addend i (Field is) = Bytes is
      of k addend i (Fill m align number is padding) =
          let n : field_length k addend ≡ m = (λ j. field_length (align j) (number j)) in
          Padding (is ∙ ap Align (sym n)) (subst IsPadded (sym n) padding)

      by : (o : Option Reloc) → reloc_on s q.offset ≡ o → Takes (item_under inputs q o (size_on s q.offset) s.bytes) (option_map_or field_of o (own_size s.compressed s.bytes q.offset))
      by None is = Bytes (own_plain inputs.objects q (size_on s q.offset) s.bytes)
      by (Some r) is =
          let sound = sound_at s q.offset r code is in
          of (kind_of r.kind) r.addend _
          (reloc_takes s (target_of inputs q.object r) s.bytes q.offset (kind_of r.kind) r.addend sound.asks sound.known sound.fits)

  -- in the plain layout an item takes no more than its bytes and its relocation's room
  pub item_fits : (a : ℕ) → after_item a (size_on s q.offset) (item_in inputs s q) ≤ a + size_on s q.offset + room_at s q.offset
  item_fits a = by (reloc_on s q.offset) refl
    where
      own : ℕ
      own = own_size s.compressed s.bytes q.offset

      of : (r : Reloc) (i : Item) → TakesBy (kind_of r.kind) r.addend i → after_item a (field_of r) i ≤ a + field_of r + reloc_room r
      of r i (Field is) = omega (arith, after_plain a (field_of r) i is)
      of r i (Fill m align number is padding) =
          let room : reloc_room r ≡ power_above m = room_is r m align number padding in
          let up : after_item a (field_of r) i ≡ aligned_up (power_above m) a = ap (after_item a (field_of r)) is in
          omega (arith, room, up, aligned_up-lt (power_above m) a, padding.above)

      by : (o : Option Reloc) → reloc_on s q.offset ≡ o → after_item a (option_map_or field_of o own) (item_under inputs q o (size_on s q.offset) s.bytes) ≤ a + option_map_or field_of o own + option_map_or reloc_room o 0
      by None is = omega (arith, after_plain a own (spelled_item inputs.objects q (instr_in (size_on s q.offset) s.bytes q.offset) (raw_in (size_on s q.offset) s.bytes q.offset)) (own_plain inputs.objects q (size_on s q.offset) s.bytes))
      by (Some r) is =
          let sound = sound_at s q.offset r code is in
          of r _ (reloc_takes s (target_of inputs q.object r) s.bytes q.offset (kind_of r.kind) r.addend sound.asks sound.known sound.fits)
