-- What comes before the first section: its number of bytes, what a slot of the table holds, and where the stub is
-- (`slot_in_front`, `stub_in_front`). The stub's jump reaches the program's start and lands there (`stub_reaches`, `stub_lands`).
use Rattle.std.proofs.Common.{◌≡◌, ℕ, zero, suc, ◌+◌, ◌-◌, ◌*◌, ◌^◌, ◌<◌, ◌≤◌, inl, inr, List, [], ◌∷◌, length, take, drop, true, cond, eqb, Option, Some, refl, sym, ap, ◌∙◌, subst, arith, get_or, slice_get, length-append}
use Rattle.std.specs.Int.{w32}
use Rattle.std.proofs.Math.Seq.{drop-append_seam, take-length}
use Rattle.std.proofs.lemmas.Bool.{eq-eqb, false_from_ne_true, eqb-true}
use Rattle.std.proofs.lemmas.Int.{to_z_pos}
use Rattle.std.proofs.lemmas.Option.{none-some, slice_get_within}
use Rattle.zc_base.specs.MemMap.{IsMap}
use Rattle.zc_base.specs.declared.place.Place.{Place}
use Rattle.psabi_reloc.specs.Reaches.{jal_reach}
use Rattle.psabi_sym.specs.Inputs.{parsed}
use Rattle.rv_decode.specs.Bits.{add32, as_signed}
use Rattle.block_cut.specs.Items.{entry_of}
use Rattle.shrink_layout.specs.Units.{front_size}
use Rattle.entry_stub.specs.Stub.{AreWordsOf, stub_instrs}
use Rattle.zc_link.specs.Copied.{bytes_from}
use Rattle.zc_link.specs.Front.{IsFront, image_entry, slot_bytes, start_address, stub_address, stub_distance, table_bytes}
use Rattle.zc_link.specs.LaidOut.{IsLaidOut}
use Rattle.zc_link.specs.TextLayout.{TextLayout}
use Rattle.zc_link.specs.Values.{way}
use Rattle.zc_link.specs.Written.{HoldsFront}
use Rattle.zc_link.proofs.Adds.{AreBytes, bytes_append, first_bytes, word_are}
use Rattle.zc_link.proofs.LaidLaws.{address_small}
use Rattle.zc_link.proofs.ShortWays.{way_jumps}

-- ---- sizes

size_none : (slots : List (Option Place)) → length slots ≡ 0 → front_size slots ≡ 0
size_none [] none = refl
size_none (slot ∷ slots) none = absurd (omega (arith, none))

pub size_some : (slots : List (Option Place)) → 0 < length slots → front_size slots ≡ 4 * length slots + 12
size_some [] some = absurd (omega (arith, some))
size_some (slot ∷ slots) some = refl

-- ---- the table

module _ (A : Place → Option ℕ) where
  length-table_bytes : (slots : List (Option Place)) → length (table_bytes A slots) ≡ 4 * length slots
  length-table_bytes [] = refl
  length-table_bytes (slot ∷ slots) =
      omega (arith, length-append (slot_bytes A slot) (table_bytes A slots), length-table_bytes slots)

  table_are : (slots : List (Option Place)) → AreBytes (table_bytes A slots)
  table_are [] k = omega arith
  table_are (slot ∷ slots) k = bytes_append (slot_bytes A slot) (table_bytes A slots) (word_are _) (table_are slots) k

  -- a slot stands at its number
  slot_there : (slots : List (Option Place)) (n : ℕ) (slot : Option Place) → slice_get slots n ≡ Some slot → bytes_from (table_bytes A slots) (4 * n) 4 ≡ slot_bytes A slot
  slot_there [] n slot is = absurd (none-some slot is)
  slot_there (s ∷ slots) zero slot is = let same : s ≡ slot = cc is in ap (slot_bytes A) same
  slot_there (s ∷ slots) (suc n) slot is =
      let past : 4 * suc n ≡ suc (suc (suc (suc (4 * n)))) = omega arith in
      ap (λ m. take 4 (drop m (table_bytes A (s ∷ slots)))) past ∙ slot_there slots n slot is

-- ---- with the stub

module _ (L : TextLayout) (bytes : List ℕ) where
  pub front_long : IsFront L bytes → length bytes ≡ front_size L.slots
  front_long (inl (none, is)) = ap length is ∙ sym (size_none L.slots none)
  front_long (inr (some, f)) =
      let whole : length f.stub ≡ 12 = f.spells.whole in
      omega (arith, ap length f.both, length-append (table_bytes L.address L.slots) f.stub, length-table_bytes L.address L.slots, whole, size_some L.slots some)

  pub front_octets : IsFront L bytes → AreBytes bytes
  front_octets (inl (none, is)) = λ k. omega (arith, ap (λ (l : List ℕ). get_or l k 0) is)
  front_octets (inr (some, f)) =
      subst AreBytes (sym f.both) (bytes_append (table_bytes L.address L.slots) f.stub (table_are L.address L.slots) f.spells.octets)

  -- a slot
  pub slot_in_front : IsFront L bytes → (n : ℕ) (slot : Option Place) → slice_get L.slots n ≡ Some slot → bytes_from bytes (4 * n) 4 ≡ slot_bytes L.address slot
  slot_in_front (inl (none, is)) n slot at = absurd (omega (arith, none, slice_get_within L.slots n slot at))
  slot_in_front (inr (some, f)) n slot at =
      ap (λ l. bytes_from l (4 * n) 4) f.both
      ∙ first_bytes (table_bytes L.address L.slots) f.stub (4 * n) 4 (omega (arith, slice_get_within L.slots n slot at, length-table_bytes L.address L.slots))
      ∙ slot_there L.address L.slots n slot at

  -- the stub's words come after the table
  pub stub_in_front : IsFront L bytes → 0 < length L.slots → AreWordsOf (stub_instrs L.inputs.map.text (stub_distance L)) (drop (4 * length L.slots) bytes)
  stub_in_front (inl (none, is)) some = absurd (omega (arith, none, some))
  stub_in_front (inr (some, f)) more =
      let table = table_bytes L.address L.slots in
      let is : drop (4 * length L.slots) bytes ≡ f.stub =
      (λ j. drop (sym (length-table_bytes L.address L.slots) j) (f.both j)) ∙ drop-append_seam table f.stub in
      subst (AreWordsOf (stub_instrs L.inputs.map.text (stub_distance L))) (sym is) f.spells

-- ---- in a text

-- what is the front is what it begins with
pub front_held : (L : TextLayout) (text : List ℕ) → IsFront L text → HoldsFront L text
front_held L text is = subst (IsFront L) (sym (ap (λ n. take n text) (sym (front_long L text is)) ∙ take-length text)) is

-- a text that begins with it is as long at least
pub front_within : (L : TextLayout) (text : List ℕ) → HoldsFront L text → front_size L.slots ≤ length text
front_within L text is = short (front_size L.slots) text (front_long L (take (front_size L.slots) text) is)
  where
    short : (n : ℕ) (xs : List ℕ) → length (take n xs) ≡ n → n ≤ length xs
    short zero xs is = omega arith
    short (suc n) [] is = absurd (omega (arith, is))
    short (suc n) (x ∷ xs) is = let rest = short n xs (omega (arith, is)) in omega (arith, rest)

-- ---- where the image starts

module _ (L : TextLayout) where
  -- without slots that is at the program's start
  pub starts_there : length L.slots ≡ 0 → image_entry L ≡ start_address L
  starts_there none = ap (λ b. cond b (start_address L) (stub_address L)) (eq-eqb (length L.slots) 0 none)

  -- with slots the image starts at the stub
  pub starts_at_stub : 0 < length L.slots → image_entry L ≡ stub_address L
  starts_at_stub some =
      ap (λ b. cond b (start_address L) (stub_address L))
      (false_from_ne_true (eqb (length L.slots) 0) (λ e. omega (arith, some, eqb-true (length L.slots) 0 e)))

-- ---- the stub's jump

module _ (L : TextLayout) (is_map : IsMap L.inputs.map) (laid : IsLaidOut L) (some : 0 < length L.slots) where
  -- the program's start lies behind it, and near
  record IsBehind : Type 0 where
    pub small : stub_address L + 8 < 2 ^ 32
    pub word : start_address L < 2 ^ 32
    pub low : stub_address L + 8 ≤ start_address L
    pub near : start_address L ≤ stub_address L + 8 + 0x9_0000

  is_behind : IsBehind
  is_behind =
      let q = entry_of (parsed L.inputs) in
      let low = laid.low q (start_address L) laid.start in
      let high = laid.high q (start_address L) laid.start in
      let short = laid.short in
      let few = laid.few in
      let size = size_some L.slots some in
      record {
        small = omega (arith, few, is_map.code, is_map.room);
        word = address_small L is_map laid q (start_address L) laid.start;
        low = omega (arith, low, size);
        near = omega (arith, high, short);
      }

  -- the stub's jump reaches the program's start
  pub stub_reaches : jal_reach (stub_distance L) ≡ true
  stub_reaches =
      let b = is_behind in
      let low = b.low in
      let page = is_map.text_page in
      way_jumps (stub_address L + 8) (start_address L) b.small b.word b.near (omega (arith, low)) (omega (arith, page))
      (laid.even (entry_of (parsed L.inputs)) (start_address L) laid.start)

  -- the stub's jump lands at the program's start
  pub stub_lands : add32 (stub_address L + 8) (stub_distance L) ≡ start_address L
  stub_lands =
      let b = is_behind in
      let low = b.low in
      let near = b.near in
      let word = b.word in
      let n = start_address L - (stub_address L + 8) in
      let is : way (stub_address L + 8) (start_address L) ≡ n = omega (arith, low, word) in
      ap (add32 (stub_address L + 8)) (ap as_signed is ∙ to_z_pos w32 n (omega (arith, near))) ∙ omega (arith, low, word)

  -- no place is where the image starts
  pub stub_elsewhere : (q : Place) → L.address q ≡ Some (image_entry L) → ⊥
  stub_elsewhere q at = omega (arith, laid.low q (image_entry L) at, starts_at_stub L some, size_some L.slots some)
