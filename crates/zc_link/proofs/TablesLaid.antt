-- What stands in front of the first section lies in the image: a slot of the table holds the address of its place (`slot_holds`), and
-- the stub stands behind the table (`stub_laid`).
use Rattle.std.proofs.Common.{◌≡◌, ℕ, ◌+◌, ◌-◌, ◌*◌, ◌/◌, ◌%◌, ◌^◌, ◌<◌, ◌≤◌, List, length, take, drop, Some, refl, sym, ap, ◌∙◌, subst, arith, get_or, slice_get}
use Rattle.std.specs.Option.{unwrap_or}
use Rattle.std.proofs.lemmas.List.{get_or-drop, get_or-take}
use Rattle.std.proofs.lemmas.Option.{slice_get_within}
use Rattle.zc_base.specs.Fields.{word_bytes, word_in}
use Rattle.zc_base.specs.MemMap.{IsMap}
use Rattle.zc_base.specs.declared.place.Place.{Place}
use Rattle.elf32_write.specs.Parts.{Parts}
use Rattle.psabi_sym.specs.Inputs.{parsed}
use Rattle.block_cut.specs.Items.{entry_of}
use Rattle.rv_decode.specs.Bits.{add32}
use Rattle.rv_decode.specs.Decode.{decoded}
use Rattle.rv_decode.specs.State.{byte_in, word_at}
use Rattle.rv_decode.specs.declared.instr.Instr.{Instr}
use Rattle.rv_decode.specs.declared.instr.Instr.TheVariants.{Csrrw, Jal, Upper}
use Rattle.rv_decode.specs.declared.instr.UpperOp.TheVariants.{Lui}
use Rattle.rv_decode.proofs.DecodeLaws.{decoded-low_bits}
use Rattle.entry_stub.specs.Stub.{stub_instrs}
use Rattle.shrink_layout.specs.Units.{front_size}
use Rattle.sym_machine.specs.Program.{Program}
use Rattle.zc_decode.specs.declared.short.Short.TheVariants.{Base}
use Rattle.zc_machine.specs.Fetch.{fetched_at}
use Rattle.zc_machine.proofs.FetchLaws.{fetched_long}
use Rattle.zc_link.specs.Copied.{bytes_from}
use Rattle.zc_link.specs.Front.{start_address, stub_address, stub_distance}
use Rattle.zc_link.specs.Image.{Image, loaded_core}
use Rattle.zc_link.specs.Invariants.Laid.{StubLaid}
use Rattle.zc_link.specs.LaidOut.{IsLaidOut}
use Rattle.zc_link.specs.Invariants.Stretches.{OneAt, SlotHolds}
use Rattle.zc_link.specs.TextLayout.{TextLayout}
use Rattle.zc_link.specs.Written.{HoldsFront}
use Rattle.zc_link.proofs.Fetched.{StandAt, stand_at}
use Rattle.zc_link.proofs.FrontLaws.{front_long, front_within, size_some, slot_in_front, starts_at_stub, stub_elsewhere, stub_in_front, stub_lands}
use Rattle.zc_link.proofs.ImageMemory.{AreLaidOut, image_of, text_lies}

-- ---- words of bytes

-- four bytes that are a word's are that word
word_there : (bytes : List ℕ) (at v : ℕ) → bytes_from bytes at 4 ≡ word_bytes v → v < 2 ^ 32 → word_in bytes at ≡ v
unfolding word_in
word_there bytes at v are small =
    let byte = λ (j : ℕ) (lt : j < 4).
    sym (get_or-drop at bytes j 0) ∙ sym (get_or-take 4 (drop at bytes) j 0 lt) ∙ ap (λ l. get_or l j 0) are in
    let first : at ≡ at + 0 = omega arith in
    let b0 : get_or bytes at 0 ≡ v % 256 = ap (λ n. get_or bytes n 0) first ∙ byte 0 (omega arith) in
    let b1 : get_or bytes (at + 1) 0 ≡ v / 256 % 256 = byte 1 (omega arith) in
    let b2 : get_or bytes (at + 2) 0 ≡ v / 65536 % 256 = byte 2 (omega arith) in
    let b3 : get_or bytes (at + 3) 0 ≡ v / 16777216 % 256 = byte 3 (omega arith) in
    omega (arith, b0, b1, b2, b3, small)

-- a word of what is left is one of all, so much on
word_left : (n : ℕ) (bytes : List ℕ) (at : ℕ) → word_in (drop n bytes) at ≡ word_in bytes (n + at)
unfolding word_in
word_left n bytes at =
    let byte = λ (j : ℕ).
    let on : n + (at + j) ≡ n + at + j = omega arith in
    get_or-drop n bytes (at + j) 0 ∙ ap (λ k. get_or bytes k 0) on in
    omega (arith, get_or-drop n bytes at 0, byte 1, byte 2, byte 3)

module _ (L : TextLayout) (program : Program) (parts : Parts) (out : AreLaidOut program parts) (maps : program.map ≡ L.inputs.map) (front : HoldsFront L parts.text) where
  abbrev e : Image
  e = image_of program.map parts

  abbrev bytes : List ℕ
  bytes = take (front_size L.slots) parts.text

  abbrev at : ℕ
  at = program.map.text

  start : at ≡ L.inputs.map.text
  start = ap (λ m. m.text) maps

  -- ---- words in the image

  stands : StandAt program parts out at bytes
  stands =
      let none : at - at ≡ 0 = omega arith in
      subst (StandAt program parts out at) (ap (λ n. bytes_from parts.text n (front_size L.slots)) none)
      (stand_at program parts out at (front_size L.slots) (omega arith) (omega (arith, front_within L parts.text front)))

  -- a word of what stands in front
  word_held : (k : ℕ) → k + 4 ≤ front_size L.slots → word_at (loaded_core e) (at + k) ≡ word_in bytes k
  unfolding word_in
  word_held k within =
      let long = front_long L bytes front in
      let st = stands in
      let byte = λ (j : ℕ) (lt : j < 4).
      let on : at + k + j ≡ at + (k + j) = omega arith in
      ap (byte_in (loaded_core e)) on ∙ st.each (k + j) (omega (arith, lt, within, long)) in
      let b0 : byte_in (loaded_core e) (at + k) ≡ get_or bytes k 0 = st.each k (omega (arith, within, long)) in
      omega (arith, b0, byte 1 (omega arith), byte 2 (omega arith), byte 3 (omega arith))

  -- lies in the text
  record LiesThere (k : ℕ) : Type 0 where
    pub low : at ≤ at + k
    pub within : at + k + 4 ≤ at + length parts.text
    pub small : at + k + 4 < 2 ^ 32

  lies_there : (k : ℕ) → k + 4 ≤ front_size L.slots → LiesThere k
  lies_there k within =
      let all = front_within L parts.text front in
      let short = out.short in
      let map = out.is_map in
      record {
        low = omega arith;
        within = omega (arith, within, all);
        small = omega (arith, within, all, short, map.code, map.room);
      }

  -- a word of the stub that is an instruction is fetched
  one_there : (a k w : ℕ) (i : Instr) → a ≡ at + k → k + 4 ≤ front_size L.slots → word_in bytes k ≡ w → decoded w ≡ Some i → OneAt e a (Base i)
  one_there a k w i is_at within is spells =
      let l = lies_there k within in
      let word = word_held k within ∙ is in
      let small = l.small in
      record {
        size = 4;
        here = ap (fetched_at (loaded_core e)) is_at
            ∙ fetched_long (loaded_core e) (at + k) w i (text_lies program parts out (at + k) 4 l.low l.within) word (omega (arith, word, decoded-low_bits w i spells)) spells;
        small = omega (arith, is_at, small);
      }

  -- ---- the table

  pub slot_holds : (n : ℕ) (to : Place) (a : ℕ) → slice_get L.slots n ≡ Some (Some to) → L.address to ≡ Some a → a < 2 ^ 32 → e.address to ≡ Some a → SlotHolds e n to
  slot_holds n to a slot known small listed =
      let below = slice_get_within L.slots n (Some to) slot in
      let within : 4 * n + 4 ≤ front_size L.slots = omega (arith, below, size_some L.slots (omega (arith, below))) in
      let l = lies_there (4 * n) within in
      let word = l.small in
      let held : bytes_from bytes (4 * n) 4 ≡ word_bytes a = slot_in_front L bytes front n (Some to) slot ∙ ap (λ o. word_bytes (unwrap_or o 0)) known in
      record {
        small = omega (arith, word);
        lies = text_lies program parts out (at + 4 * n) 4 l.low l.within;
        leads = listed ∙ ap Some (sym (word_held (4 * n) within ∙ word_there bytes (4 * n) a held small));
      }

  -- ---- the stub

  module _ (some : 0 < length L.slots) where
    -- the stub's instructions come one after another
    stub_one : (a k : ℕ) (i : Instr) → a ≡ at + (4 * length L.slots + 4 * k) → k < 3 → slice_get (stub_instrs L.inputs.map.text (stub_distance L)) k ≡ Some i → OneAt e a (Base i)
    stub_one a k i is_at few is =
        let words = stub_in_front L bytes front some in
        let within : 4 * length L.slots + 4 * k + 4 ≤ front_size L.slots = omega (arith, few, size_some L.slots some) in
        let word = word_left (4 * length L.slots) bytes (4 * k) in
        one_there a (4 * length L.slots + 4 * k) (word_in (drop (4 * length L.slots) bytes) (4 * k)) i is_at within (sym word) (words.spell k few ∙ is)

    pub stub_laid : IsLaidOut L → e.address ≡ L.address → program.entry ≡ entry_of (parsed L.inputs) → StubLaid program e (stub_address L)
    unfolding stub_one one_there
    stub_laid laid listed entry =
        let a = stub_address L in
        let map = out.is_map in
        let is_map : IsMap L.inputs.map = subst IsMap maps map in
        let d = stub_distance L in
        let there : e.address program.entry ≡ Some (start_address L) = (λ j. listed j (entry j)) ∙ laid.start in
        let jump : a + 8 ≡ a + 4 + 4 = omega arith in
        record {
          whole = omega (arith, map.text_page);
          small = omega (arith, map.code, map.room);
          upper = stub_one a 0 (Upper Lui 5 (at / 2 ^ 12)) (omega (arith, start)) (omega arith) (ap (λ (n : ℕ). Some (Upper Lui 5 (n / 4096))) (sym start));
          sets = stub_one (a + 4) 1 (Csrrw 0 5) (omega (arith, start)) (omega arith) refl;
          distance = d;
          goes = stub_one (a + 4 + 4) 2 (Jal 0 d) (omega (arith, start)) (omega arith) refl;
          leads = there ∙ ap Some (sym (stub_lands L is_map laid some)) ∙ ap (λ x. Some (add32 x d)) jump;
          elsewhere = λ same. stub_elsewhere L is_map laid some (entry_of (parsed L.inputs)) (laid.start ∙ sym there ∙ same ∙ ap Some (sym (starts_at_stub L some)));
        }
