-- The sizes of items in a section of code whose equal tails are shared: an item that stays keeps its size, also where a branch or jump
-- is written at its new distance, and a jump in a removed tail's place has 4 bytes.
use Rattle.std.proofs.Common.{◌≡◌, ℕ, ◌+◌, ◌-◌, ◌*◌, ◌%◌, ◌^◌, ◌≤◌, ◌<◌, ◌⊎◌, ℤ, pos, subst, List, [], length, take, drop, Bool, true, false, cond, refl, sym, ap, ap₂, ◌∙◌, arith, eqb, leb, inl, inr, get_or, Option, Some, None}
use Rattle.std.specs.Prelude.{◌&&◌, ◌-ℤ◌, nat_lt}
use Rattle.std.specs.List.{find}
use Rattle.std.specs.Option.{option_map, option_map_or, unwrap_or}
use Rattle.std.proofs.lemmas.Bool.{cases_lt, eq-eqb, eqb-true, le-leb, lt-leb, ne_eqb}
use Rattle.std.proofs.lemmas.List.{get_or-drop, get_or-take, length-drop, length-take}
use Rattle.zc_base.specs.Fields.{half_bytes, word_bytes}
use Rattle.zc_base.specs.declared.place.Place.{Place}
use Rattle.elf32_read.specs.Parts.{SectionParts}
use Rattle.elf32_read.specs.declared.reloc.Reloc.{Reloc}
use Rattle.psabi_sym.specs.Inputs.{ParsedInputs}
use Rattle.psabi_sym.specs.Indexed.{IndexedSection}
use Rattle.rv_decode.specs.Bits.{field}
use Rattle.rv_decode.specs.Normal.{greater_branch, normal_branch}
use Rattle.rv_decode.specs.declared.instr.BranchOp.{BranchOp}
use Rattle.rv_decode.specs.declared.instr.BranchOp.TheVariants.{Beq, Bne, Blt, Bge, Bltu, Bgeu}
use Rattle.rv_decode.specs.declared.instr.Instr.{Instr}
use Rattle.rv_decode.specs.declared.instr.Instr.TheVariants as instr
use Rattle.rv_encode.specs.Words.{encoded}
use Rattle.zc_decode.specs.declared.short.Short.TheVariants.{Base}
use Rattle.zc_encode.specs.Halves.{beqz_half, encoded16, half_for, half_of, is_popular, is_signed, jump_half, low_bits, when}
use Rattle.block_cut.specs.CodeSizes.{code_step, is_long_at, own_size}
use Rattle.block_cut.specs.Items.{size_on, starts_on}
use Rattle.block_cut.specs.Relocs.{field_of, reloc_on}
use Rattle.block_cut.specs.declared.item.Item.{Item}
use Rattle.block_cut.specs.declared.item.Item.TheVariants as item
use Rattle.block_cut.proofs.CodeSizeLaws.{step_even, step_sum}
use Rattle.block_cut.proofs.StartLaws.{start_is, step}
use Rattle.tail_merge.specs.Tails.{Removed, code_item, covers, first_offset, moved_down, removed_tails, tail_start}
use Rattle.tail_merge.specs.Merged.{instr_bytes, item_bytes, jump_bytes, kept_bytes, merged_reloc, new_distance, transfer_instr}
use Rattle.tail_merge.proofs.OffsetLaws.{Outside, down-order}
use Rattle.tail_merge.proofs.PlacedLaws.{jump_by, width_in, width-step}
use Rattle.tail_merge.proofs.ItemsLaws.{removed-apart, start-split}
use Rattle.tail_merge.proofs.WrittenLaws.{any-written, copied-same}
use Rattle.tail_merge.proofs.HeldLaws.{items-held}
use Rattle.tail_merge.proofs.CoveredLaws.{covered-plain, outside-stays, stays_at, stays-first, stays-none}
use Rattle.tail_merge.proofs.MergedRelocs.{IsGoodCode, down-length, end-outside, field-merged, length-moved, merged_code, moved-steps, next-kept, next-outside, reloc-merged, start-clear, start-held}

-- ---- the low bits of what is written

-- a halfword, if there is one, ends in 01
abbrev IsLowOne : Option ℕ → Type 0
IsLowOne o = (h : ℕ) → o ≡ Some h → h % 4 ≡ 1

none-low : IsLowOne None
none-low h is = absurd cc

when-low : (test : Bool) (v : ℕ) → v % 4 ≡ 1 → IsLowOne (when test v)
when-low true v one h is = let same : v ≡ h = cc in omega (arith, same, one)
when-low false v one h is = absurd cc

cond-low : (b : Bool) (x y : Option ℕ) → IsLowOne x → IsLowOne y → IsLowOne (cond b x y)
cond-low true x y one two = one
cond-low false x y one two = two

half-low : (group bit upper lower : ℕ) → field group 0 2 ≡ 1 → half_of group bit upper lower % 4 ≡ 1
half-low group bit upper lower one = sum (field group 2 3) bit upper lower (field group 0 2) one
  where
    sum : (a b c d e : ℕ) → e ≡ 1 → (a * 2 ^ 13 + b * 2 ^ 12 + c * 2 ^ 7 + d * 2 ^ 2 + e) % 4 ≡ 1
    sum a b c d e one = omega (arith, one)

jump-low : (group : ℕ) (distance : ℤ) → field group 0 2 ≡ 1 → IsLowOne (jump_half group distance)
jump-low group distance one =
    let n = low_bits 12 distance in
    when-low (is_signed 12 2 distance)
    (half_of group (field n 11 1) (field n 4 1 * 16 + field n 8 2 * 4 + field n 10 1 * 2 + field n 6 1) (field n 7 1 * 16 + field n 1 3 * 2 + field n 5 1))
    (half-low group (field n 11 1) (field n 4 1 * 16 + field n 8 2 * 4 + field n 10 1 * 2 + field n 6 1) (field n 7 1 * 16 + field n 1 3 * 2 + field n 5 1) one)

jal-low : (rd : ℕ) (distance : ℤ) → IsLowOne (half_for (instr.Jal rd distance))
jal-low rd distance =
    cond-low (eqb rd 1) (jump_half 0b001_01 distance) (cond (eqb rd 0) (jump_half 0b101_01 distance) None) (jump-low 0b001_01 distance refl)
    (cond-low (eqb rd 0) (jump_half 0b101_01 distance) None (jump-low 0b101_01 distance refl) none-low)

beqz-low : (group first second : ℕ) (distance : ℤ) → field group 0 2 ≡ 1 → IsLowOne (beqz_half group first second distance)
beqz-low group first second distance one =
    let n = low_bits 9 distance in
    let upper = field n 3 2 * 8 + (first - 8) in
    when-low (eqb second 0 && (is_popular first && is_signed 9 2 distance))
    (half_of group (field n 8 1) upper (field n 6 2 * 8 + field n 1 2 * 2 + field n 5 1))
    (half-low group (field n 8 1) upper (field n 6 2 * 8 + field n 1 2 * 2 + field n 5 1) one)

branch-low : (op : BranchOp) (first second : ℕ) (distance : ℤ) → IsLowOne (half_for (instr.Branch op first second distance))
branch-low Beq first second distance = beqz-low 0b110_01 first second distance refl
branch-low Bne first second distance = beqz-low 0b111_01 first second distance refl
branch-low Blt first second distance = none-low
branch-low Bge first second distance = none-low
branch-low Bltu first second distance = none-low
branch-low Bgeu first second distance = none-low

greater-low : (op : BranchOp) (first second : ℕ) (distance : ℤ) → IsLowOne (half_for (greater_branch op first second distance))
greater-low op first second distance = by (nat_lt first second)
  where
    by : (b : Bool) → IsLowOne (half_for (cond b (instr.Branch op second first distance) (instr.Branch op first second distance)))
    by true = branch-low op second first distance
    by false = branch-low op first second distance

normal-low : (op : BranchOp) (first second : ℕ) (distance : ℤ) → IsLowOne (half_for (normal_branch op first second distance))
normal-low Beq first second distance = greater-low Beq first second distance
normal-low Bne first second distance = greater-low Bne first second distance
normal-low Blt first second distance = none-low
normal-low Bge first second distance = none-low
normal-low Bltu first second distance = none-low
normal-low Bgeu first second distance = none-low

-- the first byte of a halfword of a branch or jump, and that of a word
short-byte : (o : Option ℕ) → IsLowOne o → eqb (unwrap_or o 0 % 256 % 4) 3 ≡ false
short-byte None low = refl
short-byte (Some h) low = let one = low h refl in ne_eqb (h % 256 % 4) 3 (λ e. omega (arith, one, e))

jal-byte : (rd : ℕ) (distance : ℤ) → encoded (instr.Jal rd distance) % 256 % 4 ≡ 3
unfolding encoded
jal-byte rd distance = sum _ rd
  where
    sum : (a b : ℕ) → (a * 2 ^ 12 + b * 2 ^ 7 + 0b1101111) % 256 % 4 ≡ 3
    sum a b = omega arith

branch-byte : (op : BranchOp) (first second : ℕ) (distance : ℤ) → encoded (instr.Branch op first second distance) % 256 % 4 ≡ 3
unfolding encoded
branch-byte op first second distance = sum _ first _ _
  where
    sum : (a b c d : ℕ) → (a * 2 ^ 20 + b * 2 ^ 15 + c * 2 ^ 12 + d * 2 ^ 7 + 0b1100011) % 256 % 4 ≡ 3
    sum a b c d = omega arith

record HasLow (i : Instr) : Type 0 where
  long : encoded i % 256 % 4 ≡ 3
  short : eqb (unwrap_or (encoded16 (Base i)) 0 % 256 % 4) 3 ≡ false

transfer-low : (distance : Place → ℤ) (x : Item) (i : Instr) → transfer_instr distance x ≡ Some i → HasLow i
transfer-low distance (item.Branch op first second to) i is =
    let same : instr.Branch op first second (distance to) ≡ i = cc in
    subst HasLow same (record { long = branch-byte op first second (distance to); short = short-byte (half_for (normal_branch op first second (distance to))) (normal-low op first second (distance to)) })
transfer-low distance (item.Jump rd to) i is =
    let same : instr.Jal rd (distance to) ≡ i = cc in
    subst HasLow same (record { long = jal-byte rd (distance to); short = short-byte (half_for (instr.Jal rd (distance to))) (jal-low rd (distance to)) })
transfer-low distance x i is = absurd cc

-- ---- what is read where bytes are written

first-byte : (k : ℕ) (xs : List ℕ) (m : ℕ) (w : List ℕ) → take k (drop m xs) ≡ w → 0 < k → get_or xs m 0 ≡ get_or w 0 0
first-byte k xs m w same some =
    let at : m ≡ m + 0 = omega arith in
    ap (λ j. get_or xs j 0) at ∙ sym (get_or-take k (drop m xs) 0 0 some ∙ get_or-drop m xs 0 0) ∙ ap (λ zs. get_or zs 0 0) same

written-room : (k : ℕ) (xs : List ℕ) (m : ℕ) (w : List ℕ) → take k (drop m xs) ≡ w → length w ≡ k → 0 < k → m + k ≤ length xs
written-room k xs m w same size some =
    let a = length-take k (drop m xs) in
    let b = length-drop m xs in
    let c = ap length same in
    grind (arith, a, b, c, size, some)

-- a word begins where its low bits are 11, and it has room
long-at : (xs : List ℕ) (m : ℕ) → m + 4 ≤ length xs → get_or xs m 0 % 4 ≡ 3 → is_long_at xs m ≡ true
long-at xs m room low = ap₂ (λ a b. a && b) (le-leb (m + 4) (length xs) room) (eq-eqb (get_or xs m 0 % 4) 3 low)

short-at : (xs : List ℕ) (m : ℕ) → eqb (get_or xs m 0 % 4) 3 ≡ false → is_long_at xs m ≡ false
short-at xs m low = ap (λ b. leb (m + 4) (length xs) && b) low ∙ by (leb (m + 4) (length xs))
  where
    by : (b : Bool) → (b && false) ≡ false
    by true = refl
    by false = refl

module _ (inputs : ParsedInputs) (l : IndexedSection) (good : IsGoodCode inputs l) where
  abbrev s : SectionParts
  s = l.section

  abbrev t : SectionParts
  t = merged_code inputs l

  abbrev rs : List Removed
  rs = removed_tails inputs l

  abbrev D : ℕ → ℕ
  D n = moved_down rs n

  abbrev W : ℕ → List ℕ
  W n = item_bytes rs s (code_item inputs l n)

  written : (n : ℕ) → starts_on s n ≡ true → take (length (W n)) (drop (D n) t.bytes) ≡ W n
  written n start =
      let split = start-split inputs l n start in
      any-written inputs l (items-held inputs l good.code good.whole) split.0 split.1 (code_item inputs l n) split.2

  -- ---- items that stay

  stays-outside-none : (n : ℕ) → find (covers n) rs ≡ None → Outside rs n
  stays-outside-none n none = outside-stays rs n (stays-none rs n none)

  abbrev K : ℕ → List ℕ
  K n = option_map_or (instr_bytes (size_on s n)) (transfer_instr (new_distance rs n) (code_item inputs l n).item) (take (size_on s n) (drop n s.bytes))

  kept-is : (n : ℕ) → find (covers n) rs ≡ None → reloc_on s n ≡ None → W n ≡ K n
  kept-is n none plain =
      ap (λ o. option_map_or (λ r. cond (eqb n (tail_start r)) (jump_bytes rs r) []) o (kept_bytes rs s (code_item inputs l n))) none
      ∙ ap (λ o. option_map_or (λ r. take (size_on s n) (drop n s.bytes)) o (K n)) plain

  -- there is room for a word where there was
  room-merged : (n : ℕ) → starts_on s n ≡ true → find (covers n) rs ≡ None → reloc_on s n ≡ None → leb (D n + 4) (length t.bytes) ≡ leb (n + 4) (length s.bytes)
  room-merged n start none plain = by ((start-held inputs l good n start).size plain)
    where
      within : n + size_on s n ≤ length s.bytes
      within = (start-held inputs l good n start).within

      next : D (n + size_on s n) ≡ D n + size_on s n
      next = next-kept inputs l good n start none

      out : Outside rs (n + size_on s n)
      out = next-outside inputs l good n start none

      end : length t.bytes ≡ D (length s.bytes)
      end = length-moved inputs l good

      words : n % code_step s.compressed ≡ 0
      words = (start_is s good.code good.whole n start).words

      next-words : (n + size_on s n) % code_step s.compressed ≡ 0
      next-words = step_sum s.compressed n (size_on s n) words (step s good.code good.whole n words (start_is s good.code good.whole n start).inside).words

      by : (size_on s n ≡ 2) ⊎ (size_on s n ≡ 4) → leb (D n + 4) (length t.bytes) ≡ leb (n + 4) (length s.bytes)
      by (inr four) =
          let low = down-length inputs l good (n + size_on s n) out within in
          le-leb (D n + 4) (length t.bytes) (omega (arith, next, four, low)) ∙ sym (le-leb (n + 4) (length s.bytes) (omega (arith, within, four)))
      by (inl two) = elim (cases_lt (n + size_on s n) (length s.bytes)) [
        | inl lt ↦
            let less = down-order 0 rs (n + size_on s n) (length s.bytes) (removed-apart inputs l) out (end-outside inputs l good) lt in
            let one = step_even s.compressed (D (n + size_on s n)) (moved-steps inputs l good (n + size_on s n) out next-words) in
            let last = step_even s.compressed (D (length s.bytes)) (moved-steps inputs l good (length s.bytes) (end-outside inputs l good) good.whole.words) in
            let even = step_even s.compressed (n + size_on s n) next-words in
            let whole = step_even s.compressed (length s.bytes) good.whole.words in
            le-leb (D n + 4) (length t.bytes) (omega (arith, next, two, less, end, one, last)) ∙ sym (le-leb (n + 4) (length s.bytes) (omega (arith, lt, two, even, whole)))
        | inr ge ↦
            let at : length s.bytes ≡ n + size_on s n = omega (arith, ge, within) in
            let down = ap D at in
            lt-leb (D n + 4) (length t.bytes) (omega (arith, end, down, next, two)) ∙ sym (lt-leb (n + 4) (length s.bytes) (omega (arith, at, two)))
      ]

  written-as : (n : ℕ) → starts_on s n ≡ true → (w : List ℕ) → W n ≡ w → take (length w) (drop (D n) t.bytes) ≡ w
  written-as n start w is = subst (λ w. take (length w) (drop (D n) t.bytes) ≡ w) is (written n start)

  -- its low bits say the same
  long-merged : s.compressed ≡ true → (n : ℕ) → starts_on s n ≡ true → find (covers n) rs ≡ None → reloc_on s n ≡ None → is_long_at t.bytes (D n) ≡ is_long_at s.bytes n
  long-merged compressed n start none plain = by (transfer_instr (new_distance rs n) (code_item inputs l n).item) refl
    where
      own : List ℕ
      own = take (size_on s n) (drop n s.bytes)

      size : size_on s n ≡ cond (is_long_at s.bytes n) 4 2
      size = ap (λ o. option_map_or field_of o (own_size s.compressed s.bytes n)) plain ∙ ap (λ c. own_size c s.bytes n) compressed

      rewritten : (i : Instr) → HasLow i → W n ≡ instr_bytes (size_on s n) i → (b : Bool) → is_long_at s.bytes n ≡ b → is_long_at t.bytes (D n) ≡ b
      rewritten i low is true long =
          let w = written-as n start (word_bytes (encoded i)) (is ∙ ap (λ k. instr_bytes k i) (size ∙ ap {B = ℕ} (λ b. cond b 4 2) long)) in
          long-at t.bytes (D n) (written-room 4 t.bytes (D n) (word_bytes (encoded i)) w refl (omega arith))
          (ap (λ k. k % 4) (first-byte 4 t.bytes (D n) (word_bytes (encoded i)) w (omega arith)) ∙ low.long)
      rewritten i low is false short =
          let half = unwrap_or (encoded16 (Base i)) 0 in
          let w = written-as n start (half_bytes half) (is ∙ ap (λ k. instr_bytes k i) (size ∙ ap {B = ℕ} (λ b. cond b 4 2) short)) in
          short-at t.bytes (D n) (ap (λ k. eqb (k % 4) 3) (first-byte 2 t.bytes (D n) (half_bytes half) w (omega arith)) ∙ low.short)

      by : (o : Option Instr) → transfer_instr (new_distance rs n) (code_item inputs l n).item ≡ o → is_long_at t.bytes (D n) ≡ is_long_at s.bytes n
      by None is =
          let split = start-split inputs l n start in
          let held = start-held inputs l good n start in
          let same = copied-same inputs l (items-held inputs l good.code good.whole) split.0 split.1 (code_item inputs l n) split.2 held.within none
          (ap (λ o. option_map_or (λ r. own) o (K n)) plain ∙ ap (λ o. option_map_or (instr_bytes (size_on s n)) o own) is) in
          let byte : get_or t.bytes (D n) 0 ≡ get_or s.bytes n 0 = first-byte (size_on s n) t.bytes (D n) own same held.some ∙ sym (first-byte (size_on s n) s.bytes n own refl held.some) in
          ap₂ (λ a b. a && eqb (b % 4) 3) (room-merged n start none plain) byte
      by (Some i) is =
          rewritten i (transfer-low (new_distance rs n) (code_item inputs l n).item i is) (kept-is n none plain ∙ ap (λ o. option_map_or (instr_bytes (size_on s n)) o own) is)
          (is_long_at s.bytes n) refl

  own-merged : (n : ℕ) → starts_on s n ≡ true → find (covers n) rs ≡ None → reloc_on s n ≡ None → own_size s.compressed t.bytes (D n) ≡ own_size s.compressed s.bytes n
  own-merged n start none plain = by s.compressed refl
    where
      by : (c : Bool) → s.compressed ≡ c → own_size c t.bytes (D n) ≡ own_size c s.bytes n
      by false is = refl
      by true is = ap {B = ℕ} (λ b. cond b 4 2) (long-merged is n start none plain)

  -- an item that stays keeps its size
  pub size-kept : (n : ℕ) → starts_on s n ≡ true → find (covers n) rs ≡ None → size_on t (D n) ≡ size_on s n
  size-kept n start none =
      ap (λ o. option_map_or field_of o (own_size s.compressed t.bytes (D n))) (reloc-merged inputs l good n (stays-outside-none n none))
      ∙ by (reloc_on s n) refl
    where
      by : (o : Option Reloc) → reloc_on s n ≡ o
          → option_map_or field_of (option_map (merged_reloc inputs l.object rs) o) (own_size s.compressed t.bytes (D n)) ≡ option_map_or field_of o (own_size s.compressed s.bytes n)
      by None plain = own-merged n start none plain
      by (Some r) is = field-merged inputs l.object rs r

  -- ---- jumps in place of removed tails

  pub next-first : (n : ℕ) → starts_on s n ≡ true → (r : Removed) → find (covers n) rs ≡ Some r → n ≡ tail_start r → D (n + size_on s n) ≡ D n + 4
  next-first n start r found first =
      width-step 0 rs (code_item inputs l n) (removed-apart inputs l) (start-clear inputs l good n start) (start-held inputs l good n start).some
      ∙ ap (λ o. D n + width_in (code_item inputs l n) o) found
      ∙ ap (λ b. D n + jump_by b) (eq-eqb n (tail_start r) first)

  pub next-later : (n : ℕ) → starts_on s n ≡ true → (r : Removed) → find (covers n) rs ≡ Some r → eqb n (tail_start r) ≡ false → D (n + size_on s n) ≡ D n
  next-later n start r found later =
      width-step 0 rs (code_item inputs l n) (removed-apart inputs l) (start-clear inputs l good n start) (start-held inputs l good n start).some
      ∙ ap (λ o. D n + width_in (code_item inputs l n) o) found
      ∙ ap (λ b. D n + jump_by b) later ∙ omega arith

  -- the jump is what is written there
  pub jump-written : (n : ℕ) → starts_on s n ≡ true → (r : Removed) → find (covers n) rs ≡ Some r → n ≡ tail_start r → take 4 (drop (D n) t.bytes) ≡ jump_bytes rs r
  jump-written n start r found first =
      written-as n start (jump_bytes rs r)
      (ap (λ o. option_map_or (λ q. cond (eqb n (tail_start q)) (jump_bytes rs q) []) o (kept_bytes rs s (code_item inputs l n))) found
      ∙ ap (λ b. cond b (jump_bytes rs r) []) (eq-eqb n (tail_start r) first))

  -- it has no relocation
  pub reloc-first : (n : ℕ) → starts_on s n ≡ true → (r : Removed) → find (covers n) rs ≡ Some r → n ≡ tail_start r → reloc_on t (D n) ≡ None
  reloc-first n start r found first =
      reloc-merged inputs l good n (outside-stays rs n (stays-first rs n r found first))
      ∙ ap (option_map (merged_reloc inputs l.object rs)) (covered-plain inputs l n start r found)

  -- and 4 bytes
  pub size-first : (n : ℕ) → starts_on s n ≡ true → (r : Removed) → find (covers n) rs ≡ Some r → n ≡ tail_start r → size_on t (D n) ≡ 4
  size-first n start r found first =
      ap (λ o. option_map_or field_of o (own_size s.compressed t.bytes (D n))) (reloc-first n start r found first) ∙ by s.compressed
    where
      distance : ℤ
      distance = pos (D (first_offset r.host)) -ℤ pos (D (tail_start r))

      long : is_long_at t.bytes (D n) ≡ true
      long =
          let w = jump-written n start r found first in
          long-at t.bytes (D n) (written-room 4 t.bytes (D n) (jump_bytes rs r) w refl (omega arith))
          (ap (λ k. k % 4) (first-byte 4 t.bytes (D n) (jump_bytes rs r) w (omega arith)) ∙ jal-byte 0 distance)

      four : ℕ
      four = 4

      by : (c : Bool) → own_size c t.bytes (D n) ≡ four
      by false = refl
      by true = ap {B = ℕ} (λ b. cond b 4 2) long

  -- ---- from an item to the next

  -- an item that stays, or a jump, is followed by what followed the item
  pub next-stays : (n : ℕ) → starts_on s n ≡ true → stays_at rs n ≡ true → D (n + size_on s n) ≡ D n + size_on t (D n)
  next-stays n start stays = by (find (covers n) rs) refl stays
    where
      by : (o : Option Removed) → find (covers n) rs ≡ o → option_map_or (λ r. eqb n (tail_start r)) o true ≡ true → D (n + size_on s n) ≡ D n + size_on t (D n)
      by None none h = next-kept inputs l good n start none ∙ ap (λ k. D n + k) (sym (size-kept n start none))
      by (Some r) found h =
          let first = eqb-true n (tail_start r) h in
          next-first n start r found first ∙ ap (λ k. D n + k) (sym (size-first n start r found first))

  -- the later items of a removed tail are gone
  pub next-gone : (n : ℕ) → starts_on s n ≡ true → stays_at rs n ≡ false → D (n + size_on s n) ≡ D n
  next-gone n start gone = by (find (covers n) rs) refl gone
    where
      by : (o : Option Removed) → find (covers n) rs ≡ o → option_map_or (λ r. eqb n (tail_start r)) o true ≡ false → D (n + size_on s n) ≡ D n
      by None none h = absurd cc
      by (Some r) found h = next-later n start r found h

  -- there are bytes where something stays
  pub size-some : (n : ℕ) → starts_on s n ≡ true → stays_at rs n ≡ true → 0 < size_on t (D n)
  size-some n start stays = by (find (covers n) rs) refl stays
    where
      by : (o : Option Removed) → find (covers n) rs ≡ o → option_map_or (λ r. eqb n (tail_start r)) o true ≡ true → 0 < size_on t (D n)
      by None none h = let some = (start-held inputs l good n start).some in let same = size-kept n start none in omega (arith, some, same)
      by (Some r) found h = let four = size-first n start r found (eqb-true n (tail_start r) h) in omega (arith, four)

  pub room-stays : (n : ℕ) → starts_on s n ≡ true → stays_at rs n ≡ true → D n + size_on t (D n) ≤ length t.bytes
  room-stays n start stays = by (find (covers n) rs) refl stays
    where
      by : (o : Option Removed) → find (covers n) rs ≡ o → option_map_or (λ r. eqb n (tail_start r)) o true ≡ true → D n + size_on t (D n) ≤ length t.bytes
      by None none h =
          let low = down-length inputs l good (n + size_on s n) (next-outside inputs l good n start none) (start-held inputs l good n start).within in
          let next = next-stays n start stays in
          omega (arith, low, next)
      by (Some r) found h =
          let first = eqb-true n (tail_start r) h in
          let four = size-first n start r found first in
          let room = written-room 4 t.bytes (D n) (jump_bytes rs r) (jump-written n start r found first) refl (omega arith) in
          omega (arith, four, room)
