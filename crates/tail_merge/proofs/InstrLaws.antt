-- What stands in a section whose tails are shared: outside of them the same bytes, but that a branch or jump without relocation has its
-- new distance, and at each removed tail's start a jump.
use Rattle.std.proofs.Common.{◌≡◌, ℕ, ◌%◌, ◌^◌, ◌<◌, ◌⊎◌, inl, inr, ℤ, List, [], ◌∷◌, length, take, drop, true, cond, eqb, Option, Some, None, refl, sym, ap, ◌∙◌, subst, arith, get_or, lit<}
use Rattle.std.proofs.lemmas.Bool.{eq-eqb}
use Rattle.std.proofs.lemmas.List.{take_all}
use Rattle.std.proofs.lemmas.List.Elements.{All-head, All-tail, All-weaker}
use Rattle.std.proofs.lemmas.List.Sums.{sum_by-cons}
use Rattle.std.specs.Prelude.{All}
use Rattle.std.specs.List.{find}
use Rattle.std.specs.Option.{option_map_or, unwrap_or}
use Rattle.zc_base.specs.Fields.{half_bytes, half_in, word_bytes, word_in}
use Rattle.elf32_read.specs.Parts.{is_code_section}
use Rattle.elf32_read.specs.declared.reloc.Reloc.{Reloc}
use Rattle.elf32_write.proofs.After.{half_of_bytes, word_of_bytes}
use Rattle.psabi_sym.specs.Indexed.{IndexedSection}
use Rattle.psabi_sym.specs.Inputs.{ParsedInputs}
use Rattle.rv_decode.specs.Bits.{FitsIn, IsEven}
use Rattle.rv_decode.specs.Decode.{decoded}
use Rattle.rv_decode.specs.Immediates.{InRange}
use Rattle.rv_decode.specs.Normal.{normal_of}
use Rattle.rv_decode.specs.Registers.{HasRegisters}
use Rattle.rv_decode.specs.declared.instr.BranchOp.{BranchOp}
use Rattle.rv_decode.specs.declared.instr.BranchOp.TheVariants.{Beq, Bne, Blt, Bge, Bltu, Bgeu}
use Rattle.rv_decode.specs.declared.instr.Instr.{Instr}
use Rattle.rv_decode.specs.declared.instr.Instr.TheVariants.{Branch, Jal}
use Rattle.rv_encode.specs.Codes.{branch_funct3}
use Rattle.rv_encode.specs.Words.{bits_of, branch_five_of, branch_seven_of, encoded, fields_word, jump_twenty_of, twelve_of, upper_word_of}
use Rattle.rv_encode.proofs.EncodedLaws.{encoded-decodes}
use Rattle.zc_decode.specs.Halfwords.{decoded16}
use Rattle.zc_decode.specs.declared.short.Short.{Short}
use Rattle.zc_decode.specs.declared.short.Short.TheVariants.{Base, Push, Pop, PopRet, PopRetz, MoveSa, MoveAs, TableJump}
use Rattle.zc_encode.specs.Halves.{encoded16}
use Rattle.zca_zcb_pass.proofs.HalfNormals.{IsHalfNormal, half_normal}
use Rattle.zca_zcb_pass.proofs.ShortDistances.{HasShort, branch_has_short, jump_has_short, zero_itself}
use Rattle.block_cut.specs.Items.{item_in, place_of, size_on, starts_on}
use Rattle.block_cut.specs.Relocs.{instr_in, normal_base, reloc_on}
use Rattle.block_cut.specs.Whole.{IsWhole}
use Rattle.block_cut.proofs.InstrLaws.{in_range_in, registers_in}
use Rattle.tail_merge.specs.Tails.{CodeItem, Removed, bytes_of_all, code_item, code_items, covers, moved_down, removed_tails, tail_start}
use Rattle.tail_merge.specs.Merged.{instr_bytes, item_bytes, jump_bytes, kept_bytes, merged_bytes, new_distance, transfer_instr}
use Rattle.tail_merge.proofs.DistanceLaws.{IsEvenTail}
use Rattle.tail_merge.proofs.HeldLaws.{items-held}
use Rattle.tail_merge.proofs.ItemsLaws.{item-of-all, removed-items, start-split}
use Rattle.tail_merge.proofs.ReadLaws.{SameBytes, long-same, short-same}
use Rattle.tail_merge.proofs.WrittenLaws.{IsHeld, any-written, copied-same, instr-length}

-- ---- words of branches and jumps

branch-code : (op : BranchOp) → branch_funct3 op < 2 ^ 3
branch-code Beq = lit< tt
branch-code Bne = lit< tt
branch-code Blt = lit< tt
branch-code Bge = lit< tt
branch-code Bltu = lit< tt
branch-code Bgeu = lit< tt

fields-below : (high rs1 funct3 low opcode : ℕ) → high < 2 ^ 12 → rs1 < 2 ^ 5 → funct3 < 2 ^ 3 → low < 2 ^ 5 → opcode < 2 ^ 7
    → fields_word high rs1 funct3 low opcode < 2 ^ 32
fields-below high rs1 funct3 low opcode a b c d e = omega (arith, a, b, c, d, e)

upper-below : (upper low opcode : ℕ) → upper < 2 ^ 20 → low < 2 ^ 5 → opcode < 2 ^ 7 → upper_word_of upper low opcode < 2 ^ 32
upper-below upper low opcode a b c = omega (arith, a, b, c)

branch-below : (op : BranchOp) (first second : ℕ) (distance : ℤ) → first < 32 → second < 32 → encoded (Branch op first second distance) < 2 ^ 32
unfolding encoded
branch-below op first second distance one two =
    fields-below (twelve_of (branch_seven_of (bits_of 13 distance)) second) first (branch_funct3 op) (branch_five_of (bits_of 13 distance)) 0b1100011
    (twelve (bits_of 13 distance)) one (branch-code op) (five (bits_of 13 distance)) (lit< tt)
  where
    twelve : (bits : ℕ) → twelve_of (branch_seven_of bits) second < 2 ^ 12
    twelve bits = omega (arith, two)

    five : (bits : ℕ) → branch_five_of bits < 2 ^ 5
    five bits = omega arith

jal-below : (rd : ℕ) (distance : ℤ) → rd < 32 → encoded (Jal rd distance) < 2 ^ 32
unfolding encoded
jal-below rd distance small = upper-below (jump_twenty_of (bits_of 21 distance)) rd 0b1101111 (twenty (bits_of 21 distance)) small (lit< tt)
  where
    twenty : (bits : ℕ) → jump_twenty_of bits < 2 ^ 20
    twenty bits = omega arith

-- ---- an instruction read where it was written

word-first : (v : ℕ) → v < 2 ^ 32 → word_in (word_bytes v) 0 ≡ v
unfolding word_in
word-first v small = word_of_bytes v small

half-first : (v : ℕ) → v < 2 ^ 16 → half_in (half_bytes v) 0 ≡ v
unfolding half_in
half-first v small = half_of_bytes v small

pub long-back : (i : Instr) → InRange i → HasRegisters i → encoded i < 2 ^ 32 → instr_in 4 (instr_bytes 4 i) 0 ≡ Some i
long-back i fits has small = ap decoded (word-first (encoded i) small) ∙ encoded-decodes i fits has

pub short-back : (i : Instr) → HasShort i → normal_of i ≡ i → instr_in 2 (instr_bytes 2 i) 0 ≡ Some i
short-back i short itself =
    let half : unwrap_or (encoded16 (Base i)) 0 ≡ short.half = ap (λ o. unwrap_or o 0) short.encodes in
    ap (λ h. normal_base (decoded16 (half_in (half_bytes h) 0))) half
    ∙ ap (λ h. normal_base (decoded16 h)) (half-first short.half short.small)
    ∙ ap normal_base short.spells
    ∙ ap Some (short.normal ∙ itself)

-- the instruction of two bytes is a normal form
half-normal-in : (bytes : List ℕ) (n : ℕ) (i : Instr) → instr_in 2 bytes n ≡ Some i → IsHalfNormal i
half-normal-in bytes n i is = by (decoded16 (half_in bytes n)) refl is
  where
    by : (o : Option Short) → decoded16 (half_in bytes n) ≡ o → normal_base o ≡ Some i → IsHalfNormal i
    by None spells h = absurd cc
    by (Some (Base j)) spells h = let same : normal_of j ≡ i = cc in subst IsHalfNormal same (half_normal (half_in bytes n) j spells)
    by (Some (Push list adjust)) spells h = absurd cc
    by (Some (Pop list adjust)) spells h = absurd cc
    by (Some (PopRet list adjust)) spells h = absurd cc
    by (Some (PopRetz list adjust)) spells h = absurd cc
    by (Some (MoveSa first second)) spells h = absurd cc
    by (Some (MoveAs first second)) spells h = absurd cc
    by (Some (TableJump index)) spells h = absurd cc

-- a distance fits where another does, and is even if that is
pub record IsNoFurther (old new : ℤ) : Type 0 where
  pub fits : (bits : ℕ) → FitsIn bits old → FitsIn bits new
  pub even : IsEven old → IsEven new

-- a branch of any size at a lesser distance
pub branch-back : (size : ℕ) → (size ≡ 2) ⊎ (size ≡ 4) → (bytes : List ℕ) (n : ℕ) (op : BranchOp) (first second : ℕ) (d e : ℤ)
    → instr_in size bytes n ≡ Some (Branch op first second d) → IsNoFurther d e
    → instr_in size (instr_bytes size (Branch op first second e)) 0 ≡ Some (Branch op first second e)
branch-back size (inr four) bytes n op first second d e is less =
    subst (λ k. instr_in k (instr_bytes k (Branch op first second e)) 0 ≡ Some (Branch op first second e)) (sym four) back
  where
    back : instr_in 4 (instr_bytes 4 (Branch op first second e)) 0 ≡ Some (Branch op first second e)
    back =
        let range = in_range_in size bytes n (Branch op first second d) is in
        let has = registers_in size bytes n (Branch op first second d) is in
        long-back (Branch op first second e) (less.fits 13 range.0, less.even range.1) has (branch-below op first second e has.0 has.1)
branch-back size (inl two) bytes n op first second d e is less =
    subst (λ k. instr_in k (instr_bytes k (Branch op first second e)) 0 ≡ Some (Branch op first second e)) (sym two) back
  where
    back : instr_in 2 (instr_bytes 2 (Branch op first second e)) 0 ≡ Some (Branch op first second e)
    back =
        let normal = half-normal-in bytes n (Branch op first second d) (subst (λ k. instr_in k bytes n ≡ Some (Branch op first second d)) two is) in
        short-back (Branch op first second e) (branch_has_short op first second e normal.0 (less.fits 9 normal.1.0, less.even normal.1.1))
        (zero_itself op first second e normal.0)

-- and a jump
pub jump-back : (size : ℕ) → (size ≡ 2) ⊎ (size ≡ 4) → (bytes : List ℕ) (n rd : ℕ) (d e : ℤ) → instr_in size bytes n ≡ Some (Jal rd d)
    → IsNoFurther d e → instr_in size (instr_bytes size (Jal rd e)) 0 ≡ Some (Jal rd e)
jump-back size (inr four) bytes n rd d e is less = subst (λ k. instr_in k (instr_bytes k (Jal rd e)) 0 ≡ Some (Jal rd e)) (sym four) back
  where
    back : instr_in 4 (instr_bytes 4 (Jal rd e)) 0 ≡ Some (Jal rd e)
    back =
        let range = in_range_in size bytes n (Jal rd d) is in
        let has = registers_in size bytes n (Jal rd d) is in
        long-back (Jal rd e) (less.fits 21 range.0, less.even range.1) has (jal-below rd e has)
jump-back size (inl two) bytes n rd d e is less = subst (λ k. instr_in k (instr_bytes k (Jal rd e)) 0 ≡ Some (Jal rd e)) (sym two) back
  where
    back : instr_in 2 (instr_bytes 2 (Jal rd e)) 0 ≡ Some (Jal rd e)
    back =
        let normal = half-normal-in bytes n (Jal rd d) (subst (λ k. instr_in k bytes n ≡ Some (Jal rd d)) two is) in
        short-back (Jal rd e) (jump_has_short rd e normal.0 (less.fits 12 normal.1.0, less.even normal.1.1)) refl

-- what is read of an instruction of two or four bytes
pub same-instr : (size : ℕ) → (size ≡ 2) ⊎ (size ≡ 4) → (xs : List ℕ) (n : ℕ) (ys : List ℕ) (m : ℕ) → SameBytes size xs n ys m
    → instr_in size xs n ≡ instr_in size ys m
same-instr size (inl two) xs n ys m same =
    subst (λ k. instr_in k xs n ≡ instr_in k ys m) (sym two) (short-same size xs n ys m same (omega (arith, two)))
same-instr size (inr four) xs n ys m same =
    subst (λ k. instr_in k xs n ≡ instr_in k ys m) (sym four) (long-same size xs n ys m same (omega (arith, four)))

-- ---- sizes

abbrev IsEvenItem : CodeItem → Type 0
IsEvenItem c = c.size % 2 ≡ 0

even-sum : (cs : List CodeItem) → All IsEvenItem cs → bytes_of_all cs % 2 ≡ 0
even-sum [] all = refl
even-sum (c ∷ cs) all =
    let own = All-head IsEvenItem c cs all in
    let rest = even-sum cs (All-tail IsEvenItem c cs all) in
    omega (arith, sum_by-cons (λ (c : CodeItem). c.size) c cs, own, rest)

-- ---- at an item's start

module _ (inputs : ParsedInputs) (l : IndexedSection) (code : is_code_section l.section ≡ true) (whole : IsWhole l.section) where
  abbrev gone : List Removed
  gone = removed_tails inputs l

  -- an item starts there, and is in no removed tail
  pub record IsOutsideItem (n : ℕ) : Type 0 where
    pub start : starts_on l.section n ≡ true
    pub outside : find (covers n) gone ≡ None

  -- what is removed is a whole number of halfwords
  pub even-tails : All IsEvenTail gone
  even-tails =
      let items =
      removed-items IsEvenItem inputs l
      (All-weaker (IsHeld l.section) IsEvenItem (λ c h. h.even) (code_items inputs l) (items-held inputs l code whole)) in
      λ k r lt. even-sum (get_or gone k r).tail (items k r lt).0

  pub held-at : (n : ℕ) → starts_on l.section n ≡ true → IsHeld l.section (code_item inputs l n)
  held-at n start = item-of-all (IsHeld l.section) inputs l n start (items-held inputs l code whole)

  written-here : (n : ℕ) → starts_on l.section n ≡ true
      → take (length (item_bytes gone l.section (code_item inputs l n))) (drop (moved_down gone n) (merged_bytes inputs l)) ≡ item_bytes gone l.section (code_item inputs l n)
  written-here n start =
      let split = start-split inputs l n start in any-written inputs l (items-held inputs l code whole) split.0 split.1 (code_item inputs l n) split.2

  copied-here : (n : ℕ) → IsOutsideItem n
      → kept_bytes gone l.section (code_item inputs l n) ≡ take (size_on l.section n) (drop n l.section.bytes)
      → SameBytes (size_on l.section n) (merged_bytes inputs l) (moved_down gone n) l.section.bytes n
  copied-here n is own =
      let split = start-split inputs l n is.start in
      copied-same inputs l (items-held inputs l code whole) split.0 split.1 (code_item inputs l n) split.2 (held-at n is.start).within is.outside own

  -- what has a relocation is copied
  pub same-under : (n : ℕ) → IsOutsideItem n → (r : Reloc) → reloc_on l.section n ≡ Some r
      → SameBytes (size_on l.section n) (merged_bytes inputs l) (moved_down gone n) l.section.bytes n
  same-under n is r on =
      let own = take (size_on l.section n) (drop n l.section.bytes) in
      copied-here n is (ap (λ o. option_map_or (λ r. own) o (option_map_or (instr_bytes (size_on l.section n)) (transfer_instr (new_distance gone n) (item_in inputs l.section (place_of l n))) own)) on)

  -- and what has none, but for branches and jumps
  pub same-plain : (n : ℕ) → IsOutsideItem n → transfer_instr (new_distance gone n) (item_in inputs l.section (place_of l n)) ≡ None
      → SameBytes (size_on l.section n) (merged_bytes inputs l) (moved_down gone n) l.section.bytes n
  same-plain n is plain =
      let own = take (size_on l.section n) (drop n l.section.bytes) in
      copied-here n is (ap (λ t. option_map_or (λ r. own) (reloc_on l.section n) (option_map_or (instr_bytes (size_on l.section n)) t own)) plain ∙ either (reloc_on l.section n) own)
    where
      either : (o : Option Reloc) (own : List ℕ) → option_map_or (λ r. own) o own ≡ own
      either None own = refl
      either (Some r) own = refl

  -- a branch or jump without relocation stands there with its new distance
  pub new-instr : (n : ℕ) → IsOutsideItem n → reloc_on l.section n ≡ None → (i : Instr)
      → transfer_instr (new_distance gone n) (item_in inputs l.section (place_of l n)) ≡ Some i
      → instr_in (size_on l.section n) (merged_bytes inputs l) (moved_down gone n) ≡ instr_in (size_on l.section n) (instr_bytes (size_on l.section n) i) 0
  new-instr n is none i transfers =
      let size = size_on l.section n in
      let own = take size (drop n l.section.bytes) in
      let sizes = (held-at n is.start).size none in
      let kept : kept_bytes gone l.section (code_item inputs l n) ≡ instr_bytes size i =
      ap (λ o. option_map_or (λ r. own) o (option_map_or (instr_bytes size) (transfer_instr (new_distance gone n) (item_in inputs l.section (place_of l n))) own)) none
      ∙ ap (λ t. option_map_or (instr_bytes size) t own) transfers in
      let bytes : item_bytes gone l.section (code_item inputs l n) ≡ instr_bytes size i =
      ap (λ o. option_map_or (λ r. cond (eqb n (tail_start r)) (jump_bytes gone r) []) o (kept_bytes gone l.section (code_item inputs l n))) is.outside ∙ kept in
      let long : length (instr_bytes size i) ≡ size = instr-length size i sizes in
      let there : take size (drop (moved_down gone n) (merged_bytes inputs l)) ≡ instr_bytes size i =
      ap (λ k. take k (drop (moved_down gone n) (merged_bytes inputs l))) (sym (ap length bytes ∙ long)) ∙ written-here n is.start ∙ bytes in
      same-instr size sizes (merged_bytes inputs l) (moved_down gone n) (instr_bytes size i) 0 (there ∙ sym (whole-take size (instr_bytes size i) long))
    where
      whole-take : (k : ℕ) (xs : List ℕ) → length xs ≡ k → take k (drop 0 xs) ≡ xs
      whole-take k xs is = take_all k xs (omega (arith, is))

  -- where a removed tail began stands the jump to its host
  pub jump-instr : (r : Removed) → starts_on l.section (tail_start r) ≡ true → find (covers (tail_start r)) gone ≡ Some r → (distance : ℤ)
      → jump_bytes gone r ≡ instr_bytes 4 (Jal 0 distance) → FitsIn 21 distance → IsEven distance
      → instr_in 4 (merged_bytes inputs l) (moved_down gone (tail_start r)) ≡ Some (Jal 0 distance)
  jump-instr r start covered distance is fits even =
      let n = tail_start r in
      let bytes : item_bytes gone l.section (code_item inputs l n) ≡ instr_bytes 4 (Jal 0 distance) =
      ap (λ o. option_map_or (λ r. cond (eqb n (tail_start r)) (jump_bytes gone r) []) o (kept_bytes gone l.section (code_item inputs l n))) covered
      ∙ ap (λ b. cond b (jump_bytes gone r) []) (eq-eqb n n refl) ∙ is in
      let there : take 4 (drop (moved_down gone n) (merged_bytes inputs l)) ≡ instr_bytes 4 (Jal 0 distance) =
      ap (λ k. take k (drop (moved_down gone n) (merged_bytes inputs l))) (sym (ap length bytes)) ∙ written-here n start ∙ bytes in
      same-instr 4 (inr refl) (merged_bytes inputs l) (moved_down gone n) (instr_bytes 4 (Jal 0 distance)) 0 there
      ∙ long-back (Jal 0 distance) (fits, even) (lit< tt) (jal-below 0 distance (lit< tt))
