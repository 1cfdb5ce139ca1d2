-- What is written for an item, by what it is: the number of bytes, and that they are what the item asks for.
use Rattle.std.proofs.Common.{◌≡◌, ℕ, ℤ, ◌+◌, ◌^◌, ◌<◌, ◌≤◌, ◌⊎◌, inl, inr, Bool, List, ◌++◌, length, Option, Some, true, false, refl, sym, ap, ◌∙◌, subst, arith, take, drop}
use Rattle.std.specs.Prelude.{IsTrue, ◌||◌}
use Rattle.std.specs.Option.{option_map}
use Rattle.std.proofs.lemmas.List.{take-append-drop}
use Rattle.zc_base.specs.Fields.{half_bytes, half_in, word_bytes, word_in}
use Rattle.zc_base.specs.declared.place.Place.{Place}
use Rattle.psabi_reloc.specs.Kinds.{is_auipc, is_lui}
use Rattle.psabi_reloc.specs.Parts.{hi20_of, lo12_of}
use Rattle.psabi_reloc.specs.Patched.{with_imm, with_upper}
use Rattle.psabi_sym.specs.Inputs.{parsed}
use Rattle.psabi_sym.specs.declared.target.Target.{Target}
use Rattle.psabi_sym.specs.declared.target.Target.TheVariants.{Code, Number, Absent, Nowhere}
use Rattle.rv_decode.specs.Bits.{as_signed}
use Rattle.rv_decode.specs.Decode.{decoded}
use Rattle.rv_decode.specs.Immediates.{InRange}
use Rattle.rv_decode.specs.declared.instr.BranchOp.{BranchOp}
use Rattle.rv_decode.specs.declared.instr.Instr.{Instr}
use Rattle.rv_decode.specs.declared.instr.Instr.TheVariants as instr
use Rattle.rv_decode.specs.declared.instr.UpperOp.TheVariants.{Auipc}
use Rattle.block_cut.specs.Items.{item_at, size_at}
use Rattle.block_cut.specs.Relocs.{instr_in}
use Rattle.block_cut.specs.declared.item.Item.{Item}
use Rattle.block_cut.specs.declared.item.Item.TheVariants.{Op, Hi, Lo, PcHi, PcLo, Branch, Jump, Call, Align, Word, Raw, RawShort, RawPair}
use Rattle.block_cut.proofs.InstrLaws.{in_range_in}
use Rattle.shrink_layout.specs.Halves.{fixed_instr}
use Rattle.shrink_layout.specs.Units.{OneItem}
use Rattle.zc_decode.specs.declared.short.Short.TheVariants.{Base}
use Rattle.zc_encode.specs.Halves.{encoded16}
use Rattle.zca_zcb_pass.specs.Forms.{HasEffectOf}
use Rattle.zc_link.specs.Copied.{bytes_from}
use Rattle.zc_link.specs.LaidOut.{HasBranchSize, HasCallSize, HasForm, HasOwnHalf, HasSize}
use Rattle.zc_link.specs.Standing.{HasOwnSize, HasValue, HasWay, IsHalfHere, ItemStands, SpellsCall, SpellsWay, StandsHere, WrittenHere, is_lower, is_patched}
use Rattle.zc_link.specs.Meant.{meant, way_on}
use Rattle.zc_link.specs.TextLayout.{TextLayout}
use Rattle.zc_link.specs.Values.{target_value, way}
use Rattle.zc_link.specs.Codes.{IsBranchSpelled}
use Rattle.zc_link.specs.Written.{IsCopied, IsLongBranch, IsOpWritten, IsSpelled, IsWritten, SpellsMeant, SpellsWord, padding}
use Rattle.zc_link.proofs.HalfNormals.{normal_in}
use Rattle.zc_link.proofs.Adds.{AreBytes, bytes_append, drop_are, half_are, half_small, length-bytes_from, length-padding, own_half, padding_are, take_are, word_are}

-- ---- bytes that spell

-- a list is n bytes
abbrev pub AreSized : ℕ → List ℕ → Type 0
AreSized n bytes = (length bytes ≡ n) × AreBytes bytes

pub word_sized : (bytes : List ℕ) (i : Instr) → SpellsWord bytes i → AreSized 4 bytes
word_sized bytes i s = (ap length s.are, subst AreBytes (sym s.are) (word_are s.word))

spelled_sized : (n : ℕ) (bytes : List ℕ) (i : Instr) → IsSpelled n bytes i → AreSized n bytes
spelled_sized n bytes i (inl four) = subst (λ m. AreSized m bytes) (sym four.0) (word_sized bytes i four.1)
spelled_sized n bytes i (inr two) =
    subst (λ m. AreSized m bytes) (sym two.0) (ap length two.1.are, subst AreBytes (sym two.1.are) (half_are two.1.half))

-- two words
both_sized : (n : ℕ) (bytes first second : List ℕ) (i j : Instr) → n ≡ 8 → bytes ≡ first ++ second → SpellsWord first i → SpellsWord second j → AreSized n bytes
both_sized n bytes first second i j eight both one two =
    let left = word_sized first i one in
    let right = word_sized second j two in (
      ap length both ∙ (λ k. length (one.are k ++ two.are k)) ∙ sym eight,
      subst AreBytes (sym both) (bytes_append first second left.1 right.1),
    )

branch_sized : (n : ℕ) (bytes : List ℕ) (op : BranchOp) (first second : ℕ) (d : ℤ) → IsBranchSpelled n bytes op first second d → AreSized n bytes
branch_sized n bytes op first second d (inl itself) = spelled_sized n bytes (instr.Branch op first second d) itself
branch_sized n bytes op first second d (inr long) = both_sized n bytes long.1.first long.1.second _ _ long.0 long.1.both long.1.over long.1.jump

-- ---- items

module _ (L : TextLayout) (code : List ℕ) (q : Place) (item : Item) (a n : ℕ) (here : StandsHere L code q item a n) where
  abbrev it : Place → Option Item
  it = item_at (parsed L.inputs)

  abbrev own : ℕ → List ℕ
  own = bytes_from code q.offset

  abbrev size : ℕ
  size = size_at (parsed L.inputs).objects q

  abbrev Here : List ℕ → Type 0
  Here bytes = WrittenHere L code q (OneItem item) a n bytes

  made : (bytes : List ℕ) → AreSized n bytes → IsWritten L q own a n item bytes → Here bytes
  made bytes sized written = record { long = sized.0; written = written; octets = sized.1 }

  -- an ALIGN's padding
  pub align_written : (k : ℕ) → item ≡ Align k → Here (padding n)
  align_written k is =
      made (padding n) (length-padding n here.even, padding_are n) (subst (λ i. IsWritten L q own a n i (padding n)) (sym is) refl)

  -- what is copied unread
  copied :
      (m : ℕ) (bytes : List ℕ) → n ≡ m → size ≡ m → IsWritten L q own a n item bytes → bytes ≡ own m → AreBytes code
      → Here bytes
  copied m bytes takes sized written are octets =
      made bytes (
        ap length are ∙ length-bytes_from code q.offset m (omega (arith, here.within, sized)) ∙ sym takes,
        subst AreBytes (sym are) (take_are m (drop q.offset code) (drop_are q.offset code octets)),
      )
      written

  module _ (bytes : List ℕ) (octets : AreBytes code) where
    pub raw_written : (w : ℕ) → item ≡ Raw w → bytes ≡ own 4 → Here bytes
    raw_written w is are =
        copied 4 bytes (subst (HasForm L.address a size n) is here.form) (subst (λ i. HasOwnSize i size) is here.size)
        (subst (λ i. IsWritten L q own a n i bytes) (sym is) are) are octets

    pub short_written : (h : ℕ) → item ≡ RawShort h → bytes ≡ own 2 → Here bytes
    short_written h is are =
        copied 2 bytes (subst (HasForm L.address a size n) is here.form) (subst (λ i. HasOwnSize i size) is here.size)
        (subst (λ i. IsWritten L q own a n i bytes) (sym is) are) are octets

    pub pair_written : (w v : ℕ) → item ≡ RawPair w v → bytes ≡ own 8 → Here bytes
    pair_written w v is are =
        copied 8 bytes (subst (HasForm L.address a size n) is here.form) (subst (λ i. HasOwnSize i size) is here.size)
        (subst (λ i. IsWritten L q own a n i bytes) (sym is) are) are octets

  -- ---- one word

  -- a word that is the instruction of the item here
  pub word_written :
      (j : Item) (i : Instr) (word : ℕ) → item ≡ j
      → ((bytes : List ℕ) → SpellsMeant L a n j bytes → IsWritten L q own a n j bytes) → meant L.address it a j ≡ Some i
      → n ≡ 4 → word < 2 ^ 32 → decoded word ≡ Some i → Here (word_bytes word)
  word_written j i word is row means four small spells =
      made (word_bytes word) (sym four, word_are word)
      (subst (λ k. IsWritten L q own a n k (word_bytes word)) (sym is)
      (row (word_bytes word)
      (record { instr = i; is = means; spelled = inl (four, record { word = word; small = small; are = refl; spells = spells }) })))

  -- ---- branches, jumps and calls

  -- by its distance
  leads_by :
      (i : ℤ → Instr) (to : Place) (b : ℕ) (d : ℤ) → L.address to ≡ Some b → d ≡ as_signed (way a b)
      → option_map (λ c. i (as_signed (way a c))) (L.address to) ≡ Some (i d)
  leads_by i to b d listed same = ap (option_map (λ c. i (as_signed (way a c)))) listed ∙ ap (λ k. Some (i k)) (sym same)

  module _ (op : BranchOp) (first second : ℕ) (to : Place) (is : item ≡ Branch op first second to) where
    pub branch_stands : SpellsWay L.address (instr_in size code q.offset) (instr.Branch op first second) to
    branch_stands = subst (ItemStands L.address it _ _) is here.stands

    -- in n bytes the branch reaches
    pub branch_form : HasBranchSize (instr.Branch op first second) n (as_signed (way a branch_stands.address))
    branch_form = subst (HasForm L.address a size n) is here.form branch_stands.address branch_stands.listed

    pub branch_written :
        (d : ℤ) (bytes : List ℕ) → ((b : ℕ) → L.address to ≡ Some b → d ≡ as_signed (way a b)) → IsBranchSpelled n bytes op first second d → Here bytes
    branch_written d bytes far spelled =
        made bytes (branch_sized n bytes op first second d spelled) (subst (λ i. IsWritten L q own a n i bytes) (sym is) (by spelled))
      where
        same : d ≡ as_signed (way a branch_stands.address)
        same = far branch_stands.address branch_stands.listed

        by : IsBranchSpelled n bytes op first second d → IsWritten L q own a n (Branch op first second to) bytes
        by (inl one) =
            inl (record { instr = instr.Branch op first second d; is = leads_by (instr.Branch op first second) to branch_stands.address d branch_stands.listed same; spelled = one })
        by (inr long) =
            inr (long.0, (branch_stands.address, branch_stands.listed, subst (λ k. IsLongBranch op first second k bytes) same long.1))

  module _ (rd : ℕ) (to : Place) (is : item ≡ Jump rd to) where
    pub jump_stands : SpellsWay L.address (instr_in size code q.offset) (instr.Jal rd) to
    jump_stands = subst (ItemStands L.address it _ _) is here.stands

    pub jump_written :
        (d : ℤ) (bytes : List ℕ) → ((b : ℕ) → L.address to ≡ Some b → d ≡ as_signed (way a b)) → IsSpelled n bytes (instr.Jal rd d) → Here bytes
    jump_written d bytes far spelled =
        let same = far jump_stands.address jump_stands.listed in
        made bytes (spelled_sized n bytes (instr.Jal rd d) spelled)
        (subst (λ i. IsWritten L q own a n i bytes) (sym is)
        (record { instr = instr.Jal rd d; is = leads_by (instr.Jal rd) to jump_stands.address d jump_stands.listed same; spelled = spelled }))

  module _ (rd temp : ℕ) (to : Place) (is : item ≡ Call rd temp to) where
    pub call_stands :
        SpellsCall L.address (instr_in size code q.offset) (instr_in 4 code (q.offset + 4)) rd temp to
    call_stands = subst (ItemStands L.address it _ _) is here.stands

    pub call_form : HasCallSize rd n (as_signed (way a call_stands.address))
    call_form = subst (HasForm L.address a size n) is here.form call_stands.address call_stands.listed

    -- a call as one jump
    pub call_jump_written :
        (d : ℤ) (bytes : List ℕ) → ((b : ℕ) → L.address to ≡ Some b → d ≡ as_signed (way a b)) → IsSpelled n bytes (instr.Jal rd d) → Here bytes
    call_jump_written d bytes far spelled =
        let same = far call_stands.address call_stands.listed in
        made bytes (spelled_sized n bytes (instr.Jal rd d) spelled)
        (subst (λ i. IsWritten L q own a n i bytes) (sym is)
        (inl (record { instr = instr.Jal rd d; is = leads_by (instr.Jal rd) to call_stands.address d call_stands.listed same; spelled = spelled })))

    -- a call as its two words
    pub call_written :
        (bytes : List ℕ) → n ≡ 8 → SpellsWord (take 4 bytes) (instr.Upper Auipc temp (hi20_of (way a call_stands.address)))
        → SpellsWord (drop 4 bytes) (instr.Jalr rd temp (lo12_of (way a call_stands.address))) → Here bytes
    call_written bytes eight upper lower =
        let both : bytes ≡ take 4 bytes ++ drop 4 bytes = sym (take-append-drop 4 bytes) in
        made bytes (both_sized n bytes (take 4 bytes) (drop 4 bytes) _ _ eight both upper lower)
        (subst (λ i. IsWritten L q own a n i bytes) (sym is)
        (inr (
          eight,
          (
            call_stands.address,
            call_stands.listed,
            record { first = take 4 bytes; second = drop 4 bytes; both = both; upper = upper; lower = lower },
          ),
        )))

  -- ---- all others

  -- an instruction without relocation, in four bytes
  module _ (i : Instr) (is : item ≡ Op i) where
    pub op_stands : instr_in size code q.offset ≡ Some i
    op_stands = subst (ItemStands L.address it _ _) is here.stands

    op_size : (size ≡ 2) ⊎ (size ≡ 4)
    op_size = subst (λ x. HasOwnSize x size) is here.size

    -- which fits a word
    pub op_range : InRange i
    op_range = in_range_in size code q.offset i op_stands

    -- an item has a word of its own if it has more than two bytes
    long_own : (size ≡ 2 → ⊥) → size ≡ 4
    long_own long = by op_size
      where
        by : (size ≡ 2) ⊎ (size ≡ 4) → size ≡ 4
        by (inl two) = absurd (long two)
        by (inr four) = four

    pub op_within : (size ≡ 2 → ⊥) → q.offset + 4 ≤ length code
    op_within long = omega (arith, here.within, long_own long)

    pub op_spells : (size ≡ 2 → ⊥) → decoded (word_in code q.offset) ≡ Some i
    op_spells long = subst (λ m. instr_in m code q.offset ≡ Some i) (long_own long) op_stands

    pub op_written : (word : ℕ) → word < 2 ^ 32 → (n ≡ 2 → ⊥) → decoded word ≡ Some i → Here (word_bytes word)
    op_written word small long spells =
        let four = four_long in
        let w : SpellsWord (word_bytes word) i = record { word = word; small = small; are = refl; spells = spells } in
        made (word_bytes word) (sym four, word_are word) (subst (λ j. IsWritten L q own a n j (word_bytes word)) (sym is) (either (L.keeps_halfwords q) (four, w)))
      where
        either : (b : Bool) → (n ≡ 4) × SpellsWord (word_bytes word) i → IsOpWritten b own n i (word_bytes word)
        either true w = inl w
        either false w = inl w

        four_long : n ≡ 4
        four_long = by (subst (HasForm L.address a size n) is here.form)
          where
            by : (n ≡ size) ⊎ HasSize (Op i) n → n ≡ 4
            by (inl same) = let longer : size ≡ 2 → ⊥ = λ two. long (same ∙ two) in same ∙ long_own longer
            by (inr (inl four)) = four
            by (inr (inr two)) = absurd (long two.0)

  -- an item whose instruction is known before the layout has two bytes or more of its own
  patched_size : (i : Item) → is_patched i ≡ true → HasOwnSize i size → 2 ≤ size
  patched_size (Op i) p (inl two) = omega (arith, two)
  patched_size (Op i) p (inr four) = omega (arith, four)
  patched_size (Hi i t) p four = omega (arith, four)
  patched_size (Lo i t) p four = omega (arith, four)
  patched_size (PcHi i t) p four = omega (arith, four)
  patched_size (PcLo i from) p four = omega (arith, four)
  patched_size (Word t) p four = omega (arith, four)
  patched_size i p own = absurd cc

  pub patched_within : is_patched item ≡ true → q.offset + 2 ≤ length code
  patched_within patched = omega (arith, here.within, patched_size item patched here.size)

  -- the target of its relocation has a value
  abbrev Stands : Item → Type 0
  Stands = ItemStands L.address it (instr_in size code q.offset) (instr_in 4 code (q.offset + 4))

  pub hi_value : (i : Instr) (t : Target) → item ≡ Hi i t → HasValue L.address t
  hi_value i t is = (subst Stands is here.stands).1

  pub lo_value : (i : Instr) (t : Target) → item ≡ Lo i t → HasValue L.address t
  lo_value i t is = (subst Stands is here.stands).1

  pub pc_hi_value : (i : Instr) (t : Target) → item ≡ PcHi i t → HasValue L.address t
  pc_hi_value i t is = (subst Stands is here.stands).1

  pub word_value : (t : Target) → item ≡ Word t → HasValue L.address t
  word_value t is = subst Stands is here.stands

  pub pc_lo_way : (i : Instr) (from : Place) → item ≡ PcLo i from → HasWay L.address it from
  pc_lo_way i from is = (subst Stands is here.stands).1

  -- of four bytes its word is its own, with a part of an address
  module _ (own_four : size ≡ 4) (four : n ≡ 4) (word : ℕ) (small : word < 2 ^ 32) where
    stands : ItemStands L.address it (instr_in 4 code q.offset) (instr_in 4 code (q.offset + 4)) item
    stands = subst (λ m. ItemStands L.address it (instr_in m code q.offset) (instr_in 4 code (q.offset + 4)) item) own_four here.stands

    abbrev Known : Item → Type 0
    Known j = ItemStands L.address it (instr_in 4 code q.offset) (instr_in 4 code (q.offset + 4)) j

    or_true : (b : Bool) → (b || true) ≡ true
    or_true true = refl
    or_true false = refl

    -- what a part is put into
    abbrev Puts : (Option Instr → Bool) → (Instr → Instr) → Type 0
    Puts is_kind put = (i : Instr) → decoded (word_in code q.offset) ≡ Some i → is_kind (Some i) ≡ true → decoded word ≡ Some (put i)

    pub hi_written :
        (i : Instr) (t : Target) (x : ℕ) → item ≡ Hi i t → target_value L.address t ≡ Some x
        → Puts (λ o. is_lui o || is_auipc o) (λ j. with_upper j (hi20_of x)) → Here (word_bytes word)
    hi_written i t x is taken puts =
        let k = subst Known is stands in
        word_written (Hi i t) (with_upper i (hi20_of x)) word is (λ bytes m. m)
        (ap (option_map (λ y. with_upper i (hi20_of y))) taken) four small (puts i k.0.spells (ap (λ b. b || is_auipc (Some i)) k.0.kind))

    pub pc_hi_written :
        (i : Instr) (t : Target) (x : ℕ) → item ≡ PcHi i t → target_value L.address t ≡ Some x
        → Puts (λ o. is_lui o || is_auipc o) (λ j. with_upper j (hi20_of (way a x))) → Here (word_bytes word)
    pc_hi_written i t x is taken puts =
        let k = subst Known is stands in
        word_written (PcHi i t) (with_upper i (hi20_of (way a x))) word is (λ bytes m. m)
        (ap (option_map (λ y. with_upper i (hi20_of (way a y)))) taken) four small
        (puts i k.0.spells (ap (λ b. is_lui (Some i) || b) k.0.kind ∙ or_true (is_lui (Some i))))

    pub lo_written :
        (i : Instr) (t : Target) (x : ℕ) → item ≡ Lo i t → target_value L.address t ≡ Some x
        → (decoded (word_in code q.offset) ≡ Some i → is_lower (Some i) ≡ true → decoded word ≡ Some (with_imm i (lo12_of x))) → Here (word_bytes word)
    lo_written i t x is taken puts =
        let k = subst Known is stands in
        word_written (Lo i t) (with_imm i (lo12_of x)) word is (λ bytes m. m)
        (ap (option_map (λ y. with_imm i (lo12_of y))) taken) four small (puts k.0.spells k.0.kind)

    pub pc_lo_written :
        (i : Instr) (from : Place) (x : ℕ) → item ≡ PcLo i from → way_on L.address it from ≡ Some x
        → (decoded (word_in code q.offset) ≡ Some i → is_lower (Some i) ≡ true → decoded word ≡ Some (with_imm i (lo12_of x))) → Here (word_bytes word)
    pc_lo_written i from x is taken puts =
        let k = subst Known is stands in
        word_written (PcLo i from) (with_imm i (lo12_of x)) word is (λ bytes m. m)
        (ap (option_map (λ y. with_imm i (lo12_of y))) taken) four small (puts k.0.spells k.0.kind)

    pub word_target : (t : Target) → item ≡ Word t → target_value L.address t ≡ Some word → Here (word_bytes word)
    word_target t is taken =
        let k = subst Known is stands in
        made (word_bytes word) (sym four, word_are word)
        (subst (λ j. IsWritten L q own a n j (word_bytes word)) (sym is) (word, taken, refl))

  -- but an instruction without relocation these have four bytes
  patched_four : (i : Item) → ((j : Instr) → i ≡ Op j → ⊥) → is_patched i ≡ true → HasOwnSize i size → size ≡ 4
  patched_four (Op i) other p own = absurd (other i refl)
  patched_four (Hi i t) other p four = four
  patched_four (Lo i t) other p four = four
  patched_four (PcHi i t) other p four = four
  patched_four (PcLo i from) other p four = four
  patched_four (Word t) other p four = four
  patched_four i other p own = absurd cc

  pub patched_own : ((j : Instr) → item ≡ Op j → ⊥) → is_patched item ≡ true → size ≡ 4
  patched_own other patched = patched_four item other patched here.size

  -- in two bytes
  module _ (patched : is_patched item ≡ true) (two : n ≡ 2) where
    unfixed : {X : Type 0} → ((n ≡ 4) ⊎ ((n ≡ 2) × IsTrue false)) → X
    unfixed (inl four) = absurd (omega (arith, two, four))
    unfixed (inr has) = absurd cc

    -- the halfword that was found before the layout
    pub half_written : (half : ℕ) → L.keeps_halfwords q ≡ false → IsHalfHere item half → Here (half_bytes half)
    half_written half short_form found = made (half_bytes half) (sym two, half_are half) (by item patched here.form found.1)
      where
        short :
            (i : Instr) → ((j : Instr) → Some i ≡ Some j → (encoded16 (Base j) ≡ Some half) × HasEffectOf j half) → IsSpelled n (half_bytes half) i
        short i each = let got = each i refl in inr (two, record { half = half; small = found.0; are = refl; first = got.0; same = got.1 })

        by :
            (i : Item) → is_patched i ≡ true → HasForm L.address a size n i
            → ((j : Instr) → fixed_instr i ≡ Some j → (encoded16 (Base j) ≡ Some half) × HasEffectOf j half) → IsWritten L q own a n i (half_bytes half)
        by (Op i) p form each = subst (λ b. IsOpWritten b own n i (half_bytes half)) (sym short_form) (short i each)
        by (Hi i (Number x)) p form each = record { instr = with_upper i (hi20_of x); is = refl; spelled = short (with_upper i (hi20_of x)) each }
        by (Hi i (Absent x)) p form each = record { instr = with_upper i (hi20_of x); is = refl; spelled = short (with_upper i (hi20_of x)) each }
        by (Hi i (Code to)) p form each = unfixed form
        by (Hi i Nowhere) p form each = unfixed form
        by (Lo i (Number x)) p form each = record { instr = with_imm i (lo12_of x); is = refl; spelled = short (with_imm i (lo12_of x)) each }
        by (Lo i (Absent x)) p form each = record { instr = with_imm i (lo12_of x); is = refl; spelled = short (with_imm i (lo12_of x)) each }
        by (Lo i (Code to)) p form each = unfixed form
        by (Lo i Nowhere) p form each = unfixed form
        by (PcHi i t) p form each = absurd (omega (arith, two, form))
        by (PcLo i from) p form each = absurd (omega (arith, two, form))
        by (Word t) p form each = absurd (omega (arith, two, form))
        by i p form each = absurd cc

    -- or its own bytes
    pub own_written : (bytes : List ℕ) → bytes ≡ own 2 → AreBytes code → L.keeps_halfwords q ≡ true → HasOwnHalf size item → Here bytes
    own_written bytes are octets keeps found = by item refl patched here.form found
      where
        half : ℕ
        half = half_in code q.offset

        halved : bytes ≡ half_bytes half
        halved = are ∙ own_half code q.offset (patched_within patched) octets

        op : (i : Instr) → item ≡ Op i → size ≡ 2 → Here bytes
        op i is short =
            let normal = normal_in code q.offset i (subst (λ m. instr_in m code q.offset ≡ Some i) short (op_stands i is)) in
            let copies : IsCopied own bytes i =
            record { copies = are; half = half; small = half_small code q.offset octets; are = halved; spelled = normal.spelled; spells = normal.spells; normal = normal.normal } in
            made bytes (ap length halved ∙ sym two, subst AreBytes (sym halved) (half_are half))
            (subst (λ x. IsWritten L q own a n x bytes) (sym is) (subst (λ b. IsOpWritten b own n i bytes) (sym keeps) (inr (two, copies))))

        other : {X : Type 0} → (i : Item) (j : Instr) → fixed_instr i ≡ Some j → ((k : Instr) → i ≡ Op k → ⊥) → HasOwnHalf size i → X
        other i j fixed unlike each = absurd (unlike j (each j fixed).1)

        by : (i : Item) → item ≡ i → is_patched i ≡ true → HasForm L.address a size n i → HasOwnHalf size i → Here bytes
        by (Op i) is p form each = op i is (each i refl).0
        by (Hi i (Number x)) is p form each = other (Hi i (Number x)) (with_upper i (hi20_of x)) refl (λ k same. cc) each
        by (Hi i (Absent x)) is p form each = other (Hi i (Absent x)) (with_upper i (hi20_of x)) refl (λ k same. cc) each
        by (Hi i (Code to)) is p form each = unfixed form
        by (Hi i Nowhere) is p form each = unfixed form
        by (Lo i (Number x)) is p form each = other (Lo i (Number x)) (with_imm i (lo12_of x)) refl (λ k same. cc) each
        by (Lo i (Absent x)) is p form each = other (Lo i (Absent x)) (with_imm i (lo12_of x)) refl (λ k same. cc) each
        by (Lo i (Code to)) is p form each = unfixed form
        by (Lo i Nowhere) is p form each = unfixed form
        by (PcHi i t) is p form each = absurd (omega (arith, two, form))
        by (PcLo i from) is p form each = absurd (omega (arith, two, form))
        by (Word t) is p form each = absurd (omega (arith, two, form))
        by i is p form each = absurd cc

-- what is neither of these has a word of its own
pub patched_left :
    (item : Item) → ((op : BranchOp) (first second : ℕ) (to : Place) → item ≡ Branch op first second to → ⊥)
    → ((rd : ℕ) (to : Place) → item ≡ Jump rd to → ⊥) → ((rd temp : ℕ) (to : Place) → item ≡ Call rd temp to → ⊥)
    → ((k : ℕ) → item ≡ Align k → ⊥) → ((w : ℕ) → item ≡ Raw w → ⊥) → ((h : ℕ) → item ≡ RawShort h → ⊥) → ((w v : ℕ) → item ≡ RawPair w v → ⊥)
    → is_patched item ≡ true
patched_left (Branch op first second to) branch jump call align raw short pair = absurd (branch op first second to refl)
patched_left (Jump rd to) branch jump call align raw short pair = absurd (jump rd to refl)
patched_left (Call rd temp to) branch jump call align raw short pair = absurd (call rd temp to refl)
patched_left (Align k) branch jump call align raw short pair = absurd (align k refl)
patched_left (Raw w) branch jump call align raw short pair = absurd (raw w refl)
patched_left (RawShort h) branch jump call align raw short pair = absurd (short h refl)
patched_left (RawPair w v) branch jump call align raw short pair = absurd (pair w v refl)
patched_left other branch jump call align raw short pair = refl
