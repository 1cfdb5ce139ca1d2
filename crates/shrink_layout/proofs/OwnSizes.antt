-- The bytes that an item has in its object are those of its kind (`own_at`). By what says what it is: without a relocation an item takes 2 bytes or 4
-- (`spelled_own`), and with one those that this changes (`known_own`). A branch or a jump of 2 bytes has a short form (`half_own`).
use Rattle.std.proofs.Common.{◌≡◌, ◌∙◌, ◌⊎◌, inl, inr, ℕ, ◌+◌, ℤ, List, Bool, true, false, cond, Option, Some, None, refl, sym, ap, subst, eqb}
use Rattle.std.specs.Prelude.{◌&&◌, ◌||◌, nat_le, nat_lt}
use Rattle.std.specs.Option.{option_map_or}
use Rattle.std.proofs.lemmas.Bool.{and_from, eq-eqb, le-leb, lt-ltb}
use Rattle.std.proofs.lemmas.Option.{same_Some}
use Rattle.zc_base.specs.Fields.{half_in}
use Rattle.zc_base.specs.declared.place.Place.{Place}
use Rattle.elf32_read.specs.Parts.{ObjectParts, SectionParts, is_code_section}
use Rattle.elf32_read.specs.declared.reloc.Reloc.{Reloc}
use Rattle.psabi_sym.specs.Inputs.{ParsedInputs}
use Rattle.psabi_sym.specs.declared.target.Target.{Target}
use Rattle.psabi_sym.specs.declared.target.Target.TheVariants.{Code, Number, Absent, Nowhere}
use Rattle.psabi_reloc.specs.Kinds.{field_length, kind_of}
use Rattle.psabi_reloc.specs.declared.kind.RelocKind.{RelocKind}
use Rattle.psabi_reloc.specs.declared.kind.RelocKind.TheVariants as kind
use Rattle.rv_decode.specs.Normal.{normal_of}
use Rattle.rv_decode.specs.declared.instr.BranchOp.{BranchOp}
use Rattle.rv_decode.specs.declared.instr.BranchOp.TheVariants.{Beq, Bne}
use Rattle.rv_decode.specs.declared.instr.Instr.{Instr}
use Rattle.rv_decode.specs.declared.instr.Instr.TheVariants as instr
use Rattle.zc_decode.specs.Halfwords.{decoded16}
use Rattle.zc_decode.specs.declared.short.Short.{Short}
use Rattle.zc_decode.specs.declared.short.Short.TheVariants.{Base, Push, Pop, PopRet, PopRetz, MoveSa, MoveAs, TableJump}
use Rattle.zca_zcb_pass.proofs.HalfNormals.{IsHalfNormal, IsZeroBranch, half_normal}
use Rattle.block_cut.specs.CodeSizes.{is_long_at, own_size}
use Rattle.block_cut.specs.Items.{call_item, code_at, instr_item, item_at, item_in, item_under, known_item, raw_in, raw_pair, size_at, size_on, spelled_item, target_away, target_of, to_place, transfer_item, transfer_under}
use Rattle.block_cut.specs.Relocs.{field_of, instr_in, is_ignored, is_bad_kind, normal_base, reloc_on}
use Rattle.block_cut.specs.declared.item.Item.{Item}
use Rattle.block_cut.specs.declared.item.Item.TheVariants as item
use Rattle.block_cut.proofs.ItemLaws.{item_found}
use Rattle.block_cut.proofs.SoundLaws.{sound_at}
use Rattle.block_cut.proofs.WholeLaws.{code_is_section}
use Rattle.shrink_layout.specs.Pieces.{is_short_branch, is_short_jump}
use Rattle.shrink_layout.proofs.ShortLaws.{on_zero, short_beq, short_bne}

-- a branch of two bytes or four
abbrev pub IsOwnBranch : BranchOp → ℕ → ℕ → ℕ → Type 0
IsOwnBranch op first second n = ((n ≡ 2) × (is_short_branch op first second ≡ true)) ⊎ (n ≡ 4)

-- a jump of two bytes or four
abbrev pub IsOwnJump : ℕ → ℕ → Type 0
IsOwnJump rd n = ((n ≡ 2) × (is_short_jump rd ≡ true)) ⊎ (n ≡ 4)

-- the bytes of an item in an object; padding has those that it has there
abbrev pub IsOwn : Item → ℕ → Type 0
IsOwn (item.Op i) n = (n ≡ 2) ⊎ (n ≡ 4)
IsOwn (item.Hi i t) n = n ≡ 4
IsOwn (item.Lo i t) n = n ≡ 4
IsOwn (item.PcHi i t) n = n ≡ 4
IsOwn (item.PcLo i q) n = n ≡ 4
IsOwn (item.Branch op first second to) n = IsOwnBranch op first second n
IsOwn (item.Jump rd to) n = IsOwnJump rd n
IsOwn (item.Call rd temp to) n = n ≡ 8
IsOwn (item.Align bytes) n = Unit {0}
IsOwn (item.Word t) n = n ≡ 4
IsOwn (item.Raw word) n = n ≡ 4
IsOwn (item.RawShort half) n = n ≡ 2
IsOwn (item.RawPair first second) n = n ≡ 8

-- ---- instructions

-- the bytes of an instruction
abbrev IsOwnInstr : Instr → ℕ → Type 0
IsOwnInstr (instr.Jal rd distance) n = IsOwnJump rd n
IsOwnInstr (instr.Branch op first second distance) n = IsOwnBranch op first second n
IsOwnInstr i n = (n ≡ 2) ⊎ (n ≡ 4)

four_own : (i : Instr) (n : ℕ) → n ≡ 4 → IsOwnInstr i n
four_own (instr.Upper op rd imm) n e = inr e
four_own (instr.Jal rd distance) n e = inr e
four_own (instr.Jalr rd base imm) n e = inr e
four_own (instr.Branch op first second distance) n e = inr e
four_own (instr.Load op rd base imm) n e = inr e
four_own (instr.Store op source base imm) n e = inr e
four_own (instr.WithImm op rd first imm) n e = inr e
four_own (instr.WithReg op rd first second) n e = inr e
four_own (instr.Fence rest) n e = inr e
four_own instr.Ecall n e = inr e
four_own instr.Ebreak n e = inr e
four_own (instr.Csrrw rd source) n e = inr e

-- a branch that a halfword has is short
zero_short : (op : BranchOp) (first second : ℕ) → IsZeroBranch op first second → is_short_branch op first second ≡ true
zero_short op first second is = by op is.equal
  where
    or_first : (a b : Bool) → a ≡ true → (a || b) ≡ true
    or_first true b e = refl
    or_first false b e = absurd cc

    zero : on_zero first second ≡ true
    zero = and_from (eqb second 0) (nat_le 8 first && nat_lt first 16) (eq-eqb second 0 is.zero) (and_from (nat_le 8 first) (nat_lt first 16) (le-leb 8 first is.low) (lt-ltb first 16 is.high))

    by : (op : BranchOp) → (op ≡ Beq) ⊎ (op ≡ Bne) → is_short_branch op first second ≡ true
    by op (inl e) = ap (λ o. is_short_branch o first second) e ∙ short_beq first second ∙ or_first (on_zero first second) (on_zero second first) zero
    by op (inr e) = ap (λ o. is_short_branch o first second) e ∙ short_bne first second ∙ or_first (on_zero first second) (on_zero second first) zero

-- so is a jump
link_short : (rd : ℕ) → (rd ≡ 0) ⊎ (rd ≡ 1) → is_short_jump rd ≡ true
link_short rd (inl e) = ap is_short_jump e
link_short rd (inr e) = ap is_short_jump e

half_own : (i : Instr) (n : ℕ) → IsHalfNormal i → n ≡ 2 → IsOwnInstr i n
half_own (instr.Upper op rd imm) n is e = inl e
half_own (instr.Jal rd distance) n is e = inl (e, link_short rd is.0)
half_own (instr.Jalr rd base imm) n is e = inl e
half_own (instr.Branch op first second distance) n is e = inl (e, zero_short op first second is.0)
half_own (instr.Load op rd base imm) n is e = inl e
half_own (instr.Store op source base imm) n is e = inl e
half_own (instr.WithImm op rd first imm) n is e = inl e
half_own (instr.WithReg op rd first second) n is e = inl e
half_own (instr.Fence rest) n is e = inl e
half_own instr.Ecall n is e = absurd is
half_own instr.Ebreak n is e = inl e
half_own (instr.Csrrw rd source) n is e = inl e

-- the instruction that two bytes are is the normal form of one that a halfword has
half_there : (bytes : List ℕ) (n : ℕ) (i : Instr) → instr_in 2 bytes n ≡ Some i → IsHalfNormal i
half_there bytes n i is = by (decoded16 (half_in bytes n)) refl is
  where
    by : (o : Option Short) → decoded16 (half_in bytes n) ≡ o → normal_base o ≡ Some i → IsHalfNormal i
    by None spells is = absurd cc
    by (Some (Base j)) spells is = subst IsHalfNormal (same_Some (normal_of j) i is) (half_normal (half_in bytes n) j spells)
    by (Some (Push list adjust)) spells is = absurd cc
    by (Some (Pop list adjust)) spells is = absurd cc
    by (Some (PopRet list adjust)) spells is = absurd cc
    by (Some (PopRetz list adjust)) spells is = absurd cc
    by (Some (MoveSa first second)) spells is = absurd cc
    by (Some (MoveAs first second)) spells is = absurd cc
    by (Some (TableJump index)) spells is = absurd cc

-- ---- items of two bytes or four

module _ (size : ℕ) (bytes : List ℕ) (n : ℕ) (sized : (size ≡ 2) ⊎ (size ≡ 4)) where
  abbrev raw : Item
  raw = raw_in size bytes n

  raw_own : IsOwn raw size
  raw_own = by sized
    where
      by : (size ≡ 2) ⊎ (size ≡ 4) → IsOwn raw size
      by (inl e) = subst (λ k. IsOwn (raw_in k bytes n) k) (sym e) refl
      by (inr e) = subst (λ k. IsOwn (raw_in k bytes n) k) (sym e) refl

  there_own : (i : Instr) → instr_in size bytes n ≡ Some i → IsOwnInstr i size
  there_own i is = by sized
    where
      by : (size ≡ 2) ⊎ (size ≡ 4) → IsOwnInstr i size
      by (inl e) = half_own i size (half_there bytes n i (ap (λ k. instr_in k bytes n) (sym e) ∙ is)) e
      by (inr e) = four_own i size e

  -- what goes to a place is a branch or a jump, or else bytes that are copied unread
  goes_own : (o : Option Place) (f : Place → Item) → ((p : Place) → IsOwn (f p) size) → IsOwn (option_map_or f o raw) size
  goes_own None f is = raw_own
  goes_own (Some p) f is = is p

  instr_own : (objects : List ObjectParts) (q : Place) (i : Instr) → IsOwnInstr i size → IsOwn (instr_item objects q i raw) size
  instr_own objects q (instr.Upper op rd imm) is = is
  instr_own objects q (instr.Jal rd distance) is = goes_own (target_away objects q distance) (item.Jump rd) (λ p. is)
  instr_own objects q (instr.Jalr rd base imm) is = is
  instr_own objects q (instr.Branch op first second distance) is = goes_own (target_away objects q distance) (item.Branch op first second) (λ p. is)
  instr_own objects q (instr.Load op rd base imm) is = is
  instr_own objects q (instr.Store op source base imm) is = is
  instr_own objects q (instr.WithImm op rd first imm) is = is
  instr_own objects q (instr.WithReg op rd first second) is = is
  instr_own objects q (instr.Fence rest) is = is
  instr_own objects q instr.Ecall is = is
  instr_own objects q instr.Ebreak is = is
  instr_own objects q (instr.Csrrw rd source) is = raw_own

  -- what has no relocation
  spelled_own : (objects : List ObjectParts) (q : Place) → IsOwn (spelled_item objects q (instr_in size bytes n) raw) size
  spelled_own objects q = by (instr_in size bytes n) refl
    where
      by : (o : Option Instr) → instr_in size bytes n ≡ o → IsOwn (Rattle.block_cut.specs.Items.spelled_item objects q o raw) size
      by None is = raw_own
      by (Some i) is = instr_own objects q i (there_own i is)

  transfer_own : (i : Instr) (to : Place) → IsOwnInstr i size → IsOwn (transfer_item i raw to) size
  transfer_own (instr.Upper op rd imm) to is = raw_own
  transfer_own (instr.Jal rd distance) to is = is
  transfer_own (instr.Jalr rd base imm) to is = raw_own
  transfer_own (instr.Branch op first second distance) to is = is
  transfer_own (instr.Load op rd base imm) to is = raw_own
  transfer_own (instr.Store op source base imm) to is = raw_own
  transfer_own (instr.WithImm op rd first imm) to is = raw_own
  transfer_own (instr.WithReg op rd first second) to is = raw_own
  transfer_own (instr.Fence rest) to is = raw_own
  transfer_own instr.Ecall to is = raw_own
  transfer_own instr.Ebreak to is = raw_own
  transfer_own (instr.Csrrw rd source) to is = raw_own

  transfer_under_own : (t : Target) → IsOwn (transfer_under size t bytes n) size
  transfer_under_own t = by (instr_in size bytes n) refl
    where
      goes : (t : Target) (i : Instr) → IsOwnInstr i size → IsOwn (to_place t (transfer_item i raw) raw) size
      goes (Code to) i is = transfer_own i to is
      goes (Number k) i is = raw_own
      goes (Absent k) i is = raw_own
      goes Nowhere i is = raw_own

      by : (o : Option Instr) → instr_in size bytes n ≡ o → IsOwn (option_map_or (λ i. to_place t (transfer_item i raw) raw) o raw) size
      by None is = raw_own
      by (Some i) is = goes t i (there_own i is)

-- ---- items with a relocation

module _ (t : Target) (bytes : List ℕ) (n : ℕ) where
  -- what holds of what an instruction is, and of bytes that are copied unread
  read_own : (size : ℕ) (o : Option Instr) (f : Instr → Item) (other : Item) → IsOwn other size → ((i : Instr) → IsOwn (f i) size) → IsOwn (option_map_or f o other) size
  read_own size None f other unread is = unread
  read_own size (Some i) f other unread is = is i

  place_own : (size : ℕ) (f : Place → Item) (other : Item) → IsOwn other size → ((p : Place) → IsOwn (f p) size) → IsOwn (to_place t f other) size
  place_own size f other unread is = by t
    where
      by : (t : Target) → IsOwn (to_place t f other) size
      by (Code p) = is p
      by (Number k) = unread
      by (Absent k) = unread
      by Nowhere = unread

  call_own : (first second : Option Instr) (other : Item) (p : Place) → IsOwn other 8 → IsOwn (call_item first second other p) 8
  call_own (Some (instr.Upper op temp upper)) (Some (instr.Jalr rd base lower)) other p unread = refl
  call_own first second other p unread = unread

  -- a relocation that asks for something changes the bytes of its item
  known_own : (k : Option RelocKind) (addend : ℤ) (s : SectionParts) → is_ignored k ≡ false → is_bad_kind s k ≡ false → IsOwn (known_item k addend t bytes n) (field_length k addend)
  known_own None addend s asks known = absurd cc
  known_own (Some kind.Ignored) addend s asks known = absurd cc
  known_own (Some kind.Word) addend s asks known = refl
  known_own (Some kind.Branch) addend s asks known = transfer_under_own 4 bytes n (inr refl) t
  known_own (Some kind.Jal) addend s asks known = transfer_under_own 4 bytes n (inr refl) t
  known_own (Some kind.Call) addend s asks known = place_own 8 _ (raw_pair bytes n) refl (λ p. call_own (instr_in 4 bytes n) (instr_in 4 bytes (n + 4)) _ p refl)
  known_own (Some kind.PcrelHi20) addend s asks known = read_own 4 (instr_in 4 bytes n) _ _ refl (λ i. refl)
  known_own (Some kind.PcrelLo12I) addend s asks known = read_own 4 (instr_in 4 bytes n) _ _ refl (λ i. place_own 4 _ _ refl (λ p. refl))
  known_own (Some kind.PcrelLo12S) addend s asks known = read_own 4 (instr_in 4 bytes n) _ _ refl (λ i. place_own 4 _ _ refl (λ p. refl))
  known_own (Some kind.Hi20) addend s asks known = read_own 4 (instr_in 4 bytes n) _ _ refl (λ i. refl)
  known_own (Some kind.Lo12I) addend s asks known = read_own 4 (instr_in 4 bytes n) _ _ refl (λ i. refl)
  known_own (Some kind.Lo12S) addend s asks known = read_own 4 (instr_in 4 bytes n) _ _ refl (λ i. refl)
  known_own (Some kind.RvcBranch) addend s asks known = transfer_under_own 2 bytes n (inl refl) t
  known_own (Some kind.RvcJump) addend s asks known = transfer_under_own 2 bytes n (inl refl) t
  known_own (Some kind.Align) addend s asks known = tt

-- ---- all items

-- two bytes or four are an item's without a relocation
own_sized : (compressed : Bool) (bytes : List ℕ) (n : ℕ) → (own_size compressed bytes n ≡ 2) ⊎ (own_size compressed bytes n ≡ 4)
own_sized compressed bytes n = by compressed (is_long_at bytes n)
  where
    by : (c long : Bool) → (cond {A = ℕ} c (cond {A = ℕ} long 4 2) 4 ≡ 2) ⊎ (cond {A = ℕ} c (cond {A = ℕ} long 4 2) 4 ≡ 4)
    by true true = inr refl
    by true false = inl refl
    by false long = inr refl

pub own_is : (inputs : ParsedInputs) (s : SectionParts) (q : Place) → is_code_section s ≡ true → IsOwn (item_in inputs s q) (size_on s q.offset)
own_is inputs s q code = by (reloc_on s q.offset) refl
  where
    own : ℕ
    own = own_size s.compressed s.bytes q.offset

    by : (o : Option Reloc) → reloc_on s q.offset ≡ o → IsOwn (item_under inputs q o (option_map_or field_of o own) s.bytes) (option_map_or field_of o own)
    by None is = spelled_own own s.bytes q.offset (own_sized s.compressed s.bytes q.offset) inputs.objects q
    by (Some r) is =
        let sound = sound_at s q.offset r code is in
        known_own (target_of inputs q.object r) s.bytes q.offset (kind_of r.kind) r.addend s sound.asks sound.known

pub own_at : (inputs : ParsedInputs) (q : Place) (i : Item) → item_at inputs q ≡ Some i → IsOwn i (size_at inputs.objects q)
own_at inputs q i is =
    let found = item_found inputs q i is in
    let two = code_is_section inputs.objects q found.section found.code in
    let size : size_at inputs.objects q ≡ size_on found.section q.offset = ap (λ o. option_map_or (λ s. size_on s q.offset) o 4) found.code in
    subst (IsOwn i) (sym size) (subst (λ j. IsOwn j (size_on found.section q.offset)) found.item (own_is inputs found.section q two.1))
