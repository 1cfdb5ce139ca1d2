-- Registers of items: they were decoded from words, so they are numbers below 32.
use Rattle.std.proofs.Common.{◌≡◌, ℕ, ◌+◌, ◌<◌, ℤ, List, Option, Some, None, refl, subst}
use Rattle.std.specs.Option.{option_map_or}
use Rattle.std.proofs.lemmas.Option.{none-some, same_Some}
use Rattle.zc_base.specs.Fields.{word_in}
use Rattle.zc_base.specs.declared.place.Place.{Place}
use Rattle.elf32_read.specs.Parts.{ObjectParts, SectionParts}
use Rattle.elf32_read.specs.declared.reloc.Reloc.{Reloc}
use Rattle.psabi_reloc.specs.Kinds.{kind_of}
use Rattle.psabi_reloc.specs.Parts.{hi20_of, lo12_of}
use Rattle.psabi_reloc.specs.Patched.{with_imm, with_upper}
use Rattle.psabi_reloc.specs.declared.kind.RelocKind.{RelocKind}
use Rattle.psabi_reloc.specs.declared.kind.RelocKind.TheVariants as kind
use Rattle.psabi_sym.specs.Inputs.{ParsedInputs}
use Rattle.psabi_sym.specs.declared.target.Target.{Target}
use Rattle.psabi_sym.specs.declared.target.Target.TheVariants.{Code, Number, Absent, Nowhere}
use Rattle.rv_decode.specs.Bits.{as_signed}
use Rattle.rv_decode.specs.Registers.{HasRegisters}
use Rattle.rv_decode.specs.declared.instr.Instr.{Instr}
use Rattle.rv_decode.specs.declared.instr.Instr.TheVariants as instr
use Rattle.rv_decode.proofs.DecodeLaws.{decoded-registers}
use Rattle.block_cut.specs.Items.{call_item, item_at, item_under, known_item, raw_in, raw_pair, size_on, spelled_item, target_away, target_of, to_place, transfer_item, transfer_under}
use Rattle.block_cut.specs.Relocs.{instr_in, reloc_on}
use Rattle.block_cut.specs.declared.item.Item.{Item}
use Rattle.block_cut.specs.declared.item.Item.TheVariants.{Op, Hi, Lo, PcHi, PcLo, Branch, Jump, Call, Align, Word, Raw, RawShort, RawPair}
use Rattle.block_cut.proofs.InstrLaws.{registers_in}
use Rattle.block_cut.proofs.ItemLaws.{item_found}
use Rattle.block_cut.proofs.RawLaws.{raw_by}
use Rattle.zc_link.specs.Meant.{meant, way_on}
use Rattle.zc_link.specs.Values.{target_value, way}
use Rattle.zc_link.proofs.MeantLaws.{mapped}

-- an item's registers
abbrev pub ItemRegisters : Item → Type 0
ItemRegisters (Op i) = HasRegisters i
ItemRegisters (Hi i t) = HasRegisters i
ItemRegisters (Lo i t) = HasRegisters i
ItemRegisters (PcHi i t) = HasRegisters i
ItemRegisters (PcLo i from) = HasRegisters i
ItemRegisters (Branch op first second to) = (first < 32) × (second < 32)
ItemRegisters (Jump rd to) = rd < 32
ItemRegisters (Call rd temp to) = rd < 32
ItemRegisters (Align bytes) = Unit {0}
ItemRegisters (Word t) = Unit {0}
ItemRegisters (Raw word) = Unit {0}
ItemRegisters (RawShort half) = Unit {0}
ItemRegisters (RawPair first second) = Unit {0}

-- an instruction keeps its registers with another upper immediate
pub upper_registers : (i : Instr) (n : ℕ) → HasRegisters i → HasRegisters (with_upper i n)
upper_registers (instr.Upper op rd imm) n h = h
upper_registers (instr.Jal rd distance) n h = h
upper_registers (instr.Jalr rd base imm) n h = h
upper_registers (instr.Branch op first second distance) n h = h
upper_registers (instr.Load op rd base imm) n h = h
upper_registers (instr.Store op source base imm) n h = h
upper_registers (instr.WithImm op rd first imm) n h = h
upper_registers (instr.WithReg op rd first second) n h = h
upper_registers (instr.Fence rest) n h = h
upper_registers instr.Ecall n h = h
upper_registers instr.Ebreak n h = h
upper_registers (instr.Csrrw rd source) n h = h

-- the registers of an instruction with another immediate
pub imm_registers : (i : Instr) (z : ℤ) → HasRegisters i → HasRegisters (with_imm i z)
imm_registers (instr.Upper op rd imm) z h = h
imm_registers (instr.Jal rd distance) z h = h
imm_registers (instr.Jalr rd base imm) z h = h
imm_registers (instr.Branch op first second distance) z h = h
imm_registers (instr.Load op rd base imm) z h = h
imm_registers (instr.Store op source base imm) z h = h
imm_registers (instr.WithImm op rd first imm) z h = h
imm_registers (instr.WithReg op rd first second) z h = h
imm_registers (instr.Fence rest) z h = h
imm_registers instr.Ecall z h = h
imm_registers instr.Ebreak z h = h
imm_registers (instr.Csrrw rd source) z h = h

-- ---- by how an item is made

-- what stands for itself, or is copied unread
bare :
    (objects : List ObjectParts) (q : Place) (raw : Item) (d : Option Instr) → ItemRegisters raw → ((i : Instr) → d ≡ Some i → HasRegisters i)
    → ItemRegisters (spelled_item objects q d raw)
bare objects q raw None stays each = stays
bare objects q raw (Some i) stays each = of i (each i refl)
  where
    led : (f : Place → Item) (o : Option Place) → ((to : Place) → ItemRegisters (f to)) → ItemRegisters (option_map_or f o raw)
    led f None is = stays
    led f (Some to) is = is to

    of : (i : Instr) → HasRegisters i → ItemRegisters (spelled_item objects q (Some i) raw)
    of (instr.Upper op rd imm) h = h
    of (instr.Jal rd distance) h = led (Jump rd) (target_away objects q distance) (λ to. h)
    of (instr.Jalr rd base imm) h = h
    of (instr.Branch op first second distance) h = led (Branch op first second) (target_away objects q distance) (λ to. h)
    of (instr.Load op rd base imm) h = h
    of (instr.Store op source base imm) h = h
    of (instr.WithImm op rd first imm) h = h
    of (instr.WithReg op rd first second) h = h
    of (instr.Fence rest) h = h
    of instr.Ecall h = h
    of instr.Ebreak h = h
    of (instr.Csrrw rd source) h = stays

-- an item that leads to a place
placed : (t : Target) (f : Place → Item) (other : Item) → ((to : Place) → ItemRegisters (f to)) → ItemRegisters other → ItemRegisters (to_place t f other)
placed (Code to) f other each rest = each to
placed (Number n) f other each rest = rest
placed (Absent n) f other each rest = rest
placed Nowhere f other each rest = rest

-- a branch or a jump
transferred : (i : Instr) (other : Item) (to : Place) → HasRegisters i → ItemRegisters other → ItemRegisters (transfer_item i other to)
transferred (instr.Branch op first second distance) other to h rest = h
transferred (instr.Jal rd distance) other to h rest = h
transferred i other to h rest = rest

-- the item of bytes by the instruction that they are
module _ (bytes : List ℕ) (n : ℕ) where
  abbrev raw : Item
  raw = raw_in 4 bytes n

  -- the item of an instruction by a part of its bytes
  parted : (f : Instr → Item) (d : Option Instr) → instr_in 4 bytes n ≡ d → ((i : Instr) → HasRegisters i → ItemRegisters (f i)) → ItemRegisters (option_map_or f d raw)
  parted f None e each = tt
  parted f (Some i) e each = each i (decoded-registers (word_in bytes n) i e)

  -- a call
  called : (d d2 : Option Instr) (to : Place) → instr_in 4 bytes (n + 4) ≡ d2 → ItemRegisters (call_item d d2 (raw_pair bytes n) to)
  called (Some (instr.Upper op temp upper)) (Some (instr.Jalr rd base imm)) to e = (decoded-registers (word_in bytes (n + 4)) (instr.Jalr rd base imm) e).0
  called d d2 to e = tt

  -- a branch or a jump of 2 bytes
  short : (t : Target) → ItemRegisters (transfer_under 2 t bytes n)
  short t = by (instr_in 2 bytes n) refl
    where
      half : Item
      half = raw_in 2 bytes n

      by : (d : Option Instr) → instr_in 2 bytes n ≡ d → ItemRegisters (option_map_or (λ i. to_place t (transfer_item i half) half) d half)
      by None e = tt
      by (Some i) e = placed t (transfer_item i half) half (λ to. transferred i half to (registers_in 2 bytes n i e) tt) tt

  -- by the relocation's kind
  by_kind : (k : Option RelocKind) (addend : ℤ) (t : Target) → ItemRegisters (known_item k addend t bytes n)
  by_kind None addend t = tt
  by_kind (Some kind.Ignored) addend t = tt
  by_kind (Some kind.Word) addend t = tt
  by_kind (Some kind.Branch) addend t = parted _ (instr_in 4 bytes n) refl (λ i h. placed t (transfer_item i raw) raw (λ to. transferred i raw to h tt) tt)
  by_kind (Some kind.Jal) addend t = parted _ (instr_in 4 bytes n) refl (λ i h. placed t (transfer_item i raw) raw (λ to. transferred i raw to h tt) tt)
  by_kind (Some kind.Call) addend t =
      let one = instr_in 4 bytes n in
      let two = instr_in 4 bytes (n + 4) in
      placed t (call_item one two (raw_pair bytes n)) (raw_pair bytes n) (λ to. called one two to refl) tt
  by_kind (Some kind.PcrelHi20) addend t = parted (λ i. PcHi i t) (instr_in 4 bytes n) refl (λ i h. h)
  by_kind (Some kind.PcrelLo12I) addend t = parted (λ i. to_place t (PcLo i) raw) (instr_in 4 bytes n) refl (λ i h. placed t (PcLo i) raw (λ to. h) tt)
  by_kind (Some kind.PcrelLo12S) addend t = parted (λ i. to_place t (PcLo i) raw) (instr_in 4 bytes n) refl (λ i h. placed t (PcLo i) raw (λ to. h) tt)
  by_kind (Some kind.Hi20) addend t = parted (λ i. Hi i t) (instr_in 4 bytes n) refl (λ i h. h)
  by_kind (Some kind.Lo12I) addend t = parted (λ i. Lo i t) (instr_in 4 bytes n) refl (λ i h. h)
  by_kind (Some kind.Lo12S) addend t = parted (λ i. Lo i t) (instr_in 4 bytes n) refl (λ i h. h)
  by_kind (Some kind.RvcBranch) addend t = short t
  by_kind (Some kind.RvcJump) addend t = short t
  by_kind (Some kind.Align) addend t = tt

-- ---- all items

-- the item at a place has its registers
pub item_registers : (p : ParsedInputs) (q : Place) (item : Item) → item_at p q ≡ Some item → ItemRegisters item
item_registers p q item is =
    let found = item_found p q item is in
    let s = found.section in
    subst ItemRegisters found.item (by s (reloc_on s q.offset))
  where
    by : (s : SectionParts) (o : Option Reloc) → ItemRegisters (item_under p q o (size_on s q.offset) s.bytes)
    by s None =
        let own = size_on s q.offset in
        bare p.objects q (raw_in own s.bytes q.offset) (instr_in own s.bytes q.offset)
        (raw_by ItemRegisters (λ half. tt) (λ word. tt) own s.bytes q.offset) (λ i e. registers_in own s.bytes q.offset i e)
    by s (Some r) = by_kind s.bytes q.offset (kind_of r.kind) r.addend (target_of p q.object r)

-- the registers of the instruction that an item is at an address
pub meant_registers :
    (A : Place → Option ℕ) (items : Place → Option Item) (a : ℕ) (item : Item) (i : Instr) → ItemRegisters item → meant A items a item ≡ Some i → HasRegisters i
meant_registers A items a (Op j) i h is = subst HasRegisters (same_Some j i is) h
meant_registers A items a (Hi j t) i h is =
    let m = mapped (λ x. with_upper j (hi20_of x)) (target_value A t) i is in subst HasRegisters m.2 (upper_registers j (hi20_of m.0) h)
meant_registers A items a (Lo j t) i h is =
    let m = mapped (λ x. with_imm j (lo12_of x)) (target_value A t) i is in subst HasRegisters m.2 (imm_registers j (lo12_of m.0) h)
meant_registers A items a (PcHi j t) i h is =
    let m = mapped (λ x. with_upper j (hi20_of (way a x))) (target_value A t) i is in subst HasRegisters m.2 (upper_registers j (hi20_of (way a m.0)) h)
meant_registers A items a (PcLo j from) i h is =
    let m = mapped (λ w. with_imm j (lo12_of w)) (way_on A items from) i is in subst HasRegisters m.2 (imm_registers j (lo12_of m.0) h)
meant_registers A items a (Branch op first second to) i h is =
    let m = mapped (λ b. instr.Branch op first second (as_signed (way a b))) (A to) i is in subst HasRegisters m.2 h
meant_registers A items a (Jump rd to) i h is = let m = mapped (λ b. instr.Jal rd (as_signed (way a b))) (A to) i is in subst HasRegisters m.2 h
meant_registers A items a (Call rd temp to) i h is = let m = mapped (λ b. instr.Jal rd (as_signed (way a b))) (A to) i is in subst HasRegisters m.2 h
meant_registers A items a (Align bytes) i h is = absurd (none-some i is)
meant_registers A items a (Word t) i h is = absurd (none-some i is)
meant_registers A items a (Raw word) i h is = absurd (none-some i is)
meant_registers A items a (RawShort half) i h is = absurd (none-some i is)
meant_registers A items a (RawPair first second) i h is = absurd (none-some i is)
