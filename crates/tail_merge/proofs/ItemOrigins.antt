-- What items come from: an operation is the instruction that its bytes spell, and a lower part goes with the place that its relocation
-- leads to.
use Rattle.std.proofs.Common.{◌≡◌, ℕ, ℤ, ◌+◌, List, Option, Some, None, true, refl}
use Rattle.std.specs.Option.{option_map_or}
use Rattle.zc_base.specs.declared.place.Place.{Place}
use Rattle.elf32_read.specs.Parts.{ObjectParts, SectionParts}
use Rattle.elf32_read.specs.declared.reloc.Reloc.{Reloc}
use Rattle.psabi_reloc.specs.Kinds.{kind_of}
use Rattle.psabi_reloc.specs.declared.kind.RelocKind.{RelocKind}
use Rattle.psabi_reloc.specs.declared.kind.RelocKind.TheVariants as kind
use Rattle.psabi_sym.specs.Inputs.{ParsedInputs}
use Rattle.psabi_sym.specs.declared.target.Target.{Target}
use Rattle.psabi_sym.specs.declared.target.Target.TheVariants.{Code, Number, Absent, Nowhere}
use Rattle.rv_decode.specs.declared.instr.Instr.{Instr}
use Rattle.rv_decode.specs.declared.instr.Instr.TheVariants as instr
use Rattle.block_cut.specs.Items.{call_item, item_in, item_under, known_item, raw_in, raw_pair, size_on, spelled_item, target_away, target_of, to_place, transfer_item}
use Rattle.block_cut.specs.Relocs.{instr_in, is_pcrel_lo, reloc_on}
use Rattle.block_cut.specs.declared.item.Item.{Item}
use Rattle.block_cut.specs.declared.item.Item.TheVariants as item
use Rattle.block_cut.proofs.RawLaws.{raw_by}

-- a property of the instruction that an item is, if it has no relocation, and one of the place of the `auipc` that it goes with, if
-- it is a lower part
abbrev pub OfItem : (Instr → Type 0) → (Place → Type 0) → Item → Type 0
OfItem O P (item.Op i) = O i
OfItem O P (item.PcLo i r) = P r
OfItem O P i = Unit {0}

module _ (O : Instr → Type 0) (P : Place → Type 0) where
  raw-of : (size : ℕ) (bytes : List ℕ) (n : ℕ) → OfItem O P (raw_in size bytes n)
  raw-of size bytes n = raw_by (OfItem O P) (λ half. tt) (λ word. tt) size bytes n

  instr-of : (o : Option Instr) (other : Item) (f : Instr → Item) → OfItem O P other → ((i : Instr) → OfItem O P (f i))
      → OfItem O P (option_map_or f o other)
  instr-of None other f stays each = stays
  instr-of (Some i) other f stays each = each i

  place-of : (t : Target) (f : Place → Item) (other : Item) → ((to : Place) → t ≡ Code to → OfItem O P (f to)) → OfItem O P other
      → OfItem O P (to_place t f other)
  place-of (Code to) f other each stays = each to refl
  place-of (Number n) f other each stays = stays
  place-of (Absent n) f other each stays = stays
  place-of Nowhere f other each stays = stays

  transfer-of : (i : Instr) (other : Item) (to : Place) → OfItem O P other → OfItem O P (transfer_item i other to)
  transfer-of (instr.Branch op first second distance) other to stays = tt
  transfer-of (instr.Jal rd distance) other to stays = tt
  transfer-of i other to stays = stays

  under-of : (size : ℕ) (t : Target) (bytes : List ℕ) (n : ℕ)
      → OfItem O P (option_map_or (λ i. to_place t (transfer_item i (raw_in size bytes n)) (raw_in size bytes n)) (instr_in size bytes n) (raw_in size bytes n))
  under-of size t bytes n =
      let raw = raw_in size bytes n in
      instr-of (instr_in size bytes n) raw _ (raw-of size bytes n)
      (λ i. place-of t (transfer_item i raw) raw (λ to is. transfer-of i raw to (raw-of size bytes n)) (raw-of size bytes n))

  call-of : (first second : Option Instr) (w v : ℕ) (to : Place) → OfItem O P (call_item first second (item.RawPair w v) to)
  call-of (Some (instr.Upper op temp upper)) (Some (instr.Jalr rd base lower)) w v to = tt
  call-of first second w v to = tt

  low-of : (t : Target) (bytes : List ℕ) (n : ℕ) → ((to : Place) → t ≡ Code to → P to)
      → OfItem O P (option_map_or (λ i. to_place t (item.PcLo i) (raw_in 4 bytes n)) (instr_in 4 bytes n) (raw_in 4 bytes n))
  low-of t bytes n place = instr-of (instr_in 4 bytes n) (raw_in 4 bytes n) _ tt (λ i. place-of t (item.PcLo i) (raw_in 4 bytes n) place tt)

  known-of : (k : Option RelocKind) (addend : ℤ) (t : Target) (bytes : List ℕ) (n : ℕ)
      → (is_pcrel_lo k ≡ true → (to : Place) → t ≡ Code to → P to)
      → OfItem O P (known_item k addend t bytes n)
  known-of None addend t bytes n place = tt
  known-of (Some kind.Ignored) addend t bytes n place = tt
  known-of (Some kind.Word) addend t bytes n place = tt
  known-of (Some kind.Branch) addend t bytes n place = under-of 4 t bytes n
  known-of (Some kind.Jal) addend t bytes n place = under-of 4 t bytes n
  known-of (Some kind.Call) addend t bytes n place =
      place-of t (call_item (instr_in 4 bytes n) (instr_in 4 bytes (n + 4)) (raw_pair bytes n)) (raw_pair bytes n)
      (λ to is. call-of (instr_in 4 bytes n) (instr_in 4 bytes (n + 4)) _ _ to) tt
  known-of (Some kind.PcrelHi20) addend t bytes n place = instr-of (instr_in 4 bytes n) (raw_in 4 bytes n) _ tt (λ i. tt)
  known-of (Some kind.PcrelLo12I) addend t bytes n place = low-of t bytes n (place refl)
  known-of (Some kind.PcrelLo12S) addend t bytes n place = low-of t bytes n (place refl)
  known-of (Some kind.Hi20) addend t bytes n place = instr-of (instr_in 4 bytes n) (raw_in 4 bytes n) _ tt (λ i. tt)
  known-of (Some kind.Lo12I) addend t bytes n place = instr-of (instr_in 4 bytes n) (raw_in 4 bytes n) _ tt (λ i. tt)
  known-of (Some kind.Lo12S) addend t bytes n place = instr-of (instr_in 4 bytes n) (raw_in 4 bytes n) _ tt (λ i. tt)
  known-of (Some kind.RvcBranch) addend t bytes n place = under-of 2 t bytes n
  known-of (Some kind.RvcJump) addend t bytes n place = under-of 2 t bytes n
  known-of (Some kind.Align) addend t bytes n place = tt

  away-of : (f : Place → Item) (o : Option Place) (other : Item) → ((to : Place) → OfItem O P (f to)) → OfItem O P other
      → OfItem O P (option_map_or f o other)
  away-of f None other each stays = stays
  away-of f (Some to) other each stays = each to

  spelled-of : (objects : List ObjectParts) (q : Place) (o : Option Instr) (other : Item) → OfItem O P other → ((i : Instr) → o ≡ Some i → O i)
      → OfItem O P (spelled_item objects q o other)
  spelled-of objects q None other stays own = stays
  spelled-of objects q (Some (instr.Upper op rd imm)) other stays own = own (instr.Upper op rd imm) refl
  spelled-of objects q (Some (instr.Jal rd distance)) other stays own = away-of (item.Jump rd) (target_away objects q distance) other (λ to. tt) stays
  spelled-of objects q (Some (instr.Jalr rd base imm)) other stays own = own (instr.Jalr rd base imm) refl
  spelled-of objects q (Some (instr.Branch op first second distance)) other stays own =
      away-of (item.Branch op first second) (target_away objects q distance) other (λ to. tt) stays
  spelled-of objects q (Some (instr.Load op rd base imm)) other stays own = own (instr.Load op rd base imm) refl
  spelled-of objects q (Some (instr.Store op source base imm)) other stays own = own (instr.Store op source base imm) refl
  spelled-of objects q (Some (instr.WithImm op rd first imm)) other stays own = own (instr.WithImm op rd first imm) refl
  spelled-of objects q (Some (instr.WithReg op rd first second)) other stays own = own (instr.WithReg op rd first second) refl
  spelled-of objects q (Some (instr.Fence rest)) other stays own = own (instr.Fence rest) refl
  spelled-of objects q (Some instr.Ecall) other stays own = own instr.Ecall refl
  spelled-of objects q (Some instr.Ebreak) other stays own = own instr.Ebreak refl
  spelled-of objects q (Some (instr.Csrrw rd source)) other stays own = stays

  -- an item without a relocation is its instruction, and a lower part's relocation leads to its `auipc`
  pub item-of : (inputs : ParsedInputs) (q : Place) (s : SectionParts)
      → (reloc_on s q.offset ≡ None → (i : Instr) → instr_in (size_on s q.offset) s.bytes q.offset ≡ Some i → O i)
      → ((r : Reloc) → reloc_on s q.offset ≡ Some r → is_pcrel_lo (kind_of r.kind) ≡ true → (to : Place) → target_of inputs q.object r ≡ Code to → P to)
      → OfItem O P (item_in inputs s q)
  item-of inputs q s own lower = by (reloc_on s q.offset) refl
    where
      by : (o : Option Reloc) → reloc_on s q.offset ≡ o → OfItem O P (item_under inputs q o (size_on s q.offset) s.bytes)
      by None on =
          let size = size_on s q.offset in
          spelled-of inputs.objects q (instr_in size s.bytes q.offset) (raw_in size s.bytes q.offset) (raw-of size s.bytes q.offset) (own on)
      by (Some r) on = known-of (kind_of r.kind) r.addend (target_of inputs q.object r) s.bytes q.offset (lower r on)
