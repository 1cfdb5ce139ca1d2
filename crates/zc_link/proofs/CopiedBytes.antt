-- Two or four bytes of the objects that are copied: the item there holds their number.
use Rattle.std.proofs.Common.{◌≡◌, ℕ, ℤ, ◌+◌, List, Option, Some, None, Bool, true, false, cond, refl, sym, ◌∙◌, subst, eqb}
use Rattle.std.specs.Option.{option_map_or}
use Rattle.std.proofs.lemmas.Option.{same_Some}
use Rattle.zc_base.specs.Fields.{half_in, word_in}
use Rattle.zc_base.specs.declared.place.Place.{Place}
use Rattle.elf32_read.specs.Parts.{ObjectParts, SectionParts}
use Rattle.elf32_read.specs.declared.reloc.Reloc.{Reloc}
use Rattle.psabi_sym.specs.Inputs.{ParsedInputs}
use Rattle.psabi_sym.specs.declared.target.Target.{Target}
use Rattle.psabi_sym.specs.declared.target.Target.TheVariants.{Code, Number, Absent, Nowhere}
use Rattle.psabi_reloc.specs.Kinds.{kind_of}
use Rattle.psabi_reloc.specs.declared.kind.RelocKind.{RelocKind}
use Rattle.psabi_reloc.specs.declared.kind.RelocKind.TheVariants as kind
use Rattle.rv_decode.specs.declared.instr.Instr.{Instr}
use Rattle.rv_decode.specs.declared.instr.Instr.TheVariants as instr
use Rattle.block_cut.specs.Items.{call_item, code_at, instr_item, item_at, item_under, known_item, raw_in, raw_pair, size_on, spelled_item, target_away, target_of, to_place, transfer_item, transfer_under}
use Rattle.block_cut.specs.Relocs.{instr_in, reloc_on}
use Rattle.block_cut.specs.declared.item.Item.{Item}
use Rattle.block_cut.specs.declared.item.Item.TheVariants.{PcLo, Branch, Jump, Raw, RawShort}
use Rattle.block_cut.proofs.ItemLaws.{item_found}

module _ (bytes : List ℕ) (n : ℕ) where
  -- what is said of an item at an offset of these bytes: if it is two or four bytes that are copied, it holds their number
  abbrev Holds : Item → Type 0
  Holds (Raw word) = word ≡ word_in bytes n
  Holds (RawShort half) = half ≡ half_in bytes n
  Holds other = Unit {0}

  raw_holds : (size : ℕ) → Holds (raw_in size bytes n)
  raw_holds size = by (eqb size 2)
    where
      by : (b : Bool) → Holds (cond b (RawShort (half_in bytes n)) (Raw (word_in bytes n)))
      by true = refl
      by false = refl

  away_holds : (o : Option Place) (item : Place → Item) (raw : Item) → ((q : Place) → Holds (item q)) → Holds raw → Holds (option_map_or item o raw)
  away_holds None item raw each other = other
  away_holds (Some q) item raw each other = each q

  place_holds : (t : Target) (item : Place → Item) (raw : Item) → ((q : Place) → Holds (item q)) → Holds raw → Holds (to_place t item raw)
  place_holds (Code q) item raw each other = each q
  place_holds (Number m) item raw each other = other
  place_holds (Absent m) item raw each other = other
  place_holds Nowhere item raw each other = other

  instr_holds : (objects : List ObjectParts) (q : Place) (i : Instr) (raw : Item) → Holds raw → Holds (instr_item objects q i raw)
  instr_holds objects q (instr.Upper op rd imm) raw other = tt
  instr_holds objects q (instr.Jal rd distance) raw other = away_holds (target_away objects q distance) (Jump rd) raw (λ to. tt) other
  instr_holds objects q (instr.Jalr rd base imm) raw other = tt
  instr_holds objects q (instr.Branch op first second distance) raw other = away_holds (target_away objects q distance) (Branch op first second) raw (λ to. tt) other
  instr_holds objects q (instr.Load op rd base imm) raw other = tt
  instr_holds objects q (instr.Store op source base imm) raw other = tt
  instr_holds objects q (instr.WithImm op rd first imm) raw other = tt
  instr_holds objects q (instr.WithReg op rd first second) raw other = tt
  instr_holds objects q (instr.Fence rest) raw other = tt
  instr_holds objects q instr.Ecall raw other = tt
  instr_holds objects q instr.Ebreak raw other = tt
  instr_holds objects q (instr.Csrrw rd source) raw other = other

  spelled_holds : (objects : List ObjectParts) (q : Place) (o : Option Instr) (raw : Item) → Holds raw → Holds (spelled_item objects q o raw)
  spelled_holds objects q None raw other = other
  spelled_holds objects q (Some i) raw other = instr_holds objects q i raw other

  of_holds : (o : Option Instr) (raw : Item) (item : Instr → Item) → ((i : Instr) → Holds (item i)) → Holds raw → Holds (option_map_or item o raw)
  of_holds None raw item each other = other
  of_holds (Some i) raw item each other = each i

  transfer_holds : (i : Instr) (raw : Item) (to : Place) → Holds raw → Holds (transfer_item i raw to)
  transfer_holds (instr.Upper op rd imm) raw to other = other
  transfer_holds (instr.Jal rd distance) raw to other = tt
  transfer_holds (instr.Jalr rd base imm) raw to other = other
  transfer_holds (instr.Branch op first second distance) raw to other = tt
  transfer_holds (instr.Load op rd base imm) raw to other = other
  transfer_holds (instr.Store op source base imm) raw to other = other
  transfer_holds (instr.WithImm op rd first imm) raw to other = other
  transfer_holds (instr.WithReg op rd first second) raw to other = other
  transfer_holds (instr.Fence rest) raw to other = other
  transfer_holds instr.Ecall raw to other = other
  transfer_holds instr.Ebreak raw to other = other
  transfer_holds (instr.Csrrw rd source) raw to other = other

  under_holds : (size : ℕ) (t : Target) → Holds (transfer_under size t bytes n)
  under_holds size t =
      of_holds (instr_in size bytes n) (raw_in size bytes n) _
      (λ i. place_holds t (transfer_item i (raw_in size bytes n)) (raw_in size bytes n) (λ to. transfer_holds i (raw_in size bytes n) to (raw_holds size)) (raw_holds size)) (raw_holds size)

  call_holds : (o p : Option Instr) (to : Place) → Holds (call_item o p (raw_pair bytes n) to)
  call_holds None p to = tt
  call_holds (Some (instr.Upper op temp upper)) None to = tt
  call_holds (Some (instr.Upper op temp upper)) (Some (instr.Upper op2 rd imm)) to = tt
  call_holds (Some (instr.Upper op temp upper)) (Some (instr.Jal rd distance)) to = tt
  call_holds (Some (instr.Upper op temp upper)) (Some (instr.Jalr rd base lower)) to = tt
  call_holds (Some (instr.Upper op temp upper)) (Some (instr.Branch kind first second distance)) to = tt
  call_holds (Some (instr.Upper op temp upper)) (Some (instr.Load kind rd base imm)) to = tt
  call_holds (Some (instr.Upper op temp upper)) (Some (instr.Store kind source base imm)) to = tt
  call_holds (Some (instr.Upper op temp upper)) (Some (instr.WithImm kind rd first imm)) to = tt
  call_holds (Some (instr.Upper op temp upper)) (Some (instr.WithReg kind rd first second)) to = tt
  call_holds (Some (instr.Upper op temp upper)) (Some (instr.Fence rest)) to = tt
  call_holds (Some (instr.Upper op temp upper)) (Some instr.Ecall) to = tt
  call_holds (Some (instr.Upper op temp upper)) (Some instr.Ebreak) to = tt
  call_holds (Some (instr.Upper op temp upper)) (Some (instr.Csrrw rd source)) to = tt
  call_holds (Some (instr.Jal rd distance)) p to = tt
  call_holds (Some (instr.Jalr rd base imm)) p to = tt
  call_holds (Some (instr.Branch kind first second distance)) p to = tt
  call_holds (Some (instr.Load kind rd base imm)) p to = tt
  call_holds (Some (instr.Store kind source base imm)) p to = tt
  call_holds (Some (instr.WithImm kind rd first imm)) p to = tt
  call_holds (Some (instr.WithReg kind rd first second)) p to = tt
  call_holds (Some (instr.Fence rest)) p to = tt
  call_holds (Some instr.Ecall) p to = tt
  call_holds (Some instr.Ebreak) p to = tt
  call_holds (Some (instr.Csrrw rd source)) p to = tt

  known_holds : (k : Option RelocKind) (addend : ℤ) (t : Target) → Holds (known_item k addend t bytes n)
  known_holds None addend t = refl
  known_holds (Some kind.Ignored) addend t = refl
  known_holds (Some kind.Word) addend t = tt
  known_holds (Some kind.Branch) addend t = under_holds 4 t
  known_holds (Some kind.Jal) addend t = under_holds 4 t
  known_holds (Some kind.Call) addend t = place_holds t _ (raw_pair bytes n) (λ to. call_holds (instr_in 4 bytes n) (instr_in 4 bytes (n + 4)) to) tt
  known_holds (Some kind.PcrelHi20) addend t = of_holds (instr_in 4 bytes n) (raw_in 4 bytes n) _ (λ i. tt) refl
  known_holds (Some kind.PcrelLo12I) addend t = of_holds (instr_in 4 bytes n) (raw_in 4 bytes n) _ (λ i. place_holds t (PcLo i) (raw_in 4 bytes n) (λ to. tt) refl) refl
  known_holds (Some kind.PcrelLo12S) addend t = of_holds (instr_in 4 bytes n) (raw_in 4 bytes n) _ (λ i. place_holds t (PcLo i) (raw_in 4 bytes n) (λ to. tt) refl) refl
  known_holds (Some kind.Hi20) addend t = of_holds (instr_in 4 bytes n) (raw_in 4 bytes n) _ (λ i. tt) refl
  known_holds (Some kind.Lo12I) addend t = of_holds (instr_in 4 bytes n) (raw_in 4 bytes n) _ (λ i. tt) refl
  known_holds (Some kind.Lo12S) addend t = of_holds (instr_in 4 bytes n) (raw_in 4 bytes n) _ (λ i. tt) refl
  known_holds (Some kind.RvcBranch) addend t = under_holds 2 t
  known_holds (Some kind.RvcJump) addend t = under_holds 2 t
  known_holds (Some kind.Align) addend t = tt

item_holds : (inputs : ParsedInputs) (q : Place) (o : Option Reloc) (size : ℕ) (bytes : List ℕ) → Holds bytes q.offset (item_under inputs q o size bytes)
item_holds inputs q None size bytes =
    spelled_holds bytes q.offset inputs.objects q (instr_in size bytes q.offset) (raw_in size bytes q.offset) (raw_holds bytes q.offset size)
item_holds inputs q (Some r) size bytes = known_holds bytes q.offset (kind_of r.kind) r.addend (target_of inputs q.object r)

-- by a place's item and its section
item_here :
    (inputs : ParsedInputs) (q : Place) (s : SectionParts) (item : Item) → item_at inputs q ≡ Some item → code_at inputs.objects q ≡ Some s → Holds s.bytes q.offset item
item_here inputs q s item is code =
    let found = item_found inputs q item is in
    let same : found.section ≡ s = same_Some found.section s (sym found.code ∙ code) in
    let here = subst (Holds found.section.bytes q.offset) found.item (item_holds inputs q (reloc_on found.section q.offset) (size_on found.section q.offset) found.section.bytes) in
    subst (λ (t : SectionParts). Holds t.bytes q.offset item) same here

pub copied_half :
    (inputs : ParsedInputs) (q : Place) (s : SectionParts) (half : ℕ) → item_at inputs q ≡ Some (RawShort half) → code_at inputs.objects q ≡ Some s → half ≡ half_in s.bytes q.offset
copied_half inputs q s half is code = item_here inputs q s (RawShort half) is code

pub copied_word :
    (inputs : ParsedInputs) (q : Place) (s : SectionParts) (word : ℕ) → item_at inputs q ≡ Some (Raw word) → code_at inputs.objects q ≡ Some s → word ≡ word_in s.bytes q.offset
copied_word inputs q s word is code = item_here inputs q s (Raw word) is code
