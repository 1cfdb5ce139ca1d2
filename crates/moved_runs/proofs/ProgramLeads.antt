-- The places that the program of objects without a fault names begin basic blocks, or are ends of sections. What an item's relocation
-- leads to isn't astray, so an item starts there or a section ends; and a place that a relocation, a branch or a jump leads to, or
-- that follows what ends a block, is a leader by definition.
use Rattle.std.proofs.Common.{◌≡◌, ℕ, ◌+◌, ◌⊎◌, ℤ, List, Option, Some, None, true, false, refl, sym, ap, ◌∙◌, subst, inl, inr}
use Rattle.std.specs.Prelude.{◌&&◌, ◌||◌}
use Rattle.std.specs.Option.{option_map_or}
use Rattle.std.proofs.lemmas.Bool.{and_from, or_left, or_right}
use Rattle.zc_base.specs.Places.{same_place}
use Rattle.zc_base.specs.declared.place.Place.{Place}
use Rattle.zc_base.proofs.PlaceLaws.{same_place-refl}
use Rattle.elf32_read.specs.Parts.{ObjectParts, SectionParts}
use Rattle.elf32_read.specs.declared.reloc.Reloc.{Reloc}
use Rattle.psabi_reloc.specs.Kinds.{kind_of}
use Rattle.psabi_reloc.specs.declared.kind.RelocKind.{RelocKind as Kind}
use Rattle.psabi_reloc.specs.declared.kind.RelocKind.TheVariants as kind
use Rattle.psabi_sym.specs.Inputs.{Inputs, parsed}
use Rattle.psabi_sym.specs.declared.target.Target.{Target}
use Rattle.psabi_sym.specs.declared.target.Target.TheVariants.{Code, Number, Absent, Nowhere}
use Rattle.rv_decode.specs.declared.instr.Instr.{Instr}
use Rattle.rv_decode.specs.declared.instr.Instr.TheVariants as instr
use Rattle.block_cut.specs.declared.item.Item.{Item}
use Rattle.block_cut.specs.declared.item.Item.TheVariants.{Branch, Jump}
use Rattle.block_cut.specs.Faults.{first_fault}
use Rattle.block_cut.specs.Items.{call_item, code_at, instr_item, is_end_at, is_start_at, is_target_at, item_at, item_under, known_item, next_at, raw_in, raw_pair, size_on, spelled_item, target_away, target_of, to_place, transfer_item}
use Rattle.block_cut.specs.Leaders.{ends_block, goes_to}
use Rattle.block_cut.specs.Relocs.{instr_in, is_ignored, reloc_on}
use Rattle.block_cut.proofs.ItemLaws.{away_target, item_found}
use Rattle.block_cut.proofs.ListedLaws.{listed}
use Rattle.block_cut.proofs.PlainLaws.{next_start}
use Rattle.block_cut.proofs.RawLaws.{raw_by}
use Rattle.block_cut.proofs.SoundLaws.{sound_at}
use Rattle.block_cut.proofs.WholeLaws.{code_is_section}
use Rattle.sym_machine.specs.Objects.{program_of}
use Rattle.sym_machine.specs.Program.{Program}
use Rattle.moved_runs.specs.Leads.{IsNamed, Leads, NamesItem}
use Rattle.moved_runs.specs.Named.{IsNamedTarget}
use Rattle.moved_runs.proofs.Faultless.{all_none, reloc_good, target_good}
use Rattle.moved_runs.proofs.Led.{asks_at, item_leader, leader_named, reloc_leader}

module _ (inputs : Inputs) (none : first_fault inputs ≡ None) where
  abbrev objects : List ObjectParts
  objects = (parsed inputs).objects

  abbrev program : Program
  program = program_of (parsed inputs)

  abbrev Named : Place → Type 0
  Named q = IsNamed (parsed inputs) q

  -- ---- items with a relocation

  -- where the relocation of an item leads
  reloc_named :
      (q to : Place) (s : SectionParts) (r : Reloc) → code_at objects q ≡ Some s → reloc_on s q.offset ≡ Some r → is_ignored (kind_of r.kind) ≡ false
      → target_of (parsed inputs) q.object r ≡ Code to → Named to
  reloc_named q to s r at on asks leads =
      let fine = reloc_good inputs none q.object q.section q.offset s r (code_is_section objects q s at).0 on in
      leader_named (parsed inputs) to (target_good (parsed inputs) (listed q.object q.section s) r to asks fine leads)
      (reloc_leader (parsed inputs) to (asks_at (parsed inputs) q s r at on asks) leads)

  -- a target whose place is named, if it has one
  target_named : (t : Target) → ((to : Place) → t ≡ Code to → Named to) → IsNamedTarget Named t
  target_named (Code to) place = place to refl
  target_named (Number n) place = tt
  target_named (Absent n) place = tt
  target_named Nowhere place = tt

  -- items of an instruction, and items that go to a place
  instr_named :
      (o : Option Instr) (other : Item) (f : Instr → Item) → NamesItem Named other → ((i : Instr) → NamesItem Named (f i))
      → NamesItem Named (option_map_or f o other)
  instr_named None other f stays each = stays
  instr_named (Some i) other f stays each = each i

  place_named :
      (t : Target) (f : Place → Item) (other : Item) → ((to : Place) → t ≡ Code to → NamesItem Named (f to))
      → NamesItem Named other → NamesItem Named (to_place t f other)
  place_named (Code to) f other place stays = place to refl
  place_named (Number n) f other place stays = stays
  place_named (Absent n) f other place stays = stays
  place_named Nowhere f other place stays = stays

  transfer_named : (i : Instr) (other : Item) (to : Place) → Named to → NamesItem Named other → NamesItem Named (transfer_item i other to)
  transfer_named (instr.Branch op first second distance) other to is stays = is
  transfer_named (instr.Jal rd distance) other to is stays = is
  transfer_named i other to is stays = stays

  call_named : (first second : Option Instr) (other : Item) (to : Place) → Named to → NamesItem Named other → NamesItem Named (call_item first second other to)
  call_named (Some (instr.Upper op temp upper)) (Some (instr.Jalr rd base lower)) other to is stays = is
  call_named first second other to is stays = stays

  -- by the relocation's kind
  module _ (t : Target) (bytes : List ℕ) (n : ℕ) (place : (to : Place) → t ≡ Code to → Named to) where
    abbrev raw : Item
    raw = raw_in 4 bytes n

    abbrev one : Option Instr
    one = instr_in 4 bytes n

    kind_named : (k : Option Kind) (addend : ℤ) → NamesItem Named (known_item k addend t bytes n)
    kind_named None addend = tt
    kind_named (Some kind.Ignored) addend = tt
    kind_named (Some kind.Word) addend = tt
    kind_named (Some kind.Branch) addend = instr_named one raw _ tt (λ i. place_named t _ raw (λ to is. transfer_named i raw to (place to is) tt) tt)
    kind_named (Some kind.Jal) addend = instr_named one raw _ tt (λ i. place_named t _ raw (λ to is. transfer_named i raw to (place to is) tt) tt)
    kind_named (Some kind.Call) addend =
        let pair = raw_pair bytes n in
        place_named t _ pair (λ to is. call_named one (instr_in 4 bytes (n + 4)) pair to (place to is) tt) tt
    kind_named (Some kind.PcrelHi20) addend = instr_named one raw _ tt (λ i. target_named t place)
    kind_named (Some kind.PcrelLo12I) addend = instr_named one raw _ tt (λ i. place_named t _ raw (λ to is. tt) tt)
    kind_named (Some kind.PcrelLo12S) addend = instr_named one raw _ tt (λ i. place_named t _ raw (λ to is. tt) tt)
    kind_named (Some kind.Hi20) addend = instr_named one raw _ tt (λ i. target_named t place)
    kind_named (Some kind.Lo12I) addend = instr_named one raw _ tt (λ i. target_named t place)
    kind_named (Some kind.Lo12S) addend = instr_named one raw _ tt (λ i. target_named t place)
    kind_named (Some kind.RvcBranch) addend =
        instr_named (instr_in 2 bytes n) (raw_in 2 bytes n) _ tt (λ i. place_named t _ (raw_in 2 bytes n) (λ to is. transfer_named i (raw_in 2 bytes n) to (place to is) tt) tt)
    kind_named (Some kind.RvcJump) addend =
        instr_named (instr_in 2 bytes n) (raw_in 2 bytes n) _ tt (λ i. place_named t _ (raw_in 2 bytes n) (λ to is. transfer_named i (raw_in 2 bytes n) to (place to is) tt) tt)
    kind_named (Some kind.Align) addend = tt

  -- ---- items without

  -- where the item at a place goes, if code may lead there
  going_named : (q to : Place) (i : Item) → item_at (parsed inputs) q ≡ Some i → goes_to to i ≡ true → is_target_at objects to ≡ true → Named to
  going_named q to i is goes target = leader_named (parsed inputs) to target (item_leader (parsed inputs) q to i is (or_left (goes_to to i) _ goes))

  instr_item_named :
      (q : Place) (i : Instr) (other : Item) → NamesItem Named other → item_at (parsed inputs) q ≡ Some (instr_item objects q i other)
      → NamesItem Named (instr_item objects q i other)
  instr_item_named q (instr.Upper op rd imm) other stays is = tt
  instr_item_named q (instr.Jal rd distance) other stays is = by (target_away objects q distance) refl is
    where
      by :
          (o : Option Place) → target_away objects q distance ≡ o → item_at (parsed inputs) q ≡ Some (option_map_or (Jump rd) o other)
          → NamesItem Named (option_map_or (Jump rd) o other)
      by None away here = stays
      by (Some to) away here = going_named q to (Jump rd to) here (same_place-refl to) (away_target objects q to distance away)
  instr_item_named q (instr.Jalr rd base imm) other stays is = tt
  instr_item_named q (instr.Branch op first second distance) other stays is = by (target_away objects q distance) refl is
    where
      by :
          (o : Option Place) → target_away objects q distance ≡ o
          → item_at (parsed inputs) q ≡ Some (option_map_or (Branch op first second) o other) → NamesItem Named (option_map_or (Branch op first second) o other)
      by None away here = stays
      by (Some to) away here = going_named q to (Branch op first second to) here (same_place-refl to) (away_target objects q to distance away)
  instr_item_named q (instr.Load op rd base imm) other stays is = tt
  instr_item_named q (instr.Store op source base imm) other stays is = tt
  instr_item_named q (instr.WithImm op rd first imm) other stays is = tt
  instr_item_named q (instr.WithReg op rd first second) other stays is = tt
  instr_item_named q (instr.Fence rest) other stays is = tt
  instr_item_named q instr.Ecall other stays is = tt
  instr_item_named q instr.Ebreak other stays is = tt
  instr_item_named q (instr.Csrrw rd source) other stays is = stays

  bare_named :
      (q : Place) (o : Option Instr) (other : Item) → NamesItem Named other → item_at (parsed inputs) q ≡ Some (spelled_item objects q o other)
      → NamesItem Named (spelled_item objects q o other)
  bare_named q None other stays is = stays
  bare_named q (Some i) other stays is = instr_item_named q i other stays is

  -- ---- all items

  item_named : (q : Place) (i : Item) → item_at (parsed inputs) q ≡ Some i → NamesItem Named i
  item_named q i is =
      let found = item_found (parsed inputs) q i is in
      let s = found.section in
      subst (NamesItem Named) found.item (by s found.code (reloc_on s q.offset) refl (is ∙ ap Some (sym found.item)))
    where
      by :
          (s : SectionParts) → code_at objects q ≡ Some s → (o : Option Reloc) → reloc_on s q.offset ≡ o
          → item_at (parsed inputs) q ≡ Some (item_under (parsed inputs) q (reloc_on s q.offset) (size_on s q.offset) s.bytes)
          → NamesItem Named (item_under (parsed inputs) q (reloc_on s q.offset) (size_on s q.offset) s.bytes)
      by s at None on here =
          let own = size_on s q.offset in
          subst (λ o. NamesItem Named (item_under (parsed inputs) q o own s.bytes)) (sym on)
          (bare_named q (instr_in own s.bytes q.offset) (raw_in own s.bytes q.offset)
          (raw_by (NamesItem Named) (λ half. tt) (λ word. tt) own s.bytes q.offset) (here ∙ ap (λ o. Some (item_under (parsed inputs) q o own s.bytes)) on))
      by s at (Some r) on here =
          let asks = (sound_at s q.offset r (code_is_section objects q s at).1 on).asks in
          subst (λ o. NamesItem Named (item_under (parsed inputs) q o (size_on s q.offset) s.bytes)) (sym on)
          (kind_named (target_of (parsed inputs) q.object r) s.bytes q.offset (λ to leads. reloc_named q to s r at on asks leads) (kind_of r.kind) r.addend)

  -- the place after what ends a block
  after_named : (q : Place) (i : Item) → item_at (parsed inputs) q ≡ Some i → ends_block i ≡ true → Named (next_at objects q)
  after_named q i is ends =
      let next = next_at objects q in
      let leads : (goes_to next i || (ends_block i && same_place next next)) ≡ true =
      or_right (goes_to next i) (ends_block i && same_place next next) (and_from (ends_block i) (same_place next next) ends (same_place-refl next)) in
      leader_named (parsed inputs) next (target (next_start inputs (all_none inputs none).gathered q i is)) (item_leader (parsed inputs) q next i is leads)
    where
      target : (is_start_at objects (next_at objects q) ≡ true) ⊎ (is_end_at objects (next_at objects q) ≡ true) → is_target_at objects (next_at objects q) ≡ true
      target (inl start) = or_left (is_start_at objects (next_at objects q)) _ start
      target (inr end) = or_right (is_start_at objects (next_at objects q)) _ end

  pub leads_faultless : Leads program (IsNamed (parsed inputs))
  unfolding program_of
  leads_faultless = record { item = item_named; next = after_named }
