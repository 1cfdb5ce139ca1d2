-- Where items lead: in inputs without a fault, a branch, a jump or a call leads to a place where an item starts or a section of code ends
-- (`item_leads`). Such a place has a number behind that of the front (`number_some`).
use Rattle.std.proofs.Common.{◌≡◌, ℕ, ◌+◌, ◌≤◌, List, map, Bool, true, false, Option, Some, None, cond, refl, sym, ap, ◌∙◌, subst, arith, eqb}
use Rattle.std.specs.Prelude.{ℤ, ◌==◌, ◌&&◌, ◌||◌, not}
use Rattle.std.specs.List.{position_or_len}
use Rattle.std.specs.Option.{option_map, option_map_or}
use Rattle.std.proofs.lemmas.Bool.{not-false}
use Rattle.std.proofs.lemmas.List.Folds.{find_at}
use Rattle.zc_base.specs.declared.place.Place.{Place}
use Rattle.elf32_read.specs.Parts.{ObjectParts, SectionParts}
use Rattle.elf32_read.specs.declared.fault.Fault.{Fault}
use Rattle.elf32_read.specs.declared.fault.Fault.TheVariants as fault
use Rattle.elf32_read.specs.declared.reloc.Reloc.{Reloc}
use Rattle.psabi_reloc.specs.Kinds.{kind_of}
use Rattle.psabi_reloc.specs.declared.kind.RelocKind.{RelocKind}
use Rattle.psabi_reloc.specs.declared.kind.RelocKind.TheVariants as kind
use Rattle.psabi_sym.specs.Faults.{first_some, gather_fault}
use Rattle.psabi_sym.specs.Fixed.{is_fixed_at}
use Rattle.psabi_sym.specs.Inputs.{Inputs, ParsedInputs, parsed}
use Rattle.psabi_sym.specs.Indexed.{section_at, sections_before}
use Rattle.psabi_sym.specs.declared.target.Target.{Target}
use Rattle.psabi_sym.specs.declared.target.Target.TheVariants.{Code, Number, Absent, Nowhere}
use Rattle.psabi_sym.proofs.FaultLaws.{neither}
use Rattle.rv_decode.specs.declared.instr.Instr.{Instr}
use Rattle.rv_decode.specs.declared.instr.Instr.TheVariants as instr
use Rattle.block_cut.specs.Faults.{first_fault, has_bad_target, if_so, is_bad_target, is_stray, lacks_pcrel_hi, reloc_fault, relocs_fault, section_fault}
use Rattle.block_cut.specs.Items.{call_item, code_at, is_target_at, item_at, item_under, known_item, raw_in, raw_pair, size_at, size_on, spelled_item, target_away, target_of, to_place, transfer_item}
use Rattle.block_cut.specs.Relocs.{instr_in, is_bad_kind, is_bad_place, is_ignored, is_sound, is_transfer, reloc_on}
use Rattle.block_cut.specs.declared.item.Item.{Item}
use Rattle.block_cut.specs.declared.item.Item.TheVariants as item
use Rattle.block_cut.proofs.FirstLaws.{none_at, none_within}
use Rattle.block_cut.proofs.ItemLaws.{away_target, item_found}
use Rattle.block_cut.proofs.ListedLaws.{cut_at, listed}
use Rattle.block_cut.proofs.RawLaws.{raw_by}
use Rattle.block_cut.proofs.SoundLaws.{sound_at}
use Rattle.block_cut.proofs.WholeLaws.{code_is_section}
use Rattle.shrink_layout.specs.Pieces.{is_short_jump, item_piece_at, jump_piece, kept_piece, piece_number_at, piece_of}
use Rattle.shrink_layout.proofs.NumberLaws.{number-code}
use Rattle.shrink_layout.proofs.OrderLaws.{target_code}
use Rattle.shrink_layout.proofs.TablePieces.{IsPastFront}

-- ---- numbers

-- where code may lead there stand what is in front and a padding before it
pub number_some : (objects : List ObjectParts) (q : Place) → is_target_at objects q ≡ true → 2 ≤ piece_number_at objects q
number_some objects q target =
    let at = target_code objects q target in
    omega (arith, number-code objects q at.0 target at.1)

-- what an item leads to is where code may lead
abbrev pub LeadsWell : List ObjectParts → Item → Type 0
LeadsWell objects (item.Branch op first second to) = is_target_at objects to ≡ true
LeadsWell objects (item.Jump rd to) = is_target_at objects to ≡ true
LeadsWell objects (item.Call rd temp to) = is_target_at objects to ≡ true
LeadsWell objects _ = Unit {0}

-- ---- relocations without a fault

pub not_so : (b : Bool) (f : Fault) → if_so b f ≡ None → b ≡ false
not_so true f h = absurd cc
not_so false f h = refl

pub mapped_none : {A B : Type 0} (f : A → B) (o : Option A) → option_map f o ≡ None → o ≡ None
mapped_none f None h = refl
mapped_none f (Some a) h = absurd cc

module _ (inputs : Inputs) (none : first_fault inputs ≡ None) where
  abbrev given : ParsedInputs
  given = parsed inputs

  abbrev objects : List ObjectParts
  objects = given.objects

  no_reloc_fault : relocs_fault given ≡ None
  unfolding first_fault
  no_reloc_fault = (neither (relocs_fault given) _ (neither (gather_fault inputs) _ none).1).0

  -- there is no fault between objects either
  pub no_gather_fault : gather_fault inputs ≡ None
  unfolding first_fault
  no_gather_fault = (neither (gather_fault inputs) _ none).0

  -- a relocation that asks for something at an offset of a section leads where it may
  reloc_leads : (o i n : ℕ) (s : SectionParts) (r : Reloc) → section_at objects o i ≡ Some s → reloc_on s n ≡ Some r → is_ignored (kind_of r.kind) ≡ false
      → is_bad_target objects (is_transfer (kind_of r.kind)) (target_of given o r) ≡ false
  unfolding reloc_on relocs_fault
  reloc_leads o i n s r found on asks =
      let l = listed o i s in
      let cut = cut_at objects o i s found in
      let own : section_fault given l ≡ None =
      none_within (section_fault given) (sections_before objects o i) l cut.rest (ap (λ ls. first_some (map (section_fault given) ls)) (sym cut.all_are) ∙ no_reloc_fault) in
      let all : first_some (map (reloc_fault given l) s.relocs) ≡ None = mapped_none _ (first_some (map (reloc_fault given l) s.relocs)) own in
      let test = λ (x : Reloc). is_sound s x && x.offset == n in
      let here = none_at (reloc_fault given l) s.relocs (position_or_len test s.relocs) r (sym (find_at test s.relocs) ∙ on) all in
      let one = neither (if_so (is_bad_kind s (kind_of r.kind)) (fault.RelocKind i r.offset)) _ here in
      let two = neither (if_so (is_bad_place s r || is_stray s r) (fault.RelocPlace i r.offset)) _ one.1 in
      let three = neither (if_so (lacks_pcrel_hi given l r) (fault.LoPair i r.offset)) _ two.1 in
      let four = neither (if_so (has_bad_target given l r) (fault.BadTarget i r.offset)) _ three.1 in
      ap (λ b. not b && is_bad_target objects (is_transfer (kind_of r.kind)) (target_of given o r)) (sym asks)
      ∙ not_so (has_bad_target given l r) (fault.BadTarget i r.offset) four.0

  -- ---- items

  module _ (q : Place) (size : ℕ) (bytes : List ℕ) where
    abbrev raw : ℕ → Item
    raw n = raw_in n bytes q.offset

    -- what is copied unread leads nowhere
    raw_well : LeadsWell objects (raw size)
    raw_well = raw_by (LeadsWell objects) (λ half. tt) (λ word. tt) size bytes q.offset

    -- an item without a relocation
    bare : (d : Option Instr) → LeadsWell objects (spelled_item objects q d (raw size))
    bare None = raw_well
    bare (Some (instr.Upper op rd imm)) = tt
    bare (Some (instr.Jalr rd base imm)) = tt
    bare (Some (instr.Load op rd base imm)) = tt
    bare (Some (instr.Store op source base imm)) = tt
    bare (Some (instr.WithImm op rd first imm)) = tt
    bare (Some (instr.WithReg op rd first second)) = tt
    bare (Some (instr.Fence rest)) = tt
    bare (Some instr.Ecall) = tt
    bare (Some instr.Ebreak) = tt
    bare (Some (instr.Csrrw rd source)) = raw_well
    bare (Some (instr.Jal rd distance)) = by (target_away objects q distance) refl
      where
        by : (o : Option Place) → target_away objects q distance ≡ o → LeadsWell objects (option_map_or (item.Jump rd) o (raw size))
        by None away = raw_well
        by (Some to) away = away_target objects q to distance away
    bare (Some (instr.Branch op first second distance)) = by (target_away objects q distance) refl
      where
        by : (o : Option Place) → target_away objects q distance ≡ o → LeadsWell objects (option_map_or (item.Branch op first second) o (raw size))
        by None away = raw_well
        by (Some to) away = away_target objects q to distance away

    raw_leads : (m : ℕ) → LeadsWell objects (raw m)
    raw_leads m = raw_by (LeadsWell objects) (λ half. tt) (λ word. tt) m bytes q.offset

    -- an instruction with a part of an address
    parted : (m : ℕ) (f : Instr → Item) (d : Option Instr) → ((i : Instr) → LeadsWell objects (f i)) → LeadsWell objects (option_map_or f d (raw m))
    parted m f None each = raw_leads m
    parted m f (Some i) each = each i

    -- a branch or a jump
    transferred : (m : ℕ) (i : Instr) (to : Place) → is_target_at objects to ≡ true → LeadsWell objects (transfer_item i (raw m) to)
    transferred m (instr.Branch op first second distance) to target = target
    transferred m (instr.Jal rd distance) to target = target
    transferred m i to target = raw_leads m

    led : (m : ℕ) (t : Target) → is_bad_target objects true t ≡ false → (i : Instr) → LeadsWell objects (to_place t (transfer_item i (raw m)) (raw m))
    led m (Code to) well i = transferred m i to (not-false (is_target_at objects to) well)
    led m (Number n) well i = raw_leads m
    led m (Absent n) well i = raw_leads m
    led m Nowhere well i = raw_leads m

    -- a call
    called : (d d2 : Option Instr) (t : Target) → is_bad_target objects true t ≡ false → LeadsWell objects (to_place t (call_item d d2 (raw_pair bytes q.offset)) (raw_pair bytes q.offset))
    called d d2 (Number n) well = tt
    called d d2 (Absent n) well = tt
    called d d2 Nowhere well = tt
    called (Some (instr.Upper op temp upper)) (Some (instr.Jalr rd base lower)) (Code to) well = not-false (is_target_at objects to) well
    called d d2 (Code to) well = tt

    -- an instruction with the lower part of a distance
    lowered : (t : Target) (i : Instr) → LeadsWell objects (to_place t (item.PcLo i) (raw 4))
    lowered (Code from) i = tt
    lowered (Number n) i = tt
    lowered (Absent n) i = tt
    lowered Nowhere i = tt

    -- an item with a relocation of this kind
    known : (k : Option RelocKind) (addend : ℤ) (t : Target) → is_bad_target objects (is_transfer k) t ≡ false
        → LeadsWell objects (known_item k addend t bytes q.offset)
    known None addend t well = tt
    known (Some kind.Ignored) addend t well = tt
    known (Some kind.Word) addend t well = tt
    known (Some kind.Branch) addend t well = parted 4 (λ i. to_place t (transfer_item i (raw 4)) (raw 4)) (instr_in 4 bytes q.offset) (led 4 t well)
    known (Some kind.Jal) addend t well = parted 4 (λ i. to_place t (transfer_item i (raw 4)) (raw 4)) (instr_in 4 bytes q.offset) (led 4 t well)
    known (Some kind.Call) addend t well = called (instr_in 4 bytes q.offset) (instr_in 4 bytes (q.offset + 4)) t well
    known (Some kind.PcrelHi20) addend t well = parted 4 (λ i. item.PcHi i t) (instr_in 4 bytes q.offset) (λ i. tt)
    known (Some kind.PcrelLo12I) addend t well = parted 4 (λ i. to_place t (item.PcLo i) (raw 4)) (instr_in 4 bytes q.offset) (lowered t)
    known (Some kind.PcrelLo12S) addend t well = parted 4 (λ i. to_place t (item.PcLo i) (raw 4)) (instr_in 4 bytes q.offset) (lowered t)
    known (Some kind.Hi20) addend t well = parted 4 (λ i. item.Hi i t) (instr_in 4 bytes q.offset) (λ i. tt)
    known (Some kind.Lo12I) addend t well = parted 4 (λ i. item.Lo i t) (instr_in 4 bytes q.offset) (λ i. tt)
    known (Some kind.Lo12S) addend t well = parted 4 (λ i. item.Lo i t) (instr_in 4 bytes q.offset) (λ i. tt)
    known (Some kind.RvcBranch) addend t well = parted 2 (λ i. to_place t (transfer_item i (raw 2)) (raw 2)) (instr_in 2 bytes q.offset) (led 2 t well)
    known (Some kind.RvcJump) addend t well = parted 2 (λ i. to_place t (transfer_item i (raw 2)) (raw 2)) (instr_in 2 bytes q.offset) (led 2 t well)
    known (Some kind.Align) addend t well = tt

  -- each item
  pub item_leads : (q : Place) (i : Item) → item_at given q ≡ Some i → LeadsWell objects i
  item_leads q i is =
      let found = item_found given q i is in
      subst (LeadsWell objects) found.item (by found.section found.code (reloc_on found.section q.offset) refl)
    where
      by : (s : SectionParts) → code_at objects q ≡ Some s → (o : Option Reloc) → reloc_on s q.offset ≡ o → LeadsWell objects (item_under given q o (size_on s q.offset) s.bytes)
      by s at None on = bare q (size_on s q.offset) s.bytes (instr_in (size_on s q.offset) s.bytes q.offset)
      by s at (Some r) on =
          let section = code_is_section objects q s at in
          let sound = sound_at s q.offset r section.1 on in
          known q (size_on s q.offset) s.bytes (kind_of r.kind) r.addend (target_of given q.object r)
          (reloc_leads q.object q.section q.offset s r section.0 on sound.asks)

  -- the piece of a jump has its target after the front
  jump_past : (to : Place) (b : Bool) → is_target_at objects to ≡ true → IsPastFront (jump_piece objects to b)
  jump_past to true well = omega (arith, number_some objects to well)
  jump_past to false well = tt

  -- the piece of each item has its target after the front, if it has one
  item_past : (i : Item) → LeadsWell objects i → IsPastFront (piece_of given i)
  item_past (item.Op i) well = tt
  item_past (item.Hi i t) well = tt
  item_past (item.Lo i t) well = tt
  item_past (item.PcHi i t) well = tt
  item_past (item.PcLo i q) well = tt
  item_past (item.Branch op first second to) well = omega (arith, number_some objects to well)
  item_past (item.Jump rd to) well = jump_past to (is_short_jump rd) well
  item_past (item.Call rd temp to) well = jump_past to (is_short_jump rd) well
  item_past (item.Align bytes) well = tt
  item_past (item.Word t) well = tt
  item_past (item.Raw word) well = tt
  item_past (item.RawShort half) well = tt
  item_past (item.RawPair first second) well = tt

  -- so has its piece in a fixed section
  kept_past : (own : ℕ) (i : Item) → LeadsWell objects i → IsPastFront (kept_piece given own i)
  kept_past own (item.Op i) well = tt
  kept_past own (item.Hi i t) well = tt
  kept_past own (item.Lo i t) well = tt
  kept_past own (item.PcHi i t) well = tt
  kept_past own (item.PcLo i q) well = tt
  kept_past own (item.Branch op first second to) well = omega (arith, number_some objects to well)
  kept_past own (item.Jump rd to) well = jump_past to (eqb own 2 && is_short_jump rd) well
  kept_past own (item.Call rd temp to) well = tt
  kept_past own (item.Align bytes) well = tt
  kept_past own (item.Word t) well = tt
  kept_past own (item.Raw word) well = tt
  kept_past own (item.RawShort half) well = tt
  kept_past own (item.RawPair first second) well = tt

  -- and its piece at any place
  pub here_past : (q : Place) (i : Item) → LeadsWell objects i → IsPastFront (item_piece_at given q i)
  here_past q i well = by (is_fixed_at given q.object q.section)
    where
      by : (b : Bool) → IsPastFront (cond b (kept_piece given (size_at objects q) i) (piece_of given i))
      by true = kept_past (size_at objects q) i well
      by false = item_past i well
