-- What is known of each item of inputs without a fault: it has its own number of bytes, these are its instruction, and what it
-- leads to has an address.
use Rattle.std.proofs.Common.{◌≡◌, ℕ, ◌+◌, ℤ, Option, Some, None, Bool, true, false, refl, sym, ap, ◌∙◌, subst, inl, inr}
use Rattle.std.specs.Prelude.{◌&&◌, not}
use Rattle.std.specs.Option.{option_map_or}
use Rattle.std.proofs.lemmas.Bool.{eqb-true, not-false, or_left, or_right}
use Rattle.zc_base.specs.declared.place.Place.{Place}
use Rattle.zc_base.proofs.PlaceLaws.{same_place-refl}
use Rattle.elf32_read.specs.Parts.{SectionParts}
use Rattle.elf32_read.specs.declared.reloc.Reloc.{Reloc}
use Rattle.psabi_reloc.specs.Kinds.{field_length, is_auipc, is_call, is_lui, is_store, is_sum, kind_of}
use Rattle.psabi_reloc.specs.declared.kind.RelocKind.{RelocKind}
use Rattle.psabi_reloc.specs.declared.kind.RelocKind.TheVariants as kind
use Rattle.psabi_sym.specs.Faults.{gather_fault}
use Rattle.psabi_sym.specs.Inputs.{Inputs, ParsedInputs, parsed}
use Rattle.psabi_sym.specs.declared.target.Target.{Target}
use Rattle.psabi_sym.specs.declared.target.Target.TheVariants.{Code, Number, Absent, Nowhere}
use Rattle.rv_decode.specs.declared.instr.Instr.{Instr}
use Rattle.rv_decode.specs.declared.instr.Instr.TheVariants as instr
use Rattle.rv_decode.specs.declared.instr.UpperOp.TheVariants.{Lui, Auipc}
use Rattle.block_cut.specs.Faults.{first_fault, is_bad_target}
use Rattle.block_cut.specs.Items.{call_item, code_at, is_target_at, item_at, item_in, item_under, known_item, raw_in, raw_pair, size_at, size_on, spelled_item, target_away, target_of, to_place, transfer_item}
use Rattle.block_cut.specs.Leaders.{goes_to, is_leader_at}
use Rattle.block_cut.specs.Relocs.{field_of, fits_at, instr_in, is_bad_kind, is_ignored, is_pcrel_lo, is_transfer, reloc_on}
use Rattle.block_cut.specs.CodeSizes.{own_size}
use Rattle.block_cut.specs.declared.item.Item.{Item}
use Rattle.block_cut.specs.declared.item.Item.TheVariants.{Hi, Lo, PcHi, PcLo, Branch, Jump}
use Rattle.block_cut.proofs.CodeSizeLaws.{OwnSize, own_is}
use Rattle.block_cut.proofs.CodeSizeLaws.OwnSize.{Two, Four}
use Rattle.block_cut.proofs.ItemLaws.{away_target}
use Rattle.block_cut.proofs.PlainLaws.{item_here}
use Rattle.block_cut.proofs.SoundLaws.{sound_at}
use Rattle.block_cut.proofs.WholeLaws.{code_is_section}
use Rattle.zc_link.specs.LaidOut.{ListsLeaders}
use Rattle.zc_link.specs.Standing.{HasOwnSize, HasValue, HasWay, IsInstrSize, IsReady, ItemStands, SpellsKind, SpellsWay, is_lower}
use Rattle.moved_runs.proofs.Faultless.{all_none, reloc_good}
use Rattle.zc_link.proofs.Faultless.{leader_listed, reloc_value}
use Rattle.moved_runs.proofs.Led.{asks_at, item_leader, reloc_leader}
use Rattle.zc_link.proofs.Pairs.{goes_with}

-- an instruction without relocation has two bytes or four
instr_size : (size : ℕ) → OwnSize size → IsInstrSize size
instr_size size (Two is) = inl is
instr_size size (Four is) = inr is

-- objects without a fault have none between them
pub gathered : (inputs : Inputs) → first_fault inputs ≡ None → gather_fault inputs ≡ None
gathered inputs none = (all_none inputs none).gathered

module _ (inputs : Inputs) (none : gather_fault inputs ≡ None) (ready : IsReady inputs) (A : Place → Option ℕ) (leaders : ListsLeaders (parsed inputs) A) where
  abbrev p : ParsedInputs
  p = parsed inputs

  module _ (q : Place) (s : SectionParts) (at : code_at p.objects q ≡ Some s) where
    abbrev n : ℕ
    n = q.offset

    -- the instruction of m bytes here, and that of the word after one
    abbrev one : ℕ → Option Instr
    one m = instr_in m s.bytes n

    abbrev two : Option Instr
    two = instr_in 4 s.bytes (n + 4)

    -- what is copied unread
    abbrev raw : ℕ → Item
    raw m = raw_in m s.bytes n

    -- an item that has m bytes here
    abbrev Stands : ℕ → Item → Type 0
    Stands m i = ItemStands A (item_at p) (one m) two i × HasOwnSize i m

    raw_stands : (m : ℕ) → IsInstrSize m → Stands m (raw m)
    raw_stands m (inl short) = subst (λ k. Stands k (raw k)) (sym short) (tt, refl)
    raw_stands m (inr four) = subst (λ k. Stands k (raw k)) (sym four) (tt, refl)

    -- a branch or a jump to a place
    way_stands :
        (spelled : Option Instr) (i : ℤ → Instr) (distance : ℤ) (to : Place) → spelled ≡ Some (i distance)
        → is_target_at p.objects to ≡ true → is_leader_at p to ≡ true → SpellsWay A spelled i to
    way_stands spelled i distance to spells target leader =
        let there = leader_listed p A leaders to target leader in
        record { distance = distance; spells = spells; address = there.0; listed = there.1 }

    -- where an item that goes to a place stands here
    going_leader : (to : Place) (i : Item) → item_at p q ≡ Some i → goes_to to i ≡ true → is_leader_at p to ≡ true
    going_leader to i is goes = item_leader p q to i is (or_left (goes_to to i) _ goes)

    -- an item without a relocation
    module _ (m : ℕ) (size : IsInstrSize m) where
      bare : (d : Option Instr) → one m ≡ d → item_at p q ≡ Some (spelled_item p.objects q d (raw m)) → Stands m (spelled_item p.objects q d (raw m))
      bare None e is = raw_stands m size
      bare (Some (instr.Upper op rd imm)) e is = (e, size)
      bare (Some (instr.Jalr rd base imm)) e is = (e, size)
      bare (Some (instr.Load op rd base imm)) e is = (e, size)
      bare (Some (instr.Store op source base imm)) e is = (e, size)
      bare (Some (instr.WithImm op rd first imm)) e is = (e, size)
      bare (Some (instr.WithReg op rd left right)) e is = (e, size)
      bare (Some (instr.Fence rest)) e is = (e, size)
      bare (Some instr.Ecall) e is = (e, size)
      bare (Some instr.Ebreak) e is = (e, size)
      bare (Some (instr.Csrrw rd source)) e is = raw_stands m size
      bare (Some (instr.Jal rd distance)) e is = by (target_away p.objects q distance) refl is
        where
          by :
              (o : Option Place) → target_away p.objects q distance ≡ o → item_at p q ≡ Some (option_map_or (Jump rd) o (raw m))
              → Stands m (option_map_or (Jump rd) o (raw m))
          by None away here = raw_stands m size
          by (Some to) away here =
              let leader = going_leader to (Jump rd to) here (same_place-refl to) in
              (way_stands (one m) (instr.Jal rd) distance to e (away_target p.objects q to distance away) leader, size)
      bare (Some (instr.Branch op left right distance)) e is = by (target_away p.objects q distance) refl is
        where
          by :
              (o : Option Place) → target_away p.objects q distance ≡ o → item_at p q ≡ Some (option_map_or (Branch op left right) o (raw m))
              → Stands m (option_map_or (Branch op left right) o (raw m))
          by None away here = raw_stands m size
          by (Some to) away here =
              let leader = going_leader to (Branch op left right to) here (same_place-refl to) in
              (way_stands (one m) (instr.Branch op left right) distance to e (away_target p.objects q to distance away) leader, size)

    -- ---- with one

    -- a place where it may lead
    target_is : (t : Target) (to : Place) (transfers : Bool) → is_bad_target p.objects transfers t ≡ false → t ≡ Code to → is_target_at p.objects to ≡ true
    target_is t to transfers lost is = not-false (is_target_at p.objects to) (ap (is_bad_target p.objects transfers) (sym is) ∙ lost)

    -- an instruction with a part of an address
    parted :
        (is_kind : Option Instr → Bool) (f : Instr → Item) (d : Option Instr) → one 4 ≡ d → is_kind d ≡ true
        → ((i : Instr) → SpellsKind is_kind (one 4) i → Stands 4 (f i)) → Stands 4 (option_map_or f d (raw 4))
    parted is_kind f None e kind each = (tt, refl)
    parted is_kind f (Some i) e kind each = each i (record { spells = e; kind = kind })

    -- a branch or a jump
    module _ (m : ℕ) (size : IsInstrSize m) where
      transferred :
          (i : Instr) (to : Place) → one m ≡ Some i → is_target_at p.objects to ≡ true → is_leader_at p to ≡ true
          → Stands m (transfer_item i (raw m) to)
      transferred (instr.Branch op left right distance) to e target leader =
          (way_stands (one m) (instr.Branch op left right) distance to e target leader, size)
      transferred (instr.Jal rd distance) to e target leader = (way_stands (one m) (instr.Jal rd) distance to e target leader, size)
      transferred i to e target leader = raw_stands m size

      led :
          (d : Option Instr) (t : Target) → one m ≡ d → is_bad_target p.objects true t ≡ false
          → ((to : Place) → t ≡ Code to → is_leader_at p to ≡ true) → Stands m (option_map_or (λ i. to_place t (transfer_item i (raw m)) (raw m)) d (raw m))
      led None t e lost leads = raw_stands m size
      led (Some i) (Code to) e lost leads = transferred i to e (target_is (Code to) to true lost refl) (leads to refl)
      led (Some i) (Number k) e lost leads = raw_stands m size
      led (Some i) (Absent k) e lost leads = raw_stands m size
      led (Some i) Nowhere e lost leads = raw_stands m size

    -- a call
    called :
        (d d2 : Option Instr) (t : Target) → one 8 ≡ d → two ≡ d2 → is_call d d2 ≡ true → is_bad_target p.objects true t ≡ false
        → ((to : Place) → t ≡ Code to → is_leader_at p to ≡ true)
        → Stands 8 (to_place t (call_item d d2 (raw_pair s.bytes n)) (raw_pair s.bytes n))
    called d d2 (Number k) e e2 kind lost leads = (tt, refl)
    called d d2 (Absent k) e e2 kind lost leads = (tt, refl)
    called d d2 Nowhere e e2 kind lost leads = (tt, refl)
    called (Some (instr.Upper Auipc temp upper)) (Some (instr.Jalr rd base lower)) (Code to) e e2 kind lost leads =
        let there = leader_listed p A leaders to (target_is (Code to) to true lost refl) (leads to refl) in
        let same : base ≡ temp = eqb-true base temp kind in (
          record {
            upper = upper;
            lower = lower;
            first_spells = e;
            second_spells = e2 ∙ ap (λ b. Some (instr.Jalr rd b lower)) same;
            address = there.0;
            listed = there.1;
          },
          refl,
        )
    called (Some (instr.Upper Lui temp upper)) d2 (Code to) e e2 kind lost leads = absurd cc
    called d d2 (Code to) e e2 kind lost leads = (tt, refl)

    -- an instruction with the lower part of a distance
    lowered :
        (is_kind : Option Instr → Bool) (d : Option Instr) (t : Target) → one 4 ≡ d → is_kind d ≡ true
        → ((i : Instr) → is_kind (Some i) ≡ true → is_lower (Some i) ≡ true)
        → ((from : Place) → t ≡ Code from → HasWay A (item_at p) from) → Stands 4 (option_map_or (λ i. to_place t (PcLo i) (raw 4)) d (raw 4))
    lowered is_kind None t e kind lower pair = (tt, refl)
    lowered is_kind (Some i) (Code from) e kind lower pair = ((record { spells = e; kind = lower i kind }, pair from refl), refl)
    lowered is_kind (Some i) (Number k) e kind lower pair = (tt, refl)
    lowered is_kind (Some i) (Absent k) e kind lower pair = (tt, refl)
    lowered is_kind (Some i) Nowhere e kind lower pair = (tt, refl)

    sums : (i : Instr) → is_sum (Some i) ≡ true → is_lower (Some i) ≡ true
    sums i h = or_left (is_sum (Some i)) (is_store (Some i)) h

    stores : (i : Instr) → is_store (Some i) ≡ true → is_lower (Some i) ≡ true
    stores i h = or_right (is_sum (Some i)) (is_store (Some i)) h

    module _
        (r : Reloc) (on : reloc_on s n ≡ Some r)
        (has : is_ignored (kind_of r.kind) ≡ false → HasValue A (target_of p q.object r))
        (leads : (to : Place) → target_of p q.object r ≡ Code to → is_leader_at p to ≡ true) where
      abbrev t : Target
      t = target_of p q.object r

      -- the `auipc` of a lower part
      paired :
          (k : Option RelocKind) → kind_of r.kind ≡ k → is_pcrel_lo k ≡ true → is_bad_target p.objects false t ≡ false
          → (from : Place) → t ≡ Code from → HasWay A (item_at p) from
      paired k is lo lost from named =
          goes_with inputs ready.faultless A leaders q from s r at on (ap is_pcrel_lo is ∙ lo) named (target_is t from false lost named)

      -- by the relocation's kind
      by_kind :
          (k : Option RelocKind) → kind_of r.kind ≡ k → is_ignored k ≡ false → is_bad_kind s k ≡ false → fits_at s n r.addend k ≡ true
          → is_bad_target p.objects (is_transfer k) t ≡ false → Stands (field_length k r.addend) (known_item k r.addend t s.bytes n)
      by_kind None is asks known fits lost = absurd cc
      by_kind (Some kind.Ignored) is asks known fits lost = absurd cc
      by_kind (Some kind.Word) is asks known fits lost = (has (ap is_ignored is), refl)
      by_kind (Some kind.Branch) is asks known fits lost = led 4 (inr refl) (one 4) t refl lost leads
      by_kind (Some kind.Jal) is asks known fits lost = led 4 (inr refl) (one 4) t refl lost leads
      by_kind (Some kind.Call) is asks known fits lost = called (one 8) two t refl refl fits lost leads
      by_kind (Some kind.PcrelHi20) is asks known fits lost =
          parted is_auipc (λ i. PcHi i t) (one 4) refl fits (λ i spells. ((spells, has (ap is_ignored is)), refl))
      by_kind (Some kind.PcrelLo12I) is asks known fits lost =
          lowered is_sum (one 4) t refl fits sums (paired (Some kind.PcrelLo12I) is refl lost)
      by_kind (Some kind.PcrelLo12S) is asks known fits lost =
          lowered is_store (one 4) t refl fits stores (paired (Some kind.PcrelLo12S) is refl lost)
      by_kind (Some kind.Hi20) is asks known fits lost =
          parted is_lui (λ i. Hi i t) (one 4) refl fits (λ i spells. ((spells, has (ap is_ignored is)), refl))
      by_kind (Some kind.Lo12I) is asks known fits lost =
          parted is_sum (λ i. Lo i t) (one 4) refl fits
          (λ i spells. ((record { spells = spells.spells; kind = sums i spells.kind }, has (ap is_ignored is)), refl))
      by_kind (Some kind.Lo12S) is asks known fits lost =
          parted is_store (λ i. Lo i t) (one 4) refl fits
          (λ i spells. ((record { spells = spells.spells; kind = stores i spells.kind }, has (ap is_ignored is)), refl))
      by_kind (Some kind.RvcBranch) is asks known fits lost = led 2 (inl refl) (one 2) t refl lost leads
      by_kind (Some kind.RvcJump) is asks known fits lost = led 2 (inl refl) (one 2) t refl lost leads
      by_kind (Some kind.Align) is asks known fits lost = (tt, refl)

    -- an item
    pub item_stands : (item : Item) → item_at p q ≡ Some item → Stands (size_on s n) item
    item_stands item is =
        let here = item_here inputs none q item is in
        let same : here.section ≡ s = cc (sym here.code ∙ at) in
        let own_item = ap (λ t. item_in p t q) (sym same) ∙ here.item in
        subst (Stands (size_on s n)) own_item (by (reloc_on s n) refl (is ∙ ap Some (sym own_item)))
      where
        own : Option Reloc → ℕ
        own o = option_map_or field_of o (own_size s.compressed s.bytes n)

        by :
            (o : Option Reloc) → reloc_on s n ≡ o → item_at p q ≡ Some (item_under p q (reloc_on s n) (own (reloc_on s n)) s.bytes)
            → Stands (own (reloc_on s n)) (item_under p q o (own (reloc_on s n)) s.bytes)
        by None on there =
            subst (λ m. Stands m (item_under p q None m s.bytes)) (ap own (sym on))
            (bare (own None) (instr_size (own None) (own_is s.compressed s.bytes n)) (one (own None)) refl (there ∙ (λ j. Some (item_under p q (on j) (own (on j)) s.bytes))))
        by (Some r) on there =
            let section = code_is_section p.objects q s at in
            let sound = sound_at s n r section.1 on in
            let fine = reloc_good inputs ready.faultless q.object q.section n s r section.0 on in
            let transfers = is_transfer (kind_of r.kind) in
            let t = target_of p q.object r in
            let lost : is_bad_target p.objects transfers t ≡ false =
            ap (λ b. not b && is_bad_target p.objects transfers t) (sym sound.asks) ∙ fine.leads in
            let asks = asks_at p q s r at on sound.asks in
            subst (λ m. Stands m (known_item (kind_of r.kind) r.addend t s.bytes n)) (ap own (sym on))
            (by_kind r on (λ _. reloc_value p A leaders asks fine) (λ to. reloc_leader p to asks) (kind_of r.kind) refl sound.asks sound.known sound.fits lost)

  -- the bytes that an item has in its object
  pub item_own : (q : Place) (item : Item) → item_at p q ≡ Some item → HasOwnSize item (size_at p.objects q)
  item_own q item is =
      let here = item_here inputs none q item is in
      subst (HasOwnSize item) (sym here.size) (item_stands q here.section here.code item is).1
