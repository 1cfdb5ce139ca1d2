-- Merged code by its places: at each place outside of removed tails stands the same item, moved, and the next place is moved too;
-- nothing stands where sections end; and at each removed tail's start a jump to its host's.
use Rattle.std.proofs.Common.{◌≡◌, ℕ, ◌≤◌, ◌⊎◌, inl, inr, ◌∷◌, length, true, false, eqb, Option, Some, None, refl, sym, ap, ◌∙◌, subst, arith}
use Rattle.std.specs.List.{find, sum_by}
use Rattle.std.specs.Option.{option_map_or}
use Rattle.std.proofs.lemmas.Bool.{eqb-true}
use Rattle.std.proofs.lemmas.List.Sums.{sum_by-append, sum_by-cons}
use Rattle.zc_base.specs.declared.place.Place.{Place}
use Rattle.elf32_read.specs.Parts.{SectionParts, is_code_section}
use Rattle.psabi_sym.specs.Faults.{code_room, gather_fault}
use Rattle.psabi_sym.specs.Indexed.{IndexedSection, section_at, sections_before}
use Rattle.psabi_sym.specs.Inputs.{Inputs, ParsedInputs, parsed}
use Rattle.block_cut.specs.Items.{code_at, is_end_at, item_at, item_in, next_at, starts_on}
use Rattle.block_cut.specs.declared.item.Item.{Item}
use Rattle.block_cut.specs.declared.item.Item.TheVariants as item
use Rattle.block_cut.proofs.CodeSizeLaws.{counted_least}
use Rattle.block_cut.proofs.ItemLaws.{item_found}
use Rattle.block_cut.proofs.ListedLaws.{cut_at, listed}
use Rattle.block_cut.proofs.RoomLaws.{code_room_is, rooms_few}
use Rattle.block_cut.proofs.WholeLaws.{code_is_section}
use Rattle.sym_machine.specs.AddressParts.{pc_target}
use Rattle.sym_machine.specs.Conditions.{is_solid}
use Rattle.moved_runs.specs.Moved.{moved_item}
use Rattle.moved_runs.specs.Moves.{IsDead}
use Rattle.moved_runs.specs.Passes.{renumbered}
use Rattle.tail_merge.specs.Tails.{Removed, covers, first_offset, moved_down, removed_tails, tail_start}
use Rattle.tail_merge.specs.Merged.{indexed, merged_place, removed_at}
use Rattle.tail_merge.proofs.CoveredLaws.{outside-stays, stays-none}
use Rattle.tail_merge.proofs.InstrLaws.{IsOutsideItem}
use Rattle.tail_merge.proofs.MergedItems.{IsItemThere, IsMergedInto, IsNeither, down, item-stays, place-down, removed-is}
use Rattle.tail_merge.proofs.SharedItems.{end-clear, end-there, item-is-there, jump-there, next-there, nothing-there}

-- where what stays moves to
abbrev pub down_place : ParsedInputs → Place → Place
down_place inputs q =
    record { object = q.object; section = renumbered inputs.objects q.object q.section; offset = moved_down (removed_at inputs q.object q.section) q.offset }

-- no section of code has more than 256 KiB
pub code-short : (inputs : Inputs) → gather_fault inputs ≡ None → (o i : ℕ) (s : SectionParts)
    → section_at (parsed inputs).objects o i ≡ Some s → is_code_section s ≡ true → s.size ≤ 0x4_0000
code-short inputs none o i s found code =
    let cut = cut_at (parsed inputs).objects o i s found in
    let all = rooms_few inputs none in
    let split = ap (λ ls. sum_by (λ (l : IndexedSection). code_room l.section) ls) cut.all_are in
    let parts = sum_by-append (λ (l : IndexedSection). code_room l.section) (sections_before (parsed inputs).objects o i) (listed o i s ∷ cut.rest) in
    let own = sum_by-cons (λ (l : IndexedSection). code_room l.section) (listed o i s) cut.rest in
    let room = code_room_is s code in
    let least = counted_least s.compressed s.size in
    omega (arith, all, split, parts, own, room, least)

-- an item where the machine is stuck, moved, is neither padding nor an upper part
dead-moved : (M : Place → Place) (i : Item) → IsDead i → IsNeither (moved_item M i)
dead-moved M (item.Word t) dead = (refl, refl)
dead-moved M (item.Raw w) dead = (refl, refl)
dead-moved M (item.RawShort h) dead = (refl, refl)
dead-moved M (item.RawPair v w) dead = (refl, refl)
dead-moved M (item.Op i) dead = absurd dead
dead-moved M (item.Hi i t) dead = absurd dead
dead-moved M (item.Lo i t) dead = absurd dead
dead-moved M (item.PcHi i t) dead = absurd dead
dead-moved M (item.PcLo i q) dead = absurd dead
dead-moved M (item.Branch op first second to) dead = absurd dead
dead-moved M (item.Jump rd to) dead = absurd dead
dead-moved M (item.Call rd temp to) dead = absurd dead
dead-moved M (item.Align n) dead = absurd dead

-- each section of code becomes one of the result
pub record AreMergedInto (inputs result : ParsedInputs) : Type 0 where
  pub new : ℕ → ℕ → SectionParts → SectionParts
  pub each : (o i : ℕ) (s : SectionParts) → section_at inputs.objects o i ≡ Some s → is_code_section s ≡ true
      → IsMergedInto inputs result o i s (new o i s)

module _ (inputs result : ParsedInputs) (m : AreMergedInto inputs result) where
  abbrev M : Place → Place
  M q = merged_place inputs q

  -- a place of code where an item starts, by its section
  record IsStartIn (q : Place) (i : Item) : Type 0 where
    section : SectionParts
    into : IsMergedInto inputs result q.object q.section section (m.new q.object q.section section)
    code : code_at inputs.objects q ≡ Some section
    start : starts_on section q.offset ≡ true
    item : item_in inputs section q ≡ i

  start-in : (q : Place) (i : Item) → item_at inputs q ≡ Some i → IsStartIn q i
  start-in q i is =
      let found = item_found inputs q i is in
      let at = code_is_section inputs.objects q found.section found.code in
      record { section = found.section; into = m.each q.object q.section found.section at.0 at.1; code = found.code; start = found.start; item = found.item }

  abbrev pub IsOutsideAt : Place → Type 0
  IsOutsideAt q = find (covers q.offset) (removed_at inputs q.object q.section) ≡ None

  module _ (q : Place) (i : Item) (is : item_at inputs q ≡ Some i) (outside : IsOutsideAt q) where
    at : IsStartIn q i
    at = start-in q i is

    abbrev s : SectionParts
    s = at.section

    abbrev new : SectionParts
    new = m.new q.object q.section s

    gone-is : removed_at inputs q.object q.section ≡ removed_tails inputs (indexed q.object q.section s)
    gone-is = removed-is inputs result q.object q.section s new at.into

    out : IsOutsideItem inputs (indexed q.object q.section s) at.into.code at.into.whole q.offset
    out = record { start = at.start; outside = ap (find (covers q.offset)) (sym gone-is) ∙ outside }

    abbrev there : Place
    there = down inputs result q.object q.section s q.offset

    down-is : down_place inputs q ≡ there
    down-is = λ j. record { object = q.object; section = renumbered inputs.objects q.object q.section; offset = moved_down (gone-is j) q.offset }

    -- where it is found is where it moves to
    pub found-down : M q ≡ down_place inputs q
    found-down =
        place-down inputs result q.object q.section s new at.into q.offset
        (outside-stays (removed_tails inputs (indexed q.object q.section s)) q.offset (stays-none (removed_tails inputs (indexed q.object q.section s)) q.offset out.outside))
        ∙ sym down-is

    item-down : item_at result (down_place inputs q) ≡ Some (item_in result new there)
    item-down = ap (item_at result) down-is ∙ item-is-there inputs result q.object q.section s new at.into q.offset out

    next-down : next_at result.objects (down_place inputs q) ≡ M (next_at inputs.objects q)
    next-down = ap (next_at result.objects) down-is ∙ next-there inputs result q.object q.section s new at.into q.offset out

    -- the same item stands where it moves to, and the next place is found behind it
    pub outside-moved : IsDead i ⊎ ((item_at result (down_place inputs q) ≡ Some (moved_item M i)) × (next_at result.objects (down_place inputs q) ≡ M (next_at inputs.objects q)))
    outside-moved = by (item-stays inputs result q.object q.section s new at.into q.offset out)
      where
        by : IsItemThere M (item_in inputs s q) (item_in result new there)
            → IsDead i ⊎ ((item_at result (down_place inputs q) ≡ Some (moved_item M i)) × (next_at result.objects (down_place inputs q) ≡ M (next_at inputs.objects q)))
        by (inl dead) = inl (subst IsDead at.item dead.0)
        by (inr same) = inr (item-down ∙ ap Some (same ∙ ap (moved_item M) at.item), next-down)

    -- in place of an item where the machine is stuck stands one that is neither padding nor an upper part
    dead-neither : IsDead i → (j : Item) × ((item_at result (M q) ≡ Some j) × IsNeither j)
    dead-neither dead =
        (item_in result new there, (ap (item_at result) found-down ∙ item-down, by (item-stays inputs result q.object q.section s new at.into q.offset out)))
      where
        by : IsItemThere M (item_in inputs s q) (item_in result new there) → IsNeither (item_in result new there)
        by (inl stuck) = stuck.1
        by (inr same) = subst IsNeither (sym (same ∙ ap (moved_item M) at.item)) (dead-moved M i dead)

    pub dead-solid : IsDead i → is_solid (item_at result (M q)) ≡ true
    dead-solid dead = let x = dead-neither dead in ap is_solid x.1.0 ∙ x.1.1.0

    pub dead-upper : IsDead i → pc_target (item_at result (M q)) ≡ None
    dead-upper dead = let x = dead-neither dead in ap pc_target x.1.0 ∙ x.1.1.1

  -- ---- where sections end

  record IsEndIn (q : Place) : Type 0 where
    section : SectionParts
    into : IsMergedInto inputs result q.object q.section section (m.new q.object q.section section)
    offset : q.offset ≡ length section.bytes

  end-in : (q : Place) → is_end_at inputs.objects q ≡ true → IsEndIn q
  end-in q end = by (code_at inputs.objects q) refl end
    where
      by : (x : Option SectionParts) → code_at inputs.objects q ≡ x → option_map_or (λ s. eqb q.offset (length s.bytes)) x false ≡ true → IsEndIn q
      by None at h = absurd cc
      by (Some s) at h =
          let there = code_is_section inputs.objects q s at in
          record { section = s; into = m.each q.object q.section s there.0 there.1; offset = eqb-true q.offset (length s.bytes) h }

  -- where a section ended, the new one ends, and no item starts
  pub end-moved : (q : Place) → is_end_at inputs.objects q ≡ true → (is_end_at result.objects (M q) ≡ true) × (item_at result (M q) ≡ None)
  end-moved q end =
      let at = end-in q end in
      let s = at.section in
      let new = m.new q.object q.section s in
      let found : M q ≡ down inputs result q.object q.section s (length s.bytes) =
      ap (λ n. M (record q { offset = n })) at.offset
      ∙ place-down inputs result q.object q.section s new at.into (length s.bytes) (end-clear inputs result q.object q.section s new at.into) in (
        ap (is_end_at result.objects) found ∙ end-there inputs result q.object q.section s new at.into,
        ap (item_at result) found ∙ nothing-there inputs result q.object q.section s new at.into,
      )

  -- ---- jumps

  -- where a removed tail began stands a jump to where its host's moves to
  pub jump-moved : (q : Place) (i : Item) (r : Removed) → item_at inputs q ≡ Some i
      → find (covers q.offset) (removed_at inputs q.object q.section) ≡ Some r → q.offset ≡ tail_start r
      → item_at result (down_place inputs q) ≡ Some (item.Jump 0 (down_place inputs (record q { offset = first_offset r.host })))
  jump-moved q i r is found first =
      let at = start-in q i is in
      let s = at.section in
      let new = m.new q.object q.section s in
      let gone-is = removed-is inputs result q.object q.section s new at.into in
      let moved : (n : ℕ) → down_place inputs (record q { offset = n }) ≡ down inputs result q.object q.section s n =
      λ n. λ j. record { object = q.object; section = renumbered inputs.objects q.object q.section; offset = moved_down (gone-is j) n } in
      ap (item_at result) (moved q.offset)
      ∙ jump-there inputs result q.object q.section s new at.into q.offset r at.start (ap (find (covers q.offset)) (sym gone-is) ∙ found) first
      ∙ ap (λ p. Some (item.Jump 0 p)) (sym (moved (first_offset r.host)))
