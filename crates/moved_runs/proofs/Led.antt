-- What leads to a place makes it the beginning of a basic block: a relocation that asks for something, an item that goes there, one
-- before it that ends a block, and a section that starts there. A program may name each such place where an item starts or a section of code ends.
use Rattle.std.proofs.Common.{◌≡◌, ◌⊎◌, [], map, Option, Some, None, Bool, true, false, cond, refl, ap, ◌∙◌, inl, inr, eqb}
use Rattle.std.specs.Prelude.{ℕ, ◌&&◌, ◌||◌, not}
use Rattle.std.specs.List.{flat_map, list_any}
use Rattle.std.specs.Option.{option_map_or}
use Rattle.std.proofs.lemmas.Bool.{and_from, eq-eqb, or_cases, or_left, or_right}
use Rattle.zc_base.specs.Places.{same_place}
use Rattle.zc_base.specs.declared.place.Place.{Place}
use Rattle.zc_base.proofs.PlaceLaws.{same_place-refl}
use Rattle.elf32_read.specs.Parts.{SectionParts}
use Rattle.elf32_read.specs.declared.reloc.Reloc.{Reloc}
use Rattle.psabi_reloc.specs.Kinds.{kind_of}
use Rattle.psabi_sym.specs.Indexed.{all_sections, section_at, sections_before}
use Rattle.psabi_sym.specs.Inputs.{ParsedInputs}
use Rattle.psabi_sym.specs.declared.target.Target.TheVariants.{Code}
use Rattle.block_cut.specs.Items.{all_places, code_at, is_end_at, is_start_at, is_target_at, item_at, next_at, place_of, places_of, starts_in, starts_on, target_of}
use Rattle.block_cut.specs.Leaders.{ends_block, goes_to, is_leader_at, is_place, item_leads, reloc_leads, section_leads}
use Rattle.block_cut.specs.Relocs.{is_ignored, reloc_on}
use Rattle.block_cut.specs.declared.item.Item.{Item}
use Rattle.block_cut.proofs.ItemLaws.{item_found, item_there}
use Rattle.block_cut.proofs.ListedLaws.{cut_at, listed}
use Rattle.block_cut.proofs.WholeLaws.{code_is_section}
use Rattle.moved_runs.specs.Leads.{IsNamed}
use Rattle.moved_runs.proofs.Elements.{any_flat, any_found, any_offset, any_there}

-- a relocation of a section that asks for something
pub record AsksIn (p : ParsedInputs) (o i : ℕ) (s : SectionParts) (r : Reloc) : Type 0 where
  pub found : section_at p.objects o i ≡ Some s
  pub asks : is_ignored (kind_of r.kind) ≡ false
  pub among : (test : Reloc → Bool) → test r ≡ true → list_any test s.relocs ≡ true

module _ (p : ParsedInputs) where
  pub reloc_leader : {o i : ℕ} {s : SectionParts} {r : Reloc} (to : Place) → AsksIn p o i s r → target_of p o r ≡ Code to → is_leader_at p to ≡ true
  unfolding is_leader_at
  reloc_leader {o} {i} {s} {r} to by leads =
      let asks = by.asks in
      let cut = cut_at p.objects o i s by.found in
      let mine : reloc_leads p to o r ≡ true = (λ j. not (asks j) && is_place to (leads j)) ∙ same_place-refl to in
      let own : section_leads p to (listed o i s) ≡ true = by.among (reloc_leads p to o) mine in
      let some : list_any (section_leads p to) (all_sections p.objects) ≡ true =
      ap (list_any (section_leads p to)) cut.all_are ∙ any_there (section_leads p to) (sections_before p.objects o i) cut.rest (listed o i s) own in
      or_right (eqb to.offset 0 && is_target_at p.objects to) _ (or_left (list_any (section_leads p to) (all_sections p.objects)) _ some)

  -- a relocation that asks for something is the one at its offset of code
  pub asks_at :
      (q : Place) (s : SectionParts) (r : Reloc) → code_at p.objects q ≡ Some s → reloc_on s q.offset ≡ Some r → is_ignored (kind_of r.kind) ≡ false
      → AsksIn p q.object q.section s r
  unfolding reloc_on
  asks_at q s r at on asks = record {
    found = (code_is_section p.objects q s at).0;
    asks = asks;
    among = λ test is. any_found _ test s.relocs r on is;
  }

  -- what stands at a place
  pub item_leader :
      (q to : Place) (i : Item) → item_at p q ≡ Some i → (goes_to to i || (ends_block i && same_place (next_at p.objects q) to)) ≡ true
      → is_leader_at p to ≡ true
  unfolding is_leader_at
  item_leader q to i is leads =
      let found = item_found p q i is in
      let s = found.section in
      let section = code_is_section p.objects q s found.code in
      let cut = cut_at p.objects q.object q.section s section.0 in
      let l = listed q.object q.section s in
      let one : item_leads p to q ≡ true = ap (λ o. option_map_or (λ x. goes_to to x || (ends_block x && same_place (next_at p.objects q) to)) o false) is ∙ leads in
      let among : list_any (item_leads p to) (map (place_of l) (starts_in s)) ≡ true = any_offset (item_leads p to) (place_of l) (starts_in s) q.offset found.start one in
      let here : list_any (item_leads p to) (places_of l) ≡ true = ap (λ b. list_any (item_leads p to) (cond b (map (place_of l) (starts_in s)) [])) section.1 ∙ among in
      let some : list_any (item_leads p to) (all_places p.objects) ≡ true =
      ap (λ ls. list_any (item_leads p to) (flat_map places_of ls)) cut.all_are
      ∙ any_flat (item_leads p to) places_of (sections_before p.objects q.object q.section) cut.rest l here in
      or_right (eqb to.offset 0 && is_target_at p.objects to) _
      (or_right (list_any (section_leads p to) (all_sections p.objects)) _ (or_left (list_any (item_leads p to) (all_places p.objects)) _ some))

  -- where a section starts
  pub first_leader : (q : Place) → q.offset ≡ 0 → is_target_at p.objects q ≡ true → is_leader_at p q ≡ true
  unfolding is_leader_at
  first_leader q first target =
      or_left (eqb q.offset 0 && is_target_at p.objects q) _ (and_from (eqb q.offset 0) (is_target_at p.objects q) (eq-eqb q.offset 0 first) target)

  -- a place that begins a basic block is one that a program may name
  pub leader_named : (to : Place) → is_target_at p.objects to ≡ true → is_leader_at p to ≡ true → IsNamed p to
  leader_named to target leader = by (or_cases (is_start_at p.objects to) (is_end_at p.objects to) target)
    where
      starts : (o : Option SectionParts) → code_at p.objects to ≡ o → option_map_or (λ s. starts_on s to.offset) o false ≡ true → IsNamed p to
      starts None at h = absurd cc
      starts (Some s) at h = inl (rw (item_there p to s at h) refl, rw leader refl)

      by : (is_start_at p.objects to ≡ true) ⊎ (is_end_at p.objects to ≡ true) → IsNamed p to
      by (inl start) = starts (code_at p.objects to) refl start
      by (inr end) = inr (rw end refl)
