-- Numbers rise with the places where code may lead: one that comes later has no lesser number, and one that comes after an item, or lies in a later
-- section, a greater one. So each of these places has a number of its own (`numbers_apart`).
use Rattle.std.proofs.Common.{◌≡◌, ◌+◌, ◌<◌, ◌≤◌, ◌⊎◌, inl, inr, List, ◌∷◌, length, Bool, true, false, cond, Option, None, Some, refl, sym, ap, ◌∙◌, arith, eqb, ltb}
use Rattle.std.specs.Prelude.{◌||◌}
use Rattle.std.specs.List.{sum_by}
use Rattle.std.specs.Option.{option_map_or}
use Rattle.std.proofs.lemmas.Bool.{eqb-true}
use Rattle.std.proofs.lemmas.List.Sums.{sum_by-append, sum_by-cons}
use Rattle.zc_base.specs.Places.{is_before}
use Rattle.zc_base.specs.declared.place.Place.{Place}
use Rattle.elf32_read.specs.Parts.{ObjectParts, SectionParts}
use Rattle.psabi_sym.specs.Faults.{gather_fault}
use Rattle.psabi_sym.specs.Inputs.{Inputs, ParsedInputs, parsed}
use Rattle.psabi_sym.specs.Indexed.{sections_before}
use Rattle.block_cut.specs.Items.{code_at, is_end_at, is_start_at, is_target_at, item_at, starts_in, starts_on}
use Rattle.block_cut.specs.declared.item.Item.{Item}
use Rattle.block_cut.proofs.ItemLaws.{item_found}
use Rattle.block_cut.proofs.ListedLaws.{between, listed}
use Rattle.block_cut.proofs.PlaceOrder.{IsOrdered, Earlier, Within, ordered, same_or_before}
use Rattle.block_cut.proofs.StartLaws.{start_is}
use Rattle.block_cut.proofs.WholeLaws.{code_is_section, code_whole}
use Rattle.block_cut.proofs.WordLaws.{target_nowhere}
use Rattle.shrink_layout.specs.Pieces.{piece_count, piece_number_at, pieces_before}
use Rattle.shrink_layout.proofs.NumberLaws.{below_more, below_rises, filter_few, item_target, number-code, number-nowhere}

-- ---- numbers

-- where code may lead is a section of code
pub target_code : (objects : List ObjectParts) (q : Place) → is_target_at objects q ≡ true → (s : SectionParts) × (code_at objects q ≡ Some s)
target_code objects q target = by (code_at objects q) refl
  where
    by : (o : Option SectionParts) → code_at objects q ≡ o → (s : SectionParts) × (code_at objects q ≡ Some s)
    by None at = absurd (cc (target, target_nowhere objects q at))
    by (Some s) at = (s, at)

module _ (objects : List ObjectParts) (q r : Place) (from_target : is_target_at objects q ≡ true) (to_target : is_target_at objects r ≡ true) where
  abbrev s : SectionParts
  s = (target_code objects q from_target).0

  abbrev from_code : code_at objects q ≡ Some s
  from_code = (target_code objects q from_target).1

  abbrev t : SectionParts
  t = (target_code objects r to_target).0

  abbrev to_code : code_at objects r ≡ Some t
  to_code = (target_code objects r to_target).1

  -- a place in a later section has a greater number, since the padding before that section comes between
  later_section : (q.object < r.object) ⊎ ((q.object ≡ r.object) × (q.section < r.section)) → piece_number_at objects q < piece_number_at objects r
  later_section order =
      let two = code_is_section objects q s from_code in
      let other = code_is_section objects r t to_code in
      let more = between objects q.object q.section s r.object r.section t two.0 other.0 order in
      let before = sections_before objects q.object q.section in
      let l = listed q.object q.section s in
      let own : piece_count l ≡ 1 + length (starts_in s) = ap (λ b. cond b (1 + length (starts_in s)) 0) two.1 in
      omega (
        arith,
        number-code objects q s from_target from_code,
        number-code objects r t to_target to_code,
        ap (sum_by piece_count) more.are,
        sum_by-append piece_count before (l ∷ more.rest),
        sum_by-cons piece_count l more.rest,
        own,
        filter_few (λ m. ltb m q.offset) (starts_in s),
      )

  -- in the same section the starts before it count
  same_section : q.object ≡ r.object → q.section ≡ r.section → piece_number_at objects r ≡ pieces_before objects q.object q.section s r.offset
  same_section object section =
      let same : s ≡ t = cc (sym from_code ∙ (λ j. code_at objects (record { object = object j; section = section j; offset = 0 })) ∙ to_code) in
      number-code objects r t to_target to_code ∙ (λ j. pieces_before objects (sym object j) (sym section j) (sym same j) r.offset)

  -- a place that comes later has no lesser number
  pub number_rises : is_before q r ≡ true → piece_number_at objects q ≤ piece_number_at objects r
  number_rises before = by (ordered q r before)
    where
      by : IsOrdered q r → piece_number_at objects q ≤ piece_number_at objects r
      by (Earlier order) = omega (arith, later_section order)
      by (Within object section lt) =
          omega (arith, number-code objects q s from_target from_code, same_section object section, below_rises q.offset r.offset (starts_in s) (omega (arith, lt)))

-- a place after an item has a greater number than the item's place
pub number_rises_past : (inputs : ParsedInputs) (q r : Place) (i : Item) → item_at inputs q ≡ Some i → is_target_at inputs.objects r ≡ true → is_before q r ≡ true → piece_number_at inputs.objects q < piece_number_at inputs.objects r
number_rises_past inputs q r i is to_target before = by (ordered q r before)
  where
    from_target : is_target_at inputs.objects q ≡ true
    from_target = item_target inputs q i is

    by : IsOrdered q r → piece_number_at inputs.objects q < piece_number_at inputs.objects r
    by (Earlier order) = later_section inputs.objects q r from_target to_target order
    by (Within object section lt) =
        let found = item_found inputs q i is in
        let s = (target_code inputs.objects q from_target).0 in
        let same : found.section ≡ s = cc (found.code, (target_code inputs.objects q from_target).1) in
        omega (
          arith,
          number-code inputs.objects q s from_target (target_code inputs.objects q from_target).1,
          same_section inputs.objects q r from_target to_target object section,
          below_more q.offset r.offset (starts_in s) lt (ap (λ x. starts_on x q.offset) (sym same) ∙ found.start),
        )

-- ---- numbers of their own

module _ (inputs : Inputs) (none : gather_fault inputs ≡ None) where
  abbrev objects : List ObjectParts
  objects = (parsed inputs).objects

  start_on : (q : Place) (s : SectionParts) → code_at objects q ≡ Some s → is_start_at objects q ≡ true → starts_on s q.offset ≡ true
  start_on q s here start = ap (λ o. option_map_or (λ t. starts_on t q.offset) o false) (sym here) ∙ start

  end_on : (q : Place) (s : SectionParts) → code_at objects q ≡ Some s → is_end_at objects q ≡ true → q.offset ≡ length s.bytes
  end_on q s here end = eqb-true q.offset (length s.bytes) (ap (λ o. option_map_or (λ t. eqb q.offset (length t.bytes)) o false) (sym here) ∙ end)

  -- no offset where code may lead is beyond the section's end
  offset_most : (q : Place) (s : SectionParts) → code_at objects q ≡ Some s → is_target_at objects q ≡ true → q.offset ≤ length s.bytes
  offset_most q s here target = by (is_start_at objects q) refl target
    where
      by : (b : Bool) → is_start_at objects q ≡ b → (b || is_end_at objects q) ≡ true → q.offset ≤ length s.bytes
      by true start h =
          let inside = (start_is s (code_is_section objects q s here).1 (code_whole inputs q s none here) q.offset (start_on q s here start)).inside in
          omega (arith, inside)
      by false other h = omega (arith, end_on q s here h)

  -- of two such places the later one has the greater number
  number_less : (q r : Place) → is_target_at objects q ≡ true → is_target_at objects r ≡ true → is_before q r ≡ true → piece_number_at objects q < piece_number_at objects r
  number_less q r target other before = by (ordered q r before)
    where
      s : SectionParts
      s = (target_code objects q target).0

      here : code_at objects q ≡ Some s
      here = (target_code objects q target).1

      within : (object : q.object ≡ r.object) (section : q.section ≡ r.section) → q.offset < r.offset → (b : Bool) → is_start_at objects q ≡ b → (b || is_end_at objects q) ≡ true
          → piece_number_at objects q < piece_number_at objects r
      within object section lt true start h =
          omega (
            arith,
            number-code objects q s target here,
            same_section objects q r target other object section,
            below_more q.offset r.offset (starts_in s) lt (start_on q s here start),
          )
      within object section lt false no_start h =
          let there = target_code objects r other in
          let same : s ≡ there.0 = cc (sym here ∙ (λ j. code_at objects (record { object = object j; section = section j; offset = 0 })) ∙ there.1) in
          absurd (omega (arith, lt, end_on q s here h, ap (λ (t : SectionParts). length t.bytes) same, offset_most r there.0 there.1 other))

      by : IsOrdered q r → piece_number_at objects q < piece_number_at objects r
      by (Earlier order) = later_section objects q r target other order
      by (Within object section lt) = within object section lt (is_start_at objects q) refl target

  -- two such places with one number are one place
  pub numbers_apart : (q r : Place) → is_target_at objects q ≡ true → piece_number_at objects q ≡ piece_number_at objects r → q ≡ r
  numbers_apart q r target same = by (is_target_at objects r) refl
    where
      by : (b : Bool) → is_target_at objects r ≡ b → q ≡ r
      by true other = elim (same_or_before q r) [
        | inl before ↦ absurd (omega (arith, same, number_less q r target other before))
        | inr (inl after) ↦ absurd (omega (arith, same, number_less r q other target after))
        | inr (inr is) ↦ is
      ]
      by false nowhere =
          let there = target_code objects q target in
          absurd (omega (arith, same, number-code objects q there.0 target there.1, number-nowhere objects r nowhere))
