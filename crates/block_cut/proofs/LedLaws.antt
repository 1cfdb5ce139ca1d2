-- Places that are added: in turn, one relocation, word or symbol after another, and those of all sections and symbols.
use Rattle.std.proofs.Common.{◌≡◌, ℕ, ◌+◌, ◌<◌, ◌≤◌, ◌/◌, ◌%◌, List, [], ◌∷◌, length, get_or, set, map, filter, take, Bool, true, false, cond, Option, Some, None, slice_get, refl, sym, ap, ◌∙◌, arith, eqb, inl, inr}
use Rattle.std.specs.Prelude.{Contains, ◌&&◌, ◌||◌}
use Rattle.std.specs.List.{flat_map, list_any}
use Rattle.std.specs.Option.{option_map, option_map_or}
use Rattle.std.proofs.Math.Bool.{or-false, or_assoc}
use Rattle.std.proofs.lemmas.Bool.{and_parts, cases_eq, eq-eqb, eqb-false, eqb-true, false≢true, ne_eqb}
use Rattle.std.proofs.lemmas.List.{get_or-set_other, get_or-set_same, length-map, take_all}
use Rattle.std.proofs.lemmas.List.Elements.{Contains-push_cases}
use Rattle.std.proofs.lemmas.List.Folds.{list_any-append, list_any_at}
use Rattle.std.proofs.lemmas.Option.{get_or_from_slice_get, slice_get-get_or, slice_get-map, slice_get_within}
use Rattle.zc_base.specs.Places.{same_place}
use Rattle.zc_base.specs.declared.place.Place.{Place}
use Rattle.elf32_read.specs.Parts.{ObjectParts, SectionParts, is_code_section, object_parts}
use Rattle.elf32_read.specs.declared.reloc.Reloc.{Reloc}
use Rattle.psabi_sym.specs.Faults.{gather_fault}
use Rattle.psabi_sym.specs.Inputs.{Inputs, ParsedInputs, parsed}
use Rattle.psabi_sym.specs.Indexed.{IndexedSection, IndexedSymbol, IsSectionNumber, all_sections, all_symbols, section_at, symbols_in}
use Rattle.psabi_sym.specs.Invariants.Rows.{section_starts}
use Rattle.psabi_sym.proofs.FlatLaws.{length-parsed, parsed_more, symbols_push}
use Rattle.psabi_sym.proofs.UsedLaws.{any_next}
use Rattle.psabi_sym.proofs.SectionNumbers.{has_number, listed_at, number_of_section}
use Rattle.block_cut.specs.Items.{code_at, is_target_at, item_at, item_in, next_at, place_of, places_of, size_at, starts_in, starts_on, target_of, targets_in}
use Rattle.block_cut.specs.Leaders.{ends_block, goes_to, is_leader_at, is_led_to, is_place, item_leads, reloc_leads, section_leads}
use Rattle.block_cut.specs.Invariants.Led.{AddsPlaces, has_place, is_marked, mark_at, mark_in, section_number}
use Rattle.block_cut.specs.Places.{code_place, code_places}
use Rattle.block_cut.specs.Resolved.{asks, resolved_reloc, resolved_relocs}
use Rattle.block_cut.specs.declared.code_place.CodePlace.{CodePlace}
use Rattle.block_cut.specs.declared.item.Item.{Item}
use Rattle.block_cut.specs.declared.leaders.Leaders.{Leaders}
use Rattle.block_cut.proofs.ApartLaws.{contains_at}
use Rattle.block_cut.proofs.ItemLaws.{item_at-code}
use Rattle.block_cut.proofs.ListedLaws.{listed}
use Rattle.block_cut.proofs.StartLaws.{start_is}
use Rattle.block_cut.proofs.WholeLaws.{code_at_is, inputs_whole}

-- ---- lists

-- a test of all that the elements have
pub any_flat : {X Y : Type 0} (p : Y → Bool) (h : X → List Y) (xs : List X) → list_any p (flat_map h xs) ≡ list_any (λ x. list_any p (h x)) xs
any_flat p h [] = refl
any_flat p h (x ∷ xs) = list_any-append p (h x) (flat_map h xs) ∙ ap (λ b. list_any p (h x) || b) (any_flat p h xs)

-- a test of the values of some numbers
pub any_mapped : {X : Type 0} (p : X → Bool) (f : ℕ → X) (xs : List ℕ) → list_any (λ n. p (f n)) xs ≡ list_any p (map f xs)
any_mapped p f [] = refl
any_mapped p f (n ∷ xs) = ap (λ b. p (f n) || b) (any_mapped p f xs)

-- ---- numbers of sections

-- places that are the same have the same parts
pub same_is : (p q : Place) → same_place p q ≡ true → (p.object ≡ q.object) × (p.section ≡ q.section) × (p.offset ≡ q.offset)
same_is p q is =
    let two = and_parts (eqb p.object q.object) _ is in
    let rest = and_parts (eqb p.section q.section) (eqb p.offset q.offset) two.1 in
    (eqb-true p.object q.object two.0, eqb-true p.section q.section rest.0, eqb-true p.offset q.offset rest.1)

-- the number that was found is that of a place's section
pub number_is : (objects : List ObjectParts) (q : Place) (number : Option ℕ) → IsSectionNumber objects q.object q.section number → section_number objects q ≡ number
number_is objects q None is = ap (option_map (λ s. section_starts objects q.object + q.section)) is
number_is objects q (Some k) is =
    ap (option_map (λ s. section_starts objects q.object + q.section)) is.1 ∙ ap Some (sym (has_number objects k (listed q.object q.section is.0) is.2).place)

-- a section's number among all is that of its places
pub number_listed : (objects : List ObjectParts) (k : ℕ) (l : IndexedSection) → slice_get (all_sections objects) k ≡ Some l → section_number objects (place_of l 0) ≡ Some k
number_listed objects k l at = number_is objects (place_of l 0) (Some k) (l.section, listed_at objects k l at, at)

-- the section with a number at a place
pub section_numbered : (objects : List ObjectParts) (q : Place) (k : ℕ) → section_number objects q ≡ Some k
    → (s : SectionParts) × (slice_get (all_sections objects) k ≡ Some (listed q.object q.section s))
section_numbered objects q k is = by (section_at objects q.object q.section) refl is
  where
    by : (o : Option SectionParts) → section_at objects q.object q.section ≡ o → option_map (λ s. section_starts objects q.object + q.section) o ≡ Some k
        → (s : SectionParts) × (slice_get (all_sections objects) k ≡ Some (listed q.object q.section s))
    by None found is = absurd cc
    by (Some s) found is =
        let own = number_of_section objects q.object q.section s found in
        let number : own.0 ≡ section_starts objects q.object + q.section = (has_number objects own.0 (listed q.object q.section s) own.1).place in
        let same : own.0 ≡ k = cc (number, is) in
        (s, ap (slice_get (all_sections objects)) (sym same) ∙ own.1)

-- two places with the same number lie in one section
pub one_section : (objects : List ObjectParts) (p q : Place) (k : ℕ) → section_number objects p ≡ Some k → section_number objects q ≡ Some k → (p.object ≡ q.object) × (p.section ≡ q.section)
one_section objects p q k first second =
    let one = section_numbered objects p k first in
    let other = section_numbered objects q k second in
    let same : Some (listed p.object p.section one.0) ≡ Some (listed q.object q.section other.0) = sym one.1 ∙ other.1 in
    let are : listed p.object p.section one.0 ≡ listed q.object q.section other.0 = cc in
    (ap (λ l. l.object) are, ap (λ l. l.index) are)

-- places that are the same lie in one section
section_same : (objects : List ObjectParts) (p q : Place) → same_place p q ≡ true → section_number objects p ≡ section_number objects q
section_same objects p q e =
    let are = same_is p q e in
    λ j. section_number objects (record { object = are.0 j; section = are.1 j; offset = are.2 j })

-- places at halfwords of one section are the same if their halfwords are
halfword_same : (p q : Place) → p.object ≡ q.object → p.section ≡ q.section → p.offset % 2 ≡ 0 → q.offset % 2 ≡ 0 → eqb (q.offset / 2) (p.offset / 2) ≡ same_place p q
halfword_same p q object section first second =
    offset (eqb (q.offset / 2) (p.offset / 2)) refl
    ∙ sym ((λ j. eq-eqb p.object q.object object j && (eq-eqb p.section q.section section j && eqb p.offset q.offset)))
  where
    offset : (b : Bool) → eqb (q.offset / 2) (p.offset / 2) ≡ b → eqb (q.offset / 2) (p.offset / 2) ≡ eqb p.offset q.offset
    offset true is = is ∙ sym (eq-eqb p.offset q.offset (omega (arith, first, second, eqb-true (q.offset / 2) (p.offset / 2) is)))
    offset false is = is ∙ sym (ne_eqb p.offset q.offset (λ e. eqb-false (q.offset / 2) (p.offset / 2) is (ap (λ n. n / 2) (sym e))))

-- nothing is marked if no halfword is
pub none_marked : (objects : List ObjectParts) (sections : List (List Bool)) → ((n k : ℕ) → mark_in sections n k ≡ false) → (q : Place) → is_marked objects sections q ≡ false
none_marked objects sections none q = by (eqb (q.offset % 2) 0) (section_number objects q)
  where
    by : (b : Bool) (o : Option ℕ) → (b && option_map_or (λ n. mark_in sections n (q.offset / 2)) o false) ≡ false
    by false o = refl
    by true None = refl
    by true (Some n) = none n (q.offset / 2)

-- the mark at a place at a halfword, by its section's number
pub marked_at : (objects : List ObjectParts) (sections : List (List Bool)) (p : Place) (k : ℕ) → p.offset % 2 ≡ 0 → section_number objects p ≡ Some k → is_marked objects sections p ≡ mark_in sections k (p.offset / 2)
marked_at objects sections p k even number = λ j. eq-eqb (p.offset % 2) 0 even j && option_map_or (λ n. mark_in sections n (p.offset / 2)) (number j) false

-- a halfword of a section is marked, or stays as it was
pub marked_more : (objects : List ObjectParts) (sections : List (List Bool)) (p : Place) (k : ℕ) (new : List Bool) (marked : Bool) → p.offset % 2 ≡ 0 → section_number objects p ≡ Some k → k < length sections
    → ((n : ℕ) → mark_at new n ≡ (mark_at (get_or sections k []) n || (marked && eqb n (p.offset / 2)))) → (q : Place)
    → is_marked objects (set sections k new) q ≡ (is_marked objects sections q || (marked && same_place p q))
marked_more objects sections p k new marked even number within here q = by (eqb (q.offset % 2) 0) (section_number objects q) refl refl
  where
    apart : same_place p q ≡ false → (b : Bool) → b ≡ (b || (marked && same_place p q))
    apart other b = sym (ap (λ s. b || (marked && s)) other ∙ tail b marked)
      where
        tail : (b m : Bool) → (b || (m && false)) ≡ b
        tail true m = refl
        tail false true = refl
        tail false false = refl

    there : (e : Bool) → same_place p q ≡ e → (e ≡ true → ⊥) → same_place p q ≡ false
    there true is never = absurd (never refl)
    there false is never = is

    by : (b : Bool) (o : Option ℕ) → eqb (q.offset % 2) 0 ≡ b → section_number objects q ≡ o
        → (b && option_map_or (λ n. mark_in (set sections k new) n (q.offset / 2)) o false) ≡ ((b && option_map_or (λ n. mark_in sections n (q.offset / 2)) o false) || (marked && same_place p q))
    by false o odd is = apart (there (same_place p q) refl (λ e. absurd (false≢true (sym odd ∙ eq-eqb (q.offset % 2) 0 (ap (λ n. n % 2) (sym (same_is p q e).2) ∙ even))))) false
    by true None even_q is = apart (there (same_place p q) refl (λ e. absurd (cc (section_same objects p q e, number, is)))) false
    by true (Some n) even_q is = elim (cases_eq n k) [
      | inl e ↦
          let lie = one_section objects p q k number (is ∙ ap Some e) in
          ap (λ m. mark_in (set sections k new) m (q.offset / 2)) e
          ∙ ap (λ marks. mark_at marks (q.offset / 2)) (get_or-set_same sections k new [] within)
          ∙ here (q.offset / 2)
          ∙ ap (λ b. mark_in sections k (q.offset / 2) || (marked && b)) (halfword_same p q lie.0 lie.1 even (eqb-true (q.offset % 2) 0 even_q))
          ∙ ap (λ m. mark_in sections m (q.offset / 2) || (marked && same_place p q)) (sym e)
      | inr ne ↦
          ap (λ marks. mark_at marks (q.offset / 2)) (get_or-set_other sections k n new [] ne)
          ∙ apart (there (same_place p q) refl (λ e. ne (cc (section_same objects p q e, number, is)))) (mark_in sections n (q.offset / 2))
    ]

-- ---- places that are added

module _ (objects : List ObjectParts) where
  -- none
  pub adds_none : (leaders : Leaders) → AddsPlaces objects (λ q. false) leaders leaders
  adds_none leaders q = sym (or-false (has_place objects leaders q))

  -- by a test that says the same
  pub adds_same : (f g : Place → Bool) (old new : Leaders) → ((q : Place) → f q ≡ g q) → AddsPlaces objects f old new → AddsPlaces objects g old new
  adds_same f g old new same adds q = adds q ∙ ap (λ b. has_place objects old q || b) (same q)

  -- places that are added in two steps
  pub adds_more : (f g : Place → Bool) (old mid new : Leaders) → AddsPlaces objects f old mid → AddsPlaces objects g mid new → AddsPlaces objects (λ q. f q || g q) old new
  adds_more f g old mid new first then q = then q ∙ ap (λ b. b || g q) (first q) ∙ or_assoc (has_place objects old q) (f q) (g q)

  -- the places of one element more
  pub adds_next : {X : Type 0} (leads : Place → X → Bool) (xs : List X) (k : ℕ) (x : X) (old mid new : Leaders) → slice_get xs k ≡ Some x
      → AddsPlaces objects (λ q. list_any (leads q) (take k xs)) old mid → AddsPlaces objects (λ q. leads q x) mid new → AddsPlaces objects (λ q. list_any (leads q) (take (k + 1) xs)) old new
  adds_next leads xs k x old mid new at first then =
      adds_same (λ q. list_any (leads q) (take k xs) || leads q x) (λ q. list_any (leads q) (take (k + 1) xs)) old new (λ q. sym (any_next (leads q) xs k x at))
      (adds_more (λ q. list_any (leads q) (take k xs)) (λ q. leads q x) old mid new first then)

  -- after the last there are all
  pub adds_all : {X : Type 0} (leads : Place → X → Bool) (xs : List X) (k : ℕ) (old new : Leaders) → length xs ≤ k
      → AddsPlaces objects (λ q. list_any (leads q) (take k xs)) old new → AddsPlaces objects (λ q. list_any (leads q) xs) old new
  adds_all leads xs k old new past = adds_same (λ q. list_any (leads q) (take k xs)) (λ q. list_any (leads q) xs) old new (λ q. ap (list_any (leads q)) (take_all k xs past))

-- ---- items

-- where the item at a place leads
pub item_leads_at : (inputs : ParsedInputs) (p : Place) (i : Item) → item_at inputs p ≡ Some i → (q : Place)
    → item_leads inputs q p ≡ (goes_to q i || (ends_block i && same_place (record p { offset = p.offset + size_at inputs.objects p }) q))
item_leads_at inputs p i at q = ap (λ o. option_map_or (λ i. goes_to q i || (ends_block i && same_place (next_at inputs.objects p) q)) o false) at

-- nothing leads anywhere where no item starts
pub item_leads_none : (inputs : ParsedInputs) (p : Place) → item_at inputs p ≡ None → (q : Place) → item_leads inputs q p ≡ false
item_leads_none inputs p at q = ap (λ o. option_map_or (λ i. goes_to q i || (ends_block i && same_place (next_at inputs.objects p) q)) o false) at

-- the offsets of a section's places; what isn't code has none
abbrev pub offsets_of : IndexedSection → List ℕ
offsets_of l = cond (is_code_section l.section) (targets_in l.section) []

pub places_are : (inputs : ParsedInputs) (l : IndexedSection) → code_places inputs l ≡ map (code_place inputs l) (offsets_of l)
places_are inputs l = by (is_code_section l.section)
  where
    by : (b : Bool) → cond b (map (code_place inputs l) (targets_in l.section)) [] ≡ map (code_place inputs l) (cond b (targets_in l.section) [])
    by true = refl
    by false = refl

-- a section's place with number k is that at an offset n
pub record IsPlaceGot (inputs : ParsedInputs) (l : IndexedSection) (k : ℕ) (place : CodePlace) : Type 0 where
  pub n : ℕ
  pub at : slice_get (offsets_of l) k ≡ Some n
  pub held : Contains (offsets_of l) n
  pub is : place ≡ code_place inputs l n
  pub offset : place.offset ≡ n

pub place_got : (inputs : ParsedInputs) (l : IndexedSection) (places : List CodePlace) → places ≡ code_places inputs l → (k : ℕ) (place : CodePlace) → k < length places → place ≡ get_or places k place
    → IsPlaceGot inputs l k place
place_got inputs l places are k place within is =
    let all = are ∙ places_are inputs l in
    let inside : k < length (offsets_of l) = omega (arith, ap length all, length-map (offsets_of l) (code_place inputs l), within) in
    let n = get_or (offsets_of l) k 0 in
    let at : slice_get (offsets_of l) k ≡ Some n = slice_get-get_or (offsets_of l) k 0 inside in
    let there : slice_get places k ≡ Some (code_place inputs l n) = ap (λ ps. slice_get ps k) all ∙ slice_get-map (code_place inputs l) (offsets_of l) k ∙ ap (option_map (code_place inputs l)) at in
    let own : place ≡ code_place inputs l n = is ∙ get_or_from_slice_get places k (code_place inputs l n) place there in
    record { n = n; at = at; held = contains_at (offsets_of l) k n at; is = own; offset = ap (λ p. p.offset) own }

module _ (inputs : Inputs) (l : IndexedSection) (none : gather_fault inputs ≡ None) (found : section_at (parsed inputs).objects l.object l.index ≡ Some l.section) where
  module _ (code : is_code_section l.section ≡ true) where
    -- no offset lies past the section's end
    offset_within : (n : ℕ) → Contains (targets_in l.section) n → n ≤ length l.section.bytes
    offset_within n held = elim (Contains-push_cases (starts_in l.section) (length l.section.bytes) n held) [
      | inl start ↦
          let there = list_any_at (λ m. eqb m n) (starts_in l.section) start.0 n start.1 (eq-eqb _ n start.2) in
          omega (arith, (start_is l.section code (inputs_whole inputs l.object l.index l.section none found code) n there).inside)
      | inr end ↦ omega (arith, end)
    ]

    -- no item starts at the section's end
    end_none : item_at (parsed inputs) (place_of l (length l.section.bytes)) ≡ None
    end_none =
        let n = length l.section.bytes in
        let here : code_at (parsed inputs).objects (place_of l n) ≡ Some l.section = code_at_is (parsed inputs).objects (place_of l n) l.section found code in
        item_at-code (parsed inputs) (place_of l n) l.section here
        ∙ by (starts_on l.section n) refl
      where
        by : (b : Bool) → starts_on l.section (length l.section.bytes) ≡ b → cond b (Some (item_in (parsed inputs) l.section (place_of l (length l.section.bytes)))) None ≡ None
        by false at = refl
        by true at = absurd (omega (arith, (start_is l.section code (inputs_whole inputs l.object l.index l.section none found code) (length l.section.bytes) at).inside))

    -- a section's end leads nowhere
    end_leads : (q : Place) → list_any (λ n. item_leads (parsed inputs) q (place_of l n)) (targets_in l.section) ≡ list_any (item_leads (parsed inputs) q) (map (place_of l) (starts_in l.section))
    end_leads q =
        let f : ℕ → Bool = λ n. item_leads (parsed inputs) q (place_of l n) in
        list_any-append f (starts_in l.section) (length l.section.bytes ∷ [])
        ∙ ap (λ b. list_any f (starts_in l.section) || (b || false)) (item_leads_none (parsed inputs) (place_of l (length l.section.bytes)) end_none q)
        ∙ or-false (list_any f (starts_in l.section))
        ∙ any_mapped (item_leads (parsed inputs) q) (place_of l) (starts_in l.section)

  -- places of a section are few
  pub offset_few : (n : ℕ) → Contains (offsets_of l) n → n ≤ 0x40_0000
  offset_few n held = by (is_code_section l.section) refl held
    where
      by : (b : Bool) → is_code_section l.section ≡ b → Contains (cond b (targets_in l.section) []) n → n ≤ 0x40_0000
      by true code held = omega (arith, offset_within code n held, (inputs_whole inputs l.object l.index l.section none found code).short)
      by false code held = absurd (omega (arith, held.1))

  -- items lead where those at all places do
  pub items_lead : (q : Place) → list_any (λ n. item_leads (parsed inputs) q (place_of l n)) (offsets_of l) ≡ list_any (item_leads (parsed inputs) q) (places_of l)
  items_lead q = by (is_code_section l.section) refl
    where
      by : (b : Bool) → is_code_section l.section ≡ b
          → list_any (λ n. item_leads (parsed inputs) q (place_of l n)) (cond b (targets_in l.section) []) ≡ list_any (item_leads (parsed inputs) q) (cond b (map (place_of l) (starts_in l.section)) [])
      by true code = end_leads code q
      by false code = refl

-- relocations that are decided lead where all do
pub relocs_lead : (inputs : ParsedInputs) (l : IndexedSection) (q : Place) → list_any (λ d. is_place q d.target) (resolved_relocs inputs l) ≡ section_leads inputs q l
relocs_lead inputs l q = all l.section.relocs
  where
    all : (rs : List Reloc) → list_any (λ d. is_place q d.target) (map (resolved_reloc inputs l) (filter asks rs)) ≡ list_any (reloc_leads inputs q l.object) rs
    all [] = refl
    all (r ∷ rs) = by (asks r) (all rs)
      where
        by : (b : Bool) → list_any (λ d. is_place q d.target) (map (resolved_reloc inputs l) (filter asks rs)) ≡ list_any (reloc_leads inputs q l.object) rs
            → list_any (λ d. is_place q d.target) (map (resolved_reloc inputs l) (cond b (r ∷ filter asks rs) (filter asks rs))) ≡ ((b && is_place q (target_of inputs l.object r)) || list_any (reloc_leads inputs q l.object) rs)
        by true rest = ap (λ b. is_place q (target_of inputs l.object r) || b) rest
        by false rest = rest

-- ---- sections and symbols

-- an item of a section leads to a place
abbrev pub items_from : ParsedInputs → Place → IndexedSection → Bool
items_from inputs q l = list_any (item_leads inputs q) (places_of l)

-- a symbol of one object more
pub symbols_more : (inputs : Inputs) (i : ℕ) (file : List ℕ) → slice_get inputs.files i ≡ Some file → (p : IndexedSymbol → Bool)
    → list_any p (all_symbols (take (i + 1) (parsed inputs).objects)) ≡ (list_any p (all_symbols (take i (parsed inputs).objects)) || list_any p (symbols_in (i, object_parts file)))
symbols_more inputs i file at p =
    let objects = (parsed inputs).objects in
    let within = slice_get_within inputs.files i file at in
    ap (λ l. list_any p (all_symbols l)) (parsed_more object_parts inputs.files i file within (sym (get_or_from_slice_get inputs.files i file file at)))
    ∙ ap (list_any p) (symbols_push (take i objects) (object_parts file))
    ∙ list_any-append p (all_symbols (take i objects)) (symbols_in (length (take i objects), object_parts file))
    ∙ ap (λ n. list_any p (all_symbols (take i objects)) || list_any p (symbols_in (n, object_parts file))) (length-parsed object_parts inputs.files i (omega (arith, within)))

-- no object has no symbols
pub no_symbols : (objects : List ObjectParts) (p : IndexedSymbol → Bool) → list_any p (all_symbols (take 0 objects)) ≡ false
unfolding all_symbols
no_symbols objects p = refl

-- a basic block begins where a section starts, and there
pub leader_is : (inputs : ParsedInputs) (q : Place) → is_leader_at inputs q ≡ ((eqb q.offset 0 && is_target_at inputs.objects q) || is_led_to inputs q)
unfolding is_leader_at
leader_is inputs q = refl
