-- Addresses in the plain layout. In inputs without a fault between objects:
-- - `next_start`: the place after an item is where an item starts, or its section's end;
-- - `next_address`: its address is the one after the item;
-- - `address_bounds`: addresses are even, from the text's start to the plain end, which is 256 KiB away at most;
-- - `rises`, `rises_past`: addresses rise with places, and what comes after an item lies past its bytes;
-- - `apart`: two places with one address are the same, or the first of them is padding's or a section's end.
use Rattle.std.proofs.Common.{◌≡◌, ℕ, ◌+◌, ◌-◌, ◌%◌, ◌<◌, ◌≤◌, ◌⊎◌, List, [], ◌∷◌, ◌++◌, length, filter, map, max, Bool, true, false, cond, Option, Some, None, refl, sym, ap, subst, ◌∙◌, arith, eqb, ltb, eq-eqb, inl, inr}
use Rattle.std.specs.Prelude.{◌||◌}
use Rattle.std.specs.List.{fold}
use Rattle.std.specs.Option.{option_map, option_map_or}
use Rattle.std.proofs.lemmas.Bool.{cases_eq, cases_lt, eqb-true}
use Rattle.std.proofs.lemmas.List.Sums.{fold-append}
use Rattle.std.proofs.lemmas.Nat.Gcd.{dvd_of_mod-eq-zero}
use Rattle.std.proofs.Math.Nat.{mod-mod_of_dvd}
use Rattle.zc_base.specs.MemMap.{IsMap}
use Rattle.zc_base.specs.Places.{is_before}
use Rattle.zc_base.specs.declared.place.Place.{Place}
use Rattle.elf32_read.specs.Parts.{ObjectParts, SectionParts, is_code_section}
use Rattle.psabi_sym.proofs.BlockLaws.{aligned_up-ge}
use Rattle.psabi_sym.specs.Blocks.{aligned_up}
use Rattle.psabi_sym.specs.Faults.{gather_fault, power_above}
use Rattle.psabi_sym.specs.Inputs.{Inputs, ParsedInputs, parsed}
use Rattle.psabi_sym.specs.Indexed.{IndexedSection, all_sections, section_at, sections_before}
use Rattle.block_cut.specs.declared.item.Item.{Item}
use Rattle.block_cut.specs.declared.item.Item.TheVariants.{Align}
use Rattle.block_cut.specs.Items.{code_at, is_end_at, is_start_at, is_target_at, item_at, item_in, next_at, place_of, size_at, size_on, starts_in, starts_on}
use Rattle.block_cut.specs.PlainLayout.{address_on, after_item, after_start, after_starts, starts_before, plain_address, plain_end, plain_end_of, plain_start, section_begin, section_end}
use Rattle.block_cut.proofs.ItemLaws.{IsItemAt, Takes, Bytes, Padding, after_plain, item_found, item_takes}
use Rattle.block_cut.proofs.ListedLaws.{between, cut_at, listed}
use Rattle.block_cut.proofs.PlaceOrder.{IsOrdered, Earlier, Within, ordered, same_or_before}
use Rattle.block_cut.proofs.RoomLaws.{AreWhole, after_starts-ge, all_whole, ends-ge, plain_end-fits, section_end-code, section_end-other}
use Rattle.block_cut.proofs.StartLaws.{among_first, among_later, before_end_all, before_next_start, front, is_among, none_within, start_is, step}
use Rattle.block_cut.proofs.CodeSizeLaws.{step_even}
use Rattle.block_cut.proofs.WholeLaws.{code_is_section, code_whole}
use Rattle.block_cut.specs.Whole.{IsWhole}

-- ---- places

-- code may lead to a place of a section of code if an item starts there or the section ends there
pub target_on : (objects : List ObjectParts) (q : Place) (s : SectionParts) → code_at objects q ≡ Some s → is_target_at objects q ≡ (starts_on s q.offset || eqb q.offset (length s.bytes))
target_on objects q s at = λ j. option_map_or (λ t. starts_on t q.offset) (at j) false || option_map_or (λ t. eqb q.offset (length t.bytes)) (at j) false

-- a place that has an address
pub record IsPlaced (inputs : ParsedInputs) (q : Place) (a : ℕ) : Type 0 where
  pub section : SectionParts
  pub code : code_at inputs.objects q ≡ Some section
  pub target : (starts_on section q.offset ≡ true) ⊎ (q.offset ≡ length section.bytes)
  pub address : address_on inputs q section ≡ a

pub placed : (inputs : ParsedInputs) (q : Place) (a : ℕ) → plain_address inputs q ≡ Some a → IsPlaced inputs q a
unfolding plain_address
placed inputs q a is = by (code_at inputs.objects q) refl
  where
    tested : (s : SectionParts) → code_at inputs.objects q ≡ Some s → (start end : Bool) → starts_on s q.offset ≡ start → eqb q.offset (length s.bytes) ≡ end → cond (start || end) (Some (address_on inputs q s)) None ≡ Some a → IsPlaced inputs q a
    tested s at true end one two got = let same : address_on inputs q s ≡ a = cc in record { section = s; code = at; target = inl one; address = same }
    tested s at false true one two got = let same : address_on inputs q s ≡ a = cc in record { section = s; code = at; target = inr (eqb-true q.offset (length s.bytes) two); address = same }
    tested s at false false one two got = absurd cc

    by : (o : Option SectionParts) → code_at inputs.objects q ≡ o → IsPlaced inputs q a
    by None at =
        let nothing : cond (is_target_at inputs.objects q) (option_map (address_on inputs q) (code_at inputs.objects q)) None ≡ None =
        ap (λ o. cond (is_target_at inputs.objects q) (option_map (address_on inputs q) o) None) at ∙ either (is_target_at inputs.objects q) in
        absurd (cc (nothing, is))
      where
        either : (b : Bool) → cond {A = Option ℕ} b None None ≡ None
        either true = refl
        either false = refl
    by (Some s) at =
        tested s at (starts_on s q.offset) (eqb q.offset (length s.bytes)) refl refl
        (sym ((λ j. cond (target_on inputs.objects q s at j) (option_map (address_on inputs q) (at j)) None)) ∙ is)

-- a place where an item starts or a section of code ends has an address in the plain layout
pub place_address : (inputs : ParsedInputs) (q : Place) (s : SectionParts) → code_at inputs.objects q ≡ Some s → (starts_on s q.offset ≡ true) ⊎ (q.offset ≡ length s.bytes) → plain_address inputs q ≡ Some (address_on inputs q s)
unfolding plain_address
place_address inputs q s at target =
    (λ j. cond (target_on inputs.objects q s at j) (option_map (address_on inputs q) (at j)) None)
    ∙ ap (λ b. cond b (Some (address_on inputs q s)) None) (by target)
  where
    or_true : (b : Bool) → (b || true) ≡ true
    or_true true = refl
    or_true false = refl

    by : (starts_on s q.offset ≡ true) ⊎ (q.offset ≡ length s.bytes) → (starts_on s q.offset || eqb q.offset (length s.bytes)) ≡ true
    by (inl start) = ap (λ b. b || eqb q.offset (length s.bytes)) start
    by (inr end) = ap (λ b. starts_on s q.offset || b) (eq-eqb q.offset (length s.bytes) end) ∙ or_true (starts_on s q.offset)

-- where an item starts there is an address
pub item_placed : (inputs : ParsedInputs) (q : Place) (i : Item) (found : IsItemAt inputs q i) → plain_address inputs q ≡ Some (address_on inputs q found.section)
item_placed inputs q i found = place_address inputs q found.section found.code (inl found.start)

-- ---- rounding up

-- to a multiple of words
pub aligned_up-words : (align at : ℕ) → align % 4 ≡ 0 → at % 2 ≡ 0 → aligned_up align at % 2 ≡ 0
unfolding aligned_up
aligned_up-words align at words whole = elim (cases_eq align 0) [
  | inl e ↦ ap (λ n. (at + (max 1 n - at % max 1 n) % max 1 n) % 2) e ∙ grind (arith, whole)
  | inr ne ↦
      let some : max 1 align ≡ align = omega (arith, ne) in
      let even : align % 2 ≡ 0 = omega (arith, words) in
      let half = dvd_of_mod-eq-zero 2 even in
      let one : at % align % 2 ≡ at % 2 = mod-mod_of_dvd 2 at half in
      let two : (align - at % align) % align % 2 ≡ (align - at % align) % 2 = mod-mod_of_dvd 2 (align - at % align) half in
      ap (λ n. (at + (n - at % n) % n) % 2) some ∙ omega (arith, one, two, even, whole, ne)
]

-- ---- addresses in a section

-- two places of one section
abbrev pub spot : Place → SectionParts → IndexedSection
spot q s = listed q.object q.section s

module _ (inputs : ParsedInputs) (q : Place) (s : SectionParts) (code : is_code_section s ≡ true) (whole : IsWhole s) where
  -- the item that starts at an offset
  abbrev item_on : ℕ → Item
  item_on m = item_in inputs s (place_of (spot q s) m)

  -- the address of an offset
  abbrev pub at_offset : ℕ → ℕ
  at_offset n = after_starts inputs (spot q s) (plain_start inputs q.object q.section s) (starts_before s n)

  -- after an item it is the one after the item
  pub offset_next : (k : ℕ) → starts_on s k ≡ true → at_offset (k + size_on s k) ≡ after_item (at_offset k) (size_on s k) (item_on k)
  offset_next k start =
      let begin = plain_start inputs q.object q.section s in
      let before = filter (λ m. ltb m k) (starts_in s) in
      ap (after_starts inputs (spot q s) begin) (before_next_start s code whole k start)
      ∙ fold-append (after_start inputs (spot q s)) begin before (k ∷ [])

  -- the address of an offset doesn't fall as the offset rises
  pub offset_rises : (m k : ℕ) → m ≤ k → at_offset m ≤ at_offset k
  offset_rises m k le =
      let begin = plain_start inputs q.object q.section s in
      let more = front s code whole m k le in
      let before = filter (λ j. ltb j m) (starts_in s) in
      let is : at_offset k ≡ after_starts inputs (spot q s) (at_offset m) more.rest =
      ap (after_starts inputs (spot q s) begin) more.are ∙ fold-append (after_start inputs (spot q s)) begin before more.rest in
      omega (arith, is, after_starts-ge inputs (spot q s) (at_offset m) more.rest)

  -- the end's is where the section ends
  pub offset_end : at_offset (length s.bytes) ≡ section_end inputs (plain_end_of inputs (sections_before inputs.objects q.object q.section)) (spot q s)
  offset_end =
      let begin = plain_start inputs q.object q.section s in
      ap (after_starts inputs (spot q s) begin) (before_end_all s code whole)
      ∙ sym (section_end-code inputs (plain_end_of inputs (sections_before inputs.objects q.object q.section)) (spot q s) code)

  -- an item keeps addresses even
  item_words : (k a : ℕ) → starts_on s k ≡ true → a % 2 ≡ 0 → after_item a (size_on s k) (item_on k) % 2 ≡ 0
  item_words k a start words = by (item_takes inputs s (place_of (spot q s) k) code)
    where
      by : Takes (item_on k) (size_on s k) → after_item a (size_on s k) (item_on k) % 2 ≡ 0
      by (Bytes is) =
          let own = start_is s code whole k start in
          let st = step s code whole k own.words own.inside in
          ap (λ n. n % 2) (after_plain a (size_on s k) (item_on k) is) ∙ omega (arith, step_even s.compressed (size_on s k) st.words, words)
      by (Padding is padding) = ap (λ i. after_item a (size_on s k) i % 2) is ∙ aligned_up-words (power_above (size_on s k)) a padding.power words

  starts_words : (xs : List ℕ) (p : ℕ → Bool) (a : ℕ) → ((k : ℕ) → is_among k xs ≡ true → starts_on s k ≡ true) → a % 2 ≡ 0 → after_starts inputs (spot q s) a (filter p xs) % 2 ≡ 0
  starts_words [] p a starts words = words
  starts_words (x ∷ xs) p a starts words =
      by (p x) (starts_words xs p a (λ k is. starts k (among_later x k xs is)) words)
      (starts_words xs p (after_start inputs (spot q s) a x) (λ k is. starts k (among_later x k xs is)) (item_words x a (starts x (among_first x x xs refl)) words))
    where
      by : (b : Bool) → after_starts inputs (spot q s) a (filter p xs) % 2 ≡ 0 → after_starts inputs (spot q s) (after_start inputs (spot q s) a x) (filter p xs) % 2 ≡ 0 → after_starts inputs (spot q s) a (cond b (x ∷ filter p xs) (filter p xs)) % 2 ≡ 0
      by true skip keep = keep
      by false skip keep = skip

  -- each address is even if the section begins at an even one
  pub offset_words : (n : ℕ) → plain_end_of inputs (sections_before inputs.objects q.object q.section) % 2 ≡ 0 → at_offset n % 2 ≡ 0
  offset_words n words =
      starts_words (starts_in s) (λ m. ltb m n) (plain_start inputs q.object q.section s) (λ k is. is)
      (aligned_up-words (max 4 s.align) (plain_end_of inputs (sections_before inputs.objects q.object q.section)) whole.aligned words)

-- ---- all sections

-- sections end at even addresses
ends_words : (inputs : ParsedInputs) (a : ℕ) (ls : List IndexedSection) → AreWhole ls → a % 2 ≡ 0 → fold (section_end inputs) a ls % 2 ≡ 0
ends_words inputs a [] whole words = words
ends_words inputs a (l ∷ ls) whole words = ends_words inputs (section_end inputs a l) ls whole.1 (by (is_code_section l.section) refl)
  where
    by : (b : Bool) → is_code_section l.section ≡ b → section_end inputs a l % 2 ≡ 0
    by true code =
        let s = l.section in
        let q : Place = place_of l 0 in
        ap (λ n. n % 2)
        (section_end-code inputs a l code ∙ ap (after_starts inputs l (section_begin a s)) (sym (before_end_all s code (whole.0 code))))
        ∙ starts_words inputs q s code (whole.0 code) (starts_in s) (λ m. ltb m (length s.bytes)) (section_begin a s) (λ k is. is) (aligned_up-words (max 4 s.align) a (whole.0 code).aligned words)
    by false other = ap (λ n. n % 2) (section_end-other inputs a l other) ∙ words

pub whole_before : (first second : List IndexedSection) → AreWhole (first ++ second) → AreWhole first
whole_before [] second whole = tt
whole_before (l ∷ ls) second whole = (whole.0, whole_before ls second whole.1)

-- ---- places with addresses

-- what is known of a place with an address
pub record IsHere (inputs : ParsedInputs) (q : Place) (a : ℕ) : Type 0 where
  pub section : SectionParts
  pub code : code_at inputs.objects q ≡ Some section
  pub found : section_at inputs.objects q.object q.section ≡ Some section
  pub code_is : is_code_section section ≡ true
  pub whole : IsWhole section
  pub target : (starts_on section q.offset ≡ true) ⊎ (q.offset ≡ length section.bytes)
  pub inside : q.offset ≤ length section.bytes
  pub words : q.offset % 2 ≡ 0
  pub address : address_on inputs q section ≡ a

-- two places have the same address, and what is to be said of it: they are one, or the first of them takes no room
pub data IsFlat (inputs : ParsedInputs) (q : Place) : Type 0 where
  AtEnd : item_at inputs q ≡ None → IsFlat inputs q
  InPadding : (bytes : ℕ) → item_at inputs q ≡ Some (Align bytes) → IsFlat inputs q

pub data Coincide (inputs : ParsedInputs) (q r : Place) : Type 0 where
  Same : q ≡ r → Coincide inputs q r
  FirstFlat : IsFlat inputs q → Coincide inputs q r
  SecondFlat : IsFlat inputs r → Coincide inputs q r

module _ (inputs : Inputs) (none : gather_fault inputs ≡ None) where
  abbrev objects : List ObjectParts
  objects = (parsed inputs).objects

  -- what is known of a place with an address
  pub here : (q : Place) (a : ℕ) → plain_address (parsed inputs) q ≡ Some a → IsHere (parsed inputs) q a
  here q a is =
      let at = placed (parsed inputs) q a is in
      let two = code_is_section objects q at.section at.code in
      let whole = code_whole inputs q at.section none at.code in
      let place = lies at.section two.1 whole at.target in
      record { section = at.section; code = at.code; found = two.0; code_is = two.1; whole = whole; target = at.target; inside = place.0; words = place.1; address = at.address }
    where
      lies : (s : SectionParts) → is_code_section s ≡ true → IsWhole s → (starts_on s q.offset ≡ true) ⊎ (q.offset ≡ length s.bytes) → (q.offset ≤ length s.bytes) × (q.offset % 2 ≡ 0)
      lies s code whole (inl start) = let own = start_is s code whole q.offset start in (omega (arith, own.inside), step_even s.compressed q.offset own.words)
      lies s code whole (inr end) = (omega (arith, end), ap (λ n. n % 2) end ∙ step_even s.compressed (length s.bytes) whole.words)

  -- ---- the next place

  -- what is known of where an item starts
  pub record IsItemHere (q : Place) (i : Item) : Type 0 where
    pub section : SectionParts
    pub code : code_at objects q ≡ Some section
    pub code_is : is_code_section section ≡ true
    pub whole : IsWhole section
    pub start : starts_on section q.offset ≡ true
    pub item : item_in (parsed inputs) section q ≡ i
    pub next : next_at objects q ≡ record q { offset = q.offset + size_on section q.offset }
    pub size : size_at objects q ≡ size_on section q.offset
    pub target : (starts_on section (q.offset + size_on section q.offset) ≡ true) ⊎ (q.offset + size_on section q.offset ≡ length section.bytes)

  pub item_here : (q : Place) (i : Item) → item_at (parsed inputs) q ≡ Some i → IsItemHere q i
  item_here q i is =
      let found = item_found (parsed inputs) q i is in
      let s = found.section in
      let two = code_is_section objects q s found.code in
      let whole = code_whole inputs q s none found.code in
      record {
        section = s;
        code = found.code;
        code_is = two.1;
        whole = whole;
        start = found.start;
        item = found.item;
        next = ap (λ o. record q { offset = q.offset + option_map_or (λ t. size_on t q.offset) o 4 }) found.code;
        size = ap (λ o. option_map_or (λ t. size_on t q.offset) o 4) found.code;
        target = (start_is s two.1 whole q.offset found.start).next;
      }

  -- an item starts there, or the section ends there
  pub next_start : (q : Place) (i : Item) → item_at (parsed inputs) q ≡ Some i → (is_start_at objects (next_at objects q) ≡ true) ⊎ (is_end_at objects (next_at objects q) ≡ true)
  next_start q i is =
      let at = item_here q i is in
      subst (λ p. (is_start_at objects p ≡ true) ⊎ (is_end_at objects p ≡ true)) (sym at.next) (by at.section at.code at.target)
    where
      by : (s : SectionParts) → code_at objects q ≡ Some s → (starts_on s (q.offset + size_on s q.offset) ≡ true) ⊎ (q.offset + size_on s q.offset ≡ length s.bytes)
          → (is_start_at objects (record q { offset = q.offset + size_on s q.offset }) ≡ true) ⊎ (is_end_at objects (record q { offset = q.offset + size_on s q.offset }) ≡ true)
      by s at (inl start) = inl (ap (λ o. option_map_or (λ t. starts_on t (q.offset + size_on s q.offset)) o false) at ∙ start)
      by s at (inr end) = inr (ap (λ o. option_map_or (λ t. eqb (q.offset + size_on s q.offset) (length t.bytes)) o false) at ∙ eq-eqb (q.offset + size_on s q.offset) (length s.bytes) end)

  -- the address of the next place is the one after the item
  pub next_address : (q : Place) (i : Item) (a : ℕ) → item_at (parsed inputs) q ≡ Some i → plain_address (parsed inputs) q ≡ Some a → plain_address (parsed inputs) (next_at objects q) ≡ Some (after_item a (size_at objects q) i)
  next_address q i a is address =
      let at = item_here q i is in
      let s = at.section in
      let same : address_on (parsed inputs) q s ≡ a = cc (place_address (parsed inputs) q s at.code (inl at.start), address) in
      ap (plain_address (parsed inputs)) at.next
      ∙ place_address (parsed inputs) (record q { offset = q.offset + size_on s q.offset }) s at.code at.target
      ∙ ap Some (offset_next (parsed inputs) q s at.code_is at.whole q.offset at.start ∙ (λ j. after_item (same j) (sym at.size j) (at.item j)))

  -- ---- bounds

  pub record AreBounds (a : ℕ) : Type 0 where
    pub low : inputs.map.text ≤ a
    pub high : a ≤ plain_end (parsed inputs)
    pub few : a ≤ inputs.map.text + 0x4_0000
    pub words : a % 2 ≡ 0

  -- the code before a section ends at a word, at the text's start or after it
  before_words : IsMap inputs.map → (q : Place) (s : SectionParts) → section_at objects q.object q.section ≡ Some s → plain_end_of (parsed inputs) (sections_before objects q.object q.section) % 2 ≡ 0
  before_words map q s found =
      let cut = cut_at objects q.object q.section s found in
      ends_words (parsed inputs) inputs.map.text (sections_before objects q.object q.section)
      (whole_before (sections_before objects q.object q.section) (spot q s ∷ cut.rest) (subst AreWhole cut.all_are (all_whole inputs none)))
      (omega (arith, map.text_page))

  -- a section ends before all code does
  pub section_ends : (o i : ℕ) (s : SectionParts) → section_at objects o i ≡ Some s → section_end (parsed inputs) (plain_end_of (parsed inputs) (sections_before objects o i)) (listed o i s) ≤ plain_end (parsed inputs)
  unfolding plain_end
  section_ends o i s found =
      let cut = cut_at objects o i s found in
      let f = section_end (parsed inputs) in
      let all : fold f inputs.map.text (all_sections objects) ≡ fold f (f (plain_end_of (parsed inputs) (sections_before objects o i)) (listed o i s)) cut.rest =
      ap (fold f inputs.map.text) cut.all_are ∙ fold-append f inputs.map.text (sections_before objects o i) (listed o i s ∷ cut.rest) in
      omega (arith, all, ends-ge (parsed inputs) (f (plain_end_of (parsed inputs) (sections_before objects o i)) (listed o i s)) cut.rest)

  -- addresses lie between the text's start and the plain end, which is near
  pub address_range : (q : Place) (a : ℕ) → plain_address (parsed inputs) q ≡ Some a → (inputs.map.text ≤ a) × (a ≤ plain_end (parsed inputs))
  address_range q a is =
      let at = here q a is in
      let s = at.section in
      let before = plain_end_of (parsed inputs) (sections_before objects q.object q.section) in
      let begin = plain_start (parsed inputs) q.object q.section s in
      let rises = offset_rises (parsed inputs) q s at.code_is at.whole q.offset (length s.bytes) at.inside in
      let end = offset_end (parsed inputs) q s at.code_is at.whole in
      let last = section_ends q.object q.section s at.found in (
        omega (arith, at.address, ends-ge (parsed inputs) inputs.map.text (sections_before objects q.object q.section), aligned_up-ge (max 4 s.align) before, after_starts-ge (parsed inputs) (spot q s) begin (starts_before s q.offset)),
        omega (arith, at.address, rises, end, last),
      )

  -- addresses in the plain layout fit in a word
  pub address_bounds : IsMap inputs.map → (q : Place) (a : ℕ) → plain_address (parsed inputs) q ≡ Some a → AreBounds a
  address_bounds map q a is =
      let at = here q a is in
      let range = address_range q a is in
      record {
        low = range.0;
        high = range.1;
        few = omega (arith, range.1, plain_end-fits inputs none);
        words = ap (λ n. n % 2) (sym at.address) ∙ offset_words (parsed inputs) q at.section at.code_is at.whole q.offset (before_words map q at.section at.found);
      }

  -- all code ends at a word, near the text's start
  pub record IsEnd (a : ℕ) : Type 0 where
    pub low : inputs.map.text ≤ a
    pub few : a ≤ inputs.map.text + 0x4_0000
    pub words : a % 2 ≡ 0

  pub end_bounds : IsMap inputs.map → IsEnd (plain_end (parsed inputs))
  unfolding plain_end
  end_bounds map = record {
    low = ends-ge (parsed inputs) inputs.map.text (all_sections objects);
    few = plain_end-fits inputs none;
    words = ends_words (parsed inputs) inputs.map.text (all_sections objects) (all_whole inputs none) (omega (arith, map.text_page));
  }

  -- ---- order

  -- addresses in a section lie before its end, and those of a later section after it
  later_section : (q r : Place) (s t : SectionParts) → section_at objects q.object q.section ≡ Some s → section_at objects r.object r.section ≡ Some t
      → (q.object < r.object) ⊎ ((q.object ≡ r.object) × (q.section < r.section)) → section_end (parsed inputs) (plain_end_of (parsed inputs) (sections_before objects q.object q.section)) (spot q s) ≤ address_on (parsed inputs) r t
  later_section q r s t found later order =
      let more = between objects q.object q.section s r.object r.section t found later order in
      let f = section_end (parsed inputs) in
      let end = f (plain_end_of (parsed inputs) (sections_before objects q.object q.section)) (spot q s) in
      let all : plain_end_of (parsed inputs) (sections_before objects r.object r.section) ≡ fold f end more.rest =
      ap (fold f inputs.map.text) more.are ∙ fold-append f inputs.map.text (sections_before objects q.object q.section) (spot q s ∷ more.rest) in
      let begin = plain_start (parsed inputs) r.object r.section t in
      omega (
        arith,
        all,
        ends-ge (parsed inputs) end more.rest,
        aligned_up-ge (max 4 t.align) (plain_end_of (parsed inputs) (sections_before objects r.object r.section)),
        after_starts-ge (parsed inputs) (spot r t) begin (starts_before t r.offset),
      )

  -- a place that comes later has no lesser address
  pub rises : (q r : Place) (a b : ℕ) → is_before q r ≡ true → plain_address (parsed inputs) q ≡ Some a → plain_address (parsed inputs) r ≡ Some b → a ≤ b
  rises q r a b before one two = by (here q a one) (here r b two) (ordered q r before)
    where
      by : IsHere (parsed inputs) q a → IsHere (parsed inputs) r b → IsOrdered q r → a ≤ b
      by at to (Earlier order) =
          let s = at.section in
          omega (
            arith,
            at.address,
            to.address,
            offset_rises (parsed inputs) q s at.code_is at.whole q.offset (length s.bytes) at.inside,
            offset_end (parsed inputs) q s at.code_is at.whole,
            later_section q r s to.section at.found to.found order,
          )
      by at to (Within object section lt) =
          let same : at.section ≡ to.section = cc (sym at.found ∙ (λ j. section_at objects (object j) (section j)) ∙ to.found) in
          let moved : address_on (parsed inputs) r to.section ≡ at_offset (parsed inputs) q at.section at.code_is at.whole r.offset =
          λ j. address_on (parsed inputs) (record { object = sym object j; section = sym section j; offset = r.offset }) (sym same j) in
          omega (arith, at.address, to.address, moved, offset_rises (parsed inputs) q at.section at.code_is at.whole q.offset r.offset (omega (arith, lt)))

  -- an item that comes after another one lies past its bytes
  pub rises_past : (q r : Place) (i : Item) (a b : ℕ) → is_before q r ≡ true → item_at (parsed inputs) q ≡ Some i → plain_address (parsed inputs) q ≡ Some a → plain_address (parsed inputs) r ≡ Some b → after_item a (size_at objects q) i ≤ b
  rises_past q r i a b before is one two = by (here q a one) (item_here q i is) (here r b two) (ordered q r before)
    where
      past : (s : SectionParts) → is_code_section s ≡ true → IsWhole s → starts_on s q.offset ≡ true → q.offset < r.offset → (starts_on s r.offset ≡ true) ⊎ (r.offset ≡ length s.bytes) → q.offset + size_on s q.offset ≤ r.offset
      past s code whole start lt (inl other) = elim (cases_lt r.offset (q.offset + size_on s q.offset)) [
        | inl within ↦ absurd (cc (other, none_within s code whole q.offset r.offset start lt within))
        | inr le ↦ le
      ]
      past s code whole start lt (inr end) =
          let own = start_is s code whole q.offset start in
          omega (arith, end, (step s code whole q.offset own.words own.inside).inside)

      by : IsHere (parsed inputs) q a → IsItemHere q i → IsHere (parsed inputs) r b → IsOrdered q r → after_item a (size_at objects q) i ≤ b
      by at own to (Earlier order) =
          let s = own.section in
          let same : at.section ≡ s = cc (sym at.code ∙ own.code) in
          let start = start_is s own.code_is own.whole q.offset own.start in
          let st = step s own.code_is own.whole q.offset start.words start.inside in
          let next = offset_next (parsed inputs) q s own.code_is own.whole q.offset own.start in
          let here_is : address_on (parsed inputs) q s ≡ a = ap (address_on (parsed inputs) q) (sym same) ∙ at.address in
          let after : after_item a (size_at objects q) i ≡ at_offset (parsed inputs) q s own.code_is own.whole (q.offset + size_on s q.offset) = sym (next ∙ (λ j. after_item (here_is j) (sym own.size j) (own.item j))) in
          omega (
            arith,
            after,
            to.address,
            offset_rises (parsed inputs) q s own.code_is own.whole (q.offset + size_on s q.offset) (length s.bytes) st.inside,
            offset_end (parsed inputs) q s own.code_is own.whole,
            later_section q r s to.section (at.found ∙ ap Some same) to.found order,
          )
      by at own to (Within object section lt) =
          let s = own.section in
          let first : at.section ≡ s = cc (sym at.code ∙ own.code) in
          let same : s ≡ to.section = cc (sym own.code ∙ (λ j. code_at objects (record { object = object j; section = section j; offset = 0 })) ∙ to.code) in
          let next = offset_next (parsed inputs) q s own.code_is own.whole q.offset own.start in
          let here_is : address_on (parsed inputs) q s ≡ a = ap (address_on (parsed inputs) q) (sym first) ∙ at.address in
          let after : after_item a (size_at objects q) i ≡ at_offset (parsed inputs) q s own.code_is own.whole (q.offset + size_on s q.offset) = sym (next ∙ (λ j. after_item (here_is j) (sym own.size j) (own.item j))) in
          let moved : address_on (parsed inputs) r to.section ≡ at_offset (parsed inputs) q s own.code_is own.whole r.offset =
          λ j. address_on (parsed inputs) (record { object = sym object j; section = sym section j; offset = r.offset }) (sym same j) in
          let over : q.offset + size_on s q.offset ≤ r.offset =
          past s own.code_is own.whole own.start lt (subst (λ t. (starts_on t r.offset ≡ true) ⊎ (r.offset ≡ length t.bytes)) (sym same) to.target) in
          omega (arith, after, to.address, moved, offset_rises (parsed inputs) q s own.code_is own.whole (q.offset + size_on s q.offset) r.offset over)

  -- a place whose item takes no room if one that comes later has the same address
  flat : (q r : Place) (a : ℕ) → is_before q r ≡ true → plain_address (parsed inputs) q ≡ Some a → plain_address (parsed inputs) r ≡ Some a → IsFlat (parsed inputs) q
  flat q r a before one two = by (item_at (parsed inputs) q) refl
    where
      takes : (i : Item) → item_at (parsed inputs) q ≡ Some i → (own : IsItemHere q i) → Takes i (size_on own.section q.offset) → IsFlat (parsed inputs) q
      takes i is own (Bytes bytes) =
          let start = start_is own.section own.code_is own.whole q.offset own.start in
          let st = step own.section own.code_is own.whole q.offset start.words start.inside in
          absurd (omega (arith, after_plain a (size_at objects q) i bytes, own.size, st.some, rises_past q r i a a before is one two))
      takes i is own (Padding padding p) = InPadding (size_on own.section q.offset) (is ∙ ap Some padding)

      by : (o : Option Item) → item_at (parsed inputs) q ≡ o → IsFlat (parsed inputs) q
      by None is = AtEnd is
      by (Some i) is =
          let own = item_here q i is in
          takes i is own (subst (λ x. Takes x (size_on own.section q.offset)) own.item (item_takes (parsed inputs) own.section q own.code_is))

  -- two places with one address
  pub apart : (q r : Place) (a : ℕ) → plain_address (parsed inputs) q ≡ Some a → plain_address (parsed inputs) r ≡ Some a → Coincide (parsed inputs) q r
  apart q r a one two = elim (same_or_before q r) [
    | inl before ↦ FirstFlat (flat q r a before one two)
    | inr (inl after) ↦ SecondFlat (flat r q a after two one)
    | inr (inr same) ↦ Same same
  ]
