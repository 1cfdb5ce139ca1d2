-- The room of code is bounded, so each of its addresses fits in a word. An item takes no more than its step and the room of its
-- relocation (`item_fits`); the starts of a section have relocations of their own, so their rooms are no more than those of all its
-- relocations (`rooms_fit`); so a section takes no more than its room, and all code no more than the sum that inputs may have.
use Rattle.std.proofs.Common.{◌≡◌, ℕ, suc, ◌+◌, ◌*◌, ◌%◌, ◌<◌, ◌≤◌, List, [], ◌∷◌, ◌++◌, length, get_or, take, map, max, Bool, true, false, cond, Option, Some, None, refl, sym, ap, ◌∙◌, arith, eqb, inl, inr, slice_get}
use Rattle.std.specs.Prelude.{nat_lt, ◌||◌, ◌&&◌}
use Rattle.std.specs.List.{enumerate_from, find, flat_map, fold, position_or_len, range_with_len, sum_by}
use Rattle.std.specs.Option.{option_and_then, option_map, option_map_or}
use Rattle.std.proofs.lemmas.Bool.{cases_lt, eqb-true, ltb-false, ne_eqb, or_parts}
use Rattle.std.proofs.lemmas.List.{take_all}
use Rattle.std.proofs.lemmas.List.Folds.{find_at, fold-map}
use Rattle.std.proofs.lemmas.List.FromFn.{get_or-range_with_len, length-range_with_len}
use Rattle.std.proofs.lemmas.List.Sums.{fails_before_first, sum_by-append, sum_by-cons}
use Rattle.std.proofs.lemmas.Option.{slice_get-get_or}
use Rattle.elf32_read.specs.declared.fault.Fault.{Fault}
use Rattle.elf32_read.specs.declared.fault.Fault.TheVariants.{TooLarge}
use Rattle.elf32_read.specs.declared.reloc.Reloc.{Reloc}
use Rattle.elf32_read.specs.Parts.{ObjectParts, SectionParts, is_code_section, object_parts}
use Rattle.psabi_sym.specs.Blocks.{aligned_up}
use Rattle.psabi_sym.specs.Data.{is_code_role, role_of}
use Rattle.psabi_sym.specs.Faults.{are_too_large, code_room, counted_bytes, gather_fault, object_code, power_above, reloc_room, room_in_code, sum_fault, sums_of}
use Rattle.psabi_sym.specs.Inputs.{Inputs, ParsedInputs, parsed}
use Rattle.psabi_sym.specs.Indexed.{IndexedSection, all_sections, section_at, sections_in}
use Rattle.psabi_sym.specs.declared.section_row.SectionRole.{SectionRole}
use Rattle.psabi_sym.specs.declared.section_row.SectionRole.TheVariants.{Code, InClass, Dropped}
use Rattle.psabi_sym.proofs.BlockLaws.{aligned_up-ge, aligned_up-lt}
use Rattle.psabi_sym.proofs.BridgeLaws.{map-map}
use Rattle.psabi_sym.proofs.Gathered.{all_none}
use Rattle.psabi_sym.proofs.PlaceLaws.{code_is}
use Rattle.block_cut.specs.declared.item.Item.{Item}
use Rattle.block_cut.specs.Items.{item_in, items_in, place_of, size_on, starts_in}
use Rattle.block_cut.specs.PlainLayout.{after_item, after_start, after_starts, padding_of, plain_end, section_begin, section_end}
use Rattle.block_cut.specs.Relocs.{is_sound, reloc_on}
use Rattle.block_cut.specs.CodeSizes.{code_step}
use Rattle.block_cut.proofs.CodeSizeLaws.{counted_least, counted_step, counted_sum}
use Rattle.block_cut.proofs.ItemLaws.{item_fits, room_at}
use Rattle.block_cut.proofs.ListedLaws.{listed}
use Rattle.block_cut.proofs.StartLaws.{Above, IsStep, along}
use Rattle.block_cut.proofs.WholeLaws.{inputs_whole}
use Rattle.block_cut.specs.Whole.{IsWhole}

-- ---- the sums

-- a search that finds nothing
none_found : (p : ℕ → Bool) (n k : ℕ) → find p (range_with_len 0 n) ≡ None → k < n → p k ≡ false
none_found p n k none lt =
    let xs = range_with_len 0 n in
    let inside : k < length xs = omega (arith, length-range_with_len 0 n) in
    let here : get_or xs k 0 ≡ k = get_or-range_with_len 0 n k 0 lt ∙ omega arith in
    elim (cases_lt (position_or_len p xs) (length xs)) [
      | inl found ↦ absurd (cc (none, find_at p xs, slice_get-get_or xs (position_or_len p xs) 0 found))
      | inr past ↦ ap p (sym here) ∙ fails_before_first p xs k 0 (omega arith)
    ]

-- files whose sums are within their limits have little code
code_fits : (files : List (List ℕ)) → sum_fault files ≡ None → sum_by (λ f. object_code (object_parts f)) files ≤ 0x4_0000
unfolding sum_fault
code_fits [] none = omega arith
code_fits (f ∷ fs) none =
    let files = f ∷ fs in
    let p = λ (i : ℕ). are_too_large (sums_of (take (i + 1) files)) in
    let fine : p (length fs) ≡ false = none_found p (length files) (length fs) (mapped (find p (range_with_len 0 (length files))) none) (omega arith) in
    let all : take (length fs + 1) files ≡ files = take_all (length fs + 1) files (omega arith) in
    let sums : are_too_large (sums_of files) ≡ false = sym (ap (λ l. are_too_large (sums_of l)) all) ∙ fine in
    let two = or_parts (nat_lt 0x200_0000 (sums_of files).file_bytes || nat_lt 0x4_0000 (sums_of files).code_room) (nat_lt 0x40_0000 ((sums_of files).data_room + 96)) sums in
    ltb-false 0x4_0000 (sums_of files).code_room (or_parts (nat_lt 0x200_0000 (sums_of files).file_bytes) (nat_lt 0x4_0000 (sums_of files).code_room) two.0).1
  where
    mapped : (o : Option ℕ) → option_map {U = ℕ × Fault} (λ i. (i, TooLarge)) o ≡ None → o ≡ None
    mapped None h = refl
    mapped (Some i) h = absurd cc

sum_sections : (o n : ℕ) (ss : List SectionParts)
    → sum_by {X = IndexedSection} (λ l. code_room l.section) (map (λ s. record { object = o; index = s.0; section = s.1 }) (enumerate_from n ss)) ≡ sum_by code_room ss
sum_sections o n [] = refl
sum_sections o n (s ∷ ss) =
    sum_by-cons (λ l. code_room l.section) (listed o n s) (map (λ t. record { object = o; index = t.0; section = t.1 }) (enumerate_from (n + 1) ss))
    ∙ ap (λ k. code_room s + k) (sum_sections o (n + 1) ss) ∙ sym (sum_by-cons code_room s ss)

sum_objects : (n : ℕ) (objects : List ObjectParts) → sum_by (λ l. code_room l.section) (flat_map sections_in (enumerate_from n objects)) ≡ sum_by object_code objects
sum_objects n [] = refl
sum_objects n (o ∷ os) =
    sum_by-append (λ l. code_room l.section) (sections_in (n, o)) (flat_map sections_in (enumerate_from (n + 1) os))
    ∙ (λ j. sum_sections n 0 o.sections j + sum_objects (n + 1) os j) ∙ sym (sum_by-cons object_code o os)

-- the room of all sections
abbrev pub rooms : List IndexedSection → ℕ
rooms sections = sum_by (λ l. code_room l.section) sections

-- is little
pub rooms_few : (inputs : Inputs) → gather_fault inputs ≡ None → rooms (all_sections (parsed inputs).objects) ≤ 0x4_0000
unfolding all_sections
rooms_few inputs none =
    omega (
      arith,
      sum_objects 0 (parsed inputs).objects,
      fold-map (λ a o. a + object_code o) object_parts 0 inputs.files,
      code_fits inputs.files (all_none inputs none).sums,
    )

-- code has room as code
code_role : (role : SectionRole) → is_code_role role ≡ true → role ≡ Code
code_role Code is = refl
code_role (InClass class) is = absurd cc
code_role Dropped is = absurd cc

pub code_room_is : (s : SectionParts) → is_code_section s ≡ true → code_room s ≡ counted_bytes s.compressed s.size + max 4 s.align + sum_by reloc_room s.relocs
code_room_is s code = ap (room_in_code s) (code_role (role_of s) (code_is s ∙ code))

-- ---- the rooms of starts

-- a sum that is less at each element
sum_of_two : (f g h : ℕ → ℕ) (xs : List ℕ) → ((x : ℕ) → f x ≤ g x + h x) → sum_by f xs ≤ sum_by g xs + sum_by h xs
sum_of_two f g h [] le = omega arith
sum_of_two f g h (x ∷ xs) le = omega (arith, sum_by-cons f x xs, sum_by-cons g x xs, sum_by-cons h x xs, sum_of_two f g h xs le, le x)

sum_of_none : (f : ℕ → ℕ) (xs : List ℕ) → ((x : ℕ) → f x ≡ 0) → sum_by f xs ≡ 0
sum_of_none f [] none = refl
sum_of_none f (x ∷ xs) none = omega (arith, sum_by-cons f x xs, none x, sum_of_none f xs none)

-- the room that a relocation at `at` gives to the offset m
abbrev own_room : ℕ → ℕ → ℕ → ℕ
own_room at room m = cond (eqb at m) room 0

own_room_none : (at room low : ℕ) (xs : List ℕ) → Above low xs → at < low → sum_by (own_room at room) xs ≡ 0
own_room_none at room low [] above lt = refl
own_room_none at room low (x ∷ xs) above lt =
    let other : own_room at room x ≡ 0 = ap (λ b. cond b room 0) (ne_eqb at x (λ e. omega (arith, e, above.0))) in
    omega (arith, sum_by-cons (own_room at room) x xs, other, own_room_none at room low xs above.1 lt)

-- what is found at an offset in a list of relocations has room
abbrev found_room : SectionParts → List Reloc → ℕ → ℕ
found_room s relocs m = option_map_or reloc_room (find (λ r. is_sound s r && eqb r.offset m) relocs) 0

-- with one relocation more, an offset has that relocation's room more at most
found_more : (s : SectionParts) (r : Reloc) (rs : List Reloc) (m : ℕ) → found_room s (r ∷ rs) m ≤ own_room r.offset (reloc_room r) m + found_room s rs m
found_more s r rs m = by (is_sound s r) (eqb r.offset m)
  where
    by : (b e : Bool) → option_map_or reloc_room (cond (b && e) (Some r) (find (λ t. is_sound s t && eqb t.offset m) rs)) 0 ≤ cond e (reloc_room r) 0 + found_room s rs m
    by true true = omega arith
    by true false = omega arith
    by false e = omega arith

module _ (s : SectionParts) (code : is_code_section s ≡ true) (whole : IsWhole s) where
  -- the room of one relocation stands at one start at most
  own_room_once : (at room : ℕ) → sum_by (own_room at room) (starts_in s) ≤ room
  own_room_once at room = along s code whole (λ n xs. sum_by (own_room at room) xs ≤ room) (omega arith) each
    where
      each : (n : ℕ) (xs : List ℕ) → n < length s.bytes → n % code_step s.compressed ≡ 0 → IsStep s n → Above (n + size_on s n) xs → sum_by (own_room at room) xs ≤ room → sum_by (own_room at room) (n ∷ xs) ≤ room
      each n xs lt words st above rest = by (eqb at n) refl
        where
          by : (b : Bool) → eqb at n ≡ b → sum_by (own_room at room) (n ∷ xs) ≤ room
          by true e =
              let here : own_room at room n ≡ room = ap (λ b. cond b room 0) e in
              let same = eqb-true at n e in
              omega (arith, sum_by-cons (own_room at room) n xs, here, own_room_none at room (n + size_on s n) xs above (omega (arith, same, st.some)))
          by false e =
              let other : own_room at room n ≡ 0 = ap (λ b. cond b room 0) e in
              omega (arith, sum_by-cons (own_room at room) n xs, other, rest)

  -- the rooms at all starts are no more than those of all relocations
  rooms_found : (rs : List Reloc) → sum_by (found_room s rs) (starts_in s) ≤ sum_by reloc_room rs
  rooms_found [] = omega (arith, sum_of_none (found_room s []) (starts_in s) (λ m. refl))
  rooms_found (r ∷ rs) =
      omega (
        arith,
        sum_of_two (found_room s (r ∷ rs)) (own_room r.offset (reloc_room r)) (found_room s rs) (starts_in s) (found_more s r rs),
        own_room_once r.offset (reloc_room r),
        rooms_found rs,
        sum_by-cons reloc_room r rs,
      )

  rooms_fit : sum_by (room_at s) (starts_in s) ≤ sum_by reloc_room s.relocs
  unfolding reloc_on
  rooms_fit = rooms_found s.relocs

  -- ---- sections

  -- each start counts four bytes at least
  pub starts_counted : 4 * length (starts_in s) ≤ counted_bytes s.compressed (length s.bytes)
  starts_counted =
      let all : 4 * length (starts_in s) + counted_bytes s.compressed 0 ≤ counted_bytes s.compressed (length s.bytes) =
      along s code whole (λ n xs. 4 * length xs + counted_bytes s.compressed n ≤ counted_bytes s.compressed (length s.bytes)) (omega arith)
      (λ n xs lt words st above rest. omega (arith, counted_step s.compressed (size_on s n) st.words st.some, counted_sum s.compressed n (size_on s n), rest)) in
      omega (arith, all)

  -- items from a start on take no more than the bytes that are left, and the rooms
  pub items_fit : (inputs : ParsedInputs) (o i a : ℕ) → after_starts inputs (listed o i s) a (starts_in s) ≤ a + length s.bytes + sum_by reloc_room s.relocs
  items_fit inputs o i a = omega (arith, all a, rooms_fit)
    where
      l : IndexedSection
      l = listed o i s

      all : (a : ℕ) → after_starts inputs (listed o i s) a (starts_in s) + 0 ≤ a + length s.bytes + sum_by (room_at s) (starts_in s)
      all = along s code whole (λ n xs. (a : ℕ) → after_starts inputs (listed o i s) a xs + n ≤ a + length s.bytes + sum_by (room_at s) xs)
          (λ a. omega arith)
          (λ n xs lt words st above rest a. omega (arith, rest (after_start inputs (listed o i s) a n), item_fits inputs s (place_of (listed o i s) n) code a, sum_by-cons (room_at s) n xs))

-- an item doesn't go back
pub after_item-ge : (a n : ℕ) (i : Item) → a ≤ after_item a n i
after_item-ge a n i = by (padding_of i)
  where
    by : (o : Option ℕ) → a ≤ option_map_or (λ bytes. aligned_up (power_above bytes) a) o (a + n)
    by None = omega arith
    by (Some bytes) = aligned_up-ge (power_above bytes) a

pub after_starts-ge : (inputs : ParsedInputs) (l : IndexedSection) (a : ℕ) (ns : List ℕ) → a ≤ after_starts inputs l a ns
after_starts-ge inputs l a [] = omega arith
after_starts-ge inputs l a (n ∷ ns) =
    omega (arith, after_item-ge a (size_on l.section n) (item_in inputs l.section (place_of l n)), after_starts-ge inputs l (after_start inputs l a n) ns)

-- the items of a section of code are those of its starts
pub items_in-code : (inputs : ParsedInputs) (l : IndexedSection) → is_code_section l.section ≡ true → items_in inputs l ≡ map (λ m. item_in inputs l.section (place_of l m)) (starts_in l.section)
items_in-code inputs l code =
    ap (λ b. map (item_in inputs l.section) (cond b (map (place_of l) (starts_in l.section)) [])) code ∙ map-map (item_in inputs l.section) (place_of l) (starts_in l.section)

pub items_in-other : (inputs : ParsedInputs) (l : IndexedSection) → is_code_section l.section ≡ false → items_in inputs l ≡ []
items_in-other inputs l other = ap (λ b. map (item_in inputs l.section) (cond b (map (place_of l) (starts_in l.section)) [])) other

pub section_end-code : (inputs : ParsedInputs) (a : ℕ) (l : IndexedSection) → is_code_section l.section ≡ true → section_end inputs a l ≡ after_starts inputs l (section_begin a l.section) (starts_in l.section)
section_end-code inputs a l code = ap (λ b. cond b (after_starts inputs l (section_begin a l.section) (starts_in l.section)) a) code

pub section_end-other : (inputs : ParsedInputs) (a : ℕ) (l : IndexedSection) → is_code_section l.section ≡ false → section_end inputs a l ≡ a
section_end-other inputs a l other = ap (λ b. cond b (after_starts inputs l (section_begin a l.section) (starts_in l.section)) a) other

pub section_end-ge : (inputs : ParsedInputs) (a : ℕ) (l : IndexedSection) → a ≤ section_end inputs a l
section_end-ge inputs a l = by (is_code_section l.section) refl
  where
    by : (b : Bool) → is_code_section l.section ≡ b → a ≤ section_end inputs a l
    by true code =
        omega (arith, section_end-code inputs a l code, aligned_up-ge (max 4 l.section.align) a, after_starts-ge inputs l (section_begin a l.section) (starts_in l.section))
    by false other = omega (arith, section_end-other inputs a l other)

pub ends-ge : (inputs : ParsedInputs) (a : ℕ) (ls : List IndexedSection) → a ≤ fold (section_end inputs) a ls
ends-ge inputs a [] = omega arith
ends-ge inputs a (l ∷ ls) = omega (arith, section_end-ge inputs a l, ends-ge inputs (section_end inputs a l) ls)

-- ---- all sections

-- code among sections is whole
abbrev pub AreWhole : List IndexedSection → Type 0
AreWhole [] = Unit {0}
AreWhole (l ∷ ls) = (is_code_section l.section ≡ true → IsWhole l.section) × AreWhole ls

are_whole-append : (first second : List IndexedSection) → AreWhole first → AreWhole second → AreWhole (first ++ second)
are_whole-append [] second one two = two
are_whole-append (l ∷ ls) second one two = (one.0, are_whole-append ls second one.1 two)

-- in inputs without a fault all sections of code are whole
module _ (inputs : Inputs) (none : gather_fault inputs ≡ None) where
  whole_sections : (o n : ℕ) (ss : List SectionParts) → ((i : ℕ) (s : SectionParts) → slice_get ss i ≡ Some s → section_at (parsed inputs).objects o (n + i) ≡ Some s) → AreWhole (map (λ s. record { object = o; index = s.0; section = s.1 }) (enumerate_from n ss))
  whole_sections o n [] at = tt
  whole_sections o n (s ∷ ss) at = (
    λ code. inputs_whole inputs o (n + 0) s none (at 0 s refl) code,
    whole_sections o (n + 1) ss (λ i t is. ap (section_at (parsed inputs).objects o) (omega arith) ∙ at (suc i) t is),
  )

  whole_objects : (n : ℕ) (os : List ObjectParts) → ((i : ℕ) (o : ObjectParts) → slice_get os i ≡ Some o → slice_get (parsed inputs).objects (n + i) ≡ Some o) → AreWhole (flat_map sections_in (enumerate_from n os))
  whole_objects n [] at = tt
  whole_objects n (o ∷ os) at =
      are_whole-append (sections_in (n, o)) (flat_map sections_in (enumerate_from (n + 1) os))
      (whole_sections n 0 o.sections (λ i s is. ap (option_and_then (λ (object : ObjectParts). slice_get object.sections (0 + i))) (ap (slice_get (parsed inputs).objects) (omega arith) ∙ at 0 o refl) ∙ ap (slice_get o.sections) (omega arith) ∙ is))
      (whole_objects (n + 1) os (λ i t is. ap (slice_get (parsed inputs).objects) (omega arith) ∙ at (suc i) t is))

  pub all_whole : AreWhole (all_sections (parsed inputs).objects)
  unfolding all_sections
  all_whole = whole_objects 0 (parsed inputs).objects (λ i o is. ap (slice_get (parsed inputs).objects) (omega arith) ∙ is)

-- a section ends within its room
section_end_fits : (inputs : ParsedInputs) (a : ℕ) (l : IndexedSection) → (is_code_section l.section ≡ true → IsWhole l.section) → section_end inputs a l ≤ a + code_room l.section
section_end_fits inputs a l whole = by (is_code_section l.section) refl
  where
    by : (b : Bool) → is_code_section l.section ≡ b → section_end inputs a l ≤ a + code_room l.section
    by true code =
        let s = l.section in
        let begin = section_begin a s in
        omega (
          arith,
          section_end-code inputs a l code,
          items_fit s code (whole code) inputs l.object l.index begin,
          aligned_up-lt (max 4 s.align) a,
          code_room_is s code,
          counted_least s.compressed s.size,
          (whole code).bytes,
        )
    by false other = omega (arith, section_end-other inputs a l other)

ends_fit : (inputs : ParsedInputs) (a : ℕ) (ls : List IndexedSection) → AreWhole ls → fold (section_end inputs) a ls ≤ a + rooms ls
ends_fit inputs a [] whole = omega arith
ends_fit inputs a (l ∷ ls) whole =
    omega (arith, section_end_fits inputs a l whole.0, ends_fit inputs (section_end inputs a l) ls whole.1, sum_by-cons (λ (m : IndexedSection). code_room m.section) l ls)

-- all code ends near the start of the text
pub plain_end-fits : (inputs : Inputs) → gather_fault inputs ≡ None → plain_end (parsed inputs) ≤ inputs.map.text + 0x4_0000
unfolding plain_end
plain_end-fits inputs none =
    omega (arith, ends_fit (parsed inputs) inputs.map.text (all_sections (parsed inputs).objects) (all_whole inputs none), rooms_few inputs none)
