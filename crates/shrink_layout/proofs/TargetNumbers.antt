-- The numbers of the places that code may lead to: 2 and up, in their order. Before the first stand what is in front of all code and one padding, and a
-- section's end has the number of the next section's padding. So each such place is found by its number (`target_got`), and has it (`got_target`).
use Rattle.std.proofs.Common.{◌≡◌, ℕ, zero, suc, ◌+◌, ◌-◌, List, [], ◌∷◌, ◌++◌, length, map, take, Bool, true, false, cond, Some, None, slice_get, refl, sym, ap, ◌∙◌, arith, eqb, eq-eqb}
use Rattle.std.specs.Prelude.{◌||◌}
use Rattle.std.specs.List.{flat_map, sum_by}
use Rattle.std.specs.Option.{option_map}
use Rattle.std.proofs.lemmas.Bool.{or_left, or_right}
use Rattle.std.proofs.lemmas.Grind.{flat_map-append}
use Rattle.std.proofs.lemmas.List.{length-append, length-map}
use Rattle.std.proofs.lemmas.List.Sums.{sum_by-cons}
use Rattle.std.proofs.lemmas.Option.{none-some, same_Some, slice_get-map}
use Rattle.zc_base.specs.declared.place.Place.{Place}
use Rattle.elf32_read.specs.Parts.{ObjectParts, SectionParts, is_code_section}
use Rattle.psabi_sym.specs.Faults.{gather_fault}
use Rattle.psabi_sym.specs.Inputs.{Inputs, ParsedInputs, parsed}
use Rattle.psabi_sym.specs.Indexed.{IndexedSection, all_sections, section_at, sections_before}
use Rattle.psabi_sym.proofs.SectionNumbers.{before_number, listed_at}
use Rattle.block_cut.specs.Items.{all_targets, code_at, index_on, is_target_at, place_of, starts_in, starts_on, targets_in, targets_of}
use Rattle.block_cut.specs.Whole.{IsWhole}
use Rattle.block_cut.proofs.ListedLaws.{cut_at, listed}
use Rattle.block_cut.proofs.PlainLaws.{target_on}
use Rattle.block_cut.proofs.StartLaws.{before_end_all}
use Rattle.block_cut.proofs.WholeLaws.{code_at_is, code_is_section, code_whole, inputs_whole}
use Rattle.block_cut.proofs.WordLaws as words
use Rattle.shrink_layout.specs.Pieces.{piece_count, piece_number_at}
use Rattle.shrink_layout.proofs.HeldLaws.{among, got_of, start_index}
use Rattle.shrink_layout.proofs.NumberLaws.{number-code}
use Rattle.shrink_layout.proofs.OrderLaws.{target_code}

-- ---- one list and another

-- an element of both is one of the first or of the second
pub data IsIn {X : Type 0} (xs ys : List X) (j : ℕ) (x : X) : Type 0 where
  InFirst : slice_get xs j ≡ Some x → IsIn xs ys j x
  InSecond : (i : ℕ) → j ≡ length xs + i → slice_get ys i ≡ Some x → IsIn xs ys j x

pub in_either : {X : Type 0} (xs ys : List X) (j : ℕ) (x : X) → slice_get (xs ++ ys) j ≡ Some x → IsIn xs ys j x
in_either [] ys j x got = InSecond j (omega arith) got
in_either (z ∷ zs) ys zero x got = InFirst got
in_either (z ∷ zs) ys (suc j) x got = by (in_either zs ys j x got)
  where
    by : IsIn zs ys j x → IsIn (z ∷ zs) ys (suc j) x
    by (InFirst at) = InFirst at
    by (InSecond i same at) = InSecond i (omega (arith, same)) at

-- an element of the second is one of both
in_second : {X : Type 0} (xs ys : List X) (i : ℕ) (x : X) → slice_get ys i ≡ Some x → slice_get (xs ++ ys) (length xs + i) ≡ Some x
in_second [] ys i x got = let e : 0 + i ≡ i = omega arith in ap (slice_get ys) e ∙ got
in_second (z ∷ zs) ys i x got = let e : suc (length zs) + i ≡ suc (length zs + i) = omega arith in ap (slice_get (z ∷ zs ++ ys)) e ∙ in_second zs ys i x got

-- an element of the first list is one of both
in_first : {X : Type 0} (xs ys : List X) (i : ℕ) (x : X) → slice_get xs i ≡ Some x → slice_get (xs ++ ys) i ≡ Some x
in_first [] ys i x got = absurd (none-some x got)
in_first (z ∷ zs) ys zero x got = got
in_first (z ∷ zs) ys (suc i) x got = in_first zs ys i x got

-- ---- how many there are

-- a section of code has a target for its end, as it has a piece for its padding
targets_count : (l : IndexedSection) → length (targets_of l) ≡ piece_count l
targets_count l = by (is_code_section l.section)
  where
    by : (b : Bool) → length (cond b (map (place_of l) (targets_in l.section)) []) ≡ cond {A = ℕ} b (1 + length (starts_in l.section)) 0
    by true = omega (arith, length-map (targets_in l.section) (place_of l), length-append (starts_in l.section) (length l.section.bytes ∷ []))
    by false = refl

flat_count : (ls : List IndexedSection) → length (flat_map targets_of ls) ≡ sum_by piece_count ls
flat_count [] = refl
flat_count (l ∷ ls) = omega (arith, length-append (targets_of l) (flat_map targets_of ls), targets_count l, flat_count ls, sum_by-cons piece_count l ls)

pub all_targets_count : (objects : List ObjectParts) → length (all_targets objects) ≡ sum_by piece_count (all_sections objects)
all_targets_count objects = flat_count (all_sections objects)

-- ---- what each is

-- code may lead there, and it has this number
pub record IsNumbered (objects : List ObjectParts) (q : Place) (n : ℕ) : Type 0 where
  pub target : is_target_at objects q ≡ true
  pub number : piece_number_at objects q ≡ n

module _ (inputs : Inputs) (none : gather_fault inputs ≡ None) where
  abbrev given : ParsedInputs
  given = parsed inputs

  abbrev objects : List ObjectParts
  objects = given.objects

  module _ (l : IndexedSection) (here : section_at objects l.object l.index ≡ Some l.section) (code : is_code_section l.section ≡ true) where
    abbrev s : SectionParts
    s = l.section

    whole : IsWhole s
    whole = inputs_whole inputs l.object l.index s none here code

    at : (n : ℕ) → code_at objects (place_of l n) ≡ Some s
    at n = code_at_is objects (place_of l n) s here code

    -- an offset that code may lead to, with its index among these
    offset_there : (j n : ℕ) → slice_get (targets_in s) j ≡ Some n → (is_target_at objects (place_of l n) ≡ true) × (index_on s n ≡ j)
    offset_there j n got = by (in_either (starts_in s) (length s.bytes ∷ []) j n got)
      where
        target : (starts_on s n || eqb n (length s.bytes)) ≡ true → is_target_at objects (place_of l n) ≡ true
        target is = target_on objects (place_of l n) s (at n) ∙ is

        last : (i : ℕ) → j ≡ length (starts_in s) + i → slice_get (length s.bytes ∷ []) i ≡ Some n → (is_target_at objects (place_of l n) ≡ true) × (index_on s n ≡ j)
        last zero same end =
            let is : length s.bytes ≡ n = same_Some (length s.bytes) n end in (
              target (or_right (starts_on s n) (eqb n (length s.bytes)) (eq-eqb n (length s.bytes) (sym is))),
              ap (index_on s) (sym is) ∙ ap length (before_end_all s code whole) ∙ omega (arith, same),
            )
        last (suc i) same end = absurd (none-some n end)

        by : IsIn (starts_in s) (length s.bytes ∷ []) j n → (is_target_at objects (place_of l n) ≡ true) × (index_on s n ≡ j)
        by (InFirst start) =
            (target (or_left (starts_on s n) (eqb n (length s.bytes)) (among (starts_in s) j n start)), start_index s code whole j n start)
        by (InSecond i same end) = last i same end

    -- each place of the section is found by its number
    target_there : (j : ℕ) (q : Place) → slice_get (map (place_of l) (targets_in s)) j ≡ Some q
        → IsNumbered objects q (2 + sum_by piece_count (sections_before objects l.object l.index) + j)
    target_there j q got =
        let found = got_of (place_of l) (targets_in s) j q got in
        let there = offset_there j found.0 found.1 in
        let number : piece_number_at objects (place_of l found.0) ≡ 2 + sum_by piece_count (sections_before objects l.object l.index) + j =
        omega (arith, number-code objects (place_of l found.0) s there.0 (at found.0), there.1) in
        record {
          target = ap (is_target_at objects) (sym found.2) ∙ there.0;
          number = ap (piece_number_at objects) (sym found.2) ∙ number;
        }

    -- each start of an item in the section has the number of its place in the list
    pub start_there : (j n : ℕ) → slice_get (starts_in s) j ≡ Some n
        → piece_number_at objects (place_of l n) ≡ 2 + sum_by piece_count (sections_before objects l.object l.index) + j
    start_there j n got =
        let first = in_first (starts_in s) (length s.bytes ∷ []) j n got in
        (target_there j (place_of l n) (slice_get-map (place_of l) (targets_in s) j ∙ ap (option_map (place_of l)) first)).number

  -- a section that is no code has none
  section_there : (l : IndexedSection) → section_at objects l.object l.index ≡ Some l.section → (j : ℕ) (q : Place) → slice_get (targets_of l) j ≡ Some q
      → IsNumbered objects q (2 + sum_by piece_count (sections_before objects l.object l.index) + j)
  section_there l here j q got = by (is_code_section l.section) refl got
    where
      by : (b : Bool) → is_code_section l.section ≡ b → slice_get (cond b (map (place_of l) (targets_in l.section)) []) j ≡ Some q
          → IsNumbered objects q (2 + sum_by piece_count (sections_before objects l.object l.index) + j)
      by true code h = target_there l here code j q h
      by false other h = absurd (none-some q h)

  -- the places of sections one after another, before which come `base` pieces
  sections_there : (base : ℕ) (ls : List IndexedSection)
      → ((i : ℕ) (l : IndexedSection) → slice_get ls i ≡ Some l → (j : ℕ) (q : Place) → slice_get (targets_of l) j ≡ Some q → IsNumbered objects q (2 + (base + sum_by piece_count (take i ls)) + j))
      → (j : ℕ) (q : Place) → slice_get (flat_map targets_of ls) j ≡ Some q → IsNumbered objects q (2 + base + j)
  sections_there base [] each j q got = absurd (none-some q got)
  sections_there base (l ∷ ls) each j q got =
      by (λ i later. sections_there (base + piece_count l) ls (λ k m at n r here.
      let one = each (suc k) m at n r here in
      record { target = one.target; number = omega (arith, one.number, sum_by-cons piece_count l (take k ls)) }) i q later)
      (in_either (targets_of l) (flat_map targets_of ls) j q got)
    where
      by : ((i : ℕ) → slice_get (flat_map targets_of ls) i ≡ Some q → IsNumbered objects q (2 + (base + piece_count l) + i))
          → IsIn (targets_of l) (flat_map targets_of ls) j q → IsNumbered objects q (2 + base + j)
      by rest (InFirst own) = let is = each 0 l refl j q own in record { target = is.target; number = omega (arith, is.number) }
      by rest (InSecond i same later) = let is = rest i later in record { target = is.target; number = omega (arith, is.number, same, targets_count l) }

  -- each of all has the number that its place in the list says
  pub got_target : (j : ℕ) (q : Place) → slice_get (all_targets objects) j ≡ Some q → IsNumbered objects q (2 + j)
  got_target j q got =
      let is = sections_there 0 (all_sections objects) (λ i l at j r here.
      let one = section_there l (listed_at objects i l at) j r here in
      record { target = one.target; number = omega (arith, one.number, ap (sum_by piece_count) (before_number objects i l at)) }) j q got in
      record { target = is.target; number = omega (arith, is.number) }

  -- each place is found by its number
  pub target_got : (q : Place) → is_target_at objects q ≡ true → slice_get (all_targets objects) (piece_number_at objects q - 2) ≡ Some q
  target_got q target =
      let there = target_code objects q target in
      let s = there.0 in
      let two = code_is_section objects q s there.1 in
      let l = listed q.object q.section s in
      let before = sections_before objects q.object q.section in
      let cut = cut_at objects q.object q.section s two.0 in
      let offset = words.target_got s two.1 (code_whole inputs q s none there.1) q.offset (sym (target_on objects q s there.1) ∙ target) in
      let own : slice_get (targets_of l) (index_on s q.offset) ≡ Some q =
      ap (λ b. slice_get (cond b (map (place_of l) (targets_in s)) []) (index_on s q.offset)) two.1
      ∙ slice_get-map (place_of l) (targets_in s) (index_on s q.offset) ∙ ap (option_map (place_of l)) offset in
      let all : all_targets objects ≡ flat_map targets_of before ++ (targets_of l ++ flat_map targets_of cut.rest) =
      ap (flat_map targets_of) cut.all_are ∙ flat_map-append targets_of before (l ∷ cut.rest) in
      let number : piece_number_at objects q - 2 ≡ length (flat_map targets_of before) + index_on s q.offset =
      omega (arith, number-code objects q s target there.1, flat_count before) in
      (λ j. slice_get (all j) (number j))
      ∙ in_second (flat_map targets_of before) (targets_of l ++ flat_map targets_of cut.rest) (index_on s q.offset) q
      (in_first (targets_of l) (flat_map targets_of cut.rest) (index_on s q.offset) q own)

  -- two places with one number are one place
  pub same_number : (q r : Place) → is_target_at objects q ≡ true → is_target_at objects r ≡ true → piece_number_at objects q ≡ piece_number_at objects r → q ≡ r
  same_number q r from_target to_target same =
      same_Some q r (sym (target_got q from_target) ∙ ap (λ n. slice_get (all_targets objects) (n - 2)) same ∙ target_got r to_target)
