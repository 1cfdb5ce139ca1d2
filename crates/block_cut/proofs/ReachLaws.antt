-- The first place of a branch that doesn't reach: a test of each place of code, section after section.
use Rattle.std.proofs.Common.{◌≡◌, ◌≢◌, ℕ, ◌+◌, ◌≤◌, List, [], ◌∷◌, ◌++◌, length, drop, map, not, take, Bool, true, false, cond, eqb, Option, IfSome, Some, None, slice_get, refl, sym, ap, ◌∙◌, arith}
use Rattle.std.specs.Prelude.{◌||◌}
use Rattle.std.specs.List.{find, flat_map}
use Rattle.std.specs.Option.{option_map, option_map_or, option_or}
use Rattle.std.proofs.lemmas.Bool.{ne_eqb}
use Rattle.std.proofs.lemmas.List.{append-nil}
use Rattle.std.proofs.lemmas.List.Concat.{flat_map-append}
use Rattle.std.proofs.lemmas.List.Folds.{find-append}
use Rattle.std.proofs.lemmas.Option.{slice_get-map}
use Rattle.zc_base.specs.declared.place.Place.{Place}
use Rattle.elf32_read.specs.Parts.{SectionParts, is_code_section}
use Rattle.psabi_reloc.specs.Reaches.{branch_reach, short_branch_reach}
use Rattle.psabi_sym.specs.Faults.{gather_fault}
use Rattle.psabi_sym.specs.Fixed.{is_fixed}
use Rattle.psabi_sym.specs.Inputs.{Inputs, ParsedInputs, parsed}
use Rattle.psabi_sym.specs.Indexed.{IndexedSection, section_at}
use Rattle.psabi_sym.specs.Invariants.Rows.{section_row}
use Rattle.psabi_sym.specs.declared.section_row.SectionRow.{SectionRow}
use Rattle.block_cut.specs.Faults.{distance_between, is_far, is_out_of_reach, leaves_fixed, plain_distance, reaches, way_place}
use Rattle.block_cut.specs.Invariants.Home.{IsRowOf}
use Rattle.block_cut.specs.Items.{item_at, item_in, place_of, places_of, size_at, starts_in, targets_in}
use Rattle.block_cut.specs.Places.{code_place, code_places}
use Rattle.block_cut.specs.PlainLayout.{plain_address}
use Rattle.block_cut.specs.declared.code_place.CodePlace.{CodePlace}
use Rattle.block_cut.specs.declared.item.Item.{Item}
use Rattle.block_cut.specs.declared.item.Item.TheVariants.{Op, Hi, Lo, PcHi, PcLo, Branch, Jump, Call, Align, Word, Raw, RawShort, RawPair}
use Rattle.block_cut.proofs.ItemLaws.{item_at-code}
use Rattle.block_cut.proofs.PlainLaws.{address_range}
use Rattle.block_cut.proofs.RoomLaws.{plain_end-fits}
use Rattle.block_cut.proofs.TakeLaws.{cut_at_next, take_next}
use Rattle.block_cut.proofs.WordLaws.{code_here, end_other, found_next}
use Rattle.psabi_sym.proofs.Tables.{or_none}

-- ---- a place

-- whether an item that leads to a place can't reach it, or may not leave its section
abbrev misses : ParsedInputs → Place → ℕ → Item → Place → Bool
misses inputs q size i to = is_far inputs q size i to || leaves_fixed inputs q to

-- whether it is out of reach, by its item
abbrev out_by : ParsedInputs → Place → Option Item → Bool
out_by inputs q o = option_map_or (λ i. option_map_or (misses inputs q (size_at inputs.objects q) i) (way_place (size_at inputs.objects q) i) false) o false

-- what leads nowhere that it has to reach isn't
pub no_way : (inputs : ParsedInputs) (q : Place) (i : Item) → item_at inputs q ≡ Some i → way_place (size_at inputs.objects q) i ≡ None → is_out_of_reach inputs q ≡ false
no_way inputs q i at none = ap (out_by inputs q) at ∙ ap (λ o. option_map_or (misses inputs q (size_at inputs.objects q) i) o false) none

-- if the item leads to another place, it is out of range by the two addresses, or by the two sections
pub way_there : (inputs : ParsedInputs) (q to : Place) (i : Item) → item_at inputs q ≡ Some i → way_place (size_at inputs.objects q) i ≡ Some to
    → is_out_of_reach inputs q ≡ (option_map_or (λ d. not (reaches (size_at inputs.objects q) i d)) (distance_between (plain_address inputs q) (plain_address inputs to)) false || leaves_fixed inputs q to)
way_there inputs q to i at leads = ap (out_by inputs q) at ∙ ap (λ o. option_map_or (misses inputs q (size_at inputs.objects q) i) o false) leads

-- the branch that an item is leads here
abbrev pub branch_place : Item → Option Place
branch_place (Branch op first second to) = Some to
branch_place item = None

-- a place is too far for a branch of 4 bytes
abbrev pub is_far_branch : ParsedInputs → Place → Place → Bool
is_far_branch inputs q to = option_map_or (λ d. not (branch_reach d)) (plain_distance inputs q to) false

-- what has another size than 2 is out of reach if it is such a branch, or one that may not leave its section
pub out_plain : (inputs : ParsedInputs) (q : Place) (i : Item) → item_at inputs q ≡ Some i → size_at inputs.objects q ≢ 2
    → is_out_of_reach inputs q ≡ option_map_or (λ to. is_far_branch inputs q to || leaves_fixed inputs q to) (branch_place i) false
out_plain inputs q i at long = ap (out_by inputs q) at ∙ by i
  where
    size : ℕ
    size = size_at inputs.objects q

    other : eqb size 2 ≡ false
    other = ne_eqb size 2 long

    by : (i : Item) → option_map_or (misses inputs q size i) (way_place size i) false ≡ option_map_or (λ to. is_far_branch inputs q to || leaves_fixed inputs q to) (branch_place i) false
    by (Op i) = refl
    by (Hi i t) = refl
    by (Lo i t) = refl
    by (PcHi i t) = refl
    by (PcLo i from) = refl
    by (Branch op first second to) = ap (λ b. option_map_or (λ d. not (cond b (short_branch_reach d) (branch_reach d))) (plain_distance inputs q to) false || leaves_fixed inputs q to) other
    by (Jump rd to) = ap (λ b. option_map_or (misses inputs q size (Jump rd to)) (cond b (Some to) None) false) other
    by (Call rd temp to) = refl
    by (Align bytes) = refl
    by (Word t) = refl
    by (Raw word) = refl
    by (RawShort half) = refl
    by (RawPair one two) = refl

-- an address is near the text's start
pub in_range : (inputs : Inputs) → gather_fault inputs ≡ None → (q : Place) → IfSome (plain_address (parsed inputs) q) (λ a. (inputs.map.text ≤ a) × (a ≤ inputs.map.text + 0x4_0000))
in_range inputs none q = by (plain_address (parsed inputs) q) refl
  where
    by : (o : Option ℕ) → plain_address (parsed inputs) q ≡ o → IfSome o (λ a. (inputs.map.text ≤ a) × (a ≤ inputs.map.text + 0x4_0000))
    by None at = tt
    by (Some a) at = let range = address_range inputs none q a at in (range.0, omega (arith, range.1, plain_end-fits inputs none))

-- ---- a section

-- what is found among values is the value of what is found
find_through : {X Y : Type 0} (f : X → Y) (p : Y → Bool) (xs : List X) → find p (map f xs) ≡ option_map f (find (λ x. p (f x)) xs)
find_through f p [] = refl
find_through f p (x ∷ xs) = by (p (f x)) (find_through f p xs)
  where
    by : (b : Bool) → find p (map f xs) ≡ option_map f (find (λ y. p (f y)) xs) → cond b (Some (f x)) (find p (map f xs)) ≡ option_map f (cond b (Some x) (find (λ y. p (f y)) xs))
    by true rest = refl
    by false rest = rest

-- the branch or jump at a place of a section is out of range
abbrev pub is_out_at : ParsedInputs → IndexedSection → CodePlace → Bool
is_out_at inputs l p = is_out_of_reach inputs (place_of l p.offset)

-- the first of a section is the first of its places: none stands at its end
pub first_on : (inputs : Inputs) (l : IndexedSection) → gather_fault inputs ≡ None → section_at (parsed inputs).objects l.object l.index ≡ Some l.section
    → find (is_out_of_reach (parsed inputs)) (places_of l) ≡ option_map (λ p. place_of l p.offset) (find (is_out_at (parsed inputs) l) (code_places (parsed inputs) l))
first_on inputs l none found = by (is_code_section l.section) refl
  where
    out : Place → Bool
    out q = is_out_of_reach (parsed inputs) q

    s : SectionParts
    s = l.section

    by : (b : Bool) → is_code_section s ≡ b
        → find out (cond b (map (place_of l) (starts_in s)) []) ≡ option_map (λ p. place_of l p.offset) (find (is_out_at (parsed inputs) l) (cond b (map (code_place (parsed inputs) l) (targets_in s)) []))
    by true code =
        let here = code_here inputs l.object l.index s none found code in
        let n = length s.bytes in
        let nothing : item_at (parsed inputs) (place_of l n) ≡ None =
        item_at-code (parsed inputs) (place_of l n) s (here.at n) ∙ ap (λ b. cond b (Some (item_in (parsed inputs) s (place_of l n))) None) (end_other s code here.whole) in
        let reaches : out (place_of l n) ≡ false = ap (out_by (parsed inputs) (place_of l n)) nothing in
        let all : find (λ m. out (place_of l m)) (targets_in s) ≡ find (λ m. out (place_of l m)) (starts_in s) =
        find-append (λ m. out (place_of l m)) (starts_in s) (n ∷ []) ∙ ap (λ b. option_or (find (λ m. out (place_of l m)) (starts_in s)) (cond b (Some n) None)) reaches
        ∙ or_none (find (λ m. out (place_of l m)) (starts_in s)) in
        find_through (place_of l) out (starts_in s) ∙ ap (option_map (place_of l)) (sym all) ∙ twice (find (λ m. out (place_of l m)) (targets_in s))
        ∙ sym (ap (option_map (λ (p : CodePlace). place_of l p.offset)) (find_through (code_place (parsed inputs) l) (is_out_at (parsed inputs) l) (targets_in s)))
      where
        twice : (o : Option ℕ) → option_map (place_of l) o ≡ option_map (λ (p : CodePlace). place_of l p.offset) (option_map (code_place (parsed inputs) l) o)
        twice None = refl
        twice (Some m) = refl
    by false other = refl

-- a place is what stands at its offset
pub place_own : (inputs : ParsedInputs) (l : IndexedSection) (k : ℕ) (p : CodePlace) → slice_get (code_places inputs l) k ≡ Some p → p ≡ code_place inputs l p.offset
place_own inputs l k p at = by (is_code_section l.section) at
  where
    named : (o : Option ℕ) → option_map (code_place inputs l) o ≡ Some p → p ≡ code_place inputs l p.offset
    named None is = absurd cc
    named (Some n) is = let same : code_place inputs l n ≡ p = cc in sym same ∙ ap (λ (x : CodePlace). code_place inputs l x.offset) same

    by : (b : Bool) → slice_get (cond b (map (code_place inputs l) (targets_in l.section)) []) k ≡ Some p → p ≡ code_place inputs l p.offset
    by true at = named (slice_get (targets_in l.section) k) (sym (slice_get-map (code_place inputs l) (targets_in l.section) k) ∙ at)
    by false at = absurd cc

-- the row of a section is that of each of its places
pub row_of : (inputs : ParsedInputs) (l : IndexedSection) (n : ℕ) (row : SectionRow) → section_at inputs.objects l.object l.index ≡ Some l.section → row ≡ section_row inputs.fixed l
    → IsRowOf inputs (place_of l n) row
row_of inputs l n row found is = record {
  object = ap (λ r. r.object) is;
  index = ap (λ r. r.index) is;
  fixed = ap (λ r. r.fixed) is ∙ ap (λ o. option_map_or (is_fixed inputs.fixed) o false) (sym found);
}

-- ---- lists of elements

-- none of the first k + 1 elements passes if none of the first k does, nor the next one
pub none_next : {X : Type 0} (p : X → Bool) (xs : List X) (k : ℕ) (x : X) → slice_get xs k ≡ Some x → find p (take k xs) ≡ None → p x ≡ false → find p (take (k + 1) xs) ≡ None
none_next p xs k x at none fails = found_next p xs k x at ∙ (λ j. option_or (none j) (cond (fails j) (Some x) None))

-- or that does
pub first_next : {X : Type 0} (p : X → Bool) (xs : List X) (k : ℕ) (x : X) → slice_get xs k ≡ Some x → find p (take k xs) ≡ None → p x ≡ true → find p xs ≡ Some x
first_next p xs k x at none passes =
    ap (find p) (cut_at_next xs k x at) ∙ find-append p (take k xs) (x ∷ drop (k + 1) xs) ∙ (λ j. option_or (none j) (cond (passes j) (Some x) (find p (drop (k + 1) xs))))

-- ---- sections

-- no place of one section more passes
pub none_more : (p : Place → Bool) (sections : List IndexedSection) (k : ℕ) (l : IndexedSection) → slice_get sections k ≡ Some l → find p (flat_map places_of (take k sections)) ≡ None → find p (places_of l) ≡ None
    → find p (flat_map places_of (take (k + 1) sections)) ≡ None
none_more p sections k l at before own =
    ap (λ ls. find p (flat_map places_of ls)) (take_next sections k l at) ∙ ap (find p) (flat_map-append places_of (take k sections) (l ∷ []))
    ∙ find-append p (flat_map places_of (take k sections)) (places_of l ++ []) ∙ (λ j. option_or (before j) (find p (append-nil (places_of l) j))) ∙ own

-- the first of a section is the first of all, if there is none before
pub first_of_all : (p : Place → Bool) (sections : List IndexedSection) (k : ℕ) (l : IndexedSection) (q : Place) → slice_get sections k ≡ Some l → find p (flat_map places_of (take k sections)) ≡ None → find p (places_of l) ≡ Some q
    → find p (flat_map places_of sections) ≡ Some q
first_of_all p sections k l q at before own =
    let rest = flat_map places_of (drop (k + 1) sections) in
    ap (λ ls. find p (flat_map places_of ls)) (cut_at_next sections k l at) ∙ ap (find p) (flat_map-append places_of (take k sections) (l ∷ drop (k + 1) sections))
    ∙ find-append p (flat_map places_of (take k sections)) (places_of l ++ rest) ∙ ap (λ o. option_or o (find p (places_of l ++ rest))) before
    ∙ find-append p (places_of l) rest ∙ ap (λ o. option_or o (find p rest)) own
