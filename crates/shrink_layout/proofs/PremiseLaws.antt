-- What the layout asks of pieces holds of those of inputs without a fault: alignments are at least 1 and even, sizes are even,
-- targets are pieces or the end (`targets`), and all have little room (`room_few`). If there is no ALIGN, no code aligned above 4
-- bytes and no fixed section, no piece is aligned above 2 (`all_tight`).
use Rattle.std.proofs.Common.{◌≡◌, ℕ, zero, suc, ◌+◌, ◌*◌, ◌%◌, ◌<◌, ◌≤◌, ◌⊎◌, inl, inr, List, [], ◌∷◌, ◌++◌, All, get_or, length, map, max, Bool, true, false, cond, Option, Some, None, slice_get, refl, sym, ap, subst, ◌∙◌, arith, eqb, leb, ltb}
use Rattle.std.specs.Prelude.{◌&&◌, ◌||◌, nat_le, not}
use Rattle.std.specs.List.{flat_map, list_any, sum_by}
use Rattle.std.proofs.lemmas.Bool.{and_parts, leb-false, ltb-false, ltb-true, not-true, or_parts}
use Rattle.std.proofs.lemmas.List.{length-append, length-map}
use Rattle.std.proofs.lemmas.List.Folds.{list_any-append}
use Rattle.std.proofs.lemmas.List.Sums.{sum_by-append, sum_by-cons}
use Rattle.elf32_read.specs.Parts.{ObjectParts, SectionParts, is_code_section}
use Rattle.psabi_sym.specs.Blocks.{aligned_up}
use Rattle.psabi_sym.specs.Faults.{code_room, counted_bytes, gather_fault, power_above}
use Rattle.psabi_sym.specs.Fixed.{is_fixed_at}
use Rattle.psabi_sym.specs.Inputs.{Inputs, ParsedInputs, parsed}
use Rattle.psabi_sym.specs.Indexed.{IndexedSection, all_sections, section_at}
use Rattle.psabi_sym.specs.declared.target.Target.{Target}
use Rattle.psabi_sym.specs.declared.target.Target.TheVariants.{Code, Number, Absent, Nowhere}
use Rattle.zc_base.specs.declared.place.Place.{Place}
use Rattle.psabi_reloc.specs.Parts.{hi20_of, lo12_of}
use Rattle.psabi_reloc.specs.Patched.{with_imm, with_upper}
use Rattle.rv_decode.specs.declared.instr.Instr.{Instr}
use Rattle.psabi_sym.proofs.SectionNumbers.{listed_at}
use Rattle.block_cut.specs.Items.{all_items, code_at, item_at, item_in, items_in, place_of, places_of, size_at, size_on, starts_in}
use Rattle.block_cut.specs.PlainLayout.{padding_of}
use Rattle.block_cut.specs.Whole.{IsWhole}
use Rattle.block_cut.specs.declared.item.Item.{Item}
use Rattle.block_cut.specs.declared.item.Item.TheVariants as item
use Rattle.block_cut.specs.CodeSizes.{code_step}
use Rattle.block_cut.proofs.CodeSizeLaws.{counted_least, counted_step, counted_sum}
use Rattle.block_cut.proofs.ItemLaws.{Takes, Bytes, Padding, item_takes}
use Rattle.block_cut.proofs.RoomLaws.{AreWhole, all_whole, code_room_is, items_in-code, rooms, rooms_few, starts_counted}
use Rattle.block_cut.proofs.StartLaws.{along}
use Rattle.shrink_layout.specs.Forms.{HasAlignment, IsEvenPiece, longest, target}
use Rattle.shrink_layout.specs.Least.{IsTight}
use Rattle.frame_match.specs.declared.group.Group.{Group}
use Rattle.shrink_layout.specs.Pieces.{alignment_of, group_size, item_piece_at, kept_piece, is_align, is_aligned_code, is_short, is_short_branch, is_short_jump, is_short_on, is_unaligned, jump_piece, part_size, piece_at, piece_number_at, piece_of, pieces_by, pieces_in, pieces_of, section_alignment, section_pieces, slot_at}
use Rattle.shrink_layout.specs.Units.{front_size, rest_instr}
use Rattle.shrink_layout.specs.declared.piece.Piece.{Piece}
use Rattle.shrink_layout.specs.declared.piece.Piece.TheVariants.{Fixed, Align, Branch, Jump}
use Rattle.shrink_layout.proofs.NumberLaws.{number_most, section_laid-code}
use Rattle.shrink_layout.proofs.OwnSizes.{IsOwn, own_at}
use Rattle.shrink_layout.proofs.UnitLaws.{item_same, piece_case, there}

-- ---- lists

-- P holds of each, by recursion
abbrev pub Each : {X : Type 0} → (X → Type 0) → List X → Type 0
Each P [] = Unit {0}
Each P (x ∷ xs) = P x × Each P xs

-- what holds of each element of two lists
pub each-append : {X : Type 0} (P : X → Type 0) (xs ys : List X) → Each P xs → Each P ys → Each P (xs ++ ys)
each-append P [] ys one two = two
each-append P (x ∷ xs) ys one two = (one.0, each-append P xs ys one.1 two)

-- what holds of each value of a function
each-map : {X Y : Type 0} (P : Y → Type 0) (f : X → Y) → ((x : X) → P (f x)) → (xs : List X) → Each P (map f xs)
each-map P f all [] = tt
each-map P f all (x ∷ xs) = (all x, each-map P f all xs)

-- what holds of each element holds by its index
pub all_of : {X : Type 0} (P : X → Type 0) (xs : List X) → Each P xs → All P xs
all_of {X = X} P [] each = λ k d lt. absurd (omega (arith, lt))
all_of {X = X} P (x ∷ xs) each = λ k d lt. by k d lt (all_of P xs each.1)
  where
    by : (k : ℕ) (d : X) → k < length (x ∷ xs) → All P xs → P (get_or (x ∷ xs) k d)
    by zero d lt rest = each.0
    by (suc k) d lt rest = rest k d (omega (arith, lt))

-- ---- powers of two

-- a power of two above a number of bytes, from 2 to 256
pub record IsPower (n p : ℕ) : Type 0 where
  pub some : 0 < p
  even : p % 2 ≡ 0
  near : 1 < n → n < 256 → p ≤ 2 * n
  at_start : aligned_up p 0 ≡ 0

-- by cases on the tests
powers : (n : ℕ) (b2 : Bool) → ltb n 2 ≡ b2 → (b4 : Bool) → ltb n 4 ≡ b4 → (b8 : Bool) → ltb n 8 ≡ b8 → (b16 : Bool) → ltb n 16 ≡ b16 → (b32 : Bool) → ltb n 32 ≡ b32 → (b64 : Bool) → ltb n 64 ≡ b64 → (b128 : Bool) → ltb n 128 ≡ b128 →
    IsPower n (cond b2 2 (cond b4 4 (cond b8 8 (cond b16 16 (cond b32 32 (cond b64 64 (cond b128 128 256)))))))
unfolding aligned_up
powers n true e2 b4 e4 b8 e8 b16 e16 b32 e32 b64 e64 b128 e128 = record { some = omega arith; even = refl; near = λ low high. omega (arith, ltb-true n 2 e2); at_start = refl }
powers n false e2 true e4 b8 e8 b16 e16 b32 e32 b64 e64 b128 e128 = record { some = omega arith; even = refl; near = λ low high. omega (arith, ltb-false n 2 e2); at_start = refl }
powers n false e2 false e4 true e8 b16 e16 b32 e32 b64 e64 b128 e128 = record { some = omega arith; even = refl; near = λ low high. omega (arith, ltb-false n 4 e4); at_start = refl }
powers n false e2 false e4 false e8 true e16 b32 e32 b64 e64 b128 e128 = record { some = omega arith; even = refl; near = λ low high. omega (arith, ltb-false n 8 e8); at_start = refl }
powers n false e2 false e4 false e8 false e16 true e32 b64 e64 b128 e128 = record { some = omega arith; even = refl; near = λ low high. omega (arith, ltb-false n 16 e16); at_start = refl }
powers n false e2 false e4 false e8 false e16 false e32 true e64 b128 e128 = record { some = omega arith; even = refl; near = λ low high. omega (arith, ltb-false n 32 e32); at_start = refl }
powers n false e2 false e4 false e8 false e16 false e32 false e64 true e128 = record { some = omega arith; even = refl; near = λ low high. omega (arith, ltb-false n 64 e64); at_start = refl }
powers n false e2 false e4 false e8 false e16 false e32 false e64 false e128 = record { some = omega arith; even = refl; near = λ low high. omega (arith, ltb-false n 128 e128); at_start = refl }

-- the power of two above any number is one
pub power_is : (n : ℕ) → IsPower n (power_above n)
power_is n = powers n (ltb n 2) refl (ltb n 4) refl (ltb n 8) refl (ltb n 16) refl (ltb n 32) refl (ltb n 64) refl (ltb n 128) refl

-- ---- groups

-- a group takes 2, 4 or 6 bytes
pub record IsGroupSize (n : ℕ) : Type 0 where
  pub least : 2 ≤ n
  pub even : n % 2 ≡ 0
  pub most : n ≤ 6

pub group_sized : (g : Group) → IsGroupSize (group_size g)
group_sized g = by (eqb g.rest 0) (is_short (rest_instr g))
  where
    by : (b c : Bool) → IsGroupSize (cond b 2 (2 + cond c 2 4))
    by true c = record { least = omega arith; even = refl; most = omega arith }
    by false true = record { least = omega arith; even = refl; most = omega arith }
    by false false = record { least = omega arith; even = refl; most = omega arith }

-- ---- pieces of items

module _ (inputs : ParsedInputs) (slots : List (Option Place)) where
  abbrev objects : List ObjectParts
  objects = inputs.objects

  abbrev slot : Place → Option ℕ
  slot = slot_at inputs slots

  -- P holds of the piece of an item if it holds of the sizes that there are, of branches and jumps to places, and of padding
  item_case : (i : Item) (P : Piece → Type 0) → P (Fixed 2) → P (Fixed 4) → P (Fixed 8) → ((q : Place) (b : Bool) → P (Branch (piece_number_at objects q) b)) → ((q : Place) → P (Jump (piece_number_at objects q)))
      → ((bytes : ℕ) → i ≡ item.Align bytes → P (Align (power_above bytes))) → P (piece_of inputs i)
  item_case i P two four eight branch jump align = by i refl
    where
      sized : (b : Bool) → P (Fixed (cond b 2 4))
      sized true = two
      sized false = four

      part : (t : Target) (patched : ℕ → Instr) → P (Fixed (part_size inputs.map.extensions t patched))
      part (Code q) patched = four
      part (Number n) patched = sized (is_short_on inputs.map.extensions (patched n))
      part (Absent n) patched = sized (is_short_on inputs.map.extensions (patched n))
      part Nowhere patched = four

      leads : (q : Place) (b : Bool) → P (jump_piece objects q b)
      leads q true = jump q
      leads q false = four

      by : (x : Item) → i ≡ x → P (piece_of inputs x)
      by (item.Op i) e = sized (is_short_on inputs.map.extensions i)
      by (item.Hi i t) e = part t (λ x. with_upper i (hi20_of x))
      by (item.Lo i t) e = part t (λ x. with_imm i (lo12_of x))
      by (item.PcHi i t) e = four
      by (item.PcLo i q) e = four
      by (item.Branch op first second to) e = branch to (is_short_branch op first second)
      by (item.Jump rd to) e = leads to (is_short_jump rd)
      by (item.Call rd temp to) e = leads to (is_short_jump rd)
      by (item.Align bytes) e = align bytes e
      by (item.Word t) e = four
      by (item.Raw word) e = four
      by (item.RawShort half) e = two
      by (item.RawPair first second) e = eight

  -- the same of the piece of an item of a fixed section, which has the sizes that items have in objects
  kept_case : (i : Item) (own : ℕ) → IsOwn i own → (P : Piece → Type 0) → P (Fixed 2) → P (Fixed 4) → P (Fixed 8) → ((q : Place) (b : Bool) → P (Branch (piece_number_at objects q) b)) → ((q : Place) → P (Jump (piece_number_at objects q)))
      → ((bytes : ℕ) → i ≡ item.Align bytes → P (Align (power_above bytes))) → P (kept_piece inputs own i)
  kept_case i own is P two four eight branch jump align = by i refl is
    where
      leads : (q : Place) (b : Bool) → P (jump_piece objects q b)
      leads q true = jump q
      leads q false = four

      sized : (own ≡ 2) ⊎ (own ≡ 4) → P (Fixed own)
      sized (inl e) = subst (λ n. P (Fixed n)) (sym e) two
      sized (inr e) = subst (λ n. P (Fixed n)) (sym e) four

      by : (x : Item) → i ≡ x → IsOwn x own → P (kept_piece inputs own x)
      by (item.Op i) e is = sized is
      by (item.Hi i t) e is = four
      by (item.Lo i t) e is = four
      by (item.PcHi i t) e is = four
      by (item.PcLo i q) e is = four
      by (item.Branch op first second to) e is = branch to (eqb own 2 && is_short_branch op first second)
      by (item.Jump rd to) e is = leads to (eqb own 2 && is_short_jump rd)
      by (item.Call rd temp to) e is = eight
      by (item.Align bytes) e is = align bytes e
      by (item.Word t) e is = four
      by (item.Raw word) e is = four
      by (item.RawShort half) e is = two
      by (item.RawPair first second) e is = eight

  -- the same of the piece of the item at a place
  pub here_case : (q : Place) (i : Item) → item_at inputs q ≡ Some i → (P : Piece → Type 0) → P (Fixed 2) → P (Fixed 4) → P (Fixed 8) → ((q : Place) (b : Bool) → P (Branch (piece_number_at objects q) b)) → ((q : Place) → P (Jump (piece_number_at objects q)))
      → ((bytes : ℕ) → i ≡ item.Align bytes → P (Align (power_above bytes))) → P (item_piece_at inputs q i)
  here_case q i is P two four eight branch jump align = by (is_fixed_at inputs q.object q.section)
    where
      by : (b : Bool) → P (cond b (kept_piece inputs (size_at objects q) i) (piece_of inputs i))
      by true = kept_case i (size_at objects q) (own_at inputs q i is) P two four eight branch jump align
      by false = item_case i P two four eight branch jump align

  -- an item takes at most twice what the bytes of its step count
  item_longest : (q : Place) (i : Item) → item_at inputs q ≡ Some i → (n room : ℕ) → 1 < n → n ≤ room → 4 ≤ room → Takes i n → longest (item_piece_at inputs q i) ≤ 2 * room
  item_longest q i at n room some le four takes = here_case q i at (λ p. longest p ≤ 2 * room) (omega (arith, four)) (omega (arith, four)) (omega (arith, four)) (λ q b. omega (arith, four)) (λ q. omega (arith, four)) (by takes)
    where
      by : Takes i n → (bytes : ℕ) → i ≡ item.Align bytes → power_above bytes ≤ 2 * room
      by (Padding is p) bytes e =
          let same : n ≡ bytes = cc (is, e) in
          omega (arith, (power_is n).near some (omega (arith, p.short)), le, ap power_above same)
      by (Bytes is) bytes e = absurd (cc (is, ap padding_of e))

  -- ---- pieces of places

  place_aligned : (q : Place) → HasAlignment (piece_at inputs slot q)
  place_aligned q = piece_case inputs slot q HasAlignment tt (λ i is. here_case q i is HasAlignment tt tt tt (λ q b. tt) (λ q. tt) (λ bytes e. (power_is bytes).some)) (λ g. tt) tt

  place_even : (q : Place) → IsEvenPiece (piece_at inputs slot q)
  place_even q = piece_case inputs slot q IsEvenPiece refl (λ i is. here_case q i is IsEvenPiece refl refl refl (λ q b. tt) (λ q. tt) (λ bytes e. (power_is bytes).even)) (λ g. (group_sized g).even) refl

  place_leads : (q : Place) → target (piece_at inputs slot q) ≤ length (pieces_of inputs slots)
  place_leads q =
      piece_case inputs slot q (λ p. target p ≤ length (pieces_of inputs slots)) (omega arith)
      (λ i is.
      here_case q i is (λ p. target p ≤ length (pieces_of inputs slots)) (omega arith) (omega arith) (omega arith) (λ q b. number_most inputs slots q) (λ q. number_most inputs slots q) (λ bytes e. omega arith))
      (λ g. omega arith) (omega arith)

  -- the piece of an item that isn't padding is tight
  place_tight : (q : Place) (s : SectionParts) → code_at objects q ≡ Some s → is_align (item_in inputs s q) ≡ false → IsTight (piece_at inputs slot q)
  place_tight q s here other =
      piece_case inputs slot q IsTight tt
      (λ i is.
      here_case q i is IsTight tt tt tt (λ q b. tt) (λ q. tt) (λ bytes e. absurd (cc (ap is_align (item_same inputs q s i here is) ∙ other, ap is_align e))))
      (λ g. tt) tt

  -- the piece at a step takes at most twice what the bytes of the step count
  place_longest : (q : Place) (s : SectionParts) (n : ℕ) → code_at objects q ≡ Some s → n % code_step s.compressed ≡ 0 → 2 ≤ n → Takes (item_in inputs s q) n
      → longest (piece_at inputs slot q) ≤ 2 * counted_bytes s.compressed n
  place_longest q s n here step some takes =
      let four = counted_step s.compressed n step some in
      piece_case inputs slot q (λ p. longest p ≤ 2 * counted_bytes s.compressed n) (omega arith)
      (λ i is.
      item_longest q i is n (counted_bytes s.compressed n) (omega (arith, some)) (counted_least s.compressed n) four
      (subst (λ x. Takes x n) (sym (item_same inputs q s i here is)) takes))
      (λ g. omega (arith, four, (group_sized g).most))
      (omega (arith, four))

  -- ---- pieces of sections

  -- the padding before a section of code goes up to 2, or to its alignment, which is 4 at least if it is fixed
  record IsPaddingTo (s : SectionParts) (a : ℕ) : Type 0 where
    some : 0 < a
    even : a % 2 ≡ 0
    most : a ≤ max 4 s.align

  -- the padding of each whole section
  padding_is : (l : IndexedSection) → IsWhole l.section → IsPaddingTo l.section (section_alignment inputs l)
  padding_is l whole = fixed (is_fixed_at inputs l.object l.index)
    where
      s : SectionParts
      s = l.section

      by : (b : Bool) → leb s.align 4 ≡ b → IsPaddingTo s (cond b 2 s.align)
      by true low = record { some = omega arith; even = refl; most = omega arith }
      by false high =
          let above : 4 < s.align = leb-false s.align 4 high in
          record { some = omega arith; even = omega (arith, whole.aligned); most = omega arith }

      fixed : (b : Bool) → IsPaddingTo s (alignment_of b s.align)
      fixed true = record { some = omega arith; even = omega (arith, whole.aligned); most = omega arith }
      fixed false = by (nat_le s.align 4) refl

  -- P holds of each piece of sections if it holds of what pads them and of those of places
  each_piece : (P : Piece → Type 0) → ((l : IndexedSection) → IsWhole l.section → P (Align (section_alignment inputs l))) → ((q : Place) → P (piece_at inputs slot q)) → (ls : List IndexedSection) → AreWhole ls
      → Each P (pieces_in inputs slot ls)
  each_piece P pads place [] whole = tt
  each_piece P pads place (l ∷ ls) whole =
      each-append P (section_pieces inputs slot l) (pieces_in inputs slot ls) (by (is_code_section l.section) refl) (each_piece P pads place ls whole.1)
    where
      by : (b : Bool) → is_code_section l.section ≡ b → Each P (cond b (Align (section_alignment inputs l) ∷ map (piece_at inputs slot) (places_of l)) [])
      by true code = (pads l (whole.0 code), each-map P (piece_at inputs slot) place (places_of l))
      by false other = tt

  -- a section has its pieces by their offsets
  section_pieces-code : (l : IndexedSection) → is_code_section l.section ≡ true → section_pieces inputs slot l ≡ Align (section_alignment inputs l) ∷ map (λ m. piece_at inputs slot (place_of l m)) (starts_in l.section)
  section_pieces-code l code = section_laid-code (λ m. Align (section_alignment inputs m)) (piece_at inputs slot) l.object l.index l.section code

  module _ (l : IndexedSection) (here : section_at objects l.object l.index ≡ Some l.section) (code : is_code_section l.section ≡ true) where
    -- what is written is tight if no item is padding
    each_tight : (ns : List ℕ) → list_any is_align (map (λ n. item_in inputs l.section (place_of l n)) ns) ≡ false → Each IsTight (map (λ n. piece_at inputs slot (place_of l n)) ns)
    each_tight [] none = tt
    each_tight (n ∷ ns) none =
        let two = or_parts (is_align (item_in inputs l.section (place_of l n))) (list_any is_align (map (λ m. item_in inputs l.section (place_of l m)) ns)) none in
        (place_tight (place_of l n) l.section (there inputs l here code n) two.0, each_tight ns two.1)

  -- all pieces of sections that aren't aligned either are tight
  sections_tight : (ls : List IndexedSection) → ((k : ℕ) (l : IndexedSection) → slice_get ls k ≡ Some l → section_at objects l.object l.index ≡ Some l.section)
      → list_any is_align (flat_map (items_in inputs) ls) ≡ false → list_any (is_aligned_code inputs) ls ≡ false → Each IsTight (pieces_in inputs slot ls)
  sections_tight [] here none low = tt
  sections_tight (l ∷ ls) here none low =
      let items = or_parts (list_any is_align (items_in inputs l)) (list_any is_align (flat_map (items_in inputs) ls)) (sym (list_any-append is_align (items_in inputs l) (flat_map (items_in inputs) ls)) ∙ none) in
      let two = or_parts (is_aligned_code inputs l) (list_any (is_aligned_code inputs) ls) low in
      each-append IsTight (section_pieces inputs slot l) (pieces_in inputs slot ls) (own (is_code_section l.section) refl items.0 two.0) (sections_tight ls (λ k m is. here (suc k) m is) items.1 two.1)
    where
      aligned : (b : Bool) → leb l.section.align 4 ≡ b → ltb 4 l.section.align ≡ false → cond b 2 l.section.align ≡ 2
      aligned true le high = refl
      aligned false le high = absurd (omega (arith, leb-false l.section.align 4 le, ltb-false 4 l.section.align high))

      padded : (b : Bool) → b ≡ false → ltb 4 l.section.align ≡ false → alignment_of b l.section.align ≡ 2
      padded true fixed high = absurd cc
      padded false other high = aligned (leb l.section.align 4) refl high

      own : (b : Bool) → is_code_section l.section ≡ b → list_any is_align (items_in inputs l) ≡ false → (b && ltb 4 l.section.align || is_fixed_at inputs l.object l.index) ≡ false → Each IsTight (section_pieces inputs slot l)
      own true code none high =
          let two = or_parts (ltb 4 l.section.align) (is_fixed_at inputs l.object l.index) high in
          subst (Each IsTight) (sym (section_pieces-code l code))
          (padded (is_fixed_at inputs l.object l.index) two.1 two.0, each_tight l (here 0 l refl) code (starts_in l.section) (ap (list_any is_align) (sym (items_in-code inputs l code)) ∙ none))
      own false other none high = subst (Each IsTight) (sym (ap (λ b. cond b (Align (section_alignment inputs l) ∷ map (piece_at inputs slot) (places_of l)) []) other)) tt

  -- ---- room

  module _ (l : IndexedSection) (here : section_at objects l.object l.index ≡ Some l.section) (code : is_code_section l.section ≡ true) (whole : IsWhole l.section) where
    abbrev s : SectionParts
    s = l.section

    abbrev piece_on : ℕ → Piece
    piece_on m = piece_at inputs slot (place_of l m)

    -- the places of a section take at most twice what its bytes count
    places_longest : sum_by longest (map piece_on (starts_in s)) ≤ 2 * counted_bytes s.compressed (length s.bytes)
    places_longest = omega (arith, all)
      where
        all : sum_by longest (map piece_on (starts_in s)) + 2 * counted_bytes s.compressed 0 ≤ 2 * counted_bytes s.compressed (length s.bytes)
        all = along s code whole (λ n xs. sum_by longest (map piece_on xs) + 2 * counted_bytes s.compressed n ≤ 2 * counted_bytes s.compressed (length s.bytes)) (omega arith)
            (λ n xs lt words st above rest. omega (
              arith,
              sum_by-cons longest (piece_on n) (map piece_on xs),
              place_longest (place_of l n) s (size_on s n) (there inputs l here code n) st.words st.some (item_takes inputs s (place_of l n) code),
              counted_sum s.compressed n (size_on s n),
              rest,
            ))

  -- the pieces of sections have twice their room, and are no more than the words of it
  sections_longest : (ls : List IndexedSection) → ((k : ℕ) (l : IndexedSection) → slice_get ls k ≡ Some l → section_at objects l.object l.index ≡ Some l.section) → AreWhole ls
      → (sum_by longest (pieces_in inputs slot ls) ≤ 2 * rooms ls) × (4 * length (pieces_in inputs slot ls) ≤ rooms ls)
  sections_longest [] here whole = (omega arith, omega arith)
  sections_longest (l ∷ ls) here whole = by (is_code_section l.section) refl (sections_longest ls (λ k m is. here (suc k) m is) whole.1)
    where
      ps : List Piece
      ps = pieces_in inputs slot ls

      by : (b : Bool) → is_code_section l.section ≡ b → (sum_by longest (pieces_in inputs slot ls) ≤ 2 * rooms ls) × (4 * length (pieces_in inputs slot ls) ≤ rooms ls)
          → (sum_by longest (pieces_in inputs slot (l ∷ ls)) ≤ 2 * rooms (l ∷ ls)) × (4 * length (pieces_in inputs slot (l ∷ ls)) ≤ rooms (l ∷ ls))
      by true code rest =
          let s = l.section in
          let own = section_pieces-code l code in
          let places = map (λ m. piece_at inputs slot (place_of l m)) (starts_in s) in
          let room = code_room_is s code in
          let bytes = ap (counted_bytes s.compressed) (whole.0 code).bytes in
          let few = starts_counted s code (whole.0 code) in (
            omega (
              arith,
              sum_by-append longest (section_pieces inputs slot l) (pieces_in inputs slot ls),
              ap (sum_by longest) own,
              sum_by-cons longest (Align (section_alignment inputs l)) places,
              (padding_is l (whole.0 code)).most,
              places_longest l (here 0 l refl) code (whole.0 code),
              room,
              bytes,
              sum_by-cons (λ (m : IndexedSection). code_room m.section) l ls,
              rest.0,
            ),
            omega (
              arith,
              length-append (section_pieces inputs slot l) (pieces_in inputs slot ls),
              ap length own,
              length-map (starts_in s) (λ m. piece_at inputs slot (place_of l m)),
              few,
              room,
              bytes,
              sum_by-cons (λ (m : IndexedSection). code_room m.section) l ls,
              rest.1,
            ),
          )
      by false other rest =
          let own : section_pieces inputs slot l ≡ [] = ap (λ b. cond b (Align (section_alignment inputs l) ∷ map (piece_at inputs slot) (places_of l)) []) other in (
            omega (
              arith,
              sum_by-append longest (section_pieces inputs slot l) (pieces_in inputs slot ls),
              ap (sum_by longest) own,
              sum_by-cons (λ (m : IndexedSection). code_room m.section) l ls,
              rest.0,
            ),
            omega (
              arith,
              length-append (section_pieces inputs slot l) (pieces_in inputs slot ls),
              ap length own,
              sum_by-cons (λ (m : IndexedSection). code_room m.section) l ls,
              rest.1,
            ),
          )

-- ---- all pieces

-- what stands in front takes an even number of bytes
front_even : (slots : List (Option Place)) → front_size slots % 2 ≡ 0
front_even [] = refl
front_even (x ∷ xs) = omega arith

-- the table and its stub are short
pub front_few : (slots : List (Option Place)) → length slots ≤ 256 → front_size slots ≤ 0x40c
front_few [] few = omega arith
front_few (x ∷ xs) few = omega (arith, few)

-- what stands in front, and those of sections
pieces_are : (inputs : ParsedInputs) (slots : List (Option Place)) → pieces_of inputs slots ≡ Fixed (front_size slots) ∷ pieces_in inputs (slot_at inputs slots) (all_sections inputs.objects)
unfolding pieces_by pieces_of
pieces_are inputs slots = refl

module _ (inputs : Inputs) (none : gather_fault inputs ≡ None) (slots : List (Option Place)) where
  abbrev given : ParsedInputs
  given = parsed inputs

  abbrev sections : List IndexedSection
  sections = all_sections given.objects

  abbrev given_slot : Place → Option ℕ
  given_slot = slot_at given slots

  -- P holds of each piece if it holds of what stands in front, of what pads sections, and of those of places
  all_pieces : (P : Piece → Type 0) → P (Fixed (front_size slots)) → ((l : IndexedSection) → IsWhole l.section → P (Align (section_alignment given l))) → ((q : Place) → P (piece_at given given_slot q))
      → All P (pieces_of given slots)
  unfolding pieces_by pieces_of
  all_pieces P front pads place =
      all_of P (Fixed (front_size slots) ∷ pieces_in given given_slot sections) (front, each_piece given slots P pads place sections (all_whole inputs none))

  -- all alignments are at least 1
  pub all_aligned : All HasAlignment (pieces_of given slots)
  all_aligned = all_pieces HasAlignment tt (λ l whole. (padding_is given slots l whole).some) (place_aligned given slots)

  -- all pieces are even
  pub all_even : All IsEvenPiece (pieces_of given slots)
  all_even = all_pieces IsEvenPiece (front_even slots) (λ l whole. (padding_is given slots l whole).even) (place_even given slots)

  -- targets are pieces, or the end
  pub targets : All (λ p. target p ≤ length (pieces_of given slots)) (pieces_of given slots)
  targets = all_pieces (λ p. target p ≤ length (pieces_of given slots)) (omega arith) (λ l whole. omega arith) (place_leads given slots)

  -- the longest forms take little room, beside what stands in front
  pub room_few : sum_by longest (pieces_of given slots) ≤ 0x8_0000 + front_size slots
  room_few =
      omega (
        arith,
        ap (sum_by longest) (pieces_are given slots),
        sum_by-cons longest (Fixed (front_size slots)) (pieces_in given given_slot sections),
        (sections_longest given slots sections (λ k l is. listed_at given.objects k l is) (all_whole inputs none)).0,
        rooms_few inputs none,
      )

  -- there are few pieces
  pub pieces_few : 4 * length (pieces_of given slots) ≤ 0x4_0004
  pieces_few =
      omega (arith, ap length (pieces_are given slots), (sections_longest given slots sections (λ k l is. listed_at given.objects k l is) (all_whole inputs none)).1, rooms_few inputs none)

-- if there is no ALIGN, no code aligned above 4 bytes and no fixed section, all are tight
pub all_tight : (inputs : ParsedInputs) (slots : List (Option Place)) → is_unaligned inputs ≡ true → All IsTight (pieces_of inputs slots)
unfolding pieces_by pieces_of
all_tight inputs slots is =
    let two = and_parts (not (list_any is_align (all_items inputs))) (not (list_any (is_aligned_code inputs) (all_sections inputs.objects))) is in
    all_of IsTight (Fixed (front_size slots) ∷ pieces_in inputs (slot_at inputs slots) (all_sections inputs.objects))
    (tt, sections_tight inputs slots (all_sections inputs.objects) (λ k l is. listed_at inputs.objects k l is) (not-true (list_any is_align (all_items inputs)) two.0) (not-true (list_any (is_aligned_code inputs) (all_sections inputs.objects)) two.1))
